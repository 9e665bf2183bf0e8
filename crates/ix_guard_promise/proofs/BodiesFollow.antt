-- Calls of a guarded source follow those of the source, however deep they nest.
use Rattle.std.proofs.Common.{◌≡◌, ℕ, zero, suc, List, [], Option, Some, None, option_map, refl, sym, ap, subst, ◌∙◌}
use Rattle.std.specs.Prelude.{slice_get}
use Rattle.ix_text.specs.declared.span.Span.{Span}
use Rattle.ix_core.specs.Heap.{Held, Num, Boolean, Null, At, object_at, place_in, write_at}
use Rattle.ix_core.specs.Machine.{NullUsed}
use Rattle.ix_core.specs.Tables.{default_result}
use Rattle.ix_tree.specs.declared.expr.Init.{Init}
use Rattle.ix_meaning.specs.Resolved.{Names}
use Rattle.ix_source.specs.Runs.{Variables, Now, Result, Gives, Stops, Cuts, Action, ◌>>=◌, gives, with_heap, with_variables}
use Rattle.ix_source.specs.Context.{Context, Members, Calls, declared_at, type_declared}
use Rattle.ix_source.specs.Values.{initial, arguments_from, of_this, at_field, written as write_cell, put_field}
use Rattle.ix_source.specs.Statements.{Completion, each}
use Rattle.ix_source.specs.Bodies.{Written, Field, Class, Whole, variables, back, with_own, given_back, method_body, method_run, parent_constructed, field_initialised, fields_initialised, args_of, body_of, constructed, construct_run, context_of, no_calls, calls_within}
use Rattle.ix_guard_text.specs.Bare.{bare_maybe as maybe}
use Rattle.ix_guard_text.specs.Moved.{Move, moved_span, moved_init}
use Rattle.ix_guard_text.specs.GuardedPlaces as placed
use Rattle.ix_guard_text.specs.GuardedPlaces.{Each}
use Rattle.ix_guard_promise.specs.Behind.{Like, now_of, PrintedFirst, Shows, Behind, both_give, both_stop, both_cut, thrown, Follows, CallsFollow, ContextFollows}
use Rattle.ix_guard_promise.proofs.Following.{first_itself, shows_then, equal_then, equal_gives}
use Rattle.ix_guard_promise.proofs.ExpressionsFollow.{initialiser_keeps}
use Rattle.ix_guard_promise.proofs.StatementForms.{AllKeep, none_keep}
use Rattle.ix_guard_promise.proofs.MembersBeside.{Beside, entry_beside, WrittenFollows, FieldFollows, ClassFollows, WholeFollows, members_same}

module _ (move : Move) where
  -- ---- the field of an object

  this_follows : Follows move of_this of_this
  this_follows n o like = both_give n.variables.this o.variables.this n o (ap (λ (v : Variables). v.this) like.variables) like

  this_shows : Shows of_this
  this_shows now = first_itself now

  null_follows : {A : Type 0} (place other : ℕ) (n o : Now) → Like n o → Behind move {A = A} (λ value other. value ≡ other) (Stops (NullUsed place) n) (Stops (NullUsed other) o)
  null_follows place other n o like = both_stop (NullUsed place) (NullUsed other) n o tt like

  written_at : (place other : ℕ) (cell : Option ℕ) (number : ℕ) (value : Held) (n o : Now) → Like n o
      → Behind move (λ value other. value ≡ other) (at_field place cell (λ cell. write_cell value number cell) n) (at_field other cell (λ cell. write_cell value number cell) o)
  written_at place other None number value n o like = null_follows place other n o like
  written_at place other (Some cell) number value n o like = both_give tt tt (with_heap (write_at n.heap number cell value) n) (with_heap (write_at o.heap number cell value) o) refl
      record { variables = like.variables; heap = ap (λ heap. write_at heap number cell value) like.heap; wrapped = like.wrapped; events = like.events }

  put_follows : (new old : Context) → new.members ≡ old.members → (place other : ℕ) (object : Held) (field : ℕ) (value : Held)
      → Follows move (put_field new place object field value) (put_field old other object field value)
  put_follows new old same place other (At number) field value n o like =
      subst (λ cell. Behind move (λ value other. value ≡ other) (at_field place cell (λ cell. write_cell value number cell) n) (put_field old other (At number) field value o))
      (sym (ap (λ (m : Members). place_in m.place (object_at n.heap number).kind field) same ∙ ap (λ heap. place_in old.members.place (object_at heap number).kind field) like.heap))
      (written_at place other (place_in old.members.place (object_at o.heap number).kind field) number value n o like)
  put_follows new old same place other Null field value n o like = null_follows place other n o like
  put_follows new old same place other (Num m) field value n o like = null_follows place other n o like
  put_follows new old same place other (Boolean b) field value n o like = null_follows place other n o like

  written_shows : (place : ℕ) (cell : Option ℕ) (number : ℕ) (value : Held) (now : Now) → PrintedFirst now (now_of (at_field place cell (λ cell. write_cell value number cell) now))
  written_shows place None number value now = first_itself now
  written_shows place (Some cell) number value now = first_itself now

  put_shows : (context : Context) (place : ℕ) (object : Held) (field : ℕ) (value : Held) → Shows (put_field context place object field value)
  put_shows context place (At number) field value now = written_shows place (place_in context.members.place (object_at now.heap number).kind field) number value now
  put_shows context place Null field value now = first_itself now
  put_shows context place (Num m) field value now = first_itself now
  put_shows context place (Boolean b) field value now = first_itself now

  -- ---- what runs with variables of its own

  back_like : (v w : Variables) (n o : Now) → v ≡ w → Like n o → Like (with_variables v n) (with_variables w o)
  back_like v w n o same like = record { variables = same; heap = like.heap; wrapped = like.wrapped; events = like.events }

  back_printed : {A : Type 0} (v : Variables) (now : Now) (r : Result A) → PrintedFirst now (now_of r) → PrintedFirst now (now_of (back v r))
  back_printed v now (Gives value later) first = first
  back_printed v now (Stops ending later) first = first
  back_printed v now (Cuts later) first = first

  back_follows : {A : Type 0} (v w : Variables) → v ≡ w → (new old : Result A) → Behind move (λ value other. value ≡ other) new old → Behind move (λ value other. value ≡ other) (back v new) (back w old)
  back_follows v w same _ _ (both_give value other n o is like) = both_give value other (with_variables v n) (with_variables w o) is (back_like v w n o same like)
  back_follows v w same _ _ (both_stop ending other n o is like) = both_stop ending other (with_variables v n) (with_variables w o) is (back_like v w n o same like)
  back_follows v w same _ _ (both_cut n o like) = both_cut (with_variables v n) (with_variables w o) (back_like v w n o same like)
  back_follows v w same _ _ (thrown ending n old is first) = thrown ending (with_variables v n) (back w old) is (back_printed w n old first)

  own_follows : {A : Type 0} (own : Variables) (new old : Action A) → Follows move new old → Follows move (with_own own new) (with_own own old)
  own_follows own new old follows n o like =
      back_follows n.variables o.variables like.variables (new (with_variables own n)) (old (with_variables own o)) (follows (with_variables own n) (with_variables own o) (back_like own own n o refl like))

  own_shows : {A : Type 0} (own : Variables) (action : Action A) → Shows action → Shows (with_own own action)
  own_shows own action shows now = back_printed now.variables now (action (with_variables own now)) (shows (with_variables own now))

module _ (move : Move) (others : Names) where
  module _ (new old : Context) (follows : ContextFollows move new old) (these : new.names ≡ others) where
    type_beside : (kept made : Span) → made ≡ moved_span move kept → declared_at new made ≡ declared_at old kept
    type_beside kept made is = ap (declared_at new) is ∙ ap type_declared (follows.names.declared kept)

    -- ---- methods

    body_shows : (kept made : Written) → WrittenFollows move others kept made → Shows (method_body old kept)
    body_shows kept made is =
        shows_then (each kept.body old 0) (λ end. gives (given_back (default_result (declared_at old kept.name)) end)) ((is.body new old follows these).shows 0) (λ end. first_itself)

    body_follows : (kept made : Written) → WrittenFollows move others kept made → Follows move (method_body new made) (method_body old kept)
    body_follows kept made is =
        equal_then move (each made.body new 0) (each kept.body old 0) (λ end. gives (given_back (default_result (declared_at new made.name)) end))
        (λ end. gives (given_back (default_result (declared_at old kept.name)) end))
        ((is.body new old follows these).run 0)
        (λ end. equal_gives move (given_back (default_result (declared_at new made.name)) end) (given_back (default_result (declared_at old kept.name)) end)
        (ap (λ ty. given_back (default_result ty) end) (type_beside kept.name made.name is.name)))
        (λ end. first_itself)

    pub method_shows : (kept made : Option Written) → Beside (WrittenFollows move others) kept made → (this : Held) (args : List Held) → Shows (method_run old kept this args)
    method_shows None None is this args = first_itself
    method_shows (Some kept) (Some made) is this args = own_shows move (variables this args) (method_body old kept) (body_shows kept made is)
    method_shows None (Some made) is this args = absurd is
    method_shows (Some kept) None is this args = absurd is

    pub method_follows : (kept made : Option Written) → Beside (WrittenFollows move others) kept made → (this : Held) (args : List Held) → Follows move (method_run new made this args) (method_run old kept this args)
    method_follows None None is this args = equal_gives move None None refl
    method_follows (Some kept) (Some made) is this args = own_follows move (variables this args) (method_body new made) (method_body old kept) (body_follows kept made is)
    method_follows None (Some made) is this args = absurd is
    method_follows (Some kept) None is this args = absurd is

    -- ---- constructors

    args_follow : (kept made : Option Written) → Beside (WrittenFollows move others) kept made → Follows move (arguments_from [] (args_of made) new) (arguments_from [] (args_of kept) old)
    args_follow None None is = equal_gives move [] [] refl
    args_follow (Some kept) (Some made) is = is.args new old follows
    args_follow None (Some made) is = absurd is
    args_follow (Some kept) None is = absurd is

    args_show : (kept made : Option Written) → Beside (WrittenFollows move others) kept made → Shows (arguments_from [] (args_of kept) old)
    args_show None None is = first_itself
    args_show (Some kept) (Some made) is = is.args_show new old follows
    args_show None (Some made) is = absurd is
    args_show (Some kept) None is = absurd is

    bodies_keep : (kept made : Option Written) → Beside (WrittenFollows move others) kept made → AllKeep move new old (body_of made) (body_of kept)
    bodies_keep None None is = none_keep move new old follows
    bodies_keep (Some kept) (Some made) is = is.body new old follows these
    bodies_keep None (Some made) is = absurd is
    bodies_keep (Some kept) None is = absurd is

    abbrev constructs : Context → ℕ → List Held → Held → Action Unit
    constructs context parent args this = context.calls.construct parent this args

    constructs_show : (parent : ℕ) (args : List Held) → Shows (of_this >>= constructs old parent args)
    constructs_show parent args = shows_then of_this (constructs old parent args) (this_shows move) (λ this. follows.calls.construct_shows parent this args)

    parent_shows : (parent : Option ℕ) (kept made : Option Written) → Beside (WrittenFollows move others) kept made → Shows (parent_constructed old parent (args_of kept))
    parent_shows None kept made is = first_itself
    parent_shows (Some parent) kept made is = shows_then (arguments_from [] (args_of kept) old) (λ args. of_this >>= constructs old parent args) (args_show kept made is) (constructs_show parent)

    parent_follows : (parent : Option ℕ) (kept made : Option Written) → Beside (WrittenFollows move others) kept made
        → Follows move (parent_constructed new parent (args_of made)) (parent_constructed old parent (args_of kept))
    parent_follows None kept made is = equal_gives move tt tt refl
    parent_follows (Some parent) kept made is =
        equal_then move (arguments_from [] (args_of made) new) (arguments_from [] (args_of kept) old) (λ args. of_this >>= constructs new parent args) (λ args. of_this >>= constructs old parent args)
        (args_follow kept made is)
        (λ args. equal_then move of_this of_this (constructs new parent args) (constructs old parent args) (this_follows move) (λ this. follows.calls.construct parent this args)
        (λ this. follows.calls.construct_shows parent this args))
        (constructs_show parent)

    abbrev puts : Context → ℕ → ℕ → Held → Action Unit
    puts context place number value = of_this >>= (λ this. put_field context place this number value)

    puts_show : (place number : ℕ) (value : Held) → Shows (puts old place number value)
    puts_show place number value = shows_then of_this (λ this. put_field old place this number value) (this_shows move) (λ this. put_shows move old place this number value)

    puts_follow : (place other number : ℕ) (value : Held) → Follows move (puts new place number value) (puts old other number value)
    puts_follow place other number value = equal_then move of_this of_this (λ this. put_field new place this number value) (λ this. put_field old other this number value) (this_follows move)
        (λ this. put_follows move new old follows.members place other this number value) (λ this. put_shows move old other this number value)

    initialised_shows : (field : Field) (source : Option Init) → Shows (field_initialised old field (option_map initial source))
    initialised_shows field None = first_itself
    initialised_shows field (Some init) = shows_then ((initial init).value old (declared_at old field.name)) (puts old (initial init).span.from field.number)
        ((initialiser_keeps move new old follows init).value (declared_at old field.name)).shows (puts_show (initial init).span.from field.number)

    initialised_follows : (kept made : Field) → made.number ≡ kept.number → made.name ≡ moved_span move kept.name → (source : Option Init)
        → Follows move (field_initialised new made (option_map initial (maybe (moved_init move) source))) (field_initialised old kept (option_map initial source))
    initialised_follows kept made number name None = equal_gives move tt tt refl
    initialised_follows kept made number name (Some init) =
        equal_then move ((initial (moved_init move init)).value new (declared_at new made.name)) ((initial init).value old (declared_at old kept.name))
        (puts new (initial (moved_init move init)).span.from made.number) (puts old (initial init).span.from kept.number)
        (subst (λ ty. Follows move ((initial (moved_init move init)).value new ty) ((initial init).value old (declared_at old kept.name))) (sym (type_beside kept.name made.name name))
        ((initialiser_keeps move new old follows init).value (declared_at old kept.name)).follows)
        (λ value. subst (λ k. Follows move (puts new (initial (moved_init move init)).span.from k value) (puts old (initial init).span.from kept.number value)) (sym number)
        (puts_follow (initial (moved_init move init)).span.from (initial init).span.from kept.number value))
        (puts_show (initial init).span.from kept.number)

    field_shows : (kept made : Field) → FieldFollows move others kept made → Shows (field_initialised old kept kept.init)
    field_shows kept made is = subst (λ init. Shows (field_initialised old kept init)) (sym is.old_init) (initialised_shows kept is.source)

    field_follows : (kept made : Field) → FieldFollows move others kept made → Follows move (field_initialised new made made.init) (field_initialised old kept kept.init)
    field_follows kept made is =
        subst (λ init. Follows move (field_initialised new made init) (field_initialised old kept kept.init)) (sym is.new_init)
        (subst (λ init. Follows move (field_initialised new made (option_map initial (maybe (moved_init move) is.source))) (field_initialised old kept init)) (sym is.old_init)
        (initialised_follows kept made is.number is.name is.source))

    fields_show : (kept made : List Field) → Each (FieldFollows move others) kept made → Shows (fields_initialised old kept)
    fields_show _ _ placed.none = first_itself
    fields_show _ _ (placed.one_more {x} {y} {xs} {ys} is rest) = shows_then (field_initialised old x x.init) (λ done. fields_initialised old xs) (field_shows x y is) (λ done. fields_show xs ys rest)

    fields_follow : (kept made : List Field) → Each (FieldFollows move others) kept made → Follows move (fields_initialised new made) (fields_initialised old kept)
    fields_follow _ _ placed.none = equal_gives move tt tt refl
    fields_follow _ _ (placed.one_more {x} {y} {xs} {ys} is rest) =
        equal_then move (field_initialised new y y.init) (field_initialised old x x.init) (λ done. fields_initialised new ys) (λ done. fields_initialised old xs) (field_follows x y is)
        (λ done. fields_follow xs ys rest) (λ done. fields_show xs ys rest)

    abbrev ended : Completion → Action Unit
    ended end = gives tt

    abbrev behind_fields : Context → Class → Action Unit
    behind_fields context class = each (body_of class.constructor) context 0 >>= ended

    abbrev behind_parent : Context → Class → Action Unit
    behind_parent context class = fields_initialised context class.fields >>= (λ done. behind_fields context class)

    behind_fields_shows : (kept made : Class) → ClassFollows move others kept made → Shows (behind_fields old kept)
    behind_fields_shows kept made is = shows_then (each (body_of kept.constructor) old 0) ended ((bodies_keep kept.constructor made.constructor is.constructor).shows 0) (λ end. first_itself)

    behind_parent_shows : (kept made : Class) → ClassFollows move others kept made → Shows (behind_parent old kept)
    behind_parent_shows kept made is = shows_then (fields_initialised old kept.fields) (λ done. behind_fields old kept) (fields_show kept.fields made.fields is.fields) (λ done. behind_fields_shows kept made is)

    constructed_shows : (parent : Option ℕ) (kept made : Class) → ClassFollows move others kept made → Shows (constructed old parent kept)
    constructed_shows parent kept made is =
        shows_then (parent_constructed old parent (args_of kept.constructor)) (λ done. behind_parent old kept) (parent_shows parent kept.constructor made.constructor is.constructor)
        (λ done. behind_parent_shows kept made is)

    constructed_follows : (parent : Option ℕ) (kept made : Class) → ClassFollows move others kept made → Follows move (constructed new parent made) (constructed old parent kept)
    constructed_follows parent kept made is =
        equal_then move (parent_constructed new parent (args_of made.constructor)) (parent_constructed old parent (args_of kept.constructor)) (λ done. behind_parent new made) (λ done. behind_parent old kept)
        (parent_follows parent kept.constructor made.constructor is.constructor)
        (λ done. equal_then move (fields_initialised new made.fields) (fields_initialised old kept.fields) (λ done. behind_fields new made) (λ done. behind_fields old kept)
        (fields_follow kept.fields made.fields is.fields)
        (λ done. equal_then move (each (body_of made.constructor) new 0) (each (body_of kept.constructor) old 0) ended ended ((bodies_keep kept.constructor made.constructor is.constructor).run 0)
        (λ end. equal_gives move tt tt refl) (λ end. first_itself))
        (λ done. behind_fields_shows kept made is))
        (λ done. behind_parent_shows kept made is)

    pub construct_shows : (parent : Option ℕ) (kept made : Option Class) → Beside (ClassFollows move others) kept made → (this : Held) (args : List Held) → Shows (construct_run old parent kept this args)
    construct_shows parent None None is this args = first_itself
    construct_shows parent (Some kept) (Some made) is this args = own_shows move (variables this args) (constructed old parent kept) (constructed_shows parent kept made is)
    construct_shows parent None (Some made) is this args = absurd is
    construct_shows parent (Some kept) None is this args = absurd is

    pub construct_follows : (parent : Option ℕ) (kept made : Option Class) → Beside (ClassFollows move others) kept made → (this : Held) (args : List Held)
        → Follows move (construct_run new parent made this args) (construct_run old parent kept this args)
    construct_follows parent None None is this args = equal_gives move tt tt refl
    construct_follows parent (Some kept) (Some made) is this args = own_follows move (variables this args) (constructed new parent made) (constructed old parent kept) (constructed_follows parent kept made is)
    construct_follows parent None (Some made) is this args = absurd is
    construct_follows parent (Some kept) None is this args = absurd is

  -- ---- calls, however deep

  module _ (new old : Whole) (follows : WholeFollows move others new old) (turns : ℕ) where
    pub context_follows : (calls other : Calls) → CallsFollow move calls other → ContextFollows move (context_of new turns calls) (context_of old turns other)
    context_follows calls other following = record { names = follows.names; members = members_same move others new old follows; calls = following; turns = refl }

    none_follow : CallsFollow move no_calls no_calls
    none_follow = record {
      method = λ number this args n o like. both_cut n o like;
      method_shows = λ number this args. first_itself;
      construct = λ class this args n o like. both_cut n o like;
      construct_shows = λ class this args. first_itself;
    }

    pub calls_follow : (depth : ℕ) → CallsFollow move (calls_within new turns depth) (calls_within old turns depth)
    calls_follow zero = none_follow
    calls_follow (suc depth) =
        let here = context_of new turns (calls_within new turns depth) in
        let there = context_of old turns (calls_within old turns depth) in
        let known : ContextFollows move here there = context_follows (calls_within new turns depth) (calls_within old turns depth) (calls_follow depth) in
        let methods = entry_beside (WrittenFollows move others) old.methods new.methods follows.methods in
        let classes = entry_beside (ClassFollows move others) old.classes new.classes follows.classes in
        record {
          method = λ number this args. method_follows here there known follows.these (slice_get old.methods number) (slice_get new.methods number) (methods number) this args;
          method_shows = λ number this args. method_shows here there known follows.these (slice_get old.methods number) (slice_get new.methods number) (methods number) this args;
          construct = λ class this args. subst (λ parent. Follows move (construct_run here parent (slice_get new.classes class) this args)
              (construct_run there (old.world.parent class) (slice_get old.classes class) this args)) (sym (follows.parent class))
              (construct_follows here there known follows.these (old.world.parent class) (slice_get old.classes class) (slice_get new.classes class) (classes class) this args);
          construct_shows = λ class this args. construct_shows here there known follows.these (old.world.parent class) (slice_get old.classes class) (slice_get new.classes class) (classes class) this args;
        }
