-- The body of each method and constructor of an accepted source is sound.
use Rattle.std.proofs.Common.{◌≡◌, ◌≤◌, ℕ, ◌+◌, Bool, true, false, List, [], ◌∷◌, length, map, Option, Some, None, Ok, refl, sym, ap, subst, ◌∙◌, arith, inl, inr, ⊎_elim}
use Rattle.std.specs.Prelude.{if◌then◌else◌, ◌&&◌, ◌||◌, not}
use Rattle.std.proofs.lemmas.Bool.{false≢true, and_parts}
use Rattle.std.proofs.lemmas.List.{append-nil}
use Rattle.ix_core.specs.declared.program.Method.{Method}
use Rattle.ix_core.specs.declared.program.Program.{Program}
use Rattle.ix_core.specs.Heap.{Held}
use Rattle.ix_core.specs.Tables as core
use Rattle.ix_core.specs.Types.{is_class}
use Rattle.ix_tree.specs.declared.decl.MethodDecl.{MethodDecl}
use Rattle.ix_tree.specs.declared.decl.Unit.{Unit as Source}
use Rattle.ix_tree.specs.declared.expr.Expr.{Expr}
use Rattle.ix_tree.specs.Parts as parts
use Rattle.ix_tree.specs.Parts.{Part, expression, statement as statement_part, declaration, in_type, elsewhere, entries, expr_parts, args_parts, stmt_parts, together, unit_parts}
use Rattle.ix_tree.specs.Placed.{LaidOut, row, expr_piece, parent_pieces}
use Rattle.ix_meaning.specs.Members.{World, world, constructor_params}
use Rattle.ix_meaning.specs.Resolved.{names}
use Rattle.ix_meaning.specs.Scope.{Scope as Names}
use Rattle.ix_meaning.specs.Source as source
use Rattle.ix_meaning.specs.Source.{Place}
use Rattle.ix_plain.specs.declared.body.Body.{Body}
use Rattle.ix_plain.specs.Members.{is_static}
use Rattle.ix_plain.specs.Counts.{most_counted}
use Rattle.ix_plain.specs.Program.{Tables, start, tables, args_or_none, written_start, first_param, constructor_start}
use Rattle.ix_plain.specs.Scope.{Site}
use Rattle.ix_formed.specs.Additions.{Makes, AllOf}
use Rattle.ix_formed.specs.Readable.{shape, is_readable_expr, is_readable_stmt, all_fine}
use Rattle.ix_formed.specs.Shape.{params_of}
use Rattle.ix_formed.specs.TypedStatements.{Ground, IsGround, Says, IsKnown, Within, Scoped, scope_in}
use Rattle.ix_formed.specs.Written.{is_written_expr, is_written_type, is_written_decl, is_written_stmt, has_no_result, all_true, each_true, maybe_true}
use Rattle.ix_formed.proofs.AcceptedMethods.{class_is}
use Rattle.ix_formed.proofs.ClassFields.{IsMember}
use Rattle.ix_formed.proofs.FieldPlaces.{Beside}
use Rattle.ix_formed.proofs.FieldsFit.{IsAccepted, parents_there, parent_count}
use Rattle.ix_formed.proofs.FieldsInitialised.{are_initialised}
use Rattle.ix_formed.proofs.HeadsAre.{IsWritten}
use Rattle.ix_formed.proofs.LayoutSpans.{PartIs, laid_up, laid_parts, expr_spans}
use Rattle.ix_formed.proofs.MethodEntries.{entry_scoped, types_past}
use Rattle.ix_formed.proofs.NumberLists.{both_true, all_so, all_joined}
use Rattle.ix_formed.proofs.PlainItems.{makes_more}
use Rattle.ix_formed.proofs.PlainMethods.{own_types, g, free, s, grounded, each_written, each_readable, body_written, body_readable, known_is}
use Rattle.ix_formed.proofs.ProgramsHaveShape.{params_behind, slots_behind}
use Rattle.ix_formed.proofs.SourceMethods.{IsAmong, each_is_map}
use Rattle.ix_source.specs.Running as running
use Rattle.ix_source.specs.SoundBodies.{super_sound, start_sound, begins_sound, written_sound, IsSoundMethod}
use Rattle.ix_source.specs.SoundStatements.{statement_soundness, each_sound}
use Rattle.ix_source.proofs.BeginningsSound.{SameFree, start_same, HasRoom, super_given, start_is_sound}
use Rattle.ix_source.proofs.EntriesOwned.{params_owned, entry_is}
use Rattle.ix_source.proofs.NumbersThere.{has_numbers}
use Rattle.ix_source.proofs.SoundEvaluations.{Sight}
use Rattle.ix_source.proofs.SoundLists.{made_so, StandsAt, stands_same, each_sounds}
use Rattle.ix_source.proofs.StatementsSound.{statements_sound}
use Rattle.ix_source.proofs.VariablesOwn.{OwnedIn}

-- ---- arguments of the parent's constructor

wider : (lo mid hi : ℕ) → mid ≤ hi → (part : Part) → PartIs (Within lo mid) part → PartIs (Within lo hi) part
wider lo mid hi le (expression span) here = (here.0, (let a = here.1 in omega (arith, a, le)))
wider lo mid hi le (statement_part span) here = tt
wider lo mid hi le declaration here = tt
wider lo mid hi le (in_type name) here = tt
wider lo mid hi le (elsewhere name) here = tt
wider lo mid hi le (entries n) here = tt

args_spans : (es : List Expr) (start lo hi : ℕ) → start ≤ lo → LaidOut start lo hi (row (map expr_piece es)) → AllOf (PartIs (Within start hi)) (together (map expr_parts es))
args_spans [] start lo hi le laid = tt
args_spans (e ∷ es) start lo hi le laid =
    let r = laid_parts start lo hi (expr_piece e) (row (map expr_piece es)) laid in
    let up = laid_up start lo r.0 (expr_piece e) r.1 in
    let last = laid_up start r.0 hi (row (map expr_piece es)) r.2 in
    all_joined (PartIs (Within start hi)) (expr_parts e) (together (map expr_parts es))
    (all_so (PartIs (Within start r.0)) (PartIs (Within start hi)) (wider start r.0 hi last) (expr_parts e) (expr_spans e start lo r.0 le r.1))
    (args_spans es start r.0 hi (omega (arith, le, up)) r.2)

args_written : (es : List Expr) → each_true is_written_expr es ≡ true → all_true (map is_written_expr es) ≡ true
args_written [] e = refl
args_written (x ∷ es) e = let q = and_parts (is_written_expr x) (each_true is_written_expr es) e in ap (λ b. b && all_true (map is_written_expr es)) q.0 ∙ args_written es q.1

args_readable : (es : List Expr) → each_true is_readable_expr es ≡ true → all_fine (map shape es) ≡ true
args_readable [] e = refl
args_readable (x ∷ es) e = let q = and_parts (is_readable_expr x) (each_true is_readable_expr es) e in ap (λ b. b && all_fine (map shape es)) q.0 ∙ args_readable es q.1

parent_written : (d : MethodDecl) → Rattle.ix_formed.specs.Written.is_written_method d ≡ true → maybe_true (each_true is_written_expr) d.parent_args ≡ true
parent_written d e =
    let a = (and_parts (not d.constructor || has_no_result d.result) _ e).1 in
    let b = (and_parts (maybe_true is_written_type d.result) _ a).1 in
    let c = (and_parts (each_true is_written_decl d.params) _ b).1 in (and_parts (maybe_true (each_true is_written_expr) d.parent_args) (each_true is_written_stmt d.body) c).0

few_first : (b : Bool) → ◌≤◌ (if b then 0 else 1) 1
few_first true = omega arith
few_first false = omega arith

module _ (unit : Source) (p : Program) (is : IsAccepted unit p) (method : Method) (w : IsWritten unit p is (IsMember unit p) (tables (names unit) unit.classes) method) where
  abbrev t : Tables
  t = tables (names unit) unit.classes

  abbrev d : MethodDecl
  d = w.decl

  abbrev l : Place
  l = w.place

  abbrev own : Ground
  own = g unit p is method w

  abbrev ground : IsGround (g unit p is method w)
  ground = grounded unit p is method w

  abbrev scope : Names
  scope = s unit p is method w

  abbrev none : ℕ
  none = free unit p is method w

  -- as a run sees it
  module _ (routines : core.Tables) (has_this : Bool) (this : Held) (depth : ℕ) (results : Rattle.ix_source.specs.SoundBodies.HasResults p routines) (there : not (is_static d) ≡ true → has_this ≡ true) where
    abbrev v : Sight (g unit p is method w)
    v = record { tables = routines; has_this = has_this; this = this; depth = depth; numbers = has_numbers unit p is (g unit p is method w).site refl refl; results = results }

    abbrev k : running.Ground
    k = record { tables = routines; site = own.site; has_this = has_this; this = this; depth = depth }

    site_params : own.site.params ≡ params_of (names unit) (first_param (is_static d)) d.params
    site_params = params_behind (names unit) [] (first_param (is_static d)) d.params (let f = few_first (is_static d) in let few = w.fine.sound.few in omega (arith, f, few))

    entry_owned : OwnedIn own scope.names []
    entry_owned = params_owned own.site (names unit) (first_param (is_static d)) d.params site_params (scope_in own []) refl l 0 d.params (omega arith)

    stands : (lo hi : ℕ) → StandsAt own ground v scope (start none) lo hi
    stands lo hi = record {
      types = [];
      scoped = entry_scoped unit p is l d method w.head w.at w.same w.fine.sound.few (own_types unit p is method w) lo hi;
      counted = refl;
      owned = entry_owned;
      object = there;
    }

    -- ---- what a constructor begins with

    abbrev outside : Names
    outside = source.outside_object (s unit p is method w)

    outside_scoped : (lo hi : ℕ) → Scoped own outside [] [] none lo hi
    outside_scoped lo hi =
        let e = entry_scoped unit p is l d method w.head w.at w.same w.fine.sound.few (own_types unit p is method w) lo hi in
        record {
          world = e.world;
          class = e.class;
          in_constructor = e.in_constructor;
          object = λ f. absurd (false≢true f);
          fields = e.fields;
          result = e.result;
          params = e.params;
          first = e.first;
          typed = e.typed;
          variables = e.variables;
          unused = e.unused;
        }

    module _ (constructor : d.constructor ≡ true) where
      is_constructor : method.constructor ≡ true
      is_constructor = w.head.constructor ∙ constructor

      has_object : has_this ≡ true
      has_object = there (ap (λ b. not (d.mods.is_static && not b)) constructor ∙ no_static d.mods.is_static)
        where
          no_static : (b : Bool) → not (b && not true) ≡ true
          no_static true = refl
          no_static false = refl

      given_there : (above : ℕ) → is_class p above ≡ true → (world unit.classes).parent w.at.class ≡ Some above → (o : Option (List Expr)) → d.parent_args ≡ o → super_sound (Some above) (args_or_none o) k (start none) ≡ true
      given_there above there_above up None e =
          let told = subst (λ b. Says own (if b then source.super_given l scope d.parent_args d.name.span else [])) constructor w.head.says.supers in
          let none_given = subst (λ o. Says own (source.super_given l scope o d.name.span)) e told in
          let parent_given = subst (λ o. Says own (source.implicit_super_of l.world o d.name.span)) (parent_is up) none_given in
          super_given own ground v outside above [] 0 0 d.name.span (start none) [] (outside_scoped 0 0) entry_owned (λ f. absurd (false≢true f)) there_above tt tt refl refl
          (subst (Says own) (sym (append-nil (Rattle.ix_meaning.specs.Rules.wrong_arguments 0 (length (constructor_params l.world above)) d.name.span))) parent_given)
        where
          parent_is : (world unit.classes).parent w.at.class ≡ Some above → l.world.parent l.class ≡ Some above
          parent_is up = ap (λ (x : World). x.parent l.class) w.head.world ∙ ap (λ c. (world unit.classes).parent c) (sym w.class) ∙ up
      given_there above there_above up (Some args) e =
          let told = subst (λ b. Says own (if b then source.super_given l scope d.parent_args d.name.span else [])) constructor w.head.says.supers in
          let given = subst (λ o. Says own (source.super_given l scope o d.name.span)) e told in
          let said = subst (λ o. Says own (source.super_args l outside args o d.name.span)) (parent_is up) given in
          let spans = args_spans args d.span.from w.fine.sound.args_from w.fine.sound.from w.fine.sound.within (subst (λ o. LaidOut d.span.from w.fine.sound.args_from w.fine.sound.from (row (parent_pieces o))) e w.fine.sound.args_laid) in
          let known = subst (λ (x : List (List Part)). AllOf (IsKnown own) (together x)) (each_is_map expr_parts args)
          (all_so (IsAmong (unit_parts unit)) (IsKnown own) (known_is own) (args_parts args) (subst (λ o. AllOf (IsAmong (unit_parts unit)) (parts.maybe args_parts o)) e w.fine.sound.args_among)).1 in
          let wr = args_written args (subst (λ o. maybe_true (each_true is_written_expr) o ≡ true) e (parent_written d w.head.written)) in
          let fine = args_readable args (subst (λ o. maybe_true (each_true is_readable_expr) o ≡ true) e (and_parts (maybe_true (each_true is_readable_expr) d.parent_args) (each_true is_readable_stmt d.body) w.fine.sound.readable).0) in
          super_given own ground v outside above args d.span.from w.fine.sound.from d.name.span (start none) [] (outside_scoped d.span.from w.fine.sound.from) entry_owned (λ f. absurd (false≢true f)) there_above spans known wr fine said
        where
          parent_is : (world unit.classes).parent w.at.class ≡ Some above → l.world.parent l.class ≡ Some above
          parent_is up = ap (λ (x : World). x.parent l.class) w.head.world ∙ ap (λ c. (world unit.classes).parent c) (sym w.class) ∙ up

      super_is : (o : Option ℕ) → w.at.parent ≡ o → super_sound o (args_or_none d.parent_args) k (start none) ≡ true
      super_is None e = refl
      super_is (Some above) e =
          let up = sym w.parent ∙ e in
          given_there above (class_is unit p is above (let lt = parents_there unit p is w.at.class above up in let c = parent_count unit p is in omega (arith, lt, c))) up d.parent_args refl

      room : HasRoom own ground v l w.head.world refl is_constructor has_object w.fine.sound.from d.span.to (start none)
      room =
          let e = entry_scoped unit p is l d method w.head w.at w.same w.fine.sound.few (own_types unit p is method w) w.fine.sound.from d.span.to in
          record { slots = e.params; unused = types_past unit p is l d method w.head w.at w.same w.fine.sound.few (own_types unit p is method w); low = e.first }

      constructor_begins : start_sound w.at (args_or_none d.parent_args) d.name.span k (start none) ≡ true
      constructor_begins =
          let x = w.fine.sound in
          let from = laid_up d.span.from x.args_from x.from (row (parent_pieces d.parent_args)) x.args_laid in
          let up = x.within in
          start_is_sound own ground v l w.head.world refl is_constructor has_object x.from d.span.to w.at (args_or_none d.parent_args) d.name.span (start none)
          (are_initialised own ground l w.head.world refl is_constructor x.from d.span.to (Beside d.span)
          (λ lo hi beside. ⊎_elim (λ before. inl (omega (arith, before, from, up))) (λ behind. inr behind) beside) w.at.field w.at.members w.fine.stand w.fine.typed)
          room (super_is w.at.parent refl)

    -- ---- the whole

    begins : begins_sound w.at d k (start none) ≡ true
    begins = by_constructor d.constructor refl
      where
        by_constructor : (b : Bool) → d.constructor ≡ b → (if b then start_sound w.at (args_or_none d.parent_args) d.name.span k (start none) else true) ≡ true
        by_constructor true e = constructor_begins e
        by_constructor false e = refl

    begins_same : Makes (SameFree (start none)) (written_start own.site w.at d (start none))
    begins_same = by_constructor d.constructor
      where
        by_constructor : (b : Bool) → Makes (SameFree (start none)) (if b then constructor_start own.site w.at (args_or_none d.parent_args) d.name.span (start none) else Ok (start none))
        by_constructor true = start_same own.site w.at (args_or_none d.parent_args) d.name.span (start none)
        by_constructor false = (refl, refl)

    statements_are : (body : Body) → SameFree (start none) body → each_sound (map statement_soundness d.body) k d.span.to body ≡ true
    statements_are body same =
        let x = w.fine.sound in
        (each_sounds own ground v d.body (statements_sound own ground v d.body) scope d.span.from x.from d.span.to d.span.to body (stands_same own ground v scope (start none) body x.from d.span.to same.0 same.1 (stands x.from d.span.to)) x.laid (omega arith)
        (all_so (IsAmong (unit_parts unit)) (IsKnown own) (known_is own) (together (map stmt_parts d.body)) x.among)
        (each_written d.body (body_written d w.head.written)) (each_readable d.body (body_readable d x.readable)) w.head.says.body).0

    whole : written_sound t w.at d k ≡ true
    whole =
        both_true (begins_sound w.at d k (start none)) _ begins
        (made_so (written_start own.site w.at d (start none)) (each_sound (map statement_soundness d.body) k d.span.to)
        (makes_more (SameFree (start none)) (λ (body : Body). each_sound (map statement_soundness d.body) k d.span.to body ≡ true) statements_are (written_start own.site w.at d (start none)) begins_same))

  -- A written method or constructor is sound, however a run sees it.
  pub method_sound : IsSoundMethod p (tables (names unit) unit.classes) w.at w.decl
  method_sound = record {
    sound = λ run sees. subst (λ (site : Site). written_sound t w.at d (record { tables = run.tables; site = site; has_this = run.has_this; this = run.this; depth = run.depth }) ≡ true) (sym sees.site)
        (whole run.tables run.has_this run.this run.depth sees.results sees.this);
    entry = entry_is own.site (names unit) (first_param (is_static d)) d.params own_params (scope_in own []) refl (is_static d) none refl (slots_behind (first_param (is_static d)) d.params few_params);
  }
    where
      few_params : first_param (is_static d) + length d.params ≤ most_counted
      few_params = let f = few_first (is_static d) in let few = w.fine.sound.few in omega (arith, f, few)

      own_params : own.site.params ≡ params_of (names unit) (first_param (is_static d)) d.params
      own_params = params_behind (names unit) [] (first_param (is_static d)) d.params few_params
