-- What a constructor begins with keeps its meaning (JLS 12.5): the parent's constructor, then the field initialisers in the order of the text.
use Rattle.std.proofs.Common.{◌≡◌, ◌≤◌, ℕ, ◌+◌, Bool, true, false, List, [], ◌∷◌, ◌++◌, map, Option, Some, None, Ok, refl, sym, ap, subst, ◌∙◌, arith}
use Rattle.std.specs.Prelude.{◌&&◌, if◌then◌else◌, option_map}
use Rattle.ix_text.specs.declared.span.Span.{Span}
use Rattle.ix_core.specs.declared.claim.Type_.{Type_}
use Rattle.ix_core.specs.declared.code.Item.{Item}
use Rattle.ix_core.specs.declared.op.OpKind.TheVariants as op
use Rattle.ix_core.specs.Heap.{Held, Null, value_at}
use Rattle.ix_core.specs.Machine.{State}
use Rattle.ix_core.specs.Tasks.{Tasks, code_then}
use Rattle.ix_tree.specs.declared.decl.LocalDecl.{LocalDecl}
use Rattle.ix_tree.specs.declared.decl.Member.{Member}
use Rattle.ix_tree.specs.declared.decl.Member.TheVariants as member
use Rattle.ix_tree.specs.declared.expr.Expr.{Expr}
use Rattle.ix_tree.specs.declared.expr.Init.{Init}
use Rattle.ix_meaning.specs.declared.note.Declared.{Declared}
use Rattle.ix_plain.specs.declared.body.Body.{Body}
use Rattle.ix_plain.specs.Assigned.{init_assigns}
use Rattle.ix_plain.specs.Counts.{one, most_counted}
use Rattle.ix_plain.specs.Scope.{declared_type}
use Rattle.ix_plain.specs.Parts.{Within, Value, ◌>>=◌ as ◌then◌, done}
use Rattle.ix_plain.specs.Program as program
use Rattle.ix_plain.specs.Program.{Home}
use Rattle.ix_plain.specs.Statements.{assigned_by, behind}
use Rattle.ix_plain.specs.Values.{filling}
use Rattle.ix_formed.specs.Shape.{field_count}
use Rattle.ix_formed.proofs.Numbering.{one_more}
use Rattle.ix_source.specs.Runs.{Now, Result as Ended, Gives, Stops, Cuts, Action, ◌>>=◌, go_on, gives}
use Rattle.ix_source.specs.Context.{Context, Members, Calls, type_declared}
use Rattle.ix_source.specs.Values.{evaluation, initial, of_this, put_field, without_value}
use Rattle.ix_source.specs.Statements as source
use Rattle.ix_source.specs.Statements.{normally}
use Rattle.ix_source.specs.Bodies.{Field, fields_in, field_initialised, fields_initialised, parent_constructed}
use Rattle.ix_source.specs.Seen.{Frame, at}
use Rattle.ix_source.specs.Along.{Setting, IsSet, Along}
use Rattle.ix_source.specs.Kept.{Makes, And, IsIn, nothing_known, anything, Done}
use Rattle.ix_source.specs.Running.{Ground, standing, Runs}
use Rattle.ix_source.specs.SoundStatements.{where_made, init_at, init_if}
use Rattle.ix_source.proofs.Accesses.{put_given}
use Rattle.ix_source.proofs.Made.{done_both, makes_more, before}
use Rattle.ix_source.proofs.Expressions.{and_first, and_second, initialiser_kept}
use Rattle.ix_source.specs.Grounds.{Rooted, IsGround, within}
use Rattle.ix_source.proofs.FullExpressions.{makes_map, then_sound, rooted_behind}
use Rattle.ix_source.proofs.Simple.{runs_as, ran_runs}
use Rattle.ix_source.proofs.Statements.{runs_both, runs_nothing}
use Rattle.ix_source.specs.Callees.{CalleesRun}
use Rattle.ix_source.specs.Sound.{is_class}
use Rattle.ix_source.specs.SoundBodies.{super_sound, fields_sound, start_sound}
use Rattle.ix_source.proofs.ParentCalls.{parent_runs, set_of}

pub type_same : (o : Option Declared) → declared_type o ≡ type_declared o
type_same None = refl
type_same (Some declared) = refl

-- a write whose value isn't used, as an action with a value
along_write : (z : Setting) (f : Frame) (start : State) (next : Tasks) (free : ℕ) (slots : List Held) (now : Now) (r : Ended (Unit {0})) → Along z f start (λ done. next) nothing_known free slots now r → Along z f start (λ (value : Held). next) anything free slots now (go_on (λ done. gives Null) r)
along_write z f start next free slots now (Gives done after) a = record { behind = a.behind; shows = a.shows; leads = a.leads; events = a.events; agrees = a.agrees; keeps = a.keeps; held = tt }
along_write z f start next free slots now (Stops ending after) a = record { final = a.final; shows = a.shows; leads = a.leads; ended = a.ended; wrapped = a.wrapped; events = a.events }
along_write z f start next free slots now (Cuts after) a = record { state = a.state; shows = a.shows; leads = a.leads; far = a.far; ended = a.ended; wrapped = a.wrapped; events = a.events }

module _ (g : Ground) (members : Members) (calls : Calls) (turns depth : ℕ) (deep : g.depth ≤ depth + 1) (run : CalleesRun g.tables g.site members depth calls) (ground : IsGround g members calls turns) (has : g.has_this ≡ true) where
  abbrev here : Context
  here = within g members calls turns

  -- ---- one field

  abbrev written_to : ℕ → Span → Held → Action Held
  written_to field span value = of_this >>= (λ this. put_field here span.from this field value) >>= (λ done. gives Null)

  module _ (field : ℕ) (decl : LocalDecl) (init : Init) (body : Body) (low : body.made.free ≤ body.most) where
    abbrev z : Setting
    z = standing g body (assigned_by g.site body (init_assigns init))

    abbrev span : Span
    span = (filling init).span

    abbrev item_of : ℕ → Item
    item_of slot = done (op.WriteField 0 field slot) span (decl.name.span ∷ span ∷ [])

    writes : (set : IsSet z) (v : Value) → Done z (And nothing_known (IsIn v.slot)) v.made (record { items = v.made.items ++ item_of v.slot ∷ []; free = v.made.free }) (λ p. written_to field span p.1) anything
    writes set v = record {
      items = item_of v.slot ∷ [];
      appended = refl;
      up = omega arith;
      stays = λ value slots behind keeps known. tt;
      does = λ p f rest tasks slots now room agrees knows decides.
          let this = agrees.this has in
          let start = at f (before z (op.WriteField 0 field v.slot) span (decl.name.span ∷ span ∷ []) rest tasks) slots now.heap now.wrapped in
          subst (λ o. Along z f start (λ (value : Held). code_then rest tasks) anything v.made.free slots now (go_on (λ done. gives Null) (put_field here span.from o field p.1 now))) (sym this.1)
          (subst (λ value. Along z f start (λ (value : Held). code_then rest tasks) anything v.made.free slots now (go_on (λ done. gives Null) (put_field here span.from z.this field value now))) knows.1
          (along_write z f start (code_then rest tasks) v.made.free slots now (put_field here span.from z.this field (value_at slots v.slot) now)
          (put_given z set here ground.places f v.made.free 0 field v.slot span (decl.name.span ∷ span ∷ []) rest tasks slots now agrees z.this this.0)));
    }

    abbrev type_is : Type_
    type_is = declared_type (g.site.names.declared decl.name.span)

    -- the source's field
    abbrev own : Field
    own = record { number = field; name = decl.name.span; init = Some (initial init) }

    same_field : span ≡ (initial init).span → (now : Now) → (((initial init).value here type_is >>= written_to field span) >>= without_value >>= normally) now ≡ (field_initialised here own (Some (initial init)) >>= normally) now
    same_field same now =
        at_value ((initial init).value here type_is now)
        ∙ ap (λ (s : Span). go_on normally (go_on (λ value. of_this >>= (λ this. put_field here s.from this field value)) ((initial init).value here type_is now))) same
        ∙ ap (λ ty. go_on normally (go_on (λ value. of_this >>= (λ this. put_field here (initial init).span.from this field value)) ((initial init).value here ty now))) (type_same (g.site.names.declared decl.name.span))
      where
        at_end : (r : Ended (Unit {0})) → go_on normally (go_on without_value (go_on (λ done. gives Null) r)) ≡ go_on normally r
        at_end (Gives done now) = refl
        at_end (Stops ending now) = refl
        at_end (Cuts now) = refl

        at_value : (r : Ended Held) → go_on normally (go_on without_value (go_on (written_to field span) r)) ≡ go_on normally (go_on (λ value. of_this >>= (λ this. put_field here span.from this field value)) r)
        at_value (Gives value now) = at_end (put_field here span.from now.variables.this field value now)
        at_value (Stops ending now) = refl
        at_value (Cuts now) = refl

    pub field_runs : Rooted g body → init_at init g body ≡ true → Makes (λ after. Runs g body after 0 (field_initialised here own (Some (initial init)) >>= normally)) (program.field_initialised g.site field decl (Some init) body)
    field_runs rooted sound =
        let set = set_of g members calls turns depth deep run ground body (assigned_by g.site body (init_assigns init)) rooted (ground.assigns.initialiser z init sound) in
        let kept = initialiser_kept z set members calls turns ground.places (ground.calls_kept body (assigned_by g.site body (init_assigns init)) z.owner set) init in
        makes_map (λ v. Done z nothing_known body.made v.made (λ x. (initial init).value here type_is) (IsIn v.slot)) (λ after. Runs g body after 0 (field_initialised here own (Some (initial init)) >>= normally))
        ((filling init).value z.scope type_is body.made) (λ (v : Value). record { slot = v.slot; body = behind body v.made.items v.made.free }) _ (kept.value sound type_is body.made (omega arith))
        (λ v d.
        runs_as g body (behind body (v.made.items ++ item_of v.slot ∷ []) v.made.free) 0 _ (field_initialised here own (Some (initial init)) >>= normally) (same_field kept.span_is)
        (ran_runs g body (assigned_by g.site body (init_assigns init)) low (record { made = record { items = v.made.items ++ item_of v.slot ∷ []; free = v.made.free }; slot = 0 }) ((initial init).value here type_is >>= written_to field span)
        (done_both z nothing_known body.made v.made (record { items = v.made.items ++ item_of v.slot ∷ []; free = v.made.free }) (λ x. (initial init).value here type_is) (λ p. written_to field span p.1) (IsIn v.slot) anything (λ x slots behind keeps known. tt) d (writes set v))))

  -- ---- all fields of a class

  abbrev FieldsRun : Body → List Field → Within Body → Type 0
  FieldsRun body fields made = Makes (λ after. Runs g body after 0 (fields_initialised here fields >>= normally)) made

  then_fields : (body middle after : Body) (first : Action (Unit {0})) (fields : List Field) → Runs g body middle 0 (first >>= normally) → Runs g middle after 0 (fields_initialised here fields >>= normally)
      → Runs g body after 0 ((first >>= (λ done. fields_initialised here fields)) >>= normally)
  then_fields body middle after first fields x y = runs_as g body after 0 _ ((first >>= (λ done. fields_initialised here fields)) >>= normally) (λ now. joined (first now)) (runs_both g body middle after 0 0 _ _ x y)
    where
      joined : (r : Ended (Unit {0})) → go_on (λ end. source.behind end (fields_initialised here fields >>= normally)) (go_on normally r) ≡ go_on normally (go_on (λ done. fields_initialised here fields) r)
      joined (Gives done now) = refl
      joined (Stops ending now) = refl
      joined (Cuts now) = refl

  pub fields_run : (next : ℕ) (ms : List Member) (body : Body) → next + field_count ms ≤ most_counted → body.made.free ≤ body.most → Rooted g body → fields_sound next ms g body ≡ true → FieldsRun body (fields_in next ms) (program.fields_initialised g.site next ms body)
  fields_run next [] body few low rooted sound = runs_nothing g body low
  fields_run next (member.Method d ∷ ms) body few low rooted sound = fields_run next ms body few low rooted sound
  fields_run next (member.Field d ∷ ms) body few low rooted sound = static_or_not d.mods.is_static few sound (λ n body few low rooted sound. fields_run n ms body few low rooted sound)
    where
      static_or_not : (b : Bool) → next + ((if b then 0 else 1) + field_count ms) ≤ most_counted
          → ((if b then true else init_if d.init g body) && where_made (if b then Ok body else program.field_initialised g.site next d d.init body) (fields_sound (if b then next else one next) ms g)) ≡ true
          → ((n : ℕ) (body : Body) → n + field_count ms ≤ most_counted → body.made.free ≤ body.most → Rooted g body → fields_sound n ms g body ≡ true → FieldsRun body (fields_in n ms) (program.fields_initialised g.site n ms body))
          → FieldsRun body (if b then fields_in (if b then next else next + 1) ms else record { number = next; name = d.name.span; init = option_map initial d.init } ∷ fields_in (if b then next else next + 1) ms)
          ((if b then Ok body else program.field_initialised g.site next d d.init body) then program.fields_initialised g.site (if b then next else one next) ms)
      static_or_not true few sound rest = rest next body (omega (arith, few)) low rooted sound
      static_or_not false few sound rest =
          let up = one_more next (omega (arith, few)) in
          subst (λ n. FieldsRun body (record { number = next; name = d.name.span; init = option_map initial d.init } ∷ fields_in (next + 1) ms) (program.field_initialised g.site next d d.init body then program.fields_initialised g.site n ms)) (sym up)
          (init_or_not d.init (subst (λ n. (init_if d.init g body && where_made (program.field_initialised g.site next d d.init body) (fields_sound n ms g)) ≡ true) up sound))
        where
          init_or_not : (o : Option Init) → (init_if o g body && where_made (program.field_initialised g.site next d o body) (fields_sound (next + 1) ms g)) ≡ true
              → FieldsRun body (record { number = next; name = d.name.span; init = option_map initial o } ∷ fields_in (next + 1) ms) (program.field_initialised g.site next d o body then program.fields_initialised g.site (next + 1) ms)
          init_or_not None sound = rest (next + 1) body (omega (arith, few)) low rooted sound
          init_or_not (Some init) sound =
              let here_sound = and_first (init_at init g body) (where_made (program.field_initialised g.site next d (Some init) body) (fields_sound (next + 1) ms g)) sound in
              let later_sound = and_second (init_at init g body) (where_made (program.field_initialised g.site next d (Some init) body) (fields_sound (next + 1) ms g)) sound in
              then_sound (λ middle. Runs g body middle 0 (field_initialised here (own next d init body low) (Some (initial init)) >>= normally)) _ (program.field_initialised g.site next d (Some init) body) (fields_sound (next + 1) ms g) (program.fields_initialised g.site (next + 1) ms)
              (field_runs next d init body low rooted here_sound) later_sound
              (λ middle x sound. makes_more _ _ (λ after y. then_fields body middle after (field_initialised here (own next d init body low) (Some (initial init))) (fields_in (next + 1) ms) x y) (program.fields_initialised g.site (next + 1) ms middle)
              (rest (next + 1) middle (omega (arith, few)) x.free (rooted_behind g members calls turns ground body middle 0 _ rooted x) sound))

  -- ---- the start of a constructor

  abbrev pub started : Option ℕ → List Expr → List Field → Action (Unit {0})
  started parent args fields = parent_constructed here parent (map evaluation args) >>= (λ done. fields_initialised here fields)

  pub start_runs : (home : Home) (args : List Expr) (span : Span) (body : Body) → ((parent : ℕ) → home.parent ≡ Some parent → is_class g.site parent ≡ true) → home.field + field_count home.members ≤ most_counted → body.made.free ≤ body.most → Rooted g body
      → start_sound home args span g body ≡ true → Makes (λ after. Runs g body after 0 (started home.parent args (fields_in home.field home.members) >>= normally)) (program.constructor_start g.site home args span body)
  start_runs home args span body there few low rooted sound = with_parent home.parent there sound
    where
      with_parent : (o : Option ℕ) → ((parent : ℕ) → o ≡ Some parent → is_class g.site parent ≡ true)
          → (super_sound o args g body && where_made (program.super_call g.site o args span body) (fields_sound home.field home.members g)) ≡ true
          → Makes (λ after. Runs g body after 0 (started o args (fields_in home.field home.members) >>= normally)) (program.super_call g.site o args span body then program.fields_initialised g.site home.field home.members)
      with_parent None there sound = fields_run home.field home.members body few low rooted sound
      with_parent (Some parent) there sound =
          let first = super_sound (Some parent) args g body in
          let later = where_made (program.parent_call g.site parent args span body) (fields_sound home.field home.members g) in
          then_sound (λ middle. Runs g body middle 0 (parent_constructed here (Some parent) (map evaluation args) >>= normally)) _ (program.parent_call g.site parent args span body) (fields_sound home.field home.members g) (program.fields_initialised g.site home.field home.members)
          (parent_runs g members calls turns depth deep run ground parent args span body low rooted has (there parent refl) (and_first first later sound)) (and_second first later sound)
          (λ middle x sound. makes_more _ _ (λ after y. then_fields body middle after (parent_constructed here (Some parent) (map evaluation args)) (fields_in home.field home.members) x y) (program.fields_initialised g.site home.field home.members middle)
          (fields_run home.field home.members middle few x.free (rooted_behind g members calls turns ground body middle 0 _ rooted x) sound))
