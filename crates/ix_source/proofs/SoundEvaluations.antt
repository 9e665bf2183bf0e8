-- The full expressions of statements without errors on names are sound where they stand.
use Rattle.std.proofs.Common.{◌≡◌, ℕ, Bool, true, false, List, [], ◌∷◌, Option, Some, None, refl, sym, ap, subst, ◌∙◌, arith}
use Rattle.std.specs.Prelude.{if◌then◌else◌}
use Rattle.ix_text.specs.declared.span.Span.{Span}
use Rattle.ix_core.specs.declared.claim.Type_.{Type_}
use Rattle.ix_core.specs.declared.program.Local.{Local}
use Rattle.ix_core.specs.Heap.{Held}
use Rattle.ix_core.specs.Tables.{Tables}
use Rattle.ix_core.specs.Types.{bool_type, is_type}
use Rattle.ix_tree.specs.declared.expr.Expr.{Expr}
use Rattle.ix_tree.specs.declared.expr.Init.{Init}
use Rattle.ix_tree.specs.Parts.{expr_parts, init_parts}
use Rattle.ix_meaning.specs.declared.note.Rule.TheVariants as rule
use Rattle.ix_meaning.specs.Bodies as bodies
use Rattle.ix_meaning.specs.Rules as rules
use Rattle.ix_meaning.specs.Scope.{Known as Variable, Scope as Names}
use Rattle.ix_meaning.specs.Types.{Need, unknown, never, printed, of, is_primitive}
use Rattle.ix_meaning.specs.Values as reading
use Rattle.ix_meaning.specs.Values.{check, null_at, fitted}
use Rattle.ix_plain.specs.declared.body.Body.{Body}
use Rattle.ix_plain.specs.Assigned.{Adding, assigns, init_assigns}
use Rattle.ix_plain.specs.Scope.{slot_of, is_among}
use Rattle.ix_plain.specs.Statements.{assigned_by}
use Rattle.ix_plain.specs.Values.{lowering}
use Rattle.ix_formed.specs.Additions.{AllOf}
use Rattle.ix_formed.specs.Readable.{is_readable_init}
use Rattle.ix_formed.specs.Typed as typed
use Rattle.ix_formed.specs.Typed.{Fits}
use Rattle.ix_formed.specs.TypedStatements.{Ground, IsGround, Says, IsKnown, IsResult, Within, Scoped, scope_in}
use Rattle.ix_formed.specs.Written.{is_written_init}
use Rattle.ix_formed.proofs.AssignedVariables.{Appends, assigns_append, init_assigns_append}
use Rattle.ix_formed.proofs.LayoutSpans.{PartIs}
use Rattle.ix_formed.proofs.SameTypes.{primitive_real}
use Rattle.ix_formed.proofs.TypedChecks.{parted, kept}
use Rattle.ix_formed.proofs.TypedEvaluations.{IsRead}
use Rattle.ix_formed.proofs.TypedExpressions.{Covers}
use Rattle.ix_formed.proofs.TypedSettings.{Apart, setting, setting_is, here_is, fits_there}
use Rattle.ix_source.specs.Running as running
use Rattle.ix_source.specs.Running.{in_scope}
use Rattle.ix_source.specs.Sound.{soundness, init_soundness}
use Rattle.ix_source.specs.SoundBodies.{HasResults}
use Rattle.ix_source.specs.WellNamed.{Owned, HasNumbers, View, IsSeen, IsSound}
use Rattle.ix_source.specs.SoundStatements.{used_at, ran_at, init_at, declaring}
use Rattle.ix_source.proofs.ExpressionsSound.{expression_sound, initialiser_sound}
use Rattle.ix_source.proofs.SoundParts.{used_is, check_used}
use Rattle.ix_source.proofs.VariablesOwn.{OwnedIn, owned_there}

-- What a run sees of a body.
pub record Sight (g : Ground) : Type 0 where
  pub tables : Tables
  pub has_this : Bool
  pub this : Held
  pub depth : ℕ
  pub numbers : HasNumbers g.world g.site
  pub results : HasResults g.program tables

module _ (g : Ground) (ground : IsGround g) (v : Sight g) where
  -- the ground of the simulation
  abbrev pub seen_ground : running.Ground
  seen_ground = record { tables = v.tables; site = g.site; has_this = v.has_this; this = v.this; depth = v.depth }

  none_apart : (vs : List Variable) (locals : List (Local × Span)) → AllOf (λ (x : Variable). Apart g ground [] (slot_of (scope_in g locals) (Some x.meaning))) vs
  none_apart [] locals = tt
  none_apart (x ∷ vs) locals = (refl, none_apart vs locals)

  module _ (s : Names) (body : Body) (types : List Type_) (lo hi : ℕ) (scoped : Scoped g s body.locals types body.made.free lo hi) (owned : OwnedIn g s.names body.locals) (object : s.has_object ≡ true → v.has_this ≡ true) where
    module _ (slots : List ℕ) where
      abbrev y : typed.Setting
      y = setting g ground s body.locals types body.made.free slots [] lo hi hi

      set : typed.IsSet y
      set = setting_is g ground s body.locals types body.made.free slots [] lo hi hi scoped (omega arith) tt (none_apart s.names body.locals)

      abbrev view : View
      view = record { tables = v.tables; owner = in_scope g.site body.locals body.made.free; has_this = v.has_this; this = v.this; depth = v.depth }

      seen : IsSeen y view
      seen = record {
        owned = owned_there g s.names body.locals types body.made.free lo hi scoped.variables owned;
        object = object;
        numbers = subst (λ w. HasNumbers w g.site) (sym scoped.world) v.numbers;
        results = v.results;
      }

      covers_own : (adding : Adding) → Appends adding → slots ≡ adding (scope_in g body.locals) [] → Covers y set adding
      covers_own adding appends e slot among = ap (is_among slot) (e ∙ sym (appends g.site body.locals slots [] [])) ∙ among

    -- ---- an expression

    module _ (e : Expr) (read : IsRead g ground lo hi e) where
      abbrev slots : List ℕ
      slots = assigned_by g.site body (assigns e).inside

      abbrev x : typed.Setting
      x = y (assigned_by g.site body (assigns e).inside)

      abbrev own : View
      own = view (assigned_by g.site body (assigns e).inside)

      set_x : typed.IsSet x
      set_x = set slots

      fit : Fits x (lowering e) (reading.reading e)
      fit = fits_there g ground s body.locals types body.made.free slots [] lo hi hi scoped (omega arith) tt (none_apart s.names body.locals) e refl read.spans read.known read.written read.fine

      is_sound : IsSound x own (soundness e) (reading.reading e)
      is_sound =
          (expression_sound x set_x own (seen slots) e
          (here_is g ground s body.locals types body.made.free slots [] lo hi hi scoped (omega arith) tt (none_apart s.names body.locals) (expr_parts e) read.spans read.known) read.written read.fine
          (covers_own slots (assigns e).inside (assigns_append e).1 refl)).0

      -- where a type is needed
      pub needed_sound : (need : Type_) → is_type g.program need ≡ true → Says g (check (reading.reading e) s (of need)).notes → used_at e seen_ground body ≡ true
      needed_sound need real said = check_used x set_x own (lowering e) (reading.reading e) (soundness e) fit is_sound need real said

      pub condition_sound : Says g (bodies.condition e s) → used_at e seen_ground body ≡ true
      condition_sound said = needed_sound bool_type refl said

      -- where its value isn't used
      pub run_sound : Says g (bodies.run e s) → ran_at e seen_ground body ≡ true
      run_sound said = is_sound.value said

      pub printed_sound : Says g (bodies.needed e printed s) → used_at e seen_ground body ≡ true
      printed_sound said = by_null (reading.reading e).is_null said
        where
          by_null : (b : Bool) → Says g (if b then null_at printed (reading.reading e).span else fitted s.world printed (reading.reading e).span ((reading.reading e).judge s)).notes → used_at e seen_ground body ≡ true
          by_null true said = absurd said.0
          by_null false said =
              let q = parted x ((reading.reading e).judge s).notes (rules.type_mismatch s.world printed ((reading.reading e).judge s).ty (reading.reading e).span) said in
              let j = fit.value q.0 in
              let w = subst (λ o. Says g (rules.type_mismatch s.world printed o (reading.reading e).span)) j.typed q.1 in
              used_is x set_x own (soundness e) (reading.reading e).span is_sound.span (is_sound.value q.0) j.ty j.table
              (primitive_real g.program j.ty j.of_type (kept x (is_primitive j.ty) rule.TypeMismatch (reading.reading e).span w))

      -- where it is given back
      pub returned_sound : Says g (bodies.needed e (bodies.result_need s.result) s) → used_at e seen_ground body ≡ true
      returned_sound said = by_result s.result scoped.result said
        where
          never_said : (b : Bool) → Says g (if b then null_at never (reading.reading e).span else fitted s.world never (reading.reading e).span ((reading.reading e).judge s)).notes → ⊥
          never_said true said = said.0
          never_said false said =
              let q = parted x ((reading.reading e).judge s).notes (rules.type_mismatch s.world never ((reading.reading e).judge s).ty (reading.reading e).span) said in
              (subst (λ o. Says g (rules.type_mismatch s.world never o (reading.reading e).span)) (fit.value q.0).typed q.1).0

          by_result : (o : Option Need) → IsResult g o → Says g (check (reading.reading e) s (bodies.result_need o)).notes → used_at e seen_ground body ≡ true
          by_result None is said = absurd (never_said (reading.reading e).is_null said)
          by_result (Some unknown) is said = absurd is
          by_result (Some never) is said = absurd is
          by_result (Some printed) is said = absurd is
          by_result (Some (of ty)) is said = needed_sound ty is.1 said

    -- ---- an initialiser

    module _ (i : Init) (spans : AllOf (PartIs (Within lo hi)) (init_parts i)) (known : AllOf (IsKnown g) (init_parts i)) (written : is_written_init i ≡ true) (fine : is_readable_init i ≡ true) where
      abbrev init_slots : List ℕ
      init_slots = assigned_by g.site body (init_assigns i)

      pub init_sound : (ty : Type_) → is_type g.program ty ≡ true → Says g (reading.filling i s (Some ty)) → init_at i seen_ground body ≡ true
      init_sound ty real said =
          initialiser_sound (y init_slots) (set init_slots) (view init_slots) (seen init_slots) i
          (here_is g ground s body.locals types body.made.free init_slots [] lo hi hi scoped (omega arith) tt (none_apart s.names body.locals) (init_parts i) spans known) written fine
          (covers_own init_slots (init_assigns i) (init_assigns_append i) refl) ty real said

  -- ---- the initialiser of a local, which is no name of it

  module _ (s : Names) (body : Body) (types : List Type_) (lo hi : ℕ) (scoped : Scoped g s body.locals types body.made.free lo hi) (before : Body) (owned : Owned (in_scope g.site before.locals before.made.free) (scope_in g body.locals) s.names) (object : s.has_object ≡ true → v.has_this ≡ true) where
    module _ (i : Init) (spans : AllOf (PartIs (Within lo hi)) (init_parts i)) (known : AllOf (IsKnown g) (init_parts i)) (written : is_written_init i ≡ true) (fine : is_readable_init i ≡ true) where
      abbrev local_slots : List ℕ
      local_slots = assigned_by g.site body (init_assigns i)

      abbrev local_y : typed.Setting
      local_y = setting g ground s body.locals types body.made.free local_slots [] lo hi hi

      local_set : typed.IsSet local_y
      local_set = setting_is g ground s body.locals types body.made.free local_slots [] lo hi hi scoped (omega arith) tt (none_apart s.names body.locals)

      abbrev local_view : View
      local_view = record { tables = v.tables; owner = in_scope g.site before.locals before.made.free; has_this = v.has_this; this = v.this; depth = v.depth }

      local_seen : IsSeen local_y local_view
      local_seen = record { owned = owned; object = object; numbers = subst (λ w. HasNumbers w g.site) (sym scoped.world) v.numbers; results = v.results }

      local_covers : Covers local_y local_set (init_assigns i)
      local_covers slot among = ap (is_among slot) (sym (init_assigns_append i g.site body.locals local_slots [] [])) ∙ among

      pub local_init_sound : (ty : Type_) → is_type g.program ty ≡ true → Says g (reading.filling i s (Some ty)) → init_soundness i (declaring seen_ground before body (assigned_by g.site body (init_assigns i))) ≡ true
      local_init_sound ty real said =
          initialiser_sound local_y local_set local_view local_seen i
          (here_is g ground s body.locals types body.made.free local_slots [] lo hi hi scoped (omega arith) tt (none_apart s.names body.locals) (init_parts i) spans known) written fine
          local_covers ty real said
