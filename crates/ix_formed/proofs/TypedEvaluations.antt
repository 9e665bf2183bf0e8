-- The full expressions of statements.
use Rattle.std.proofs.Common.{◌≡◌, ◌≤◌, ◌<◌, ℕ, max, true, List, [], ◌∷◌, Some, refl, arith}
use Rattle.ix_text.specs.declared.span.Span.{Span}
use Rattle.ix_core.specs.declared.claim.Type_.{Type_}
use Rattle.ix_core.specs.declared.program.Local.{Local}
use Rattle.ix_core.specs.Tables.{param_slot}
use Rattle.ix_core.specs.Types.{Point, bool_type, is_type, is_of}
use Rattle.ix_tree.specs.declared.expr.Expr.{Expr}
use Rattle.ix_tree.specs.declared.expr.Init.{Init}
use Rattle.ix_tree.specs.Parts.{expr_parts, init_parts}
use Rattle.ix_meaning.specs.Scope.{Known as Variable, Scope as Names}
use Rattle.ix_meaning.specs.Types.{of}
use Rattle.ix_meaning.specs.Values as reading
use Rattle.ix_meaning.specs.Values.{check}
use Rattle.ix_plain.specs.declared.body.Body.{Body}
use Rattle.ix_plain.specs.Assigned.{assigns, init_assigns}
use Rattle.ix_plain.specs.Scope.{slot_of}
use Rattle.ix_plain.specs.Statements.{Tested, evaluated, init_evaluated, tested, scope_for, assigned_by}
use Rattle.ix_plain.specs.Values.{lowering, filling}
use Rattle.ix_formed.specs.Additions.{Makes, AllOf, IsPlainCondition}
use Rattle.ix_formed.specs.Points.{Keeps, Decides}
use Rattle.ix_formed.specs.Readable.{shape, is_readable_init}
use Rattle.ix_formed.specs.Typed as typed
use Rattle.ix_formed.specs.Typed.{Tests, Setting, IsSet, IsResult, Fits}
use Rattle.ix_formed.specs.TypedStatements.{Ground, IsGround, Says, IsKnown, Within, Scoped, Stands, Begins, scope_in}
use Rattle.ix_formed.specs.Written.{is_written_expr, is_written_init}
use Rattle.ix_formed.proofs.LayoutSpans.{PartIs}
use Rattle.ix_formed.proofs.PlainItems.{makes_then}
use Rattle.ix_formed.proofs.TypedChecks.{check_fits, condition_fits}
use Rattle.ix_formed.proofs.TypedItems.{Evaluates, value_evaluates}
use Rattle.ix_formed.proofs.TypedSettings.{setting, setting_is, stands_is, fits_there, fills_there, kept, Apart}

module _ (g : Ground) (ground : IsGround g) where
  -- An expression stands between two places, and is as the grammar has it.
  pub record IsRead (lo hi : ℕ) (e : Expr) : Type 0 where
    pub spans : AllOf (PartIs (Within lo hi)) (expr_parts e)
    pub known : AllOf (IsKnown g) (expr_parts e)
    pub written : is_written_expr e ≡ true
    pub fine : (shape e).fine ≡ true

  none_apart : (vs : List Variable) (locals : List (Local × Span)) → AllOf (λ (v : Variable). Apart g ground [] (slot_of (scope_in g locals) (Some v.meaning))) vs
  none_apart [] locals = tt
  none_apart (v ∷ vs) locals = (refl, none_apart vs locals)

  module _ (s : Names) (body : Body) (types_now : List Type_) (point : Point) (lo hi : ℕ) (scoped : Scoped g s body.locals types_now body.made.free lo hi) (stands : Stands g s body.locals point) where
    module _ (e : Expr) (read : IsRead lo hi e) where
      abbrev slots : List ℕ
      slots = assigned_by g.site body (assigns e).inside

      abbrev z : Setting
      z = setting g ground s body.locals types_now body.made.free slots [] lo hi hi

      set : IsSet z
      set = setting_is g ground s body.locals types_now body.made.free slots [] lo hi hi scoped (omega arith) tt (none_apart s.names body.locals)

      ready : typed.Stands z point
      ready = stands_is g ground s body.locals types_now body.made.free slots [] lo hi hi scoped (omega arith) tt (none_apart s.names body.locals) point stands

      fit : Fits z (lowering e) (reading.reading e)
      fit = fits_there g ground s body.locals types_now body.made.free slots [] lo hi hi scoped (omega arith) tt (none_apart s.names body.locals) e refl read.spans read.known read.written read.fine

      -- a value of a type
      pub record Checks (need : Type_) (ty : Type_) : Type 0 where
        pub real : is_type g.program ty ≡ true
        pub fits : is_of g.program ty need ≡ true

      pub value_checked : (need : Type_) → is_type g.program need ≡ true → Says g (check (reading.reading e) s (of need)).notes
          → (ty : Type_) × Checks need ty × Makes (Evaluates g hi [] body types_now point ty) (evaluated g.site e body)
      value_checked need real said =
          let c = check_fits z set (lowering e) (reading.reading e) fit need real said in (
            c.ty,
            record { real = c.real; fits = c.fits },
            value_evaluates g hi [] (kept (param_slot g.method 0) body.made.free slots) body types_now point c.ty ((lowering e).value (scope_for g.site body (assigns e).inside) body.made)
                (c.yields body.made point (omega arith, ready)),
          )

      -- any value
      pub value_judged : Says g ((reading.reading e).judge s).notes → (ty : Type_) × (((reading.reading e).judge s).ty ≡ Some ty) × IsResult g.program ty × Makes (Evaluates g hi [] body types_now point ty) (evaluated g.site e body)
      value_judged said =
          let j = fit.value said in (
            j.ty,
            j.typed,
            j.of_type,
            value_evaluates g hi [] (kept (param_slot g.method 0) body.made.free slots) body types_now point j.ty ((lowering e).value (scope_for g.site body (assigns e).inside) body.made)
                (j.yields body.made point (omega arith, ready)),
          )

      -- a condition
      pub record TestGives (t : Tested) : Type 0 where
        pub holds : Point
        pub fails : Point
        pub same : t.body.made ≡ body.made
        pub locals : t.body.locals ≡ body.locals
        pub most : body.most ≤ t.body.most
        pub plain : IsPlainCondition t.cond
        pub decides : Begins g body.locals types_now hi → t.body.most ≤ g.method.slots → Decides g.program g.method g.locals t.cond point holds fails
        pub keeps_holds : Keeps body.made.free point holds
        pub keeps_fails : Keeps body.made.free point fails

      pub condition_asks : Says g (check (reading.reading e) s (of bool_type)).notes
          → Makes (Tests g.program g.method g.locals (Begins g body.locals types_now hi) body.made.free point) ((lowering e).condition (scope_for g.site body (assigns e).inside) body.made.free)
      condition_asks said = condition_fits z set (lowering e) (reading.reading e) fit said body.made.free point (omega arith) ready

      pub condition_tested : Says g (check (reading.reading e) s (of bool_type)).notes → Makes TestGives (tested g.site e body)
      condition_tested said =
          makes_then (Tests g.program g.method g.locals (Begins g body.locals types_now hi) body.made.free point) TestGives ((lowering e).condition (scope_for g.site body (assigns e).inside) body.made.free) _
          (condition_asks said)
          (λ asked t. record {
            holds = t.holds;
            fails = t.fails;
            same = refl;
            locals = refl;
            most = omega arith;
            plain = t.plain;
            decides = λ begins le. t.decides begins (most_right body.most asked.free g.method.slots le);
            keeps_holds = t.keeps_holds;
            keeps_fails = t.keeps_fails;
          })
        where
          most_right : (a b most : ℕ) → max a b ≤ most → b ≤ most
          most_right a b most le = omega (arith, le)

    -- ---- an initialiser, whose value stays in none of these slots

    module _ (i : Init) (spans : AllOf (PartIs (Within lo hi)) (init_parts i)) (known : AllOf (IsKnown g) (init_parts i)) (written : is_written_init i ≡ true) (fine : is_readable_init i ≡ true)
        (extra : List ℕ) (range : AllOf (λ slot. (param_slot g.method 0 ≤ slot) × (slot < body.made.free)) extra) (others : AllOf (λ (v : Variable). Apart g ground extra (slot_of (scope_in g body.locals) (Some v.meaning))) s.names) where
      abbrev init_slots : List ℕ
      init_slots = assigned_by g.site body (init_assigns i)

      abbrev y : Setting
      y = setting g ground s body.locals types_now body.made.free init_slots extra lo hi hi

      pub init_filled : (ty : Type_) → is_type g.program ty ≡ true → Says g (reading.filling i s (Some ty))
          → (given : Type_) × ((filling i).ty g.site ty ≡ given) × (is_type g.program given ≡ true) × (is_of g.program given ty ≡ true) × Makes (Evaluates g hi extra body types_now point given) (init_evaluated g.site i ty body)
      init_filled ty real said =
          let f = fills_there g ground s body.locals types_now body.made.free init_slots extra lo hi hi scoped (omega arith) range others i refl spans known written fine ty real said in (
            f.given,
            f.same,
            f.real,
            f.fits,
            value_evaluates g hi extra (kept (param_slot g.method 0) body.made.free init_slots) body types_now point f.given ((filling i).value (scope_for g.site body (init_assigns i)) ty body.made)
                (f.yields body.made point (omega arith, stands_is g ground s body.locals types_now body.made.free init_slots extra lo hi hi scoped (omega arith) range others point stands)),
          )
