-- A full expression stands in a setting, where the scope of its body is as it has to be.
use Rattle.std.proofs.Common.{◌≡◌, ◌≤◌, ◌<◌, ℕ, ◌+◌, Bool, true, false, List, [], ◌∷◌, ◌++◌, Some, refl, sym, ap, subst, ◌∙◌, arith}
use Rattle.std.specs.Prelude.{if◌then◌else◌, nat_lt, ◌&&◌, ◌==◌}
use Rattle.std.proofs.lemmas.Bool.{false≢true, and_parts}
use Rattle.std.proofs.lemmas.Bool.Decides.{nat_tests}
use Rattle.ix_text.specs.declared.span.Span.{Span}
use Rattle.ix_core.specs.declared.claim.Type_.{Type_}
use Rattle.ix_core.specs.declared.program.Local.{Local}
use Rattle.ix_core.specs.Formed.{at_most}
use Rattle.ix_core.specs.Tables.{param_slot}
use Rattle.ix_core.specs.Types.{Point, class_type, is_class}
use Rattle.ix_core.proofs.Cases.{by_test, equal}
use Rattle.ix_tree.specs.declared.expr.Expr.{Expr}
use Rattle.ix_tree.specs.declared.expr.Init.{Init}
use Rattle.ix_tree.specs.Parts.{Part, expression, statement, declaration, in_type, elsewhere, entries, expr_parts, init_parts}
use Rattle.ix_meaning.specs.declared.note.Meaning.{Meaning}
use Rattle.ix_meaning.specs.declared.note.Meaning.TheVariants as meaning
use Rattle.ix_meaning.specs.Scope.{Known as Variable, Scope as Names}
use Rattle.ix_meaning.specs.Values as reading
use Rattle.ix_plain.specs.Assigned.{Adding, assigns, init_assigns}
use Rattle.ix_plain.specs.Scope.{Scope, slot_of, is_among}
use Rattle.ix_plain.specs.Values.{lowering, filling}
use Rattle.ix_formed.specs.Additions.{AllOf}
use Rattle.ix_formed.specs.Points.{Known}
use Rattle.ix_formed.specs.Readable.{shape, is_readable_init}
use Rattle.ix_formed.specs.Typed as typed
use Rattle.ix_formed.specs.Typed.{HasMembers, Setting, IsSet, IsHere, IsVariable, is_variable, Fits, FitsFilling}
use Rattle.ix_formed.specs.TypedStatements.{Ground, IsGround, IsKnown, Within, scope_in, IsNamed, HasVariable, Scoped, Stands, Begins}
use Rattle.ix_formed.specs.Written.{is_written_expr, is_written_init}
use Rattle.ix_formed.proofs.AssignedVariables.{Appends, assigns_append, init_assigns_append}
use Rattle.ix_formed.proofs.NumberLists.{both_true, all_joined}
use Rattle.ix_formed.proofs.ScopedLocals.{type_final}
use Rattle.ix_formed.proofs.TypedExpressions.{Covers, expression_fits, initialiser_fits}

-- ---- the assigned slots that are those of variables

abbrev pub kept : ℕ → ℕ → List ℕ → List ℕ
kept first base [] = []
kept first base (slot ∷ slots) = if at_most first slot && nat_lt slot base then slot ∷ kept first base slots else kept first base slots

in_range : (first base slot : ℕ) → (at_most first slot && nat_lt slot base) ≡ true → (first ≤ slot) × (slot < base)
in_range first base slot e = let q = and_parts (at_most first slot) (nat_lt slot base) e in (low first slot q.0, high slot base q.1)
  where
    low : (first slot : ℕ) → nat_lt first (slot + 1) ≡ true → first ≤ slot
    low first slot e = grind (arith, nat_tests)

    high : (slot base : ℕ) → nat_lt slot base ≡ true → slot < base
    high slot base e = grind (arith, nat_tests)

range_in : (first base slot : ℕ) → first ≤ slot → slot < base → (at_most first slot && nat_lt slot base) ≡ true
range_in first base slot le lt = both_true (at_most first slot) (nat_lt slot base) (low first slot le) (high slot base lt)
  where
    low : (first slot : ℕ) → first ≤ slot → nat_lt first (slot + 1) ≡ true
    low first slot e = grind (arith, nat_tests)

    high : (slot base : ℕ) → slot < base → nat_lt slot base ≡ true
    high slot base e = grind (arith, nat_tests)

pub kept_range : (first base : ℕ) (slots : List ℕ) → AllOf (λ slot. (first ≤ slot) × (slot < base)) (kept first base slots)
kept_range first base [] = tt
kept_range first base (slot ∷ slots) =
    by_test (at_most first slot && nat_lt slot base)
    (λ t. subst (AllOf (λ slot. (first ≤ slot) × (slot < base))) (sym (ap (λ b. if b then slot ∷ kept first base slots else kept first base slots) t)) (in_range first base slot t, kept_range first base slots))
    (λ f. subst (AllOf (λ slot. (first ≤ slot) × (slot < base))) (sym (ap (λ b. if b then slot ∷ kept first base slots else kept first base slots) f)) (kept_range first base slots))

pub kept_among : (first base slot : ℕ) → first ≤ slot → slot < base → (slots : List ℕ) → is_among slot slots ≡ is_among slot (kept first base slots)
kept_among first base slot le lt [] = refl
kept_among first base slot le lt (other ∷ slots) =
    by_test (at_most first other && nat_lt other base)
    (λ t. ap (λ b. if other == slot then true else b) (kept_among first base slot le lt slots) ∙ sym (ap (λ b. is_among slot (if b then other ∷ kept first base slots else kept first base slots)) t))
    (λ f. ap (λ b. if b then true else is_among slot slots) (not_same f) ∙ kept_among first base slot le lt slots ∙ sym (ap (λ b. is_among slot (if b then other ∷ kept first base slots else kept first base slots)) f))
  where
    not_same : (at_most first other && nat_lt other base) ≡ false → (other == slot) ≡ false
    not_same f = by_test (other == slot) (λ t. absurd (false≢true (sym f ∙ ap (λ n. at_most first n && nat_lt n base) (equal other slot t) ∙ range_in first base slot le lt))) (λ f. f)

module _ (g : Ground) (ground : IsGround g) where
  -- ---- the setting of a full expression

  abbrev pub scope_with : List (Local × Span) → List ℕ → Scope
  scope_with locals assigned = record { site = g.site; locals = locals; assigned = assigned }

  abbrev pub setting : Names → List (Local × Span) → List Type_ → ℕ → List ℕ → List ℕ → ℕ → ℕ → ℕ → Setting
  setting s locals types free assigned extra lo hi at = record {
    program = g.program;
    method = g.method;
    locals = g.locals;
    fixed = Begins g locals types at;
    names = s;
    scope = scope_with locals assigned;
    base = free;
    avoided = extra ++ kept (param_slot g.method 0) free assigned;
    here = Within lo hi;
    parts = g.parts;
  }

  -- a slot that is none of these
  abbrev pub Apart : List ℕ → ℕ → Type 0
  Apart extra slot = is_among slot extra ≡ false

  among_behind : (slot : ℕ) (xs ys : List ℕ) → is_among slot xs ≡ false → is_among slot (xs ++ ys) ≡ is_among slot ys
  among_behind slot [] ys e = refl
  among_behind slot (x ∷ xs) ys e = here (x == slot) (among_behind slot xs ys) e
    where
      here : (b : Bool) → (is_among slot xs ≡ false → is_among slot (xs ++ ys) ≡ is_among slot ys) → (if b then true else is_among slot xs) ≡ false → (if b then true else is_among slot (xs ++ ys)) ≡ is_among slot ys
      here true rest e = absurd (false≢true (sym e))
      here false rest e = rest e

  module _ (s : Names) (locals : List (Local × Span)) (types : List Type_) (free : ℕ) (assigned extra : List ℕ) (lo hi at : ℕ) (scoped : Scoped g s locals types free lo hi) (behind : hi ≤ at)
      (range : AllOf (λ slot. (param_slot g.method 0 ≤ slot) × (slot < free)) extra) (others : AllOf (λ (v : Variable). Apart extra (slot_of (scope_in g locals) (Some v.meaning))) s.names) where
    abbrev z : Setting
    z = setting s locals types free assigned extra lo hi at

    kind_is : (m : Meaning) (ty : Type_) → IsNamed g locals types lo hi ty m → is_variable m ≡ true
    kind_is (meaning.Local n) ty is = refl
    kind_is (meaning.Param n) ty is = refl
    kind_is (meaning.FieldNamed n) ty is = absurd is
    kind_is (meaning.Constant n) ty is = absurd is
    kind_is (meaning.ClassNamed n) ty is = absurd is
    kind_is (meaning.MethodNamed n) ty is = absurd is
    kind_is meaning.LengthOf ty is = absurd is

    variable_is : (v : Variable) → HasVariable g locals types free lo hi v → Apart extra (slot_of (scope_in g locals) (Some v.meaning)) → IsVariable z v
    variable_is v is apart =
        let slot = slot_of (scope_in g locals) (Some v.meaning) in
        record {
          ty = is.ty;
          typed = is.typed;
          real = is.real;
          kind = kind_is v.meaning is.ty is.named;
          slot = record {
            first = is.first;
            low = is.low;
            declared = λ now span here. type_final g locals types at lo hi scoped.typed now behind slot span here ∙ is.declared span here;
          };
          stays = kept_among (param_slot g.method 0) free slot is.first is.low assigned ∙ sym (among_behind slot extra (kept (param_slot g.method 0) free assigned) apart);
        }

    variables_are : (vs : List Variable) → AllOf (HasVariable g locals types free lo hi) vs → AllOf (λ (v : Variable). Apart extra (slot_of (scope_in g locals) (Some v.meaning))) vs → AllOf (IsVariable z) vs
    variables_are [] all apart = tt
    variables_are (v ∷ vs) all apart = (variable_is v all.0 apart.0, variables_are vs all.1 apart.1)

    pub setting_is : IsSet z
    setting_is = record {
      members = subst (HasMembers g.program g.site) (sym scoped.world) ground.members;
      class = ground.class ∙ sym scoped.class;
      class_there = ap (is_class g.program) scoped.class ∙ ground.class_there;
      method_class = ground.method_class ∙ sym scoped.class;
      in_constructor = scoped.in_constructor;
      static = λ has. (let a = scoped.object has in let b = scoped.first in omega (arith, a, b));
      object = scoped.object;
      with_this = ground.with_this;
      params = scoped.params;
      variables = variables_are s.names scoped.variables others;
      avoided = all_joined (λ slot. (param_slot g.method 0 ≤ slot) × (slot < free)) extra (kept (param_slot g.method 0) free assigned) range (kept_range (param_slot g.method 0) free assigned);
      temporaries = λ now slot low span here. type_final g locals types at lo hi scoped.typed now behind slot span here ∙ scoped.unused slot low span here;
    }

    pub stands_is : (point : Point) → Stands g s locals point → typed.Stands z point
    stands_is point stands = record { variables = stands.variables; this = λ has. subst (λ c. Known point 0 (class_type c)) (sym scoped.class) (stands.this has) }

    -- ---- what stands in it

    abbrev pub InSpan : Part → Type 0
    InSpan (expression span) = Within lo hi span
    InSpan _ = Unit {0}

    pub here_is : (ps : List Part) → AllOf InSpan ps → AllOf (IsKnown g) ps → AllOf (IsHere z) ps
    here_is [] here known = tt
    here_is (expression span ∷ ps) here known = (here.0, here_is ps here.1 known.1)
    here_is (statement span ∷ ps) here known = (tt, here_is ps here.1 known.1)
    here_is (declaration ∷ ps) here known = (tt, here_is ps here.1 known.1)
    here_is (in_type ident ∷ ps) here known = (tt, here_is ps here.1 known.1)
    here_is (elsewhere ident ∷ ps) here known = (known.0, here_is ps here.1 known.1)
    here_is (entries n ∷ ps) here known = (known.0, here_is ps here.1 known.1)

    covers_own : (adding : Adding) → Appends adding → assigned ≡ adding (scope_in g locals) [] → Covers z setting_is adding
    covers_own adding appends e slot among = ap (is_among slot) (e ∙ sym (appends g.site locals assigned [] [])) ∙ among

    pub fits_there : (e : Expr) → assigned ≡ (assigns e).inside (scope_in g locals) [] → AllOf InSpan (expr_parts e) → AllOf (IsKnown g) (expr_parts e) → is_written_expr e ≡ true → (shape e).fine ≡ true → Fits z (lowering e) (reading.reading e)
    fits_there e same here known wr fine = (expression_fits z setting_is e (here_is (expr_parts e) here known) wr fine (covers_own (assigns e).inside (assigns_append e).1 same)).0

    pub fills_there : (i : Init) → assigned ≡ init_assigns i (scope_in g locals) [] → AllOf InSpan (init_parts i) → AllOf (IsKnown g) (init_parts i) → is_written_init i ≡ true → is_readable_init i ≡ true → FitsFilling z (filling i) (reading.filling i)
    fills_there i same here known wr fine = initialiser_fits z setting_is i (here_is (init_parts i) here known) wr fine (covers_own (init_assigns i) (init_assigns_append i) same)
