-- A guard in a body: what stands behind it is guarded, and it keeps what another guard tells.
use Rattle.std.proofs.Common.{◌≡◌, ℕ, ◌+◌, ◌<◌, Bool, true, false, List, [], Option, Some, None, refl, sym, ap, subst, ◌∙◌, arith}
use Rattle.std.specs.Prelude.{◌==◌, pos}
use Rattle.std.proofs.lemmas.Bool.{false≢true}
use Rattle.std.proofs.lemmas.Bool.Decides.{nat_tests}
use Rattle.ix_text.specs.declared.span.Span.{Span}
use Rattle.ix_core.specs.declared.op.Literal.TheVariants as literal
use Rattle.ix_core.specs.declared.op.Op.{Op}
use Rattle.ix_core.specs.declared.op.OpKind.{OpKind}
use Rattle.ix_core.specs.declared.op.OpKind.TheVariants as op
use Rattle.ix_core.specs.declared.program.Local.{Local}
use Rattle.ix_core.specs.Code.{Code, End, If, Throw, Condition, item_code}
use Rattle.ix_guard_promise.specs.Known.{Known, Inside, accessed, writes}
use Rattle.ix_guard_promise.specs.Guards.{Guarded}
use Rattle.ix_guard_promise.specs.Pieces.{EachOp, EachAsked, HasNoLoop, IsElsewhere, Keeps}
use Rattle.ix_guard_promise.proofs.GuardedPieces.{guard_then}
use Rattle.ix_plain.specs.declared.body.Body.{Body}
use Rattle.ix_plain.specs.Scope.{Site}
use Rattle.ix_plain.specs.Statements.{scope_of}
use Rattle.ix_guard_text.specs.TestParts.{Parts}
use Rattle.ix_guard_promise.specs.TestTrees.{Means}
use Rattle.ix_guard_promise.specs.TestForms.{Tests, Guards}

-- ---- the operations of a test

abbrev is_one : Option (ℕ × ℕ) → Bool
is_one None = false
is_one (Some access) = true

no_access : (done : Op) (kind : OpKind) (access : ℕ × ℕ) → done.kind ≡ kind → accessed kind ≡ None → accessed done.kind ≡ Some access → ⊥
no_access done kind access is none said = false≢true (ap is_one (sym none ∙ sym (ap accessed is) ∙ said))

other_slot : (slot taken free more : ℕ) → slot < free → taken ≡ free + more → (slot == taken) ≡ false
other_slot slot taken free more below is = grind (arith, nat_tests)

module _ (place : Span) where
  op_elsewhere : (done : Op) (kind : OpKind) → done.kind ≡ kind → accessed kind ≡ None → IsElsewhere place done
  op_elsewhere done kind is none access said stands = absurd (no_access done kind access is none said)

  op_keeps : (array index : ℕ) (done : Op) (kind : OpKind) → done.kind ≡ kind → accessed kind ≡ None → writes kind array ≡ false → writes kind index ≡ false → Keeps place array index done
  op_keeps array index done kind is none one two = record {
    array_stays = ap (λ (k : OpKind). writes k array) is ∙ one;
    index_stays = ap (λ (k : OpKind). writes k index) is ∙ two;
    access = λ access said stands. absurd (no_access done kind access is none said);
  }

  -- ---- the test

  -- It makes no access.
  pub test_elsewhere : (array index free : ℕ) (asked : Condition) → Tests array index free asked → EachAsked (IsElsewhere place) asked
  test_elsewhere array index free asked t =
      let is = t.is_test in
      subst (EachAsked (IsElsewhere place)) (sym t.form) (
        (
          (op_elsewhere t.null_op (op.Const is.null_slot (literal.NullOf is.null_type)) is.makes_null refl, tt),
          (op_elsewhere t.zero_op (op.Const is.zero_slot (literal.Int (pos 0))) is.makes_zero refl, tt),
        ),
        (op_elsewhere t.length_op (op.Length is.length_slot array) is.makes_length refl, tt),
      )

  -- It writes no slot that is taken before it.
  pub test_keeps : (array index free : ℕ) (asked : Condition) (other at : ℕ) → Tests array index free asked → other < free → at < free → EachAsked (Keeps place other at) asked
  test_keeps array index free asked other at t one two =
      let is = t.is_test in
      subst (EachAsked (Keeps place other at)) (sym t.form) (
        (
          (
            op_keeps other at t.null_op (op.Const is.null_slot (literal.NullOf is.null_type)) is.makes_null refl
                (other_slot other is.null_slot free 0 one (t.takes_null ∙ omega arith)) (other_slot at is.null_slot free 0 two (t.takes_null ∙ omega arith)),
            tt,
          ),
          (
            op_keeps other at t.zero_op (op.Const is.zero_slot (literal.Int (pos 0))) is.makes_zero refl
                (other_slot other is.zero_slot free 1 one t.takes_zero) (other_slot at is.zero_slot free 1 two t.takes_zero),
            tt,
          ),
        ),
        (
          op_keeps other at t.length_op (op.Length is.length_slot array) is.makes_length refl
              (other_slot other is.length_slot free 2 one t.takes_length) (other_slot at is.length_slot free 2 two t.takes_length),
          tt,
        ),
      )

  -- ---- the guard

  module _ (array index : ℕ) (name : List ℕ) (span : Span) (first second : Body) (guard : Guards array index name span first second) where
    -- Behind it the index is inside the array.
    pub behind_guard : (rest : Code) (before end : Known) → Guarded place (Inside array index) rest end → Guarded place before (item_code guard.item rest) end
    behind_guard rest before end guarded =
        let t = guard.tests in
        subst (λ code. Guarded place before code end) (sym (guard.form rest ∙ ap (λ asked. If asked (Throw name span End) End rest) t.form))
        (guard_then place array index t.null_op t.zero_op t.length_op t.is_null t.is_negative t.is_too_high name span rest before end t.is_test guarded)

    pub guard_elsewhere : (rest : Code) → EachOp (IsElsewhere place) rest → EachOp (IsElsewhere place) (item_code guard.item rest)
    guard_elsewhere rest each = subst (EachOp (IsElsewhere place)) (sym (guard.form rest)) (test_elsewhere array index first.made.free guard.asked guard.tests, (tt, (tt, each)))

    -- It keeps what another guard tells of slots that are taken before it.
    pub guard_keeps : (other at : ℕ) → other < first.made.free → at < first.made.free → (rest : Code) → EachOp (Keeps place other at) rest → EachOp (Keeps place other at) (item_code guard.item rest)
    guard_keeps other at one two rest each =
        subst (EachOp (Keeps place other at)) (sym (guard.form rest)) (test_keeps array index first.made.free guard.asked other at guard.tests one two, (tt, (tt, each)))

    pub guard_no_loop : (rest : Code) → HasNoLoop rest → HasNoLoop (item_code guard.item rest)
    guard_no_loop rest plain =
        let t = guard.tests in
        subst HasNoLoop (sym (guard.form rest ∙ ap (λ asked. If asked (Throw name span End) End rest) t.form)) (((tt, tt), tt), (tt, (tt, plain)))

    -- What names mean behind it is what they meant before it.
    pub means_behind : (site : Site) (other at : ℕ) (parts : Parts) → Means (scope_of site first []) other at parts → Means (scope_of site second []) other at parts
    means_behind site other at parts means =
        subst (λ (locals : List (Local × Span)). Means (record { site = site; locals = locals; assigned = [] }) other at parts) (sym guard.locals) means
