-- The text alone gives no error of bounds, and a body with guards flows without one.
use Rattle.std.proofs.Common.{ℕ, Option, None, Some, List, inl, inr, arith, ⊎_elim}
use Rattle.ix_text.specs.declared.span.Span.{Span}
use Rattle.ix_core.specs.declared.error.Error.{Error}
use Rattle.ix_core.specs.declared.op.Op.{Op}
use Rattle.ix_core.specs.declared.op.Test.{Test}
use Rattle.ix_core.specs.declared.program.Method.{Method}
use Rattle.ix_core.specs.declared.program.Program.{Program}
use Rattle.ix_core.specs.Code.{Code, End, Do, If, Break, Continue, Return, Throw, Loop, Condition, Known as Certain, Compare, Truth, Both, Either, Opposite}
use Rattle.ix_core.specs.Tables.{body_of}
use Rattle.ix_sign.specs.RuleErrors.{Somewhere, SomewhereAsked, OpText, TestEscapes, EscapesAt, OverridesBy, TextErrors, escapes_by, escapes_in}
use Rattle.ix_guard_promise.specs.BoundErrors.{IsOfBounds}
use Rattle.ix_guard_promise.proofs.FinePoints.{plain_other, claim_other}

-- ---- what is nowhere

module _ (P : Op → Type 0) (Q : Test → Type 0) (no_op : (done : Op) → P done → ⊥) (no_test : (test : Test) → Q test → ⊥) where
  mutual
    pub nowhere : (code : Code) → Somewhere P Q code → ⊥
    nowhere End there = there
    nowhere (Do done rest) there = ⊎_elim (no_op done) (nowhere rest) there
    nowhere (If asked first second rest) there = ⊎_elim (nowhere_asked asked) (λ more. ⊎_elim (nowhere first) (λ others. ⊎_elim (nowhere second) (nowhere rest) others) more) there
    nowhere (Break rest) there = nowhere rest there
    nowhere (Continue rest) there = nowhere rest there
    nowhere (Return value span rest) there = nowhere rest there
    nowhere (Throw name span rest) there = nowhere rest there
    nowhere (Loop test_first asked body next number scope rest) there =
        ⊎_elim (nowhere_asked asked) (λ more. ⊎_elim (nowhere body) (λ others. ⊎_elim (nowhere next) (nowhere rest) others) more) there

    pub nowhere_asked : (asked : Condition) → SomewhereAsked P Q asked → ⊥
    nowhere_asked (Certain answer) there = there
    nowhere_asked (Compare code test) there = ⊎_elim (nowhere code) (no_test test) there
    nowhere_asked (Truth code slot) there = nowhere code there
    nowhere_asked (Both first second) there = ⊎_elim (nowhere_asked first) (nowhere_asked second) there
    nowhere_asked (Either first second) there = ⊎_elim (nowhere_asked first) (nowhere_asked second) there
    nowhere_asked (Opposite asked) there = nowhere_asked asked there

-- ---- no error of bounds

module _ (error : Error) (rank : ℕ) (bounds : IsOfBounds error) where
  no_escape : (spans : List Span) → EscapesAt spans error rank → ⊥
  no_escape spans escape = plain_other error rank bounds 14 escape.span (omega arith) escape.is

  op_text : (program : Program) (method : Method) (done : Op) → OpText program method done error rank → ⊥
  op_text program method done either = elim either [
    | inl effect ↦ plain_other error rank bounds 13 done.span (omega arith) effect.is
    | inr (inl assigned) ↦ plain_other error rank bounds 15 _ (omega arith) assigned.is
    | inr (inr escapes) ↦ no_escape (escapes_by done done.kind) escapes.1
  ]

  test_text : (method : Method) (test : Test) → TestEscapes method test error rank → ⊥
  test_text method test escapes = no_escape (escapes_in test) escapes.1

  override_text : (program : Program) (method : Method) (number : ℕ) (over : Option ℕ) → OverridesBy program method number over error rank → ⊥
  override_text program method number None none = none
  override_text program method number (Some over) either = elim either [
    | inl parameter ↦ claim_other error rank bounds _ _ 10 method.span _ (omega arith) parameter.of
    | inr (inl result) ↦ claim_other error rank bounds _ _ 11 method.span _ (omega arith) result
    | inr (inr effect) ↦ plain_other error rank bounds 12 method.span (omega arith) effect.is
  ]

  pub no_text : (program : Program) (method : Method) (number : ℕ) → TextErrors program method number error rank → ⊥
  no_text program method number either = ⊎_elim
      (override_text program method number method.overrides)
      (nowhere (λ done. OpText program method done error rank) (λ test. TestEscapes method test error rank) (op_text program method) (test_text method) (body_of method))
      either
