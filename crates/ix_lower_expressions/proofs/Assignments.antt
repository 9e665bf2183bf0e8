-- What an assignment or a step becomes, part by part: the target, what it holds, the value, the write. The answers of `assigned` cite these.
use Rattle.std.proofs.Common.{◌≡◌, ℕ, Bool, if◌then◌else◌, pos, Option, Some, None, Ok, Err, sym, ap, ◌∙◌}
use Rattle.ix_core.specs.declared.op.OpKind.TheVariants as op
use Rattle.ix_core.specs.Types.{int_type}
use Rattle.ix_num.specs.declared.arith.Arith.{Arith}
use Rattle.ix_num.specs.declared.arith.Arith.TheVariants.{Add, Sub}
use Rattle.ix_meaning.specs.declared.note.Which.{Which}
use Rattle.ix_text.specs.declared.span.Span.{Span}
use Rattle.ix_tree.specs.declared.expr.Expr.{Expr, fold-roll-Expr}
use Rattle.ix_tree.specs.declared.expr.ExprKind.{ExprKind, ExprKind-F, fold-ExprKind, fold-roll-ExprKind}
use Rattle.ix_tree.specs.declared.expr.ExprKind.TheVariants as kind
use Rattle.ix_tree.specs.declared.expr.ExprKind.TheVariants.{rolls-Assign, rolls-Step}
use Rattle.ix_plain.specs.declared.made.Made.{Made}
use Rattle.ix_plain.specs.declared.made.Spot.{Spot}
use Rattle.ix_plain.specs.Parts.{Within, Value, Target, in_place, with_item, computed, read, write, ◌>>=◌}
use Rattle.ix_plain.specs.Scope.{Scope, type_at}
use Rattle.ix_plain.specs.Values.{Lowering, Filling, kind_step, init_step, expr_step, lowering, int_value, assign_of, step}
use Rattle.ix_lower_expressions.proofs.InTurn.{span_is}

abbrev kind_lowering : ExprKind → Span → Lowering
kind_lowering = fold-ExprKind (Span → Lowering) Filling Lowering kind_step init_step expr_step

-- what is written where the target and both operands are known
abbrev result_written : Spot → Arith → ℕ → ℕ → Span → Span → Made → Within Value
result_written spot arith y z whole target made =
    computed made (op.Num made.free arith y z) whole >>= (λ t. in_place (with_item t.made (write spot t.slot int_type whole target whole)) t.slot)

-- what a step does where the target is known
abbrev step_made : Spot → Bool → Bool → Span → Span → Made → Within Value
step_made spot up after whole target made =
    read spot target made >>= (λ y. int_value (pos 1) whole y.made >>= (λ one. computed one.made (op.Num one.made.free (if up then Add else Sub) y.slot one.slot) whole
    >>= (λ t. in_place (with_item t.made (write spot t.slot int_type whole target whole)) (if after then y.slot else t.slot))))

module _ (expr : Expr) (scope : Scope) (made : Made) where
  by_kind : (k : ExprKind) → expr.kind ≡ k → (lowering expr).value scope made ≡ (kind_lowering k expr.span).value scope made
  by_kind k is =
      ap (λ (l : Lowering). l.value scope made) (fold-roll-Expr (Span → Lowering) Filling Lowering kind_step init_step expr_step (record { kind = expr.kind; span = expr.span }))
      ∙ ap (λ (k : ExprKind). (kind_lowering k expr.span).value scope made) is

  assign_is : (operator : Option Arith) (target value : Expr) → expr.kind ≡ kind.Assign operator target value
      → (lowering expr).value scope made ≡ (assign_of operator (lowering target) (lowering value) expr.span).value scope made
  assign_is operator target value is =
      by_kind (kind.Assign operator target value) is
      ∙ (ap (λ (k : ExprKind). (kind_lowering k expr.span).value scope made) (sym (rolls-Assign operator target value))
      ∙ ap (λ (l : Span → Lowering). (l expr.span).value scope made) (fold-roll-ExprKind (Span → Lowering) Filling Lowering kind_step init_step expr_step (ExprKind-F.Assign operator target value)))

  step_is : (up after : Bool) (target : Expr) → expr.kind ≡ kind.Step up after target → (lowering expr).value scope made ≡ (step up after (lowering target) expr.span).value scope made
  step_is up after target is =
      by_kind (kind.Step up after target) is
      ∙ (ap (λ (k : ExprKind). (kind_lowering k expr.span).value scope made) (sym (rolls-Step up after target))
      ∙ ap (λ (l : Span → Lowering). (l expr.span).value scope made) (fold-roll-ExprKind (Span → Lowering) Filling Lowering kind_step init_step expr_step (ExprKind-F.Step up after target)))

  at_target : (got target : Expr) (answer : Within Target) → got ≡ target → (lowering got).target scope made ≡ answer → (lowering target).target scope made ≡ answer
  at_target got target answer same is = ap (λ e. (lowering e).target scope made) (sym same) ∙ is

  at_value : (got value : Expr) (before : Made) (answer : Within Value) → got ≡ value → (lowering got).value scope before ≡ answer → (lowering value).value scope before ≡ answer
  at_value got value before answer same is = ap (λ e. (lowering e).value scope before) (sym same) ∙ is

  at_span : (got target : Expr) → got ≡ target → (lowering target).span ≡ got.span
  at_span got target same = span_is target ∙ ap (λ e. e.span) (sym same)

  pub target_refused : (operator : Option Arith) (target value got : Expr) (which : Which) → expr.kind ≡ kind.Assign operator target value → got ≡ target
      → (lowering got).target scope made ≡ Err which → (lowering expr).value scope made ≡ Err which
  target_refused None target value got which is same refused = assign_is None target value is ∙ rw (at_target got target (Err which) same refused)
  target_refused (Some arith) target value got which is same refused = assign_is (Some arith) target value is ∙ rw (at_target got target (Err which) same refused)

  pub stepped_refused : (up after : Bool) (target got : Expr) (which : Which) → expr.kind ≡ kind.Step up after target → got ≡ target
      → (lowering got).target scope made ≡ Err which → (lowering expr).value scope made ≡ Err which
  stepped_refused up after target got which is same refused = step_is up after target is ∙ rw (at_target got target (Err which) same refused)

  pub step_behind_target : (up after : Bool) (target got spanned : Expr) (spot : Spot) (before : Made) → expr.kind ≡ kind.Step up after target → got ≡ target → spanned ≡ target
      → (lowering got).target scope made ≡ Ok (record { made = before; spot = spot }) → (lowering expr).value scope made ≡ step_made spot up after expr.span spanned.span before
  step_behind_target up after target got spanned spot before is same also done =
      step_is up after target is ∙ rw (at_target got target (Ok (record { made = before; spot = spot })) same done, at_span spanned target also)

  -- behind the target of a plain assignment, and of one with an operator
  module _ (operator : Option Arith) (target value got : Expr) (spot : Spot) (before : Made) (is : expr.kind ≡ kind.Assign operator target value) (same : got ≡ target)
      (done : (lowering got).target scope made ≡ Ok (record { made = before; spot = spot })) where
    pub value_refused : (from : Expr) (which : Which) → operator ≡ None → from ≡ value → (lowering from).value scope before ≡ Err which → (lowering expr).value scope made ≡ Err which
    value_refused from which plain also refused =
        assign_is None target value (is ∙ ap (λ o. kind.Assign o target value) plain)
        ∙ rw (at_target got target (Ok (record { made = before; spot = spot })) same done, at_value from value before (Err which) also refused)

    pub value_written : (from spanned ranged : Expr) (later : Made) (slot : ℕ) → operator ≡ None → from ≡ value → spanned ≡ target → ranged ≡ value
        → (lowering from).value scope before ≡ in_place later slot
        → (lowering expr).value scope made ≡ in_place (with_item later (write spot slot (type_at scope ranged.span) expr.span spanned.span ranged.span)) slot
    value_written from spanned ranged later slot plain also spans ranges all =
        assign_is None target value (is ∙ ap (λ o. kind.Assign o target value) plain)
        ∙ rw (at_target got target (Ok (record { made = before; spot = spot })) same done, at_value from value before (in_place later slot) also all, at_span spanned target spans, at_span ranged value ranges)

    pub read_refused : (arith : Arith) (spanned : Expr) (which : Which) → operator ≡ Some arith → spanned ≡ target → read spot spanned.span before ≡ Err which
        → (lowering expr).value scope made ≡ Err which
    read_refused arith spanned which with spans refused =
        assign_is (Some arith) target value (is ∙ ap (λ o. kind.Assign o target value) with)
        ∙ rw (at_target got target (Ok (record { made = before; spot = spot })) same done, at_span spanned target spans, refused)

    pub operand_refused : (arith : Arith) (spanned from : Expr) (held : Made) (y : ℕ) (which : Which) → operator ≡ Some arith → spanned ≡ target → from ≡ value
        → read spot spanned.span before ≡ in_place held y → (lowering from).value scope held ≡ Err which → (lowering expr).value scope made ≡ Err which
    operand_refused arith spanned from held y which with spans also holds refused =
        assign_is (Some arith) target value (is ∙ ap (λ o. kind.Assign o target value) with)
        ∙ rw (at_target got target (Ok (record { made = before; spot = spot })) same done, at_span spanned target spans, holds, at_value from value held (Err which) also refused)

    pub operands_made : (arith : Arith) (spanned from ranged : Expr) (held later : Made) (y z : ℕ) → operator ≡ Some arith → spanned ≡ target → from ≡ value → ranged ≡ target
        → read spot spanned.span before ≡ in_place held y → (lowering from).value scope held ≡ in_place later z
        → (lowering expr).value scope made ≡ result_written spot arith y z expr.span ranged.span later
    operands_made arith spanned from ranged held later y z with spans also ranges holds all =
        let one : spanned.span ≡ ranged.span = ap (λ e. e.span) (spans ∙ sym ranges) in
        assign_is (Some arith) target value (is ∙ ap (λ o. kind.Assign o target value) with)
        ∙ rw (at_target got target (Ok (record { made = before; spot = spot })) same done, at_span ranged target ranges, ← one, holds, at_value from value held (in_place later z) also all, one)
