-- What the last part of an expression gives, and what an element becomes, part by part. The answers of the functions that make them cite these.
use Rattle.std.proofs.Common.{◌≡◌, ℕ, Result, Ok, Err, IfOk, sym, ap, ◌∙◌}
use Rattle.ix_core.specs.declared.op.OpKind.TheVariants as op
use Rattle.ix_meaning.specs.declared.note.Which.{Which}
use Rattle.ix_text.specs.declared.span.Span.{Span}
use Rattle.ix_tree.specs.declared.expr.Expr.{Expr, fold-roll-Expr}
use Rattle.ix_tree.specs.declared.expr.ExprKind.{ExprKind, ExprKind-F, fold-ExprKind, fold-roll-ExprKind}
use Rattle.ix_tree.specs.declared.expr.ExprKind.TheVariants as kind
use Rattle.ix_tree.specs.declared.expr.ExprKind.TheVariants.{rolls-Index}
use Rattle.ix_plain.specs.declared.made.Made.{Made}
use Rattle.ix_plain.specs.declared.made.Stop.{Stop}
use Rattle.ix_plain.specs.Parts.{Within, Value, in_place, computed}
use Rattle.ix_plain.specs.Scope.{Scope, type_at}
use Rattle.ix_plain.specs.Values.{Lowering, Filling, kind_step, init_step, expr_step, lowering, element}
use Rattle.ix_lower_expressions.proofs.InTurn.{span_is}

-- what the last part gives is what the whole gives
pub carried : {A : Type 0} {whole rest : Within Value} (answer : A → Within Value) (r : Result A Stop) → whole ≡ rest → IfOk r (λ at. rest ≡ answer at) → IfOk r (λ at. whole ≡ answer at)
carried answer (Ok made) so is = so ∙ is
carried answer (Err given) so is = tt

abbrev kind_lowering : ExprKind → Span → Lowering
kind_lowering = fold-ExprKind (Span → Lowering) Filling Lowering kind_step init_step expr_step

module _ (expr : Expr) (scope : Scope) (made : Made) (array index got : Expr) (is : expr.kind ≡ kind.Index array index) (same : got ≡ array) where
  value_is : (lowering expr).value scope made ≡ (element (lowering array) (lowering index) expr.span).value scope made
  value_is =
      ap (λ (l : Lowering). l.value scope made) (fold-roll-Expr (Span → Lowering) Filling Lowering kind_step init_step expr_step (record { kind = expr.kind; span = expr.span }))
      ∙ (ap (λ (k : ExprKind). (kind_lowering k expr.span).value scope made) (is ∙ sym (rolls-Index array index))
      ∙ ap (λ (l : Span → Lowering). (l expr.span).value scope made) (fold-roll-ExprKind (Span → Lowering) Filling Lowering kind_step init_step expr_step (ExprKind-F.Index array index)))

  target_is : (lowering expr).target scope made ≡ (element (lowering array) (lowering index) expr.span).target scope made
  target_is =
      ap (λ (l : Lowering). l.target scope made) (fold-roll-Expr (Span → Lowering) Filling Lowering kind_step init_step expr_step (record { kind = expr.kind; span = expr.span }))
      ∙ (ap (λ (k : ExprKind). (kind_lowering k expr.span).target scope made) (is ∙ sym (rolls-Index array index))
      ∙ ap (λ (l : Span → Lowering). (l expr.span).target scope made) (fold-roll-ExprKind (Span → Lowering) Filling Lowering kind_step init_step expr_step (ExprKind-F.Index array index)))

  array_is : (answer : Within Value) → (lowering got).value scope made ≡ answer → (lowering array).value scope made ≡ answer
  array_is answer done = ap (λ e. (lowering e).value scope made) (sym same) ∙ done

  pub array_refused : (which : Which) → (lowering got).value scope made ≡ Err which → (lowering expr).value scope made ≡ Err which
  array_refused which refused = value_is ∙ rw (array_is (Err which) refused)

  pub cell_array_refused : (which : Which) → (lowering got).value scope made ≡ Err which → (lowering expr).target scope made ≡ Err which
  cell_array_refused which refused = target_is ∙ rw (array_is (Err which) refused)

  module _ (before : Made) (a : ℕ) (also : Expr) (done : (lowering got).value scope made ≡ in_place before a) (alike : also ≡ index) where
    index_is : (answer : Within Value) → (lowering also).value scope before ≡ answer → (lowering index).value scope before ≡ answer
    index_is answer given = ap (λ e. (lowering e).value scope before) (sym alike) ∙ given

    pub index_refused : (which : Which) → (lowering also).value scope before ≡ Err which → (lowering expr).value scope made ≡ Err which
    index_refused which refused = value_is ∙ rw (array_is (in_place before a) done, index_is (Err which) refused)

    pub cell_index_refused : (which : Which) → (lowering also).value scope before ≡ Err which → (lowering expr).target scope made ≡ Err which
    cell_index_refused which refused = target_is ∙ rw (array_is (in_place before a) done, index_is (Err which) refused)

    pub element_made : (later : Made) (i : ℕ) (spanned ranged : Expr) → (lowering also).value scope before ≡ in_place later i → spanned ≡ array → ranged ≡ index
        → (lowering expr).value scope made ≡ computed later (op.Load later.free a i (type_at scope spanned.span)) ranged.span
    element_made later i spanned ranged given spans ranges =
        value_is ∙ rw (array_is (in_place before a) done, index_is (in_place later i) given, span_is array ∙ ap (λ e. e.span) (sym spans), span_is index ∙ ap (λ e. e.span) (sym ranges))
