-- What a new object, a new array and the target of a field become, part by part. The answers of the functions that make them cite these.
use Rattle.std.proofs.Common.{◌≡◌, ℕ, List, [], map, Err, sym, ap, ◌∙◌}
use Rattle.ix_core.specs.declared.op.OpKind.TheVariants as op
use Rattle.ix_tree.specs.declared.annot.Ident.{Ident}
use Rattle.ix_meaning.specs.declared.note.Which.{Which}
use Rattle.ix_text.specs.declared.span.Span.{Span}
use Rattle.ix_tree.specs.declared.annot.TypeTree.{TypeTree}
use Rattle.ix_tree.specs.declared.expr.Expr.{Expr, fold-roll-Expr}
use Rattle.ix_tree.specs.declared.expr.ExprKind.{ExprKind, ExprKind-F, fold-ExprKind, fold-roll-ExprKind}
use Rattle.ix_tree.specs.declared.expr.ExprKind.TheVariants as kind
use Rattle.ix_tree.specs.declared.expr.ExprKind.TheVariants.{rolls-New, rolls-NewArray, rolls-Select}
use Rattle.ix_plain.specs.declared.made.Made.{Made}
use Rattle.ix_plain.specs.Parts.{in_place, computed}
use Rattle.ix_plain.specs.Scope.{Scope, type_at}
use Rattle.ix_plain.specs.Values.{Lowering, Filling, kind_step, init_step, expr_step, lowering, new_array, new_object, selection, arguments_from}
use Rattle.ix_lower_expressions.proofs.InTurn.{span_is}

abbrev kind_lowering : ExprKind → Span → Lowering
kind_lowering = fold-ExprKind (Span → Lowering) Filling Lowering kind_step init_step expr_step

module _ (expr : Expr) (scope : Scope) (made : Made) where
  by_kind : {A : Type 0} (read : Lowering → A) (k : ExprKind) → expr.kind ≡ k → read (lowering expr) ≡ read (expr_step (record { kind = kind_lowering k; span = expr.span }))
  by_kind read k is =
      ap read (fold-roll-Expr (Span → Lowering) Filling Lowering kind_step init_step expr_step (record { kind = expr.kind; span = expr.span }))
      ∙ ap (λ (k : ExprKind). read (expr_step (record { kind = kind_lowering k; span = expr.span }))) is

  array_is : (ty : TypeTree) (size : Expr) → expr.kind ≡ kind.NewArray ty size → (lowering expr).value scope made ≡ (new_array (lowering size) expr.span).value scope made
  array_is ty size is =
      by_kind (λ l. l.value scope made) (kind.NewArray ty size) is
      ∙ (ap (λ (k : ExprKind). (kind_lowering k expr.span).value scope made) (sym (rolls-NewArray ty size))
      ∙ ap (λ (l : Span → Lowering). (l expr.span).value scope made) (fold-roll-ExprKind (Span → Lowering) Filling Lowering kind_step init_step expr_step (ExprKind-F.NewArray ty size)))

  object_is : (name : Ident) (args : List Expr) → expr.kind ≡ kind.New name args → (lowering expr).value scope made ≡ (new_object name (map lowering args) expr.span).value scope made
  object_is name args is =
      by_kind (λ l. l.value scope made) (kind.New name args) is
      ∙ (ap (λ (k : ExprKind). (kind_lowering k expr.span).value scope made) (sym (rolls-New name args))
      ∙ ap (λ (l : Span → Lowering). (l expr.span).value scope made) (fold-roll-ExprKind (Span → Lowering) Filling Lowering kind_step init_step expr_step (ExprKind-F.New name args)))

  field_is : (object : Expr) (name : Ident) → expr.kind ≡ kind.Select object name → (lowering expr).target scope made ≡ (selection (lowering object) name expr.span).target scope made
  field_is object name is =
      by_kind (λ l. l.target scope made) (kind.Select object name) is
      ∙ (ap (λ (k : ExprKind). (kind_lowering k expr.span).target scope made) (sym (rolls-Select object name))
      ∙ ap (λ (l : Span → Lowering). (l expr.span).target scope made) (fold-roll-ExprKind (Span → Lowering) Filling Lowering kind_step init_step expr_step (ExprKind-F.Select object name)))

  pub size_refused : (ty : TypeTree) (size got : Expr) (which : Which) → expr.kind ≡ kind.NewArray ty size → got ≡ size → (lowering got).value scope made ≡ Err which
      → (lowering expr).value scope made ≡ Err which
  size_refused ty size got which is same refused = array_is ty size is ∙ rw (ap (λ e. (lowering e).value scope made) (sym same) ∙ refused)

  pub array_made : (ty : TypeTree) (size got spanned : Expr) (later : Made) (n : ℕ) → expr.kind ≡ kind.NewArray ty size → got ≡ size → spanned ≡ size
      → (lowering got).value scope made ≡ in_place later n → (lowering expr).value scope made ≡ computed later (op.NewArray later.free (type_at scope expr.span) n) spanned.span
  array_made ty size got spanned later n is same spans done =
      array_is ty size is ∙ rw (ap (λ e. (lowering e).value scope made) (sym same) ∙ done, span_is size ∙ ap (λ e. e.span) (sym spans))

  pub given_refused : (name : Ident) (args given : List Expr) (which : Which) → expr.kind ≡ kind.New name args → given ≡ args → arguments_from [] (map lowering given) scope made ≡ Err which
      → (lowering expr).value scope made ≡ Err which
  given_refused name args given which is same refused = object_is name args is ∙ rw (ap (λ all. arguments_from [] (map lowering all) scope made) (sym same) ∙ refused)

  pub object_refused : (object got : Expr) (name : Ident) (which : Which) → expr.kind ≡ kind.Select object name → got ≡ object → (lowering got).value scope made ≡ Err which
      → (lowering expr).target scope made ≡ Err which
  object_refused object got name which is same refused = field_is object name is ∙ rw (ap (λ e. (lowering e).value scope made) (sym same) ∙ refused)
