-- An initialiser is the same literal at its place moved.
use Rattle.std.proofs.Common.{◌≡◌, ℤ, map, Option, Some, None, sym, ap, ◌∙◌, subst}
use Rattle.ix_tree.specs.declared.expr.Expr.{Expr, Expr-F, fold-Expr, map-Expr, roll-Expr, fold-roll-Expr}
use Rattle.ix_tree.specs.declared.expr.ExprKind.{ExprKind, ExprKind-F, map-ExprKind, roll-ExprKind, fold-ExprKind, fold-roll-ExprKind}
use Rattle.ix_tree.specs.declared.expr.Init.{Init, Init-F, ind-Init, map-Init, roll-Init, fold-roll-Init}
use Rattle.ix_tree.proofs.FoldsOfForms as fold
use Rattle.ix_meaning.specs.Members.{Literal, literal_step, literal_init_step, literal}
use Rattle.ix_guard_text.specs.Moved as moved
use Rattle.ix_guard_text.specs.Moved.{Move, moved_span, moved_name, moved_type, moved_expr, moved_init}

module _ (move : Move) where
  abbrev literal_of : Expr-F Literal (Option ℤ) Literal → Literal
  literal_of e = e.kind

  abbrev kind_literal : ExprKind → Literal
  kind_literal = fold-ExprKind Literal (Option ℤ) Literal literal_step literal_init_step literal_of

  abbrev expr_literal : Expr → Literal
  expr_literal = fold-Expr Literal (Option ℤ) Literal literal_step literal_init_step literal_of

  abbrev kind_moved : ExprKind → ExprKind
  kind_moved = fold-ExprKind ExprKind Init Expr (moved.kind_step move) (moved.init_step move) (moved.expr_step move)

  abbrev KindIs : ExprKind → Type 0
  KindIs k = kind_literal (kind_moved k) ≡ kind_literal k

  abbrev InitIs : Init → Type 0
  InitIs i = literal (moved_init move i) ≡ literal i

  abbrev ExprIs : Expr → Type 0
  ExprIs e = expr_literal (moved_expr move e) ≡ expr_literal e

  module _ {K I E : Type 0} (kind : K → ExprKind) (init : I → Init) (expr : E → Expr) (expr_is : (e : E) → ExprIs (expr e)) where
    abbrev moved_of : E → Expr
    moved_of e = moved_expr move (expr e)

    kind_layer : (y : ExprKind-F K I E) → let layer = map-ExprKind K I E ExprKind Init Expr kind init expr y in
        kind_literal (moved.kind_step move (map-ExprKind ExprKind Init Expr ExprKind Init Expr kind_moved (moved_init move) (moved_expr move) layer))
        ≡ literal_step (map-ExprKind ExprKind Init Expr Literal (Option ℤ) Literal kind_literal literal expr_literal layer)
    kind_layer (ExprKind-F.Int n) = fold.int_kind literal_step literal_init_step literal_of n
    kind_layer (ExprKind-F.Bool answer) = fold.bool_kind literal_step literal_init_step literal_of answer
    kind_layer ExprKind-F.Null = fold.null_kind literal_step literal_init_step literal_of
    kind_layer ExprKind-F.This = fold.this_kind literal_step literal_init_step literal_of
    kind_layer (ExprKind-F.Name name) = fold.name_kind literal_step literal_init_step literal_of (moved_name move name)
    kind_layer (ExprKind-F.Select object name) = fold.select_kind literal_step literal_init_step literal_of (moved_of object) (moved_name move name)
    kind_layer (ExprKind-F.Index array index) = fold.index_kind literal_step literal_init_step literal_of (moved_of array) (moved_of index)
    kind_layer (ExprKind-F.Call None name args) = fold.call_kind literal_step literal_init_step literal_of (moved_name move name) (map (moved_expr move) (map expr args))
    kind_layer (ExprKind-F.Call (Some object) name args) = fold.call_on_kind literal_step literal_init_step literal_of (moved_of object) (moved_name move name) (map (moved_expr move) (map expr args))
    kind_layer (ExprKind-F.New name args) = fold.new_kind literal_step literal_init_step literal_of (moved_name move name) (map (moved_expr move) (map expr args))
    kind_layer (ExprKind-F.NewArray ty size) = fold.new_array_kind literal_step literal_init_step literal_of (moved_type move ty) (moved_of size)
    kind_layer (ExprKind-F.NewItems ty items) = fold.new_items_kind literal_step literal_init_step literal_of (moved_type move ty) (map (moved_init move) (map init items))
    kind_layer (ExprKind-F.Unary op operand) = fold.unary_kind literal_step literal_init_step literal_of op (moved_of operand) ∙ ap (λ (l : Literal). literal_step (ExprKind-F.Unary op l)) (expr_is operand)
    kind_layer (ExprKind-F.Binary op left right) = fold.binary_kind literal_step literal_init_step literal_of op (moved_of left) (moved_of right)
    kind_layer (ExprKind-F.Assign op target source) = fold.assign_kind literal_step literal_init_step literal_of op (moved_of target) (moved_of source)
    kind_layer (ExprKind-F.Step up after target) = fold.step_kind literal_step literal_init_step literal_of up after (moved_of target)

    kind_rolled : (y : ExprKind-F K I E) → KindIs (roll-ExprKind (map-ExprKind K I E ExprKind Init Expr kind init expr y))
    kind_rolled y =
        let layer = map-ExprKind K I E ExprKind Init Expr kind init expr y in
        ap kind_literal (fold-roll-ExprKind ExprKind Init Expr (moved.kind_step move) (moved.init_step move) (moved.expr_step move) layer)
        ∙ kind_layer y
        ∙ sym (fold-roll-ExprKind Literal (Option ℤ) Literal literal_step literal_init_step literal_of layer)

    init_layer : (y : Init-F K I E) → let layer = map-Init K I E ExprKind Init Expr kind init expr y in
        literal (moved.init_step move (map-Init ExprKind Init Expr ExprKind Init Expr kind_moved (moved_init move) (moved_expr move) layer))
        ≡ literal_init_step (map-Init ExprKind Init Expr Literal (Option ℤ) Literal kind_literal literal expr_literal layer)
    init_layer (Init-F.Value e) = fold.value_is literal_step literal_init_step literal_of (moved_of e) ∙ ap (λ (l : Literal). l.value) (expr_is e)
    init_layer (Init-F.Items items span) = fold.items_are literal_step literal_init_step literal_of (map (moved_init move) (map init items)) (moved_span move span)

    init_rolled : (y : Init-F K I E) → InitIs (roll-Init (map-Init K I E ExprKind Init Expr kind init expr y))
    init_rolled y =
        let layer = map-Init K I E ExprKind Init Expr kind init expr y in
        ap literal (fold-roll-Init ExprKind Init Expr (moved.kind_step move) (moved.init_step move) (moved.expr_step move) layer)
        ∙ init_layer y
        ∙ sym (fold-roll-Init Literal (Option ℤ) Literal literal_step literal_init_step literal_of layer)

    expr_rolled : ((k : K) → KindIs (kind k)) → (y : Expr-F K I E) → ExprIs (roll-Expr (map-Expr K I E ExprKind Init Expr kind init expr y))
    expr_rolled kind_is y =
        let layer = map-Expr K I E ExprKind Init Expr kind init expr y in
        ap expr_literal (fold-roll-Expr ExprKind Init Expr (moved.kind_step move) (moved.init_step move) (moved.expr_step move) layer)
        ∙ fold.expr_is literal_step literal_init_step literal_of (kind_moved (kind y.kind)) (moved_span move y.span)
        ∙ kind_is y.kind
        ∙ sym (fold-roll-Expr Literal (Option ℤ) Literal literal_step literal_init_step literal_of layer)

  pub literal_moved : (i : Init) → literal (moved_init move i) ≡ literal i
  literal_moved = ind-Init KindIs InitIs ExprIs
      (λ x y e. subst (λ layer. KindIs (roll-ExprKind layer)) e (kind_rolled (λ k. k.0) (λ i. i.0) (λ x. x.0) (λ x. x.1) y))
      (λ x y e. subst (λ layer. InitIs (roll-Init layer)) e (init_rolled (λ k. k.0) (λ i. i.0) (λ x. x.0) (λ x. x.1) y))
      (λ x y e. subst (λ layer. ExprIs (roll-Expr layer)) e (expr_rolled (λ k. k.0) (λ i. i.0) (λ x. x.0) (λ x. x.1) (λ k. k.1) y))
