-- A constant is an int.
use Rattle.std.proofs.Common.{◌≡◌, ℤ, neg_ℤ, Bool, true, Option, Some, None, sym, subst, ◌∙◌}
use Rattle.std.specs.Prelude.{option_map, int_le}
use Rattle.ix_num.specs.Arithmetic.{wrap_of}
use Rattle.ix_num.specs.Ints.{least_int, greatest_int}
use Rattle.ix_num.proofs.RowsInclude.{wrap_is_int, test_true}
use Rattle.ix_core.specs.Machine.{is_int}
use Rattle.ix_tree.specs.declared.expr.UnaryOp.TheVariants as operator
use Rattle.ix_tree.specs.declared.expr.Expr.{Expr, Expr-F, map-Expr, roll-Expr, fold-Expr, fold-roll-Expr}
use Rattle.ix_tree.specs.declared.expr.ExprKind.{ExprKind, ExprKind-F, map-ExprKind, roll-ExprKind, fold-ExprKind, fold-roll-ExprKind}
use Rattle.ix_tree.specs.declared.expr.Init.{Init, Init-F, ind-Init, map-Init, roll-Init, fold-roll-Init}
use Rattle.ix_meaning.specs.Members.{Literal, literal_step, literal_init_step, literal}
use Rattle.ix_formed.specs.Written as trees
use Rattle.ix_formed.specs.Written.{is_written_expr, is_written_init}
use Rattle.ix_formed.proofs.ClaimsFit.{Whenever}
use Rattle.ix_formed.proofs.NumberLists.{both_true}

pub wrapped_is_int : (n : ℤ) → is_int (wrap_of n) ≡ true
wrapped_is_int n =
    let int = wrap_is_int n in
    both_true (int_le least_int (wrap_of n)) (int_le (wrap_of n) greatest_int) (test_true least_int (wrap_of n) int.from) (test_true (wrap_of n) greatest_int int.to)

abbrev Int : Option ℤ → Type 0
Int o = Whenever (λ n. is_int n ≡ true) o

abbrev IsLiteral : Literal → Type 0
IsLiteral l = Int l.int × Int l.value

abbrev expr_literal : Expr → Literal
expr_literal = fold-Expr Literal (Option ℤ) Literal literal_step literal_init_step (λ e. e.kind)

abbrev kind_literal : ExprKind → Literal
kind_literal = fold-ExprKind Literal (Option ℤ) Literal literal_step literal_init_step (λ e. e.kind)

abbrev kind_written : ExprKind → Bool
kind_written = fold-ExprKind Bool Bool Bool trees.kind_step trees.init_step trees.expr_step

abbrev KindIs : ExprKind → Type 0
KindIs k = kind_written k ≡ true → IsLiteral (kind_literal k)

abbrev InitIs : Init → Type 0
InitIs i = is_written_init i ≡ true → Int (literal i)

abbrev ExprIs : Expr → Type 0
ExprIs e = is_written_expr e ≡ true → IsLiteral (expr_literal e)

negated : (o : Option ℤ) → Int (option_map (λ n. wrap_of (neg_ℤ n)) o)
negated None = tt
negated (Some n) = wrapped_is_int (neg_ℤ n)

module _ {K I E : Type 0} (kind : K → ExprKind) (init : I → Init) (expr : E → Expr) (expr_is : (e : E) → ExprIs (expr e)) where
  kind_layer : (y : ExprKind-F K I E)
      → trees.kind_step (map-ExprKind ExprKind Init Expr Bool Bool Bool kind_written is_written_init is_written_expr (map-ExprKind K I E ExprKind Init Expr kind init expr y)) ≡ true
      → IsLiteral (literal_step (map-ExprKind ExprKind Init Expr Literal (Option ℤ) Literal kind_literal literal expr_literal (map-ExprKind K I E ExprKind Init Expr kind init expr y)))
  kind_layer (ExprKind-F.Int n) w = (w, w)
  kind_layer (ExprKind-F.Bool answer) w = (tt, tt)
  kind_layer ExprKind-F.Null w = (tt, tt)
  kind_layer ExprKind-F.This w = (tt, tt)
  kind_layer (ExprKind-F.Name name) w = (tt, tt)
  kind_layer (ExprKind-F.Select object name) w = (tt, tt)
  kind_layer (ExprKind-F.Index array index) w = (tt, tt)
  kind_layer (ExprKind-F.Call object name args) w = (tt, tt)
  kind_layer (ExprKind-F.New name args) w = (tt, tt)
  kind_layer (ExprKind-F.NewArray ty size) w = (tt, tt)
  kind_layer (ExprKind-F.NewItems ty items) w = (tt, tt)
  kind_layer (ExprKind-F.Unary operator.Minus operand) w = (tt, negated (expr_literal (expr operand)).int)
  kind_layer (ExprKind-F.Unary operator.Plus operand) w = (tt, tt)
  kind_layer (ExprKind-F.Unary operator.Not operand) w = (tt, tt)
  kind_layer (ExprKind-F.Unary operator.Flip operand) w = (tt, tt)
  kind_layer (ExprKind-F.Binary op left right) w = (tt, tt)
  kind_layer (ExprKind-F.Assign op target value) w = (tt, tt)
  kind_layer (ExprKind-F.Step up after target) w = (tt, tt)

  kind_rolled : (y : ExprKind-F K I E) → KindIs (roll-ExprKind (map-ExprKind K I E ExprKind Init Expr kind init expr y))
  kind_rolled y w =
      let layer = map-ExprKind K I E ExprKind Init Expr kind init expr y in
      let a = fold-roll-ExprKind Literal (Option ℤ) Literal literal_step literal_init_step (λ e. e.kind) layer in
      let b = fold-roll-ExprKind Bool Bool Bool trees.kind_step trees.init_step trees.expr_step layer in
      subst IsLiteral (sym a) (kind_layer y (sym b ∙ w))

  init_layer : (y : Init-F K I E)
      → trees.init_step (map-Init ExprKind Init Expr Bool Bool Bool kind_written is_written_init is_written_expr (map-Init K I E ExprKind Init Expr kind init expr y)) ≡ true
      → Int (literal_init_step (map-Init ExprKind Init Expr Literal (Option ℤ) Literal kind_literal literal expr_literal (map-Init K I E ExprKind Init Expr kind init expr y)))
  init_layer (Init-F.Value e) w = (expr_is e w).1
  init_layer (Init-F.Items items span) w = tt

  init_rolled : (y : Init-F K I E) → InitIs (roll-Init (map-Init K I E ExprKind Init Expr kind init expr y))
  init_rolled y w =
      let layer = map-Init K I E ExprKind Init Expr kind init expr y in
      let a = fold-roll-Init Literal (Option ℤ) Literal literal_step literal_init_step (λ e. e.kind) layer in
      let b = fold-roll-Init Bool Bool Bool trees.kind_step trees.init_step trees.expr_step layer in
      subst Int (sym a) (init_layer y (sym b ∙ w))

  expr_rolled : ((k : K) → KindIs (kind k)) → (y : Expr-F K I E) → ExprIs (roll-Expr (map-Expr K I E ExprKind Init Expr kind init expr y))
  expr_rolled kind_is y w =
      let layer = map-Expr K I E ExprKind Init Expr kind init expr y in
      let a = fold-roll-Expr Literal (Option ℤ) Literal literal_step literal_init_step (λ e. e.kind) layer in
      let b = fold-roll-Expr Bool Bool Bool trees.kind_step trees.init_step trees.expr_step layer in
      subst IsLiteral (sym a) (kind_is y.kind (sym b ∙ w))

pub literal_is_int : (i : Init) → is_written_init i ≡ true → Whenever (λ n. is_int n ≡ true) (literal i)
literal_is_int = ind-Init KindIs InitIs ExprIs
    (λ x y e. subst (λ layer. KindIs (roll-ExprKind layer)) e (kind_rolled (λ k. k.0) (λ i. i.0) (λ x. x.0) (λ x. x.1) y))
    (λ x y e. subst (λ layer. InitIs (roll-Init layer)) e (init_rolled (λ k. k.0) (λ i. i.0) (λ x. x.0) (λ x. x.1) y))
    (λ x y e. subst (λ layer. ExprIs (roll-Expr layer)) e (expr_rolled (λ k. k.0) (λ i. i.0) (λ x. x.0) (λ x. x.1) (λ k. k.1) y))
