-- The height of each form of expression and initialiser.
use Rattle.std.proofs.Common.{◌≡◌, ◌+◌, ℕ, ℤ, max, Bool, List, [], ◌∷◌, ◌++◌, Option, Some, None, sym, ap, ◌∙◌, arith}
use Rattle.ix_text.specs.declared.span.Span.{Span}
use Rattle.ix_num.specs.declared.arith.Arith.{Arith}
use Rattle.ix_tree.specs.declared.annot.Ident.{Ident}
use Rattle.ix_tree.specs.declared.annot.TypeTree.{TypeTree}
use Rattle.ix_tree.specs.declared.expr.BinaryOp.{BinaryOp}
use Rattle.ix_tree.specs.declared.expr.UnaryOp.{UnaryOp}
use Rattle.ix_tree.specs.declared.expr.Expr.{Expr, fold-roll-Expr}
use Rattle.ix_tree.specs.declared.expr.ExprKind.{ExprKind, ExprKind-F, fold-ExprKind, fold-roll-ExprKind}
use Rattle.ix_tree.specs.declared.expr.ExprKind.TheVariants.{rolls-Int, rolls-Bool, rolls-Null, rolls-This, rolls-Name, rolls-Select, rolls-Index, rolls-Call, rolls-New, rolls-NewArray, rolls-NewItems, rolls-Unary, rolls-Binary, rolls-Assign, rolls-Step}
use Rattle.ix_tree.specs.declared.expr.ExprKind.TheVariants as e
use Rattle.ix_tree.specs.declared.expr.Init.{Init, Init-F, fold-roll-Init}
use Rattle.ix_tree.specs.declared.expr.Init.TheVariants.{rolls-Value, rolls-Items}
use Rattle.ix_tree.specs.declared.expr.Init.TheVariants as i
use Rattle.ix_tree.specs.Heights.{of_all, type_height, kind_height, height_of_init, height_of_expr, expr_height, init_height}

abbrev pub kind_high : ExprKind → ℕ
kind_high = fold-ExprKind ℕ ℕ ℕ kind_height height_of_init height_of_expr

pub expr_is : (k : ExprKind) (s : Span) → expr_height (record { kind = k; span = s }) ≡ 1 + kind_high k
expr_is k s = fold-roll-Expr ℕ ℕ ℕ kind_height height_of_init height_of_expr (record { kind = k; span = s })

-- ---- expressions

pub int_kind : (n : ℤ) → kind_high (e.Int n) ≡ 0
int_kind n = ap kind_high (sym (rolls-Int n)) ∙ fold-roll-ExprKind ℕ ℕ ℕ kind_height height_of_init height_of_expr (ExprKind-F.Int n)

pub bool_kind : (b : Bool) → kind_high (e.Bool b) ≡ 0
bool_kind b = ap kind_high (sym (rolls-Bool b)) ∙ fold-roll-ExprKind ℕ ℕ ℕ kind_height height_of_init height_of_expr (ExprKind-F.Bool b)

pub null_kind : kind_high (e.Null) ≡ 0
null_kind = ap kind_high (sym (rolls-Null)) ∙ fold-roll-ExprKind ℕ ℕ ℕ kind_height height_of_init height_of_expr (ExprKind-F.Null)

pub this_kind : kind_high (e.This) ≡ 0
this_kind = ap kind_high (sym (rolls-This)) ∙ fold-roll-ExprKind ℕ ℕ ℕ kind_height height_of_init height_of_expr (ExprKind-F.This)

pub name_kind : (x : Ident) → kind_high (e.Name x) ≡ 1
name_kind x = ap kind_high (sym (rolls-Name x)) ∙ fold-roll-ExprKind ℕ ℕ ℕ kind_height height_of_init height_of_expr (ExprKind-F.Name x)

pub select_kind : (f : Expr) (x : Ident) → kind_high (e.Select f x) ≡ max (expr_height f) 1
select_kind f x = ap kind_high (sym (rolls-Select f x)) ∙ fold-roll-ExprKind ℕ ℕ ℕ kind_height height_of_init height_of_expr (ExprKind-F.Select f x)

pub index_kind : (f g : Expr) → kind_high (e.Index f g) ≡ max (expr_height f) (expr_height g)
index_kind f g = ap kind_high (sym (rolls-Index f g)) ∙ fold-roll-ExprKind ℕ ℕ ℕ kind_height height_of_init height_of_expr (ExprKind-F.Index f g)

pub call_kind : (x : Ident) (args : List Expr) → kind_high (e.Call None x args) ≡ max 0 (max 1 (of_all expr_height args))
call_kind x args = ap kind_high (sym (rolls-Call None x args)) ∙ fold-roll-ExprKind ℕ ℕ ℕ kind_height height_of_init height_of_expr (ExprKind-F.Call None x args)

pub call_on_kind : (f : Expr) (x : Ident) (args : List Expr) → kind_high (e.Call (Some f) x args) ≡ max (expr_height f) (max 1 (of_all expr_height args))
call_on_kind f x args = ap kind_high (sym (rolls-Call (Some f) x args)) ∙ fold-roll-ExprKind ℕ ℕ ℕ kind_height height_of_init height_of_expr (ExprKind-F.Call (Some f) x args)

pub new_kind : (x : Ident) (args : List Expr) → kind_high (e.New x args) ≡ max 1 (of_all expr_height args)
new_kind x args = ap kind_high (sym (rolls-New x args)) ∙ fold-roll-ExprKind ℕ ℕ ℕ kind_height height_of_init height_of_expr (ExprKind-F.New x args)

pub new_array_kind : (t : TypeTree) (f : Expr) → kind_high (e.NewArray t f) ≡ max (type_height t) (expr_height f)
new_array_kind t f = ap kind_high (sym (rolls-NewArray t f)) ∙ fold-roll-ExprKind ℕ ℕ ℕ kind_height height_of_init height_of_expr (ExprKind-F.NewArray t f)

pub new_items_kind : (t : TypeTree) (items : List Init) → kind_high (e.NewItems t items) ≡ max (type_height t) (of_all init_height items)
new_items_kind t items = ap kind_high (sym (rolls-NewItems t items)) ∙ fold-roll-ExprKind ℕ ℕ ℕ kind_height height_of_init height_of_expr (ExprKind-F.NewItems t items)

pub unary_kind : (op : UnaryOp) (f : Expr) → kind_high (e.Unary op f) ≡ expr_height f
unary_kind op f = ap kind_high (sym (rolls-Unary op f)) ∙ fold-roll-ExprKind ℕ ℕ ℕ kind_height height_of_init height_of_expr (ExprKind-F.Unary op f)

pub binary_kind : (op : BinaryOp) (f g : Expr) → kind_high (e.Binary op f g) ≡ max (expr_height f) (expr_height g)
binary_kind op f g = ap kind_high (sym (rolls-Binary op f g)) ∙ fold-roll-ExprKind ℕ ℕ ℕ kind_height height_of_init height_of_expr (ExprKind-F.Binary op f g)

pub assign_kind : (op : Option Arith) (f g : Expr) → kind_high (e.Assign op f g) ≡ max (expr_height f) (expr_height g)
assign_kind op f g = ap kind_high (sym (rolls-Assign op f g)) ∙ fold-roll-ExprKind ℕ ℕ ℕ kind_height height_of_init height_of_expr (ExprKind-F.Assign op f g)

pub step_is : (up after : Bool) (f : Expr) → kind_high (e.Step up after f) ≡ expr_height f
step_is up after f = ap kind_high (sym (rolls-Step up after f)) ∙ fold-roll-ExprKind ℕ ℕ ℕ kind_height height_of_init height_of_expr (ExprKind-F.Step up after f)

-- ---- initialisers

pub value_is : (f : Expr) → init_height (i.Value f) ≡ 1 + expr_height f
value_is f = ap init_height (sym (rolls-Value f)) ∙ fold-roll-Init ℕ ℕ ℕ kind_height height_of_init height_of_expr (Init-F.Value f)

pub items_are : (items : List Init) (span : Span) → init_height (i.Items items span) ≡ 1 + of_all init_height items
items_are items span = ap init_height (sym (rolls-Items items span)) ∙ fold-roll-Init ℕ ℕ ℕ kind_height height_of_init height_of_expr (Init-F.Items items span)

-- ---- lists

pub of_joined : {A : Type 0} (height : A → ℕ) (xs : List A) (x : A) → of_all height (xs ++ x ∷ []) ≡ max (of_all height xs) (height x)
of_joined height [] x = omega arith
of_joined height (y ∷ xs) x = omega (arith, of_joined height xs x)
