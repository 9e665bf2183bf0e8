-- What stands in each form of expression and initialiser, as it is written.
use Rattle.std.proofs.Common.{◌≡◌, ℤ, Bool, List, [], ◌∷◌, Option, Some, None, map, sym, ap, ◌∙◌}
use Rattle.ix_text.specs.declared.span.Span.{Span}
use Rattle.ix_num.specs.declared.arith.Arith.{Arith}
use Rattle.ix_tree.specs.declared.annot.Ident.{Ident}
use Rattle.ix_tree.specs.declared.annot.TypeTree.{TypeTree}
use Rattle.ix_tree.specs.declared.expr.BinaryOp.{BinaryOp}
use Rattle.ix_tree.specs.declared.expr.UnaryOp.{UnaryOp}
use Rattle.ix_tree.specs.declared.expr.Expr.{Expr, fold-roll-Expr}
use Rattle.ix_tree.specs.declared.expr.ExprKind.{ExprKind, ExprKind-F, fold-ExprKind, fold-roll-ExprKind}
use Rattle.ix_tree.specs.declared.expr.ExprKind.TheVariants.{rolls-Int, rolls-Bool, rolls-Null, rolls-This, rolls-Name, rolls-Select, rolls-Index, rolls-Call, rolls-New, rolls-NewArray, rolls-NewItems, rolls-Unary, rolls-Binary, rolls-Assign, rolls-Step}
use Rattle.ix_tree.specs.declared.expr.ExprKind.TheVariants as e
use Rattle.ix_tree.specs.declared.expr.Init.{Init, Init-F, fold-roll-Init}
use Rattle.ix_tree.specs.declared.expr.Init.TheVariants.{rolls-Value, rolls-Items}
use Rattle.ix_tree.specs.declared.expr.Init.TheVariants as i
use Rattle.ix_tree.specs.Placed.{Layout, piece, name_piece, new_type_piece, kind_pieces, init_of, expr_of, expr_piece, init_piece}

abbrev pub kind_row : ExprKind → List Layout
kind_row = fold-ExprKind (List Layout) Layout Layout kind_pieces init_of expr_of

pub expr_is : (k : ExprKind) (s : Span) → expr_piece (record { kind = k; span = s }) ≡ piece s (kind_row k)
expr_is k s = fold-roll-Expr (List Layout) Layout Layout kind_pieces init_of expr_of (record { kind = k; span = s })

-- ---- expressions

pub int_kind : (n : ℤ) → kind_row (e.Int n) ≡ []
int_kind n = ap kind_row (sym (rolls-Int n)) ∙ fold-roll-ExprKind (List Layout) Layout Layout kind_pieces init_of expr_of (ExprKind-F.Int n)

pub bool_kind : (b : Bool) → kind_row (e.Bool b) ≡ []
bool_kind b = ap kind_row (sym (rolls-Bool b)) ∙ fold-roll-ExprKind (List Layout) Layout Layout kind_pieces init_of expr_of (ExprKind-F.Bool b)

pub null_kind : kind_row (e.Null) ≡ []
null_kind = ap kind_row (sym (rolls-Null)) ∙ fold-roll-ExprKind (List Layout) Layout Layout kind_pieces init_of expr_of (ExprKind-F.Null)

pub this_kind : kind_row (e.This) ≡ []
this_kind = ap kind_row (sym (rolls-This)) ∙ fold-roll-ExprKind (List Layout) Layout Layout kind_pieces init_of expr_of (ExprKind-F.This)

pub name_kind : (x : Ident) → kind_row (e.Name x) ≡ name_piece x ∷ []
name_kind x = ap kind_row (sym (rolls-Name x)) ∙ fold-roll-ExprKind (List Layout) Layout Layout kind_pieces init_of expr_of (ExprKind-F.Name x)

pub select_kind : (f : Expr) (x : Ident) → kind_row (e.Select f x) ≡ expr_piece f ∷ name_piece x ∷ []
select_kind f x = ap kind_row (sym (rolls-Select f x)) ∙ fold-roll-ExprKind (List Layout) Layout Layout kind_pieces init_of expr_of (ExprKind-F.Select f x)

pub index_kind : (f g : Expr) → kind_row (e.Index f g) ≡ expr_piece f ∷ expr_piece g ∷ []
index_kind f g = ap kind_row (sym (rolls-Index f g)) ∙ fold-roll-ExprKind (List Layout) Layout Layout kind_pieces init_of expr_of (ExprKind-F.Index f g)

pub call_kind : (x : Ident) (args : List Expr) → kind_row (e.Call None x args) ≡ name_piece x ∷ map expr_piece args
call_kind x args = ap kind_row (sym (rolls-Call None x args)) ∙ fold-roll-ExprKind (List Layout) Layout Layout kind_pieces init_of expr_of (ExprKind-F.Call None x args)

pub call_on_kind : (f : Expr) (x : Ident) (args : List Expr) → kind_row (e.Call (Some f) x args) ≡ expr_piece f ∷ name_piece x ∷ map expr_piece args
call_on_kind f x args = ap kind_row (sym (rolls-Call (Some f) x args)) ∙ fold-roll-ExprKind (List Layout) Layout Layout kind_pieces init_of expr_of (ExprKind-F.Call (Some f) x args)

pub new_kind : (x : Ident) (args : List Expr) → kind_row (e.New x args) ≡ name_piece x ∷ map expr_piece args
new_kind x args = ap kind_row (sym (rolls-New x args)) ∙ fold-roll-ExprKind (List Layout) Layout Layout kind_pieces init_of expr_of (ExprKind-F.New x args)

pub new_array_kind : (t : TypeTree) (f : Expr) → kind_row (e.NewArray t f) ≡ new_type_piece t (expr_piece f ∷ []) ∷ []
new_array_kind t f = ap kind_row (sym (rolls-NewArray t f)) ∙ fold-roll-ExprKind (List Layout) Layout Layout kind_pieces init_of expr_of (ExprKind-F.NewArray t f)

pub new_items_kind : (t : TypeTree) (items : List Init) → kind_row (e.NewItems t items) ≡ new_type_piece t [] ∷ map init_piece items
new_items_kind t items = ap kind_row (sym (rolls-NewItems t items)) ∙ fold-roll-ExprKind (List Layout) Layout Layout kind_pieces init_of expr_of (ExprKind-F.NewItems t items)

pub unary_kind : (op : UnaryOp) (f : Expr) → kind_row (e.Unary op f) ≡ expr_piece f ∷ []
unary_kind op f = ap kind_row (sym (rolls-Unary op f)) ∙ fold-roll-ExprKind (List Layout) Layout Layout kind_pieces init_of expr_of (ExprKind-F.Unary op f)

pub binary_kind : (op : BinaryOp) (f g : Expr) → kind_row (e.Binary op f g) ≡ expr_piece f ∷ expr_piece g ∷ []
binary_kind op f g = ap kind_row (sym (rolls-Binary op f g)) ∙ fold-roll-ExprKind (List Layout) Layout Layout kind_pieces init_of expr_of (ExprKind-F.Binary op f g)

pub assign_kind : (op : Option Arith) (f g : Expr) → kind_row (e.Assign op f g) ≡ expr_piece f ∷ expr_piece g ∷ []
assign_kind op f g = ap kind_row (sym (rolls-Assign op f g)) ∙ fold-roll-ExprKind (List Layout) Layout Layout kind_pieces init_of expr_of (ExprKind-F.Assign op f g)

pub step_is : (up after : Bool) (f : Expr) → kind_row (e.Step up after f) ≡ expr_piece f ∷ []
step_is up after f = ap kind_row (sym (rolls-Step up after f)) ∙ fold-roll-ExprKind (List Layout) Layout Layout kind_pieces init_of expr_of (ExprKind-F.Step up after f)

-- ---- initialisers

pub value_is : (f : Expr) → init_piece (i.Value f) ≡ expr_piece f
value_is f = ap init_piece (sym (rolls-Value f)) ∙ fold-roll-Init (List Layout) Layout Layout kind_pieces init_of expr_of (Init-F.Value f)

pub items_are : (items : List Init) (span : Span) → init_piece (i.Items items span) ≡ piece span (map init_piece items)
items_are items span = ap init_piece (sym (rolls-Items items span)) ∙ fold-roll-Init (List Layout) Layout Layout kind_pieces init_of expr_of (Init-F.Items items span)
