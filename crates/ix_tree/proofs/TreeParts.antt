-- The parts of each form of expression and initialiser.
use Rattle.std.proofs.Common.{◌≡◌, ℤ, Bool, List, [], ◌∷◌, ◌++◌, Option, Some, None, map, refl, sym, ap, ◌∙◌}
use Rattle.ix_text.specs.declared.span.Span.{Span}
use Rattle.ix_num.specs.declared.arith.Arith.{Arith}
use Rattle.ix_tree.specs.declared.annot.Ident.{Ident}
use Rattle.ix_tree.specs.declared.annot.TypeTree.{TypeTree}
use Rattle.ix_tree.specs.declared.expr.BinaryOp.{BinaryOp}
use Rattle.ix_tree.specs.declared.expr.UnaryOp.{UnaryOp}
use Rattle.ix_tree.specs.declared.expr.Expr.{Expr, fold-roll-Expr}
use Rattle.ix_tree.specs.declared.expr.ExprKind.{ExprKind, ExprKind-F, fold-ExprKind, fold-roll-ExprKind}
use Rattle.ix_tree.specs.declared.expr.ExprKind.TheVariants.{rolls-Int, rolls-Bool, rolls-Null, rolls-This, rolls-Name, rolls-Select, rolls-Index, rolls-Call, rolls-New, rolls-NewArray, rolls-NewItems, rolls-Unary, rolls-Binary, rolls-Assign, rolls-Step}
use Rattle.ix_tree.specs.declared.expr.ExprKind.TheVariants as e
use Rattle.ix_tree.specs.declared.expr.Init.{Init, Init-F, fold-roll-Init}
use Rattle.ix_tree.specs.declared.expr.Init.TheVariants.{rolls-Value, rolls-Items}
use Rattle.ix_tree.specs.declared.expr.Init.TheVariants as i
use Rattle.ix_tree.specs.Parts.{Part, expression, elsewhere, listed, each, type_parts, kind_step, init_step, expr_step, expr_parts, init_parts}

abbrev pub kind_parts : ExprKind → List Part
kind_parts = fold-ExprKind (List Part) (List Part) (List Part) kind_step init_step expr_step

pub expr_is : (k : ExprKind) (s : Span) → expr_parts (record { kind = k; span = s }) ≡ expression s ∷ kind_parts k
expr_is k s = fold-roll-Expr (List Part) (List Part) (List Part) kind_step init_step expr_step (record { kind = k; span = s })

pub mapped : {A : Type 0} (parts : A → List Part) (xs : List A) → map parts xs ≡ each parts xs
mapped parts [] = refl
mapped parts (x ∷ xs) = ap (λ l. parts x ∷ l) (mapped parts xs)

-- ---- expressions

pub int_kind : (n : ℤ) → kind_parts (e.Int n) ≡ []
int_kind n = ap kind_parts (sym (rolls-Int n)) ∙ fold-roll-ExprKind (List Part) (List Part) (List Part) kind_step init_step expr_step (ExprKind-F.Int n)

pub bool_kind : (b : Bool) → kind_parts (e.Bool b) ≡ []
bool_kind b = ap kind_parts (sym (rolls-Bool b)) ∙ fold-roll-ExprKind (List Part) (List Part) (List Part) kind_step init_step expr_step (ExprKind-F.Bool b)

pub null_kind : kind_parts (e.Null) ≡ []
null_kind = ap kind_parts (sym (rolls-Null)) ∙ fold-roll-ExprKind (List Part) (List Part) (List Part) kind_step init_step expr_step (ExprKind-F.Null)

pub this_kind : kind_parts (e.This) ≡ []
this_kind = ap kind_parts (sym (rolls-This)) ∙ fold-roll-ExprKind (List Part) (List Part) (List Part) kind_step init_step expr_step (ExprKind-F.This)

pub name_kind : (x : Ident) → kind_parts (e.Name x) ≡ elsewhere x ∷ []
name_kind x = ap kind_parts (sym (rolls-Name x)) ∙ fold-roll-ExprKind (List Part) (List Part) (List Part) kind_step init_step expr_step (ExprKind-F.Name x)

pub select_kind : (f : Expr) (x : Ident) → kind_parts (e.Select f x) ≡ expr_parts f ++ elsewhere x ∷ []
select_kind f x = ap kind_parts (sym (rolls-Select f x)) ∙ fold-roll-ExprKind (List Part) (List Part) (List Part) kind_step init_step expr_step (ExprKind-F.Select f x)

pub index_kind : (f g : Expr) → kind_parts (e.Index f g) ≡ expr_parts f ++ expr_parts g
index_kind f g = ap kind_parts (sym (rolls-Index f g)) ∙ fold-roll-ExprKind (List Part) (List Part) (List Part) kind_step init_step expr_step (ExprKind-F.Index f g)

pub call_kind : (x : Ident) (args : List Expr) → kind_parts (e.Call None x args) ≡ elsewhere x ∷ listed (each expr_parts args)
call_kind x args = ap kind_parts (sym (rolls-Call None x args)) ∙ fold-roll-ExprKind (List Part) (List Part) (List Part) kind_step init_step expr_step (ExprKind-F.Call None x args)
    ∙ ap (λ l. elsewhere x ∷ listed l) (mapped expr_parts args)

pub call_on_kind : (f : Expr) (x : Ident) (args : List Expr) → kind_parts (e.Call (Some f) x args) ≡ expr_parts f ++ elsewhere x ∷ listed (each expr_parts args)
call_on_kind f x args = ap kind_parts (sym (rolls-Call (Some f) x args)) ∙ fold-roll-ExprKind (List Part) (List Part) (List Part) kind_step init_step expr_step (ExprKind-F.Call (Some f) x args)
    ∙ ap (λ l. expr_parts f ++ elsewhere x ∷ listed l) (mapped expr_parts args)

pub new_kind : (x : Ident) (args : List Expr) → kind_parts (e.New x args) ≡ elsewhere x ∷ listed (each expr_parts args)
new_kind x args = ap kind_parts (sym (rolls-New x args)) ∙ fold-roll-ExprKind (List Part) (List Part) (List Part) kind_step init_step expr_step (ExprKind-F.New x args)
    ∙ ap (λ l. elsewhere x ∷ listed l) (mapped expr_parts args)

pub new_array_kind : (t : TypeTree) (f : Expr) → kind_parts (e.NewArray t f) ≡ type_parts t ++ expr_parts f
new_array_kind t f = ap kind_parts (sym (rolls-NewArray t f)) ∙ fold-roll-ExprKind (List Part) (List Part) (List Part) kind_step init_step expr_step (ExprKind-F.NewArray t f)

pub new_items_kind : (t : TypeTree) (items : List Init) → kind_parts (e.NewItems t items) ≡ type_parts t ++ listed (each init_parts items)
new_items_kind t items = ap kind_parts (sym (rolls-NewItems t items)) ∙ fold-roll-ExprKind (List Part) (List Part) (List Part) kind_step init_step expr_step (ExprKind-F.NewItems t items)
    ∙ ap (λ l. type_parts t ++ listed l) (mapped init_parts items)

pub unary_kind : (op : UnaryOp) (f : Expr) → kind_parts (e.Unary op f) ≡ expr_parts f
unary_kind op f = ap kind_parts (sym (rolls-Unary op f)) ∙ fold-roll-ExprKind (List Part) (List Part) (List Part) kind_step init_step expr_step (ExprKind-F.Unary op f)

pub binary_kind : (op : BinaryOp) (f g : Expr) → kind_parts (e.Binary op f g) ≡ expr_parts f ++ expr_parts g
binary_kind op f g = ap kind_parts (sym (rolls-Binary op f g)) ∙ fold-roll-ExprKind (List Part) (List Part) (List Part) kind_step init_step expr_step (ExprKind-F.Binary op f g)

pub assign_kind : (op : Option Arith) (f g : Expr) → kind_parts (e.Assign op f g) ≡ expr_parts f ++ expr_parts g
assign_kind op f g = ap kind_parts (sym (rolls-Assign op f g)) ∙ fold-roll-ExprKind (List Part) (List Part) (List Part) kind_step init_step expr_step (ExprKind-F.Assign op f g)

pub step_is : (up after : Bool) (f : Expr) → kind_parts (e.Step up after f) ≡ expr_parts f
step_is up after f = ap kind_parts (sym (rolls-Step up after f)) ∙ fold-roll-ExprKind (List Part) (List Part) (List Part) kind_step init_step expr_step (ExprKind-F.Step up after f)

-- ---- initialisers

pub value_is : (f : Expr) → init_parts (i.Value f) ≡ expr_parts f
value_is f = ap init_parts (sym (rolls-Value f)) ∙ fold-roll-Init (List Part) (List Part) (List Part) kind_step init_step expr_step (Init-F.Value f)

pub items_are : (items : List Init) (span : Span) → init_parts (i.Items items span) ≡ listed (each init_parts items)
items_are items span = ap init_parts (sym (rolls-Items items span)) ∙ fold-roll-Init (List Part) (List Part) (List Part) kind_step init_step expr_step (Init-F.Items items span)
    ∙ ap listed (mapped init_parts items)
