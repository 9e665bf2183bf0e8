-- Each case of the folds over expressions and statements, as an equation.
use Rattle.std.proofs.Common.{◌≡◌, ℤ, Bool, List, Option, Some, None, map, sym, ap, ◌∙◌}
use Rattle.ix_text.specs.declared.span.Span.{Span}
use Rattle.ix_num.specs.declared.arith.Arith.{Arith}
use Rattle.ix_tree.specs.declared.annot.Ident.{Ident}
use Rattle.ix_tree.specs.declared.annot.TypeTree.{TypeTree}
use Rattle.ix_tree.specs.declared.decl.LocalDecl.{LocalDecl}
use Rattle.ix_tree.specs.declared.expr.BinaryOp.{BinaryOp}
use Rattle.ix_tree.specs.declared.expr.UnaryOp.{UnaryOp}
use Rattle.ix_tree.specs.declared.expr.Expr.{Expr, fold-roll-Expr}
use Rattle.ix_tree.specs.declared.expr.ExprKind.{ExprKind, ExprKind-F, fold-roll-ExprKind}
use Rattle.ix_tree.specs.declared.expr.ExprKind.TheVariants.{rolls-Int, rolls-Bool, rolls-Null, rolls-This, rolls-Name, rolls-Select, rolls-Index, rolls-Call, rolls-New, rolls-NewArray, rolls-NewItems, rolls-Unary, rolls-Binary, rolls-Assign, rolls-Step}
use Rattle.ix_tree.specs.declared.expr.ExprKind.TheVariants as e
use Rattle.ix_tree.specs.declared.expr.Init.{Init, Init-F, fold-roll-Init}
use Rattle.ix_tree.specs.declared.expr.Init.TheVariants.{rolls-Value, rolls-Items}
use Rattle.ix_tree.specs.declared.expr.Init.TheVariants as i
use Rattle.ix_tree.specs.declared.stmt.Stmt.{Stmt, fold-roll-Stmt}
use Rattle.ix_tree.specs.declared.stmt.StmtKind.{StmtKind, StmtKind-F, fold-roll-StmtKind}
use Rattle.ix_tree.specs.declared.stmt.StmtKind.TheVariants.{rolls-Block, rolls-Empty, rolls-Local, rolls-If, rolls-While, rolls-Do, rolls-For, rolls-Break, rolls-Continue, rolls-Return, rolls-Throw, rolls-Print, rolls-Run}
use Rattle.ix_tree.specs.declared.stmt.StmtKind.TheVariants as s
use Rattle.ix_core.specs.declared.claim.Type_.{Type_ as Ty}
use Rattle.ix_meaning.specs.Scope.{Scope}
use Rattle.ix_meaning.specs.Values.{Reading, KindReading, Filling, kind_step, init_step, expr_step, reading, kind_reading, filling}
use Rattle.ix_meaning.specs.Bodies.{Telling, stmt_kind_step, stmt_step, telling, kind_telling}

pub expr_is : (k : ExprKind) (p : Span) → reading (record { kind = k; span = p }) ≡ expr_step (record { kind = kind_reading k; span = p })
expr_is k p = fold-roll-Expr KindReading Filling Reading kind_step init_step expr_step (record { kind = k; span = p })

pub int_kind : (n : ℤ) → kind_reading (e.Int n) ≡ kind_step (ExprKind-F.Int n)
int_kind n = ap kind_reading (sym (rolls-Int n)) ∙ fold-roll-ExprKind KindReading Filling Reading kind_step init_step expr_step (ExprKind-F.Int n)

pub bool_kind : (b : Bool) → kind_reading (e.Bool b) ≡ kind_step (ExprKind-F.Bool b)
bool_kind b = ap kind_reading (sym (rolls-Bool b)) ∙ fold-roll-ExprKind KindReading Filling Reading kind_step init_step expr_step (ExprKind-F.Bool b)

pub null_kind : kind_reading e.Null ≡ kind_step ExprKind-F.Null
null_kind = ap kind_reading (sym rolls-Null) ∙ fold-roll-ExprKind KindReading Filling Reading kind_step init_step expr_step (ExprKind-F.Null)

pub this_kind : kind_reading e.This ≡ kind_step ExprKind-F.This
this_kind = ap kind_reading (sym rolls-This) ∙ fold-roll-ExprKind KindReading Filling Reading kind_step init_step expr_step (ExprKind-F.This)

pub name_kind : (x : Ident) → kind_reading (e.Name x) ≡ kind_step (ExprKind-F.Name x)
name_kind x = ap kind_reading (sym (rolls-Name x)) ∙ fold-roll-ExprKind KindReading Filling Reading kind_step init_step expr_step (ExprKind-F.Name x)

pub select_kind : (f : Expr) (x : Ident) → kind_reading (e.Select f x) ≡ kind_step (ExprKind-F.Select (reading f) x)
select_kind f x = ap kind_reading (sym (rolls-Select f x)) ∙ fold-roll-ExprKind KindReading Filling Reading kind_step init_step expr_step (ExprKind-F.Select f x)

pub index_kind : (f g : Expr) → kind_reading (e.Index f g) ≡ kind_step (ExprKind-F.Index (reading f) (reading g))
index_kind f g = ap kind_reading (sym (rolls-Index f g)) ∙ fold-roll-ExprKind KindReading Filling Reading kind_step init_step expr_step (ExprKind-F.Index f g)

pub bare_call_kind : (x : Ident) (args : List Expr) → kind_reading (e.Call None x args) ≡ kind_step (ExprKind-F.Call None x (map reading args))
bare_call_kind x args = ap kind_reading (sym (rolls-Call None x args)) ∙ fold-roll-ExprKind KindReading Filling Reading kind_step init_step expr_step (ExprKind-F.Call None x args)

pub call_on_kind : (f : Expr) (x : Ident) (args : List Expr) → kind_reading (e.Call (Some f) x args) ≡ kind_step (ExprKind-F.Call (Some (reading f)) x (map reading args))
call_on_kind f x args = ap kind_reading (sym (rolls-Call (Some f) x args)) ∙ fold-roll-ExprKind KindReading Filling Reading kind_step init_step expr_step (ExprKind-F.Call (Some f) x args)

pub new_kind : (x : Ident) (args : List Expr) → kind_reading (e.New x args) ≡ kind_step (ExprKind-F.New x (map reading args))
new_kind x args = ap kind_reading (sym (rolls-New x args)) ∙ fold-roll-ExprKind KindReading Filling Reading kind_step init_step expr_step (ExprKind-F.New x args)

pub new_array_kind : (t : TypeTree) (f : Expr) → kind_reading (e.NewArray t f) ≡ kind_step (ExprKind-F.NewArray t (reading f))
new_array_kind t f = ap kind_reading (sym (rolls-NewArray t f)) ∙ fold-roll-ExprKind KindReading Filling Reading kind_step init_step expr_step (ExprKind-F.NewArray t f)

pub new_items_kind : (t : TypeTree) (items : List Init) → kind_reading (e.NewItems t items) ≡ kind_step (ExprKind-F.NewItems t (map filling items))
new_items_kind t items = ap kind_reading (sym (rolls-NewItems t items)) ∙ fold-roll-ExprKind KindReading Filling Reading kind_step init_step expr_step (ExprKind-F.NewItems t items)

pub unary_kind : (op : UnaryOp) (f : Expr) → kind_reading (e.Unary op f) ≡ kind_step (ExprKind-F.Unary op (reading f))
unary_kind op f = ap kind_reading (sym (rolls-Unary op f)) ∙ fold-roll-ExprKind KindReading Filling Reading kind_step init_step expr_step (ExprKind-F.Unary op f)

pub binary_kind : (op : BinaryOp) (f g : Expr) → kind_reading (e.Binary op f g) ≡ kind_step (ExprKind-F.Binary op (reading f) (reading g))
binary_kind op f g = ap kind_reading (sym (rolls-Binary op f g)) ∙ fold-roll-ExprKind KindReading Filling Reading kind_step init_step expr_step (ExprKind-F.Binary op f g)

pub assign_kind : (op : Option Arith) (f g : Expr) → kind_reading (e.Assign op f g) ≡ kind_step (ExprKind-F.Assign op (reading f) (reading g))
assign_kind op f g = ap kind_reading (sym (rolls-Assign op f g)) ∙ fold-roll-ExprKind KindReading Filling Reading kind_step init_step expr_step (ExprKind-F.Assign op f g)

pub step_kind : (up behind : Bool) (f : Expr) → kind_reading (e.Step up behind f) ≡ kind_step (ExprKind-F.Step up behind (reading f))
step_kind up behind f = ap kind_reading (sym (rolls-Step up behind f)) ∙ fold-roll-ExprKind KindReading Filling Reading kind_step init_step expr_step (ExprKind-F.Step up behind f)

pub value_init : (f : Expr) (z : Scope) (need : Option Ty) → filling (i.Value f) z need ≡ init_step (Init-F.Value (reading f)) z need
value_init f z need = ap (λ filling_at. filling_at z need) (ap filling (sym (rolls-Value f)) ∙ fold-roll-Init KindReading Filling Reading kind_step init_step expr_step (Init-F.Value f))

pub items_init : (items : List Init) (p : Span) (z : Scope) (need : Option Ty) → filling (i.Items items p) z need ≡ init_step (Init-F.Items (map filling items) p) z need
items_init items p z need = ap (λ filling_at. filling_at z need) (ap filling (sym (rolls-Items items p)) ∙ fold-roll-Init KindReading Filling Reading kind_step init_step expr_step (Init-F.Items items p))

pub stmt_is : (k : StmtKind) (p : Span) → telling (record { kind = k; span = p }) ≡ kind_telling k p
stmt_is k p = fold-roll-Stmt (Span → Telling) Telling stmt_kind_step stmt_step (record { kind = k; span = p })

pub block_stmt : (ss : List Stmt) (p : Span) → kind_telling (s.Block ss) p ≡ stmt_kind_step (StmtKind-F.Block (map telling ss)) p
block_stmt ss p = ap (λ telling_at. telling_at p) (ap kind_telling (sym (rolls-Block ss)) ∙ fold-roll-StmtKind (Span → Telling) Telling stmt_kind_step stmt_step (StmtKind-F.Block ss))

pub empty_stmt : (p : Span) → kind_telling s.Empty p ≡ stmt_kind_step StmtKind-F.Empty p
empty_stmt p = ap (λ telling_at. telling_at p) (ap kind_telling (sym rolls-Empty) ∙ fold-roll-StmtKind (Span → Telling) Telling stmt_kind_step stmt_step (StmtKind-F.Empty))

pub local_stmt : (ds : List LocalDecl) (p : Span) → kind_telling (s.Local ds) p ≡ stmt_kind_step (StmtKind-F.Local ds) p
local_stmt ds p = ap (λ telling_at. telling_at p) (ap kind_telling (sym (rolls-Local ds)) ∙ fold-roll-StmtKind (Span → Telling) Telling stmt_kind_step stmt_step (StmtKind-F.Local ds))

pub if_stmt : (c : Expr) (t : Stmt) (p : Span) → kind_telling (s.If c t None) p ≡ stmt_kind_step (StmtKind-F.If c (telling t) None) p
if_stmt c t p = ap (λ telling_at. telling_at p) (ap kind_telling (sym (rolls-If c t None)) ∙ fold-roll-StmtKind (Span → Telling) Telling stmt_kind_step stmt_step (StmtKind-F.If c t None))

pub if_else_stmt : (c : Expr) (t u : Stmt) (p : Span) → kind_telling (s.If c t (Some u)) p ≡ stmt_kind_step (StmtKind-F.If c (telling t) (Some (telling u))) p
if_else_stmt c t u p = ap (λ telling_at. telling_at p) (ap kind_telling (sym (rolls-If c t (Some u))) ∙ fold-roll-StmtKind (Span → Telling) Telling stmt_kind_step stmt_step (StmtKind-F.If c t (Some u)))

pub while_stmt : (c : Expr) (t : Stmt) (p : Span) → kind_telling (s.While c t) p ≡ stmt_kind_step (StmtKind-F.While c (telling t)) p
while_stmt c t p = ap (λ telling_at. telling_at p) (ap kind_telling (sym (rolls-While c t)) ∙ fold-roll-StmtKind (Span → Telling) Telling stmt_kind_step stmt_step (StmtKind-F.While c t))

pub do_stmt : (t : Stmt) (c : Expr) (p : Span) → kind_telling (s.Do t c) p ≡ stmt_kind_step (StmtKind-F.Do (telling t) c) p
do_stmt t c p = ap (λ telling_at. telling_at p) (ap kind_telling (sym (rolls-Do t c)) ∙ fold-roll-StmtKind (Span → Telling) Telling stmt_kind_step stmt_step (StmtKind-F.Do t c))

pub for_stmt : (ss : List Stmt) (c : Option Expr) (es : List Expr) (t : Stmt) (p : Span) → kind_telling (s.For ss c es t) p ≡ stmt_kind_step (StmtKind-F.For (map telling ss) c es (telling t)) p
for_stmt ss c es t p = ap (λ telling_at. telling_at p) (ap kind_telling (sym (rolls-For ss c es t)) ∙ fold-roll-StmtKind (Span → Telling) Telling stmt_kind_step stmt_step (StmtKind-F.For ss c es t))

pub break_stmt : (p : Span) → kind_telling s.Break p ≡ stmt_kind_step StmtKind-F.Break p
break_stmt p = ap (λ telling_at. telling_at p) (ap kind_telling (sym rolls-Break) ∙ fold-roll-StmtKind (Span → Telling) Telling stmt_kind_step stmt_step (StmtKind-F.Break))

pub continue_stmt : (p : Span) → kind_telling s.Continue p ≡ stmt_kind_step StmtKind-F.Continue p
continue_stmt p = ap (λ telling_at. telling_at p) (ap kind_telling (sym rolls-Continue) ∙ fold-roll-StmtKind (Span → Telling) Telling stmt_kind_step stmt_step (StmtKind-F.Continue))

pub return_stmt : (v : Option Expr) (p : Span) → kind_telling (s.Return v) p ≡ stmt_kind_step (StmtKind-F.Return v) p
return_stmt v p = ap (λ telling_at. telling_at p) (ap kind_telling (sym (rolls-Return v)) ∙ fold-roll-StmtKind (Span → Telling) Telling stmt_kind_step stmt_step (StmtKind-F.Return v))

pub throw_stmt : (x : Ident) (p : Span) → kind_telling (s.Throw x) p ≡ stmt_kind_step (StmtKind-F.Throw x) p
throw_stmt x p = ap (λ telling_at. telling_at p) (ap kind_telling (sym (rolls-Throw x)) ∙ fold-roll-StmtKind (Span → Telling) Telling stmt_kind_step stmt_step (StmtKind-F.Throw x))

pub print_stmt : (c : Expr) (p : Span) → kind_telling (s.Print c) p ≡ stmt_kind_step (StmtKind-F.Print c) p
print_stmt c p = ap (λ telling_at. telling_at p) (ap kind_telling (sym (rolls-Print c)) ∙ fold-roll-StmtKind (Span → Telling) Telling stmt_kind_step stmt_step (StmtKind-F.Print c))

pub run_stmt : (c : Expr) (p : Span) → kind_telling (s.Run c) p ≡ stmt_kind_step (StmtKind-F.Run c) p
run_stmt c p = ap (λ telling_at. telling_at p) (ap kind_telling (sym (rolls-Run c)) ∙ fold-roll-StmtKind (Span → Telling) Telling stmt_kind_step stmt_step (StmtKind-F.Run c))

pub ruleset equations = (expr_is, int_kind, bool_kind, null_kind, this_kind, name_kind, select_kind, index_kind, bare_call_kind, call_on_kind, new_kind, new_array_kind, new_items_kind, unary_kind, binary_kind, assign_kind, step_kind, value_init, items_init, stmt_is, block_stmt, empty_stmt, local_stmt, if_stmt, if_else_stmt, while_stmt, do_stmt, for_stmt, break_stmt, continue_stmt, return_stmt, throw_stmt, print_stmt, run_stmt)
