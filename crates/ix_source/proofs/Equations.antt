-- Each case of what an expression, an initialiser and a statement mean, as an equation: runs of closed trees are computed by them.
use Rattle.std.proofs.Common.{◌≡◌, ℤ, Bool, List, map, Option, Some, None, ap}
use Rattle.ix_text.specs.declared.span.Span.{Span}
use Rattle.ix_num.specs.declared.arith.Arith.{Arith}
use Rattle.ix_tree.specs.declared.annot.Ident.{Ident}
use Rattle.ix_tree.specs.declared.annot.TypeTree.{TypeTree}
use Rattle.ix_tree.specs.declared.decl.LocalDecl.{LocalDecl}
use Rattle.ix_tree.specs.declared.expr.BinaryOp.{BinaryOp}
use Rattle.ix_tree.specs.declared.expr.UnaryOp.{UnaryOp}
use Rattle.ix_tree.specs.declared.expr.ExprKind.TheVariants as e
use Rattle.ix_tree.specs.declared.expr.Init.TheVariants as i
use Rattle.ix_tree.specs.declared.stmt.StmtKind.TheVariants as s
use Rattle.ix_tree.specs.declared.expr.Expr.{Expr}
use Rattle.ix_tree.specs.declared.expr.ExprKind.{ExprKind, ExprKind-F, fold-ExprKind}
use Rattle.ix_tree.specs.declared.expr.Init.{Init, Init-F}
use Rattle.ix_tree.specs.declared.stmt.Stmt.{Stmt}
use Rattle.ix_tree.specs.declared.stmt.StmtKind.{StmtKind, StmtKind-F, fold-StmtKind}
use Rattle.ix_tree.proofs.FoldsOfForms as fold
use Rattle.ix_source.specs.Values.{Evaluation, Initial, kind_step, init_step, expr_step, evaluation, initial}
use Rattle.ix_source.specs.Statements as statements
use Rattle.ix_source.specs.Statements.{Execution, stmt_step, execution}

abbrev pub kind_evaluation : ExprKind → Span → Evaluation
kind_evaluation = fold-ExprKind (Span → Evaluation) Initial Evaluation kind_step init_step expr_step

abbrev pub kind_execution : StmtKind → Span → Execution
kind_execution = fold-StmtKind (Span → Execution) Execution statements.kind_step stmt_step

pub expr_is : (k : ExprKind) (span : Span) → evaluation (record { kind = k; span = span }) ≡ expr_step (record { kind = kind_evaluation k; span = span })
expr_is k span = fold.expr_is kind_step init_step expr_step k span

pub int_kind : (n : ℤ) → (p : Span) → kind_evaluation (e.Int n) p ≡ kind_step (ExprKind-F.Int n) p
int_kind n p = ap (λ k. k p) (fold.int_kind kind_step init_step expr_step n)

pub bool_kind : (b : Bool) → (p : Span) → kind_evaluation (e.Bool b) p ≡ kind_step (ExprKind-F.Bool b) p
bool_kind b p = ap (λ k. k p) (fold.bool_kind kind_step init_step expr_step b)

pub null_kind : (p : Span) → kind_evaluation e.Null p ≡ kind_step ExprKind-F.Null p
null_kind p = ap (λ k. k p) (fold.null_kind kind_step init_step expr_step)

pub this_kind : (p : Span) → kind_evaluation e.This p ≡ kind_step ExprKind-F.This p
this_kind p = ap (λ k. k p) (fold.this_kind kind_step init_step expr_step)

pub name_kind : (x : Ident) → (p : Span) → kind_evaluation (e.Name x) p ≡ kind_step (ExprKind-F.Name x) p
name_kind x p = ap (λ k. k p) (fold.name_kind kind_step init_step expr_step x)

pub select_kind : (f : Expr) (x : Ident) → (p : Span) → kind_evaluation (e.Select f x) p ≡ kind_step (ExprKind-F.Select (evaluation f) x) p
select_kind f x p = ap (λ k. k p) (fold.select_kind kind_step init_step expr_step f x)

pub index_kind : (f g : Expr) → (p : Span) → kind_evaluation (e.Index f g) p ≡ kind_step (ExprKind-F.Index (evaluation f) (evaluation g)) p
index_kind f g p = ap (λ k. k p) (fold.index_kind kind_step init_step expr_step f g)

pub call_kind : (x : Ident) (args : List Expr) → (p : Span) → kind_evaluation (e.Call None x args) p ≡ kind_step (ExprKind-F.Call None x (map evaluation args)) p
call_kind x args p = ap (λ k. k p) (fold.call_kind kind_step init_step expr_step x args)

pub call_on_kind : (f : Expr) (x : Ident) (args : List Expr) → (p : Span) → kind_evaluation (e.Call (Some f) x args) p ≡ kind_step (ExprKind-F.Call (Some (evaluation f)) x (map evaluation args)) p
call_on_kind f x args p = ap (λ k. k p) (fold.call_on_kind kind_step init_step expr_step f x args)

pub new_kind : (x : Ident) (args : List Expr) → (p : Span) → kind_evaluation (e.New x args) p ≡ kind_step (ExprKind-F.New x (map evaluation args)) p
new_kind x args p = ap (λ k. k p) (fold.new_kind kind_step init_step expr_step x args)

pub new_array_kind : (t : TypeTree) (f : Expr) → (p : Span) → kind_evaluation (e.NewArray t f) p ≡ kind_step (ExprKind-F.NewArray t (evaluation f)) p
new_array_kind t f p = ap (λ k. k p) (fold.new_array_kind kind_step init_step expr_step t f)

pub new_items_kind : (t : TypeTree) (items : List Init) → (p : Span) → kind_evaluation (e.NewItems t items) p ≡ kind_step (ExprKind-F.NewItems t (map initial items)) p
new_items_kind t items p = ap (λ k. k p) (fold.new_items_kind kind_step init_step expr_step t items)

pub unary_kind : (op : UnaryOp) (f : Expr) → (p : Span) → kind_evaluation (e.Unary op f) p ≡ kind_step (ExprKind-F.Unary op (evaluation f)) p
unary_kind op f p = ap (λ k. k p) (fold.unary_kind kind_step init_step expr_step op f)

pub binary_kind : (op : BinaryOp) (f g : Expr) → (p : Span) → kind_evaluation (e.Binary op f g) p ≡ kind_step (ExprKind-F.Binary op (evaluation f) (evaluation g)) p
binary_kind op f g p = ap (λ k. k p) (fold.binary_kind kind_step init_step expr_step op f g)

pub assign_kind : (op : Option Arith) (f g : Expr) → (p : Span) → kind_evaluation (e.Assign op f g) p ≡ kind_step (ExprKind-F.Assign op (evaluation f) (evaluation g)) p
assign_kind op f g p = ap (λ k. k p) (fold.assign_kind kind_step init_step expr_step op f g)

pub step_kind : (up after : Bool) (f : Expr) → (p : Span) → kind_evaluation (e.Step up after f) p ≡ kind_step (ExprKind-F.Step up after (evaluation f)) p
step_kind up after f p = ap (λ k. k p) (fold.step_kind kind_step init_step expr_step up after f)

pub value_is : (f : Expr) → initial (i.Value f) ≡ init_step (Init-F.Value (evaluation f))
value_is f = fold.value_is kind_step init_step expr_step f

pub items_are : (items : List Init) (span : Span) → initial (i.Items items span) ≡ init_step (Init-F.Items (map initial items) span)
items_are items span = fold.items_are kind_step init_step expr_step items span

pub stmt_is : (k : StmtKind) (span : Span) → execution (record { kind = k; span = span }) ≡ stmt_step (record { kind = kind_execution k; span = span })
stmt_is k span = fold.stmt_is statements.kind_step stmt_step k span

pub block_kind : (body : List Stmt) → (p : Span) → kind_execution (s.Block body) p ≡ statements.kind_step (StmtKind-F.Block (map execution body)) p
block_kind body p = ap (λ k. k p) (fold.block_kind statements.kind_step stmt_step body)

pub empty_kind : (p : Span) → kind_execution s.Empty p ≡ statements.kind_step StmtKind-F.Empty p
empty_kind p = ap (λ k. k p) (fold.empty_kind statements.kind_step stmt_step)

pub local_kind : (decls : List LocalDecl) → (p : Span) → kind_execution (s.Local decls) p ≡ statements.kind_step (StmtKind-F.Local decls) p
local_kind decls p = ap (λ k. k p) (fold.local_kind statements.kind_step stmt_step decls)

pub if_kind : (f : Expr) (t : Stmt) → (p : Span) → kind_execution (s.If f t None) p ≡ statements.kind_step (StmtKind-F.If f (execution t) None) p
if_kind f t p = ap (λ k. k p) (fold.if_kind statements.kind_step stmt_step f t)

pub if_else_kind : (f : Expr) (t u : Stmt) → (p : Span) → kind_execution (s.If f t (Some u)) p ≡ statements.kind_step (StmtKind-F.If f (execution t) (Some (execution u))) p
if_else_kind f t u p = ap (λ k. k p) (fold.if_else_kind statements.kind_step stmt_step f t u)

pub while_kind : (f : Expr) (t : Stmt) → (p : Span) → kind_execution (s.While f t) p ≡ statements.kind_step (StmtKind-F.While f (execution t)) p
while_kind f t p = ap (λ k. k p) (fold.while_kind statements.kind_step stmt_step f t)

pub do_kind : (t : Stmt) (f : Expr) → (p : Span) → kind_execution (s.Do t f) p ≡ statements.kind_step (StmtKind-F.Do (execution t) f) p
do_kind t f p = ap (λ k. k p) (fold.do_kind statements.kind_step stmt_step t f)

pub for_kind : (first : List Stmt) (cond : Option Expr) (update : List Expr) (t : Stmt) → (p : Span) → kind_execution (s.For first cond update t) p ≡ statements.kind_step (StmtKind-F.For (map execution first) cond update (execution t)) p
for_kind first cond update t p = ap (λ k. k p) (fold.for_kind statements.kind_step stmt_step first cond update t)

pub break_kind : (p : Span) → kind_execution s.Break p ≡ statements.kind_step StmtKind-F.Break p
break_kind p = ap (λ k. k p) (fold.break_kind statements.kind_step stmt_step)

pub continue_kind : (p : Span) → kind_execution s.Continue p ≡ statements.kind_step StmtKind-F.Continue p
continue_kind p = ap (λ k. k p) (fold.continue_kind statements.kind_step stmt_step)

pub return_kind : (value : Option Expr) → (p : Span) → kind_execution (s.Return value) p ≡ statements.kind_step (StmtKind-F.Return value) p
return_kind value p = ap (λ k. k p) (fold.return_kind statements.kind_step stmt_step value)

pub throw_kind : (x : Ident) → (p : Span) → kind_execution (s.Throw x) p ≡ statements.kind_step (StmtKind-F.Throw x) p
throw_kind x p = ap (λ k. k p) (fold.throw_kind statements.kind_step stmt_step x)

pub print_kind : (f : Expr) → (p : Span) → kind_execution (s.Print f) p ≡ statements.kind_step (StmtKind-F.Print f) p
print_kind f p = ap (λ k. k p) (fold.print_kind statements.kind_step stmt_step f)

pub run_kind : (f : Expr) → (p : Span) → kind_execution (s.Run f) p ≡ statements.kind_step (StmtKind-F.Run f) p
run_kind f p = ap (λ k. k p) (fold.run_kind statements.kind_step stmt_step f)

pub ruleset equations = (expr_is, int_kind, bool_kind, null_kind, this_kind, name_kind, select_kind, index_kind, call_kind, call_on_kind, new_kind, new_array_kind, new_items_kind, unary_kind, binary_kind, assign_kind, step_kind, value_is, items_are, stmt_is, block_kind, empty_kind, local_kind, if_kind, if_else_kind, while_kind, do_kind, for_kind, break_kind, continue_kind, return_kind, throw_kind, print_kind, run_kind)
