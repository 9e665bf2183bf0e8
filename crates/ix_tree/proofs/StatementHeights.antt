-- The height of each form of statement.
use Rattle.std.proofs.Common.{◌≡◌, ◌+◌, ℕ, max, List, Option, Some, None, sym, ap, ◌∙◌}
use Rattle.ix_text.specs.declared.span.Span.{Span}
use Rattle.ix_tree.specs.declared.annot.Ident.{Ident}
use Rattle.ix_tree.specs.declared.decl.LocalDecl.{LocalDecl}
use Rattle.ix_tree.specs.declared.expr.Expr.{Expr}
use Rattle.ix_tree.specs.declared.stmt.Stmt.{Stmt, fold-roll-Stmt}
use Rattle.ix_tree.specs.declared.stmt.StmtKind.{StmtKind, StmtKind-F, fold-StmtKind, fold-roll-StmtKind}
use Rattle.ix_tree.specs.declared.stmt.StmtKind.TheVariants.{rolls-Block, rolls-Empty, rolls-Local, rolls-If, rolls-While, rolls-Do, rolls-For, rolls-Break, rolls-Continue, rolls-Return, rolls-Throw, rolls-Print, rolls-Run}
use Rattle.ix_tree.specs.declared.stmt.StmtKind.TheVariants as s
use Rattle.ix_tree.specs.Heights.{of_maybe, of_all, expr_height, decl_height, stmt_kind_height, height_of_stmt, stmt_height}

abbrev pub stmt_kind_high : StmtKind → ℕ
stmt_kind_high = fold-StmtKind ℕ ℕ stmt_kind_height height_of_stmt

pub stmt_is : (k : StmtKind) (span : Span) → stmt_height (record { kind = k; span = span }) ≡ 1 + stmt_kind_high k
stmt_is k span = fold-roll-Stmt ℕ ℕ stmt_kind_height height_of_stmt (record { kind = k; span = span })

pub block_kind : (body : List Stmt) → stmt_kind_high (s.Block body) ≡ of_all stmt_height body
block_kind body = ap stmt_kind_high (sym (rolls-Block body)) ∙ fold-roll-StmtKind ℕ ℕ stmt_kind_height height_of_stmt (StmtKind-F.Block body)

pub empty_kind : stmt_kind_high s.Empty ≡ 0
empty_kind = ap stmt_kind_high (sym rolls-Empty) ∙ fold-roll-StmtKind ℕ ℕ stmt_kind_height height_of_stmt (StmtKind-F.Empty)

pub local_kind : (decls : List LocalDecl) → stmt_kind_high (s.Local decls) ≡ of_all decl_height decls
local_kind decls = ap stmt_kind_high (sym (rolls-Local decls)) ∙ fold-roll-StmtKind ℕ ℕ stmt_kind_height height_of_stmt (StmtKind-F.Local decls)

pub if_kind : (f : Expr) (t : Stmt) → stmt_kind_high (s.If f t None) ≡ max (expr_height f) (max (stmt_height t) 0)
if_kind f t = ap stmt_kind_high (sym (rolls-If f t None)) ∙ fold-roll-StmtKind ℕ ℕ stmt_kind_height height_of_stmt (StmtKind-F.If f t None)

pub if_else_kind : (f : Expr) (t u : Stmt) → stmt_kind_high (s.If f t (Some u)) ≡ max (expr_height f) (max (stmt_height t) (stmt_height u))
if_else_kind f t u = ap stmt_kind_high (sym (rolls-If f t (Some u))) ∙ fold-roll-StmtKind ℕ ℕ stmt_kind_height height_of_stmt (StmtKind-F.If f t (Some u))

pub while_kind : (f : Expr) (t : Stmt) → stmt_kind_high (s.While f t) ≡ max (expr_height f) (stmt_height t)
while_kind f t = ap stmt_kind_high (sym (rolls-While f t)) ∙ fold-roll-StmtKind ℕ ℕ stmt_kind_height height_of_stmt (StmtKind-F.While f t)

pub do_kind : (t : Stmt) (f : Expr) → stmt_kind_high (s.Do t f) ≡ max (stmt_height t) (expr_height f)
do_kind t f = ap stmt_kind_high (sym (rolls-Do t f)) ∙ fold-roll-StmtKind ℕ ℕ stmt_kind_height height_of_stmt (StmtKind-F.Do t f)

pub for_kind : (first : List Stmt) (cond : Option Expr) (update : List Expr) (t : Stmt) → stmt_kind_high (s.For first cond update t) ≡ max (max (of_all stmt_height first) (of_maybe expr_height cond)) (max (of_all expr_height update) (stmt_height t))
for_kind first cond update t = ap stmt_kind_high (sym (rolls-For first cond update t)) ∙ fold-roll-StmtKind ℕ ℕ stmt_kind_height height_of_stmt (StmtKind-F.For first cond update t)

pub break_kind : stmt_kind_high s.Break ≡ 0
break_kind = ap stmt_kind_high (sym rolls-Break) ∙ fold-roll-StmtKind ℕ ℕ stmt_kind_height height_of_stmt (StmtKind-F.Break)

pub continue_kind : stmt_kind_high s.Continue ≡ 0
continue_kind = ap stmt_kind_high (sym rolls-Continue) ∙ fold-roll-StmtKind ℕ ℕ stmt_kind_height height_of_stmt (StmtKind-F.Continue)

pub return_kind : (value : Option Expr) → stmt_kind_high (s.Return value) ≡ of_maybe expr_height value
return_kind value = ap stmt_kind_high (sym (rolls-Return value)) ∙ fold-roll-StmtKind ℕ ℕ stmt_kind_height height_of_stmt (StmtKind-F.Return value)

pub throw_kind : (x : Ident) → stmt_kind_high (s.Throw x) ≡ 1
throw_kind x = ap stmt_kind_high (sym (rolls-Throw x)) ∙ fold-roll-StmtKind ℕ ℕ stmt_kind_height height_of_stmt (StmtKind-F.Throw x)

pub print_kind : (f : Expr) → stmt_kind_high (s.Print f) ≡ expr_height f
print_kind f = ap stmt_kind_high (sym (rolls-Print f)) ∙ fold-roll-StmtKind ℕ ℕ stmt_kind_height height_of_stmt (StmtKind-F.Print f)

pub run_kind : (f : Expr) → stmt_kind_high (s.Run f) ≡ expr_height f
run_kind f = ap stmt_kind_high (sym (rolls-Run f)) ∙ fold-roll-StmtKind ℕ ℕ stmt_kind_height height_of_stmt (StmtKind-F.Run f)
