-- What the grammar gives of every tree and its relation of tokens says, and what lowering rests on: ints in their range, annotations between a base and its
-- brackets, brackets of a new array, constructors without a result.
use Rattle.std.specs.Prelude.{nat_lt, Bool, true, false, ◌&&◌, ◌||◌, not, List, [], ◌∷◌, Option, Some, None}
use Rattle.ix_core.specs.Machine.{is_int}
use Rattle.ix_tree.specs.declared.annot.Annot.{Annot}
use Rattle.ix_tree.specs.declared.annot.TypeTree.{TypeTree}
use Rattle.ix_tree.specs.declared.decl.ClassDecl.{ClassDecl}
use Rattle.ix_tree.specs.declared.decl.LocalDecl.{LocalDecl}
use Rattle.ix_tree.specs.declared.decl.Member.{Member}
use Rattle.ix_tree.specs.declared.decl.Member.TheVariants as member
use Rattle.ix_tree.specs.declared.decl.MethodDecl.{MethodDecl}
use Rattle.ix_tree.specs.declared.expr.Expr.{Expr, Expr-F, fold-Expr}
use Rattle.ix_tree.specs.declared.expr.ExprKind.{ExprKind-F}
use Rattle.ix_tree.specs.declared.expr.Init.{Init, Init-F, fold-Init}
use Rattle.ix_tree.specs.declared.stmt.Stmt.{Stmt, fold-Stmt}
use Rattle.ix_tree.specs.declared.stmt.StmtKind.{StmtKind-F}

abbrev pub all_true : List Bool → Bool
all_true [] = true
all_true (first ∷ rest) = first && all_true rest

abbrev pub each_true : {A : Type 0} → (A → Bool) → List A → Bool
each_true is [] = true
each_true is (first ∷ rest) = is first && each_true is rest

abbrev pub maybe_true : {A : Type 0} → (A → Bool) → Option A → Bool
maybe_true is None = true
maybe_true is (Some part) = is part

abbrev pub or_true : Option Bool → Bool
or_true None = true
or_true (Some part) = part

abbrev pub is_empty : List Annot → Bool
is_empty [] = true
is_empty _ = false

-- annotations behind the base stand before brackets
abbrev pub is_written_type : TypeTree → Bool
is_written_type ty = is_empty ty.annots || nat_lt 0 ty.depth

abbrev pub kind_step : ExprKind-F Bool Bool Bool → Bool
kind_step (ExprKind-F.Int n) = is_int n
kind_step (ExprKind-F.Select object name) = object
kind_step (ExprKind-F.Index array index) = array && index
kind_step (ExprKind-F.Call object name args) = or_true object && all_true args
kind_step (ExprKind-F.New name args) = all_true args
kind_step (ExprKind-F.NewArray ty size) = nat_lt 0 ty.depth && size
kind_step (ExprKind-F.NewItems ty items) = nat_lt 0 ty.depth && all_true items
kind_step (ExprKind-F.Unary op operand) = operand
kind_step (ExprKind-F.Binary op left right) = left && right
kind_step (ExprKind-F.Assign op target value) = target && value
kind_step (ExprKind-F.Step up after target) = target
kind_step _ = true

abbrev pub init_step : Init-F Bool Bool Bool → Bool
init_step (Init-F.Value expr) = expr
init_step (Init-F.Items items span) = all_true items

abbrev pub expr_step : Expr-F Bool Bool Bool → Bool
expr_step expr = expr.kind

abbrev pub is_written_expr : Expr → Bool
is_written_expr = fold-Expr Bool Bool Bool kind_step init_step expr_step

abbrev pub is_written_init : Init → Bool
is_written_init = fold-Init Bool Bool Bool kind_step init_step expr_step

abbrev pub is_written_decl : LocalDecl → Bool
is_written_decl decl = is_written_type decl.ty && maybe_true is_written_init decl.init

abbrev pub stmt_kind_step : StmtKind-F Bool Bool → Bool
stmt_kind_step (StmtKind-F.Block body) = all_true body
stmt_kind_step (StmtKind-F.Local decls) = each_true is_written_decl decls
stmt_kind_step (StmtKind-F.If condition first second) = is_written_expr condition && (first && or_true second)
stmt_kind_step (StmtKind-F.While condition body) = is_written_expr condition && body
stmt_kind_step (StmtKind-F.Do body condition) = body && is_written_expr condition
stmt_kind_step (StmtKind-F.For first condition update body) = all_true first && (maybe_true is_written_expr condition && (each_true is_written_expr update && body))
stmt_kind_step (StmtKind-F.Return value) = maybe_true is_written_expr value
stmt_kind_step (StmtKind-F.Print value) = is_written_expr value
stmt_kind_step (StmtKind-F.Run expr) = is_written_expr expr
stmt_kind_step _ = true

abbrev pub is_written_stmt : Stmt → Bool
is_written_stmt = fold-Stmt Bool Bool stmt_kind_step (λ stmt. stmt.kind)

abbrev pub has_no_result : Option TypeTree → Bool
has_no_result None = true
has_no_result (Some ty) = false

abbrev pub is_written_method : MethodDecl → Bool
is_written_method method =
    (not method.constructor || has_no_result method.result) && (maybe_true is_written_type method.result && (each_true is_written_decl method.params
    && (maybe_true (each_true is_written_expr) method.parent_args && each_true is_written_stmt method.body)))

abbrev pub is_written_member : Member → Bool
is_written_member (member.Field decl) = is_written_decl decl
is_written_member (member.Method method) = is_written_method method

abbrev pub is_written : List ClassDecl → Bool
is_written decls = each_true (λ (decl : ClassDecl). each_true is_written_member decl.members) decls
