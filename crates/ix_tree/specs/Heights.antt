-- The height of a tree: 1 for a node without parts, and 1 more than that of the highest part for any other.
use Rattle.std.specs.Prelude.{ℕ, ◌+◌, max, List, [], ◌∷◌, map, Option, Some, None}
use Rattle.ix_tree.specs.declared.annot.Annot.{Annot}
use Rattle.ix_tree.specs.declared.annot.AnnotArg.{AnnotArg}
use Rattle.ix_tree.specs.declared.annot.BaseTree.{BaseTree}
use Rattle.ix_tree.specs.declared.annot.BaseTree.TheVariants.{Int, Boolean, Named}
use Rattle.ix_tree.specs.declared.annot.Ident.{Ident}
use Rattle.ix_tree.specs.declared.annot.Mods.{Mods}
use Rattle.ix_tree.specs.declared.annot.TypeTree.{TypeTree}
use Rattle.ix_tree.specs.declared.decl.ClassDecl.{ClassDecl}
use Rattle.ix_tree.specs.declared.decl.LocalDecl.{LocalDecl}
use Rattle.ix_tree.specs.declared.decl.Member.{Member}
use Rattle.ix_tree.specs.declared.decl.Member.TheVariants.{Field, Method}
use Rattle.ix_tree.specs.declared.decl.MethodDecl.{MethodDecl}
use Rattle.ix_tree.specs.declared.decl.Unit.{Unit as Source}
use Rattle.ix_tree.specs.declared.expr.Expr.{Expr, Expr-F, fold-Expr}
use Rattle.ix_tree.specs.declared.expr.ExprKind.{ExprKind-F}
use Rattle.ix_tree.specs.declared.expr.Init.{Init, Init-F, fold-Init}
use Rattle.ix_tree.specs.declared.stmt.Stmt.{Stmt, Stmt-F, fold-Stmt}
use Rattle.ix_tree.specs.declared.stmt.StmtKind.{StmtKind-F}

-- the greatest of these, 0 where there is none
abbrev pub greatest : List ℕ → ℕ
greatest [] = 0
greatest (height ∷ heights) = max height (greatest heights)

abbrev pub of_maybe : {A : Type 0} → (A → ℕ) → Option A → ℕ
of_maybe height None = 0
of_maybe height (Some x) = height x

abbrev pub of_all : {A : Type 0} → (A → ℕ) → List A → ℕ
of_all height xs = greatest (map height xs)

abbrev pub name_height : Ident → ℕ
name_height name = 1

-- ---- annotations and types

abbrev pub arg_height : AnnotArg → ℕ
arg_height arg = 1 + of_maybe name_height arg.name

abbrev pub annot_height : Annot → ℕ
annot_height annot = 1 + max (name_height annot.name) (of_all arg_height annot.args)

abbrev pub base_height : BaseTree → ℕ
base_height Int = 0
base_height Boolean = 0
base_height (Named name) = name_height name

abbrev pub type_height : TypeTree → ℕ
type_height ty = 1 + max (base_height ty.base) (of_all annot_height ty.annots)

-- ---- expressions and initialisers: a height stands for each child, and for a form the height of its highest part

abbrev pub kind_height : ExprKind-F ℕ ℕ ℕ → ℕ
kind_height (ExprKind-F.Name name) = name_height name
kind_height (ExprKind-F.Select object name) = max object (name_height name)
kind_height (ExprKind-F.Index array index) = max array index
kind_height (ExprKind-F.Call object name args) = max (of_maybe (λ height. height) object) (max (name_height name) (greatest args))
kind_height (ExprKind-F.New name args) = max (name_height name) (greatest args)
kind_height (ExprKind-F.NewArray ty length) = max (type_height ty) length
kind_height (ExprKind-F.NewItems ty items) = max (type_height ty) (greatest items)
kind_height (ExprKind-F.Unary op operand) = operand
kind_height (ExprKind-F.Binary op left right) = max left right
kind_height (ExprKind-F.Assign op target value) = max target value
kind_height (ExprKind-F.Step up after target) = target
kind_height _ = 0

abbrev pub height_of_init : Init-F ℕ ℕ ℕ → ℕ
height_of_init (Init-F.Value expr) = 1 + expr
height_of_init (Init-F.Items items span) = 1 + greatest items

abbrev pub height_of_expr : Expr-F ℕ ℕ ℕ → ℕ
height_of_expr expr = 1 + expr.kind

abbrev pub expr_height : Expr → ℕ
expr_height = fold-Expr ℕ ℕ ℕ kind_height height_of_init height_of_expr

abbrev pub init_height : Init → ℕ
init_height = fold-Init ℕ ℕ ℕ kind_height height_of_init height_of_expr

-- ---- declarations of variables

abbrev pub mods_height : Mods → ℕ
mods_height mods = of_all annot_height mods.annots

abbrev pub decl_height : LocalDecl → ℕ
decl_height decl = 1 + max (max (mods_height decl.mods) (type_height decl.ty)) (max (name_height decl.name) (of_maybe init_height decl.init))

-- ---- statements

abbrev pub stmt_kind_height : StmtKind-F ℕ ℕ → ℕ
stmt_kind_height (StmtKind-F.Block body) = greatest body
stmt_kind_height (StmtKind-F.Local decls) = of_all decl_height decls
stmt_kind_height (StmtKind-F.If condition body other) = max (expr_height condition) (max body (of_maybe (λ height. height) other))
stmt_kind_height (StmtKind-F.While condition body) = max (expr_height condition) body
stmt_kind_height (StmtKind-F.Do body condition) = max body (expr_height condition)
stmt_kind_height (StmtKind-F.For first condition update body) = max (max (greatest first) (of_maybe expr_height condition)) (max (of_all expr_height update) body)
stmt_kind_height (StmtKind-F.Return value) = of_maybe expr_height value
stmt_kind_height (StmtKind-F.Throw name) = name_height name
stmt_kind_height (StmtKind-F.Print value) = expr_height value
stmt_kind_height (StmtKind-F.Run expr) = expr_height expr
stmt_kind_height _ = 0

abbrev pub height_of_stmt : Stmt-F ℕ ℕ → ℕ
height_of_stmt stmt = 1 + stmt.kind

abbrev pub stmt_height : Stmt → ℕ
stmt_height = fold-Stmt ℕ ℕ stmt_kind_height height_of_stmt

-- ---- members, classes, whole sources

abbrev pub args_height : List Expr → ℕ
args_height args = of_all expr_height args

abbrev pub method_height : MethodDecl → ℕ
method_height method = 1 + max (max (max (mods_height method.mods) (of_maybe type_height method.result)) (name_height method.name))
    (max (of_all decl_height method.params) (max (of_maybe args_height method.parent_args) (of_all stmt_height method.body)))

abbrev pub member_height : Member → ℕ
member_height (Field decl) = decl_height decl
member_height (Method method) = method_height method

abbrev pub class_height : ClassDecl → ℕ
class_height class = 1 + max (max (name_height class.name) (of_maybe name_height class.parent)) (of_all member_height class.members)

abbrev pub unit_height : Source → ℕ
unit_height unit = 1 + of_all class_height unit.classes
