-- Trees with one place everywhere: two trees are the same up to places where these are equal.
use Rattle.std.specs.Prelude.{map, Option, Some, None}
use Rattle.ix_text.specs.declared.span.Span.{Span}
use Rattle.ix_tree.specs.declared.annot.Annot.{Annot}
use Rattle.ix_tree.specs.declared.annot.AnnotArg.{AnnotArg}
use Rattle.ix_tree.specs.declared.annot.BaseTree.{BaseTree}
use Rattle.ix_tree.specs.declared.annot.BaseTree.TheVariants.{Int, Boolean, Named}
use Rattle.ix_tree.specs.declared.annot.Ident.{Ident}
use Rattle.ix_tree.specs.declared.annot.Mods.{Mods}
use Rattle.ix_tree.specs.declared.annot.TypeTree.{TypeTree}
use Rattle.ix_tree.specs.declared.decl.ClassDecl.{ClassDecl}
use Rattle.ix_tree.specs.declared.decl.LocalDecl.{LocalDecl}
use Rattle.ix_tree.specs.declared.decl.Member.{Member}
use Rattle.ix_tree.specs.declared.decl.Member.TheVariants.{Field, Method}
use Rattle.ix_tree.specs.declared.decl.MethodDecl.{MethodDecl}
use Rattle.ix_tree.specs.declared.decl.Unit.{Unit as Source}
use Rattle.ix_tree.specs.declared.expr.Expr.{Expr, Expr-F, fold-Expr}
use Rattle.ix_tree.specs.declared.expr.ExprKind.{ExprKind, ExprKind-F}
use Rattle.ix_tree.specs.declared.expr.ExprKind.TheVariants as e
use Rattle.ix_tree.specs.declared.expr.Init.{Init, Init-F, fold-Init}
use Rattle.ix_tree.specs.declared.expr.Init.TheVariants as i
use Rattle.ix_tree.specs.declared.stmt.Stmt.{Stmt, Stmt-F, fold-Stmt}
use Rattle.ix_tree.specs.declared.stmt.StmtKind.{StmtKind, StmtKind-F}
use Rattle.ix_tree.specs.declared.stmt.StmtKind.TheVariants as s

abbrev pub nowhere : Span
nowhere = record { from = 0; to = 0 }

abbrev pub bare_maybe : {A B : Type 0} → (A → B) → Option A → Option B
bare_maybe of None = None
bare_maybe of (Some x) = Some (of x)

-- ---- annotations and types

abbrev pub bare_name : Ident → Ident
bare_name name = record { text = name.text; span = nowhere }

abbrev pub bare_arg : AnnotArg → AnnotArg
bare_arg arg = record { name = bare_maybe bare_name arg.name; value = arg.value; span = nowhere }

abbrev pub bare_annot : Annot → Annot
bare_annot annot = record { name = bare_name annot.name; args = map bare_arg annot.args; span = nowhere }

abbrev pub bare_base : BaseTree → BaseTree
bare_base Int = Int
bare_base Boolean = Boolean
bare_base (Named name) = Named (bare_name name)

abbrev pub bare_type : TypeTree → TypeTree
bare_type ty = record { base = bare_base ty.base; annots = map bare_annot ty.annots; depth = ty.depth; span = nowhere }

abbrev pub bare_mods : Mods → Mods
bare_mods mods = record { is_static = mods.is_static; is_final = mods.is_final; is_private = mods.is_private; annots = map bare_annot mods.annots }

-- ---- expressions and initialisers

abbrev pub kind_step : ExprKind-F ExprKind Init Expr → ExprKind
kind_step (ExprKind-F.Int n) = e.Int n
kind_step (ExprKind-F.Bool b) = e.Bool b
kind_step ExprKind-F.Null = e.Null
kind_step ExprKind-F.This = e.This
kind_step (ExprKind-F.Name name) = e.Name (bare_name name)
kind_step (ExprKind-F.Select object name) = e.Select object (bare_name name)
kind_step (ExprKind-F.Index array index) = e.Index array index
kind_step (ExprKind-F.Call object name args) = e.Call object (bare_name name) args
kind_step (ExprKind-F.New name args) = e.New (bare_name name) args
kind_step (ExprKind-F.NewArray ty size) = e.NewArray (bare_type ty) size
kind_step (ExprKind-F.NewItems ty items) = e.NewItems (bare_type ty) items
kind_step (ExprKind-F.Unary op operand) = e.Unary op operand
kind_step (ExprKind-F.Binary op left right) = e.Binary op left right
kind_step (ExprKind-F.Assign op target value) = e.Assign op target value
kind_step (ExprKind-F.Step up after target) = e.Step up after target

abbrev pub init_step : Init-F ExprKind Init Expr → Init
init_step (Init-F.Value expr) = i.Value expr
init_step (Init-F.Items items span) = i.Items items nowhere

abbrev pub expr_step : Expr-F ExprKind Init Expr → Expr
expr_step expr = record { kind = expr.kind; span = nowhere }

abbrev pub bare_expr : Expr → Expr
bare_expr = fold-Expr ExprKind Init Expr kind_step init_step expr_step

abbrev pub bare_init : Init → Init
bare_init = fold-Init ExprKind Init Expr kind_step init_step expr_step

-- ---- declarations of variables

abbrev pub bare_decl : LocalDecl → LocalDecl
bare_decl decl = record { mods = bare_mods decl.mods; ty = bare_type decl.ty; name = bare_name decl.name; init = bare_maybe bare_init decl.init }

-- ---- statements

abbrev pub stmt_kind_step : StmtKind-F StmtKind Stmt → StmtKind
stmt_kind_step (StmtKind-F.Block body) = s.Block body
stmt_kind_step StmtKind-F.Empty = s.Empty
stmt_kind_step (StmtKind-F.Local decls) = s.Local (map bare_decl decls)
stmt_kind_step (StmtKind-F.If condition first second) = s.If (bare_expr condition) first second
stmt_kind_step (StmtKind-F.While condition body) = s.While (bare_expr condition) body
stmt_kind_step (StmtKind-F.Do body condition) = s.Do body (bare_expr condition)
stmt_kind_step (StmtKind-F.For first condition update body) = s.For first (bare_maybe bare_expr condition) (map bare_expr update) body
stmt_kind_step StmtKind-F.Break = s.Break
stmt_kind_step StmtKind-F.Continue = s.Continue
stmt_kind_step (StmtKind-F.Return value) = s.Return (bare_maybe bare_expr value)
stmt_kind_step (StmtKind-F.Throw name) = s.Throw (bare_name name)
stmt_kind_step (StmtKind-F.Print value) = s.Print (bare_expr value)
stmt_kind_step (StmtKind-F.Run expr) = s.Run (bare_expr expr)

abbrev pub stmt_step : Stmt-F StmtKind Stmt → Stmt
stmt_step stmt = record { kind = stmt.kind; span = nowhere }

abbrev pub bare_stmt : Stmt → Stmt
bare_stmt = fold-Stmt StmtKind Stmt stmt_kind_step stmt_step

-- ---- members, classes and whole sources

abbrev pub bare_method : MethodDecl → MethodDecl
bare_method method = record {
  mods = bare_mods method.mods;
  result = bare_maybe bare_type method.result;
  constructor = method.constructor;
  name = bare_name method.name;
  params = map bare_decl method.params;
  parent_args = bare_maybe (map bare_expr) method.parent_args;
  body = map bare_stmt method.body;
  span = nowhere;
}

abbrev pub bare_member : Member → Member
bare_member (Field decl) = Field (bare_decl decl)
bare_member (Method method) = Method (bare_method method)

abbrev pub bare_class : ClassDecl → ClassDecl
bare_class class = record { name = bare_name class.name; parent = bare_maybe bare_name class.parent; members = map bare_member class.members; span = nowhere }

abbrev pub bare_source : Source → Source
bare_source unit = record { classes = map bare_class unit.classes }
