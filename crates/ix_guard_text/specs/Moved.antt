-- Tokens and trees whose places are moved: where something begins by one function of places, where it ends by another.
use Rattle.std.specs.Prelude.{ℕ, List, map}
use Rattle.ix_text.specs.declared.span.Span.{Span}
use Rattle.ix_lexer.specs.declared.token.Token.{Token}
use Rattle.ix_tree.specs.declared.annot.Annot.{Annot}
use Rattle.ix_tree.specs.declared.annot.AnnotArg.{AnnotArg}
use Rattle.ix_tree.specs.declared.annot.BaseTree.{BaseTree}
use Rattle.ix_tree.specs.declared.annot.BaseTree.TheVariants.{Int, Boolean, Named}
use Rattle.ix_tree.specs.declared.annot.Ident.{Ident}
use Rattle.ix_tree.specs.declared.annot.Mods.{Mods}
use Rattle.ix_tree.specs.declared.annot.TypeTree.{TypeTree}
use Rattle.ix_tree.specs.declared.decl.ClassDecl.{ClassDecl}
use Rattle.ix_tree.specs.declared.decl.LocalDecl.{LocalDecl}
use Rattle.ix_tree.specs.declared.decl.Member.{Member}
use Rattle.ix_tree.specs.declared.decl.Member.TheVariants.{Field, Method}
use Rattle.ix_tree.specs.declared.decl.MethodDecl.{MethodDecl}
use Rattle.ix_tree.specs.declared.decl.Unit.{Unit as Source}
use Rattle.ix_tree.specs.declared.expr.Expr.{Expr, Expr-F, fold-Expr}
use Rattle.ix_tree.specs.declared.expr.ExprKind.{ExprKind, ExprKind-F}
use Rattle.ix_tree.specs.declared.expr.ExprKind.TheVariants as e
use Rattle.ix_tree.specs.declared.expr.Init.{Init, Init-F, fold-Init}
use Rattle.ix_tree.specs.declared.expr.Init.TheVariants as i
use Rattle.ix_tree.specs.declared.stmt.Stmt.{Stmt, Stmt-F, fold-Stmt}
use Rattle.ix_tree.specs.declared.stmt.StmtKind.{StmtKind, StmtKind-F}
use Rattle.ix_tree.specs.declared.stmt.StmtKind.TheVariants as s
use Rattle.ix_guard_text.specs.Bare.{bare_maybe as maybe}

-- Where what begins at a place begins then, and where what ends at a place ends.
pub record Move : Type 0 where
  pub from : ℕ → ℕ
  pub to : ℕ → ℕ

module _ (move : Move) where
  abbrev pub moved_span : Span → Span
  moved_span span = record { from = move.from span.from; to = move.to span.to }

  abbrev pub moved_token : Token → Token
  moved_token token = record { kind = token.kind; span = moved_span token.span }

  abbrev pub moved_tokens : List Token → List Token
  moved_tokens tokens = map moved_token tokens

  -- ---- annotations and types

  abbrev pub moved_name : Ident → Ident
  moved_name name = record { text = name.text; span = moved_span name.span }

  abbrev pub moved_arg : AnnotArg → AnnotArg
  moved_arg arg = record { name = maybe moved_name arg.name; value = arg.value; span = moved_span arg.span }

  abbrev pub moved_annot : Annot → Annot
  moved_annot annot = record { name = moved_name annot.name; args = map moved_arg annot.args; span = moved_span annot.span }

  abbrev pub moved_base : BaseTree → BaseTree
  moved_base Int = Int
  moved_base Boolean = Boolean
  moved_base (Named name) = Named (moved_name name)

  abbrev pub moved_type : TypeTree → TypeTree
  moved_type ty = record { base = moved_base ty.base; annots = map moved_annot ty.annots; depth = ty.depth; span = moved_span ty.span }

  abbrev pub moved_mods : Mods → Mods
  moved_mods mods = record { is_static = mods.is_static; is_final = mods.is_final; is_private = mods.is_private; annots = map moved_annot mods.annots }

  -- ---- expressions and initialisers

  abbrev pub kind_step : ExprKind-F ExprKind Init Expr → ExprKind
  kind_step (ExprKind-F.Int n) = e.Int n
  kind_step (ExprKind-F.Bool b) = e.Bool b
  kind_step ExprKind-F.Null = e.Null
  kind_step ExprKind-F.This = e.This
  kind_step (ExprKind-F.Name name) = e.Name (moved_name name)
  kind_step (ExprKind-F.Select object name) = e.Select object (moved_name name)
  kind_step (ExprKind-F.Index array index) = e.Index array index
  kind_step (ExprKind-F.Call object name args) = e.Call object (moved_name name) args
  kind_step (ExprKind-F.New name args) = e.New (moved_name name) args
  kind_step (ExprKind-F.NewArray ty size) = e.NewArray (moved_type ty) size
  kind_step (ExprKind-F.NewItems ty items) = e.NewItems (moved_type ty) items
  kind_step (ExprKind-F.Unary op operand) = e.Unary op operand
  kind_step (ExprKind-F.Binary op left right) = e.Binary op left right
  kind_step (ExprKind-F.Assign op target value) = e.Assign op target value
  kind_step (ExprKind-F.Step up after target) = e.Step up after target

  abbrev pub init_step : Init-F ExprKind Init Expr → Init
  init_step (Init-F.Value expr) = i.Value expr
  init_step (Init-F.Items items span) = i.Items items (moved_span span)

  abbrev pub expr_step : Expr-F ExprKind Init Expr → Expr
  expr_step expr = record { kind = expr.kind; span = moved_span expr.span }

  abbrev pub moved_expr : Expr → Expr
  moved_expr = fold-Expr ExprKind Init Expr kind_step init_step expr_step

  abbrev pub moved_init : Init → Init
  moved_init = fold-Init ExprKind Init Expr kind_step init_step expr_step

  -- ---- declarations of variables

  abbrev pub moved_decl : LocalDecl → LocalDecl
  moved_decl decl = record { mods = moved_mods decl.mods; ty = moved_type decl.ty; name = moved_name decl.name; init = maybe moved_init decl.init }

  -- ---- statements

  abbrev pub stmt_kind_step : StmtKind-F StmtKind Stmt → StmtKind
  stmt_kind_step (StmtKind-F.Block body) = s.Block body
  stmt_kind_step StmtKind-F.Empty = s.Empty
  stmt_kind_step (StmtKind-F.Local decls) = s.Local (map moved_decl decls)
  stmt_kind_step (StmtKind-F.If condition first second) = s.If (moved_expr condition) first second
  stmt_kind_step (StmtKind-F.While condition body) = s.While (moved_expr condition) body
  stmt_kind_step (StmtKind-F.Do body condition) = s.Do body (moved_expr condition)
  stmt_kind_step (StmtKind-F.For first condition update body) = s.For first (maybe moved_expr condition) (map moved_expr update) body
  stmt_kind_step StmtKind-F.Break = s.Break
  stmt_kind_step StmtKind-F.Continue = s.Continue
  stmt_kind_step (StmtKind-F.Return value) = s.Return (maybe moved_expr value)
  stmt_kind_step (StmtKind-F.Throw name) = s.Throw (moved_name name)
  stmt_kind_step (StmtKind-F.Print value) = s.Print (moved_expr value)
  stmt_kind_step (StmtKind-F.Run expr) = s.Run (moved_expr expr)

  abbrev pub stmt_step : Stmt-F StmtKind Stmt → Stmt
  stmt_step stmt = record { kind = stmt.kind; span = moved_span stmt.span }

  abbrev pub moved_stmt : Stmt → Stmt
  moved_stmt = fold-Stmt StmtKind Stmt stmt_kind_step stmt_step

  -- ---- members, classes and whole sources

  abbrev pub moved_method : MethodDecl → MethodDecl
  moved_method method = record {
    mods = moved_mods method.mods;
    result = maybe moved_type method.result;
    constructor = method.constructor;
    name = moved_name method.name;
    params = map moved_decl method.params;
    parent_args = maybe (map moved_expr) method.parent_args;
    body = map moved_stmt method.body;
    span = moved_span method.span;
  }

  abbrev pub moved_member : Member → Member
  moved_member (Field decl) = Field (moved_decl decl)
  moved_member (Method method) = Method (moved_method method)

  abbrev pub moved_class : ClassDecl → ClassDecl
  moved_class class = record { name = moved_name class.name; parent = maybe moved_name class.parent; members = map moved_member class.members; span = moved_span class.span }

  abbrev pub moved_source : Source → Source
  moved_source unit = record { classes = map moved_class unit.classes }
