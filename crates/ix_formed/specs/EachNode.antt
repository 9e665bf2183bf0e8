-- What holds of the place of each node of a tree.
use Rattle.std.specs.Prelude.{ℕ, ◌≤◌, ◌<◌, List, Option, Some, None}
use Rattle.std.specs.List.{AllByRecursion}
use Rattle.ix_text.specs.declared.span.Span.{Span}
use Rattle.ix_tree.specs.declared.annot.Annot.{Annot}
use Rattle.ix_tree.specs.declared.annot.Ident.{Ident}
use Rattle.ix_tree.specs.declared.annot.TypeTree.{TypeTree}
use Rattle.ix_tree.specs.declared.decl.ClassDecl.{ClassDecl}
use Rattle.ix_tree.specs.declared.decl.LocalDecl.{LocalDecl}
use Rattle.ix_tree.specs.declared.decl.Member.{Member}
use Rattle.ix_tree.specs.declared.decl.Member.TheVariants.{Field, Method}
use Rattle.ix_tree.specs.declared.decl.MethodDecl.{MethodDecl}
use Rattle.ix_tree.specs.declared.decl.Unit.{Unit as Source}
use Rattle.ix_tree.specs.declared.expr.Expr.{Expr}
use Rattle.ix_tree.specs.declared.expr.Init.{Init}
use Rattle.ix_tree.specs.declared.stmt.Stmt.{Stmt}
use Rattle.ix_tree.specs.Placed.{Layout, nothing, node, copy, annot_piece, type_piece, expr_piece, init_piece, stmt_piece}

-- It stands in a text of that length, and isn't empty.
abbrev pub InText : ℕ → Span → Type 0
InText end span = (span.from < span.to) × (span.to ≤ end)

-- It holds of the span of each of these nodes, and of those in them.
abbrev pub EachNode : (Span → Type 0) → Layout → Type 0
EachNode P nothing = Unit {0}
EachNode P (node span parts later) = P span × EachNode P parts × EachNode P later
EachNode P (copy parts later) = EachNode P parts × EachNode P later

abbrev pub IfSome : {A : Type 0} → (A → Type 0) → Option A → Type 0
IfSome P None = Unit {0}
IfSome P (Some x) = P x

module _ (P : Span → Type 0) where
  abbrev pub IdentNodes : Ident → Type 0
  IdentNodes name = P name.span

  abbrev pub AnnotNodes : Annot → Type 0
  AnnotNodes annot = EachNode P (annot_piece annot)

  abbrev pub TypeNodes : TypeTree → Type 0
  TypeNodes ty = EachNode P (type_piece ty)

  abbrev pub ExprNodes : Expr → Type 0
  ExprNodes expr = EachNode P (expr_piece expr)

  abbrev pub InitNodes : Init → Type 0
  InitNodes init = EachNode P (init_piece init)

  abbrev pub StmtNodes : Stmt → Type 0
  StmtNodes stmt = EachNode P (stmt_piece stmt)

  pub record DeclNodes (decl : LocalDecl) : Type 0 where
    pub annots : AllByRecursion AnnotNodes decl.mods.annots
    pub ty : TypeNodes decl.ty
    pub name : P decl.name.span
    pub init : IfSome InitNodes decl.init

  abbrev pub ArgsNodes : List Expr → Type 0
  ArgsNodes args = AllByRecursion ExprNodes args

  pub record MethodNodes (method : MethodDecl) : Type 0 where
    pub span : P method.span
    pub annots : AllByRecursion AnnotNodes method.mods.annots
    pub result : IfSome TypeNodes method.result
    pub name : P method.name.span
    pub params : AllByRecursion DeclNodes method.params
    pub parent_args : IfSome ArgsNodes method.parent_args
    pub body : AllByRecursion StmtNodes method.body

  abbrev pub MemberNodes : Member → Type 0
  MemberNodes (Field decl) = DeclNodes decl
  MemberNodes (Method method) = MethodNodes method

  pub record ClassNodes (class : ClassDecl) : Type 0 where
    pub span : P class.span
    pub name : P class.name.span
    pub parent : IfSome IdentNodes class.parent
    pub members : AllByRecursion MemberNodes class.members

  abbrev pub SourceNodes : Source → Type 0
  SourceNodes source = AllByRecursion ClassNodes source.classes
