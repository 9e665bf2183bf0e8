-- What stands in a tree, and what a tree must be so that names can be looked up in it by their places.
use Rattle.std.specs.Prelude.{◌≡◌, ◌≢◌, ◌≤◌, ℕ, suc, List, [], ◌∷◌, ◌++◌, length, Option, Some, None}
use Rattle.ix_text.specs.declared.span.Span.{Span}
use Rattle.ix_tree.specs.declared.annot.Annot.{Annot}
use Rattle.ix_tree.specs.declared.annot.AnnotArg.{AnnotArg}
use Rattle.ix_tree.specs.declared.annot.AnnotValue.{AnnotValue}
use Rattle.ix_tree.specs.declared.annot.AnnotValue.TheVariants.{Number, Truth, Texts}
use Rattle.ix_tree.specs.declared.annot.BaseTree.{BaseTree}
use Rattle.ix_tree.specs.declared.annot.BaseTree.TheVariants.{Int, Boolean, Named}
use Rattle.ix_tree.specs.declared.annot.Ident.{Ident}
use Rattle.ix_tree.specs.declared.annot.Mods.{Mods}
use Rattle.ix_tree.specs.declared.annot.TypeTree.{TypeTree}
use Rattle.ix_tree.specs.declared.decl.ClassDecl.{ClassDecl}
use Rattle.ix_tree.specs.declared.decl.LocalDecl.{LocalDecl}
use Rattle.ix_tree.specs.declared.decl.Member.{Member}
use Rattle.ix_tree.specs.declared.decl.Member.TheVariants.{Field, Method}
use Rattle.ix_tree.specs.declared.decl.MethodDecl.{MethodDecl}
use Rattle.ix_tree.specs.declared.decl.Unit.{Unit as Source}
use Rattle.ix_tree.specs.declared.expr.Expr.{Expr, Expr-F, fold-Expr}
use Rattle.ix_tree.specs.declared.expr.ExprKind.{ExprKind-F}
use Rattle.ix_tree.specs.declared.expr.Init.{Init, Init-F, fold-Init}
use Rattle.ix_tree.specs.declared.stmt.Stmt.{Stmt, Stmt-F, fold-Stmt}
use Rattle.ix_tree.specs.declared.stmt.StmtKind.{StmtKind-F}

-- ---- what stands in a tree, from its first token to its last

pub data Part : Type 0 where
  expression : Span → Part
  statement : Span → Part
  -- of a class, a method or constructor, a field, a parameter or a local
  declaration : Part
  -- an identifier in modifiers or in a type
  in_type : Ident → Part
  -- any other identifier
  elsewhere : Ident → Part
  -- a list with so many entries
  entries : ℕ → Part

abbrev pub together : List (List Part) → List Part
together [] = []
together (parts ∷ more) = parts ++ together more

-- a list, of whose entries these are the parts
abbrev pub listed : List (List Part) → List Part
listed parts = entries (length parts) ∷ together parts

abbrev pub each : {A : Type 0} → (A → List Part) → List A → List (List Part)
each parts [] = []
each parts (x ∷ xs) = parts x ∷ each parts xs

abbrev pub maybe : {A : Type 0} → (A → List Part) → Option A → List Part
maybe parts None = []
maybe parts (Some x) = parts x

abbrev pub type_name : Ident → List Part
type_name name = in_type name ∷ []

-- ---- annotations, modifiers, types

abbrev pub value_parts : AnnotValue → List Part
value_parts (Number n) = []
value_parts (Truth b) = []
value_parts (Texts texts) = entries (length texts) ∷ []

abbrev pub arg_parts : AnnotArg → List Part
arg_parts arg = maybe type_name arg.name ++ value_parts arg.value

abbrev pub annot_parts : Annot → List Part
annot_parts annot = in_type annot.name ∷ listed (each arg_parts annot.args)

abbrev pub mods_parts : Mods → List Part
mods_parts mods = listed (each annot_parts mods.annots)

abbrev pub base_parts : BaseTree → List Part
base_parts Int = []
base_parts Boolean = []
base_parts (Named name) = type_name name

abbrev pub type_parts : TypeTree → List Part
type_parts ty = base_parts ty.base ++ listed (each annot_parts ty.annots)

-- ---- expressions and initialisers: a list of parts stands for each child

abbrev pub kind_step : ExprKind-F (List Part) (List Part) (List Part) → List Part
kind_step (ExprKind-F.Name name) = elsewhere name ∷ []
kind_step (ExprKind-F.Select object name) = object ++ elsewhere name ∷ []
kind_step (ExprKind-F.Index array index) = array ++ index
kind_step (ExprKind-F.Call None name args) = elsewhere name ∷ listed args
kind_step (ExprKind-F.Call (Some object) name args) = object ++ elsewhere name ∷ listed args
kind_step (ExprKind-F.New name args) = elsewhere name ∷ listed args
kind_step (ExprKind-F.NewArray ty size) = type_parts ty ++ size
kind_step (ExprKind-F.NewItems ty items) = type_parts ty ++ listed items
kind_step (ExprKind-F.Unary op operand) = operand
kind_step (ExprKind-F.Binary op left right) = left ++ right
kind_step (ExprKind-F.Assign op target value) = target ++ value
kind_step (ExprKind-F.Step up after target) = target
kind_step _ = []

abbrev pub init_step : Init-F (List Part) (List Part) (List Part) → List Part
init_step (Init-F.Value expr) = expr
init_step (Init-F.Items items span) = listed items

abbrev pub expr_step : Expr-F (List Part) (List Part) (List Part) → List Part
expr_step expr = expression expr.span ∷ expr.kind

abbrev pub expr_parts : Expr → List Part
expr_parts = fold-Expr (List Part) (List Part) (List Part) kind_step init_step expr_step

abbrev pub init_parts : Init → List Part
init_parts = fold-Init (List Part) (List Part) (List Part) kind_step init_step expr_step

-- ---- declarations of variables

abbrev pub decl_parts : LocalDecl → List Part
decl_parts decl = declaration ∷ (mods_parts decl.mods ++ (type_parts decl.ty ++ elsewhere decl.name ∷ maybe init_parts decl.init))

-- ---- statements

abbrev pub stmt_kind_step : StmtKind-F (List Part) (List Part) → List Part
stmt_kind_step (StmtKind-F.Block body) = listed body
stmt_kind_step (StmtKind-F.Local decls) = listed (each decl_parts decls)
stmt_kind_step (StmtKind-F.If condition then None) = expr_parts condition ++ then
stmt_kind_step (StmtKind-F.If condition then (Some other)) = expr_parts condition ++ (then ++ other)
stmt_kind_step (StmtKind-F.While condition body) = expr_parts condition ++ body
stmt_kind_step (StmtKind-F.Do body condition) = body ++ expr_parts condition
stmt_kind_step (StmtKind-F.For first condition update body) = listed first ++ (maybe expr_parts condition ++ (listed (each expr_parts update) ++ body))
stmt_kind_step (StmtKind-F.Return value) = maybe expr_parts value
stmt_kind_step (StmtKind-F.Throw name) = elsewhere name ∷ []
stmt_kind_step (StmtKind-F.Print value) = expr_parts value
stmt_kind_step (StmtKind-F.Run expr) = expr_parts expr
stmt_kind_step _ = []

abbrev pub stmt_step : Stmt-F (List Part) (List Part) → List Part
stmt_step stmt = statement stmt.span ∷ stmt.kind

abbrev pub stmt_parts : Stmt → List Part
stmt_parts = fold-Stmt (List Part) (List Part) stmt_kind_step stmt_step

-- ---- methods, classes, sources

abbrev pub args_parts : List Expr → List Part
args_parts args = listed (each expr_parts args)

abbrev pub method_parts : MethodDecl → List Part
method_parts method =
    declaration ∷ (mods_parts method.mods ++ (maybe type_parts method.result ++ elsewhere method.name
    ∷ (listed (each decl_parts method.params) ++ (maybe args_parts method.parent_args ++ listed (each stmt_parts method.body)))))

abbrev pub member_parts : Member → List Part
member_parts (Field decl) = decl_parts decl
member_parts (Method method) = method_parts method

abbrev pub other_name : Ident → List Part
other_name name = elsewhere name ∷ []

abbrev pub class_parts : ClassDecl → List Part
class_parts class = declaration ∷ elsewhere class.name ∷ (maybe other_name class.parent ++ listed (each member_parts class.members))

abbrev pub unit_parts : Source → List Part
unit_parts unit = listed (each class_parts unit.classes)

-- ---- the condition

-- Two expressions have different spans. Two identifiers with one span are equal and stand in modifiers or types, of which each declarator
-- of a declaration has its own copy.
abbrev pub Apart : Part → Part → Type 0
Apart (expression a) (expression b) = a ≢ b
Apart (in_type a) (in_type b) = a.span ≡ b.span → a ≡ b
Apart (in_type a) (elsewhere b) = a.span ≢ b.span
Apart (elsewhere a) (in_type b) = a.span ≢ b.span
Apart (elsewhere a) (elsewhere b) = a.span ≢ b.span
Apart _ _ = Unit {0}

abbrev pub All : (Part → Type 0) → List Part → Type 0
All P [] = Unit {0}
All P (part ∷ parts) = P part × All P parts

-- each of them with each later one
abbrev pub AllApart : List Part → Type 0
AllApart [] = Unit {0}
AllApart (part ∷ parts) = All (Apart part) parts × AllApart parts

abbrev pub most_entries : ℕ
most_entries = 200000

abbrev pub IsShort : Part → Type 0
IsShort (entries n) = n ≤ most_entries
IsShort _ = Unit {0}

abbrev pub declarations : List Part → ℕ
declarations [] = 0
declarations (declaration ∷ parts) = suc (declarations parts)
declarations (_ ∷ parts) = declarations parts

-- statements and expressions
abbrev pub nodes : List Part → ℕ
nodes [] = 0
nodes (expression span ∷ parts) = suc (nodes parts)
nodes (statement span ∷ parts) = suc (nodes parts)
nodes (_ ∷ parts) = nodes parts

-- Names can be looked up in the tree by their places.
pub record CanResolve (unit : Source) : Type 0 where
  pub apart : AllApart (unit_parts unit)
  pub short : All IsShort (unit_parts unit)
  pub few_declarations : declarations (unit_parts unit) ≤ most_entries
  pub few_nodes : nodes (unit_parts unit) ≤ most_entries
