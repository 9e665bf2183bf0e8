-- Where the nodes of a tree stand in its text: each within the node that it is a part of, and one behind the other.
use Rattle.std.specs.Prelude.{◌≤◌, ◌<◌, ℕ, max, Bool, false, if◌then◌else◌, ◌==◌, ◌&&◌, List, [], ◌∷◌, ◌++◌, map, Option, Some, None}
use Rattle.ix_text.specs.declared.span.Span.{Span}
use Rattle.ix_tree.specs.declared.annot.Annot.{Annot}
use Rattle.ix_tree.specs.declared.annot.AnnotArg.{AnnotArg}
use Rattle.ix_tree.specs.declared.annot.BaseTree.{BaseTree}
use Rattle.ix_tree.specs.declared.annot.BaseTree.TheVariants.{Int, Boolean, Named}
use Rattle.ix_tree.specs.declared.annot.Ident.{Ident}
use Rattle.ix_tree.specs.declared.annot.TypeTree.{TypeTree}
use Rattle.ix_tree.specs.declared.decl.ClassDecl.{ClassDecl}
use Rattle.ix_tree.specs.declared.decl.LocalDecl.{LocalDecl}
use Rattle.ix_tree.specs.declared.decl.Member.{Member}
use Rattle.ix_tree.specs.declared.decl.Member.TheVariants.{Field, Method}
use Rattle.ix_tree.specs.declared.decl.MethodDecl.{MethodDecl}
use Rattle.ix_tree.specs.declared.decl.Unit.{Unit as Source}
use Rattle.ix_tree.specs.declared.expr.Expr.{Expr, Expr-F, fold-Expr}
use Rattle.ix_tree.specs.declared.expr.ExprKind.{ExprKind-F}
use Rattle.ix_tree.specs.declared.expr.Init.{Init, Init-F, fold-Init}
use Rattle.ix_tree.specs.declared.stmt.Stmt.{Stmt, Stmt-F, fold-Stmt}
use Rattle.ix_tree.specs.declared.stmt.StmtKind.{StmtKind-F}

-- Nodes as they are written, one behind the other. A node has what stands in it; a copy is of nodes that are written further left.
pub data Layout : Type 0 where
  nothing : Layout
  node : Span → Layout → Layout → Layout
  copy : Layout → Layout → Layout

-- These stand one behind the other from `lo` to `hi`: none is empty, and its own parts stand in it. A copy stands further left than what comes behind
-- it, but not before `start`.
abbrev pub LaidOut : ℕ → ℕ → ℕ → Layout → Type 0
LaidOut start lo hi nothing = lo ≤ hi
LaidOut start lo hi (node span parts later) = (lo ≤ span.from) × (span.from < span.to) × LaidOut span.from span.from span.to parts × LaidOut start span.to hi later
LaidOut start lo hi (copy parts later) = (mid : ℕ) × LaidOut start start mid parts × LaidOut start (max lo mid) hi later

abbrev pub followed : Layout → Layout → Layout
followed nothing later = later
followed (node span parts rest) later = node span parts (followed rest later)
followed (copy parts rest) later = copy parts (followed rest later)

abbrev pub row : List Layout → Layout
row [] = nothing
row (first ∷ later) = followed first (row later)

abbrev pub piece : Span → List Layout → Layout
piece span parts = node span (row parts) nothing

abbrev pub again : List Layout → Layout
again parts = copy (row parts) nothing

abbrev pub maybe : {A : Type 0} → (A → Layout) → Option A → List Layout
maybe of None = []
maybe of (Some x) = of x ∷ []

abbrev pub name_piece : Ident → Layout
name_piece name = piece name.span []

-- ---- annotations and types

abbrev pub arg_piece : AnnotArg → Layout
arg_piece arg = piece arg.span (maybe name_piece arg.name)

abbrev pub annot_piece : Annot → Layout
annot_piece annot = piece annot.span (name_piece annot.name ∷ map arg_piece annot.args)

-- A type that is no name has no node of its own for its base.
abbrev pub base_pieces : BaseTree → List Layout
base_pieces Int = []
base_pieces Boolean = []
base_pieces (Named name) = name_piece name ∷ []

abbrev pub type_piece : TypeTree → Layout
type_piece ty = piece ty.span (base_pieces ty.base ++ map annot_piece ty.annots)

-- The type of a new array: its annotations stand before its base, and the length of the array in its first brackets.
abbrev pub new_type_piece : TypeTree → List Layout → Layout
new_type_piece ty size = piece ty.span (map annot_piece ty.annots ++ (base_pieces ty.base ++ size))

-- ---- expressions and initialisers: a piece stands for each child

abbrev pub kind_pieces : ExprKind-F (List Layout) Layout Layout → List Layout
kind_pieces (ExprKind-F.Name name) = name_piece name ∷ []
kind_pieces (ExprKind-F.Select object name) = object ∷ name_piece name ∷ []
kind_pieces (ExprKind-F.Index array index) = array ∷ index ∷ []
kind_pieces (ExprKind-F.Call None name args) = name_piece name ∷ args
kind_pieces (ExprKind-F.Call (Some object) name args) = object ∷ name_piece name ∷ args
kind_pieces (ExprKind-F.New name args) = name_piece name ∷ args
kind_pieces (ExprKind-F.NewArray ty length) = new_type_piece ty (length ∷ []) ∷ []
kind_pieces (ExprKind-F.NewItems ty items) = new_type_piece ty [] ∷ items
kind_pieces (ExprKind-F.Unary op operand) = operand ∷ []
kind_pieces (ExprKind-F.Binary op left right) = left ∷ right ∷ []
kind_pieces (ExprKind-F.Assign op target value) = target ∷ value ∷ []
kind_pieces (ExprKind-F.Step up after target) = target ∷ []
kind_pieces _ = []

abbrev pub init_of : Init-F (List Layout) Layout Layout → Layout
init_of (Init-F.Value expr) = expr
init_of (Init-F.Items items span) = piece span items

abbrev pub expr_of : Expr-F (List Layout) Layout Layout → Layout
expr_of expr = piece expr.span expr.kind

abbrev pub expr_piece : Expr → Layout
expr_piece = fold-Expr (List Layout) Layout Layout kind_pieces init_of expr_of

abbrev pub init_piece : Init → Layout
init_piece = fold-Init (List Layout) Layout Layout kind_pieces init_of expr_of

-- ---- declarations of variables

-- the modifiers and the type
abbrev pub shared_pieces : LocalDecl → List Layout
shared_pieces decl = map annot_piece decl.mods.annots ++ type_piece decl.ty ∷ []

-- the name, and the initialiser where there is one
abbrev pub own_pieces : LocalDecl → List Layout
own_pieces decl = name_piece decl.name ∷ maybe init_piece decl.init

abbrev pub decl_pieces : LocalDecl → List Layout
decl_pieces decl = shared_pieces decl ++ own_pieces decl

abbrev pub params_pieces : List LocalDecl → List Layout
params_pieces [] = []
params_pieces (param ∷ params) = decl_pieces param ++ params_pieces params

-- further declarators of one declaration
abbrev pub further_pieces : List LocalDecl → List Layout
further_pieces [] = []
further_pieces (decl ∷ decls) = again (shared_pieces decl) ∷ (own_pieces decl ++ further_pieces decls)

abbrev pub locals_pieces : List LocalDecl → List Layout
locals_pieces [] = []
locals_pieces (decl ∷ decls) = decl_pieces decl ++ further_pieces decls

-- ---- statements

abbrev pub stmt_kind_pieces : StmtKind-F (List Layout) Layout → List Layout
stmt_kind_pieces (StmtKind-F.Block body) = body
stmt_kind_pieces (StmtKind-F.Local decls) = locals_pieces decls
stmt_kind_pieces (StmtKind-F.If condition body None) = expr_piece condition ∷ body ∷ []
stmt_kind_pieces (StmtKind-F.If condition body (Some other)) = expr_piece condition ∷ body ∷ other ∷ []
stmt_kind_pieces (StmtKind-F.While condition body) = expr_piece condition ∷ body ∷ []
stmt_kind_pieces (StmtKind-F.Do body condition) = body ∷ expr_piece condition ∷ []
stmt_kind_pieces (StmtKind-F.For first condition update body) = first ++ (maybe expr_piece condition ++ (map expr_piece update ++ body ∷ []))
stmt_kind_pieces (StmtKind-F.Return value) = maybe expr_piece value
stmt_kind_pieces (StmtKind-F.Throw name) = name_piece name ∷ []
stmt_kind_pieces (StmtKind-F.Print value) = expr_piece value ∷ []
stmt_kind_pieces (StmtKind-F.Run expr) = expr_piece expr ∷ []
stmt_kind_pieces _ = []

abbrev pub stmt_of : Stmt-F (List Layout) Layout → Layout
stmt_of stmt = piece stmt.span stmt.kind

abbrev pub stmt_piece : Stmt → Layout
stmt_piece = fold-Stmt (List Layout) Layout stmt_kind_pieces stmt_of

-- ---- members, classes, whole sources

abbrev pub parent_pieces : Option (List Expr) → List Layout
parent_pieces None = []
parent_pieces (Some args) = map expr_piece args

abbrev pub method_piece : MethodDecl → Layout
method_piece method = piece method.span (map annot_piece method.mods.annots ++ (maybe type_piece method.result ++ name_piece method.name ∷
    (params_pieces method.params ++ (parent_pieces method.parent_args ++ map stmt_piece method.body))))

abbrev pub same_span : Option Span → Span → Bool
same_span None span = false
same_span (Some other) span = (other.from == span.from) && (other.to == span.to)

-- Fields of one declaration have one type, at one place.
abbrev pub field_shared : Option Span → LocalDecl → List Layout
field_shared before decl = if same_span before decl.ty.span then again (shared_pieces decl) ∷ [] else shared_pieces decl

-- Members behind a field whose type stands there, or behind none.
abbrev pub members_pieces : Option Span → List Member → List Layout
members_pieces before [] = []
members_pieces before (Field decl ∷ members) = field_shared before decl ++ (own_pieces decl ++ members_pieces (Some decl.ty.span) members)
members_pieces before (Method method ∷ members) = method_piece method ∷ members_pieces None members

abbrev pub class_piece : ClassDecl → Layout
class_piece class = piece class.span (name_piece class.name ∷ (maybe name_piece class.parent ++ members_pieces None class.members))

-- All nodes of a source of so many bytes stand in it so.
abbrev pub Placed : ℕ → Source → Type 0
Placed end unit = LaidOut 0 0 end (row (map class_piece unit.classes))
