-- All accesses in an expression, whatever their parts are and wherever they stand in it.
use Rattle.std.specs.Prelude.{List, [], ◌∷◌, ◌++◌, map, Option, Some, None}
use Rattle.ix_text.specs.declared.span.Span.{Span}
use Rattle.ix_tree.specs.declared.annot.Ident.{Ident}
use Rattle.ix_tree.specs.declared.decl.LocalDecl.{LocalDecl}
use Rattle.ix_tree.specs.declared.expr.Expr.{Expr, Expr-F, fold-Expr}
use Rattle.ix_tree.specs.declared.expr.ExprKind.{ExprKind-F}
use Rattle.ix_tree.specs.declared.expr.Init.{Init, Init-F, fold-Init}

-- An access `array[index]`.
pub record AnyAccess : Type 0 where
  -- the names that its parts are, where they are names
  pub array : Option Ident
  pub index : Option Ident
  -- where its index stands
  pub place : Span

-- The form of an expression: the name that it is, if it is one, and the accesses in it.
pub record Form : Type 0 where
  pub name : Option Ident
  pub accesses : List AnyAccess

-- and where it stands
pub record Reading : Type 0 where
  pub form : Form
  pub span : Span

abbrev pub all : List (List AnyAccess) → List AnyAccess
all [] = []
all (first ∷ rest) = first ++ all rest

abbrev pub inside : Reading → List AnyAccess
inside reading = reading.form.accesses

abbrev pub each : List Reading → List AnyAccess
each readings = all (map inside readings)

-- what is no name
abbrev pub unnamed : List AnyAccess → Form
unnamed accesses = record { name = None; accesses = accesses }

abbrev pub accessing : Reading → Reading → AnyAccess
accessing array index = record { array = array.form.name; index = index.form.name; place = index.span }

abbrev pub kind_step : ExprKind-F Form (List AnyAccess) Reading → Form
kind_step (ExprKind-F.Name name) = record { name = Some name; accesses = [] }
kind_step (ExprKind-F.Select object name) = unnamed (inside object)
kind_step (ExprKind-F.Index array index) = unnamed (accessing array index ∷ (inside array ++ inside index))
kind_step (ExprKind-F.Call None name args) = unnamed (each args)
kind_step (ExprKind-F.Call (Some object) name args) = unnamed (inside object ++ each args)
kind_step (ExprKind-F.New name args) = unnamed (each args)
kind_step (ExprKind-F.NewArray ty size) = unnamed (inside size)
kind_step (ExprKind-F.NewItems ty items) = unnamed (all items)
kind_step (ExprKind-F.Unary operator operand) = unnamed (inside operand)
kind_step (ExprKind-F.Binary operator left right) = unnamed (inside left ++ inside right)
kind_step (ExprKind-F.Assign operator target value) = unnamed (inside target ++ inside value)
kind_step (ExprKind-F.Step up after target) = unnamed (inside target)
kind_step _ = unnamed []

abbrev pub init_step : Init-F Form (List AnyAccess) Reading → List AnyAccess
init_step (Init-F.Value expr) = inside expr
init_step (Init-F.Items items span) = all items

abbrev pub expr_step : Expr-F Form (List AnyAccess) Reading → Reading
expr_step expr = record { form = expr.kind; span = expr.span }

abbrev pub reading : Expr → Reading
reading = fold-Expr Form (List AnyAccess) Reading kind_step init_step expr_step

abbrev pub all_accesses : Expr → List AnyAccess
all_accesses expr = inside (reading expr)

abbrev pub init_accesses : Init → List AnyAccess
init_accesses = fold-Init Form (List AnyAccess) Reading kind_step init_step expr_step

-- ---- where there may be none, and lists

abbrev pub maybe : {A : Type 0} → (A → List AnyAccess) → Option A → List AnyAccess
maybe accesses None = []
maybe accesses (Some part) = accesses part

abbrev pub each_of : {A : Type 0} → (A → List AnyAccess) → List A → List AnyAccess
each_of accesses parts = all (map accesses parts)

abbrev pub decl_accesses : LocalDecl → List AnyAccess
decl_accesses decl = maybe init_accesses decl.init
