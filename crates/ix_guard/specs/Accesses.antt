-- The accesses on names that an expression makes, and the names that it assigns.
use Rattle.std.specs.Prelude.{Bool, true, false, if◌then◌else◌, List, [], ◌∷◌, ◌++◌, map, Option, Some, None}
use Rattle.ix_text.specs.declared.span.Span.{Span}
use Rattle.ix_tree.specs.declared.annot.Ident.{Ident}
use Rattle.ix_tree.specs.declared.decl.LocalDecl.{LocalDecl}
use Rattle.ix_tree.specs.declared.expr.BinaryOp.{BinaryOp}
use Rattle.ix_tree.specs.declared.expr.BinaryOp.TheVariants.{AndAlso, OrElse}
use Rattle.ix_tree.specs.declared.expr.Expr.{Expr, Expr-F, fold-Expr}
use Rattle.ix_tree.specs.declared.expr.ExprKind.{ExprKind-F}
use Rattle.ix_tree.specs.declared.expr.Init.{Init, Init-F, fold-Init}

-- An access `array[index]` of which both parts are names.
pub record Access : Type 0 where
  pub array : Ident
  pub index : Ident

-- What is in an expression.
pub record Parts : Type 0 where
  -- its accesses on names in the order of the text, but for those in the right operand of `&&` or `||`, which aren't always made
  pub accesses : List Access
  -- the places of the names that it assigns
  pub assigned : List Span

-- An expression: the name that it is, if it is one, and what is in it.
pub record Reading : Type 0 where
  pub name : Option Ident
  pub parts : Parts

abbrev pub nothing : Parts
nothing = record { accesses = []; assigned = [] }

abbrev pub both : Parts → Parts → Parts
both first second = record { accesses = first.accesses ++ second.accesses; assigned = first.assigned ++ second.assigned }

abbrev pub all : List Parts → Parts
all [] = nothing
all (first ∷ rest) = both first (all rest)

abbrev pub each : List Reading → List Parts
each readings = map (λ reading. reading.parts) readings

-- an object, where there is one, and arguments
abbrev pub called : Option Reading → List Reading → Parts
called None args = all (each args)
called (Some object) args = both object.parts (all (each args))

-- whether the right operand is always evaluated
abbrev pub is_always : BinaryOp → Bool
is_always AndAlso = false
is_always OrElse = false
is_always _ = true

abbrev pub operands : BinaryOp → Parts → Parts → Parts
operands operator left right = record {
  accesses = if is_always operator then left.accesses ++ right.accesses else left.accesses;
  assigned = left.assigned ++ right.assigned;
}

abbrev pub place_of : Option Ident → List Span
place_of None = []
place_of (Some name) = name.span ∷ []

-- what is assigned: the target, where it is a name, and what is in it
abbrev pub as_target : Reading → Parts
as_target target = record { accesses = target.parts.accesses; assigned = place_of target.name ++ target.parts.assigned }

abbrev pub own_access : Option Ident → Option Ident → Option Access
own_access (Some array) (Some index) = Some record { array = array; index = index }
own_access _ _ = None

-- an access on names, which have none inside; else those of its parts
abbrev pub or_inside : Option Access → List Access → List Access
or_inside None inside = inside
or_inside (Some access) inside = access ∷ []

abbrev pub accessing : Reading → Reading → Parts
accessing array index = record {
  accesses = or_inside (own_access array.name index.name) (array.parts.accesses ++ index.parts.accesses);
  assigned = array.parts.assigned ++ index.parts.assigned;
}

abbrev pub unnamed : Parts → Reading
unnamed parts = record { name = None; parts = parts }

abbrev pub kind_step : ExprKind-F Reading Parts Reading → Reading
kind_step (ExprKind-F.Name name) = record { name = Some name; parts = nothing }
kind_step (ExprKind-F.Select object name) = unnamed object.parts
kind_step (ExprKind-F.Index array index) = unnamed (accessing array index)
kind_step (ExprKind-F.Call object name args) = unnamed (called object args)
kind_step (ExprKind-F.New name args) = unnamed (all (each args))
kind_step (ExprKind-F.NewArray ty size) = unnamed size.parts
kind_step (ExprKind-F.NewItems ty items) = unnamed (all items)
kind_step (ExprKind-F.Unary operator operand) = unnamed operand.parts
kind_step (ExprKind-F.Binary operator left right) = unnamed (operands operator left.parts right.parts)
kind_step (ExprKind-F.Assign operator target value) = unnamed (both (as_target target) value.parts)
kind_step (ExprKind-F.Step up after target) = unnamed (as_target target)
kind_step _ = unnamed nothing

abbrev pub init_step : Init-F Reading Parts Reading → Parts
init_step (Init-F.Value expr) = expr.parts
init_step (Init-F.Items items span) = all items

abbrev pub expr_step : Expr-F Reading Parts Reading → Reading
expr_step expr = expr.kind

abbrev pub reading : Expr → Reading
reading = fold-Expr Reading Parts Reading kind_step init_step expr_step

abbrev pub parts_of : Expr → Parts
parts_of expr = (reading expr).parts

abbrev pub all_parts : List Expr → Parts
all_parts exprs = all (each (map reading exprs))

abbrev pub init_parts : Init → Parts
init_parts = fold-Init Reading Parts Reading kind_step init_step expr_step

abbrev pub all_init_parts : List Init → Parts
all_init_parts inits = all (map init_parts inits)

-- ---- declarations of locals

abbrev pub maybe : Option Init → Parts
maybe None = nothing
maybe (Some init) = init_parts init

abbrev pub decl_parts : LocalDecl → Parts
decl_parts decl = maybe decl.init

abbrev pub all_decl_parts : List LocalDecl → Parts
all_decl_parts decls = all (map decl_parts decls)
