-- The variables that a full expression assigns.
use Rattle.std.specs.Prelude.{ℕ, List, [], ◌∷◌, ◌++◌, map, Option, Some, None}
use Rattle.ix_tree.specs.declared.expr.Expr.{Expr, Expr-F, fold-Expr}
use Rattle.ix_tree.specs.declared.expr.ExprKind.{ExprKind-F}
use Rattle.ix_tree.specs.declared.expr.Init.{Init, Init-F, fold-Init}
use Rattle.ix_meaning.specs.declared.note.Meaning.{Meaning}
use Rattle.ix_meaning.specs.declared.note.Meaning.TheVariants as meaning
use Rattle.ix_plain.specs.Scope.{Scope, slot_of, meaning_at}

-- the slots that are known, and behind them those of further variables
abbrev pub Adding : Type 0
Adding = Scope → List ℕ → List ℕ

-- What an expression adds: itself where it is assigned and is a variable, and what is assigned in it.
pub record Assigns : Type 0 where
  pub own : Adding
  pub inside : Adding

abbrev pub none : Adding
none scope known = known

abbrev pub both : Adding → Adding → Adding
both first second scope known = second scope (first scope known)

abbrev pub all : List Adding → Adding
all [] = none
all (first ∷ rest) = both first (all rest)

abbrev pub maybe : Option Assigns → Adding
maybe None = none
maybe (Some part) = part.inside

abbrev pub each : List Assigns → List Adding
each parts = map (λ part. part.inside) parts

abbrev pub with_slot : Scope → Option Meaning → List ℕ → List ℕ
with_slot scope (Some (meaning.Local number)) known = known ++ slot_of scope (Some (meaning.Local number)) ∷ []
with_slot scope (Some (meaning.Param number)) known = known ++ slot_of scope (Some (meaning.Param number)) ∷ []
with_slot scope _ known = known

abbrev pub through : Adding → Assigns
through inside = record { own = none; inside = inside }

abbrev pub kind_step : ExprKind-F Assigns Adding Assigns → Assigns
kind_step (ExprKind-F.Name name) = record { own = λ scope known. with_slot scope (meaning_at scope name.span) known; inside = none }
kind_step (ExprKind-F.Select object name) = through object.inside
kind_step (ExprKind-F.Index array index) = through (both array.inside index.inside)
kind_step (ExprKind-F.Call object name args) = through (both (maybe object) (all (each args)))
kind_step (ExprKind-F.New name args) = through (all (each args))
kind_step (ExprKind-F.NewArray ty size) = through size.inside
kind_step (ExprKind-F.NewItems ty items) = through (all items)
kind_step (ExprKind-F.Unary operator operand) = through operand.inside
kind_step (ExprKind-F.Binary operator left right) = through (both left.inside right.inside)
kind_step (ExprKind-F.Assign operator target value) = through (both target.own (both target.inside value.inside))
kind_step (ExprKind-F.Step up after target) = through (both target.own target.inside)
kind_step _ = through none

abbrev pub init_step : Init-F Assigns Adding Assigns → Adding
init_step (Init-F.Value expr) = expr.inside
init_step (Init-F.Items items span) = all items

abbrev pub expr_step : Expr-F Assigns Adding Assigns → Assigns
expr_step expr = expr.kind

abbrev pub assigns : Expr → Assigns
assigns = fold-Expr Assigns Adding Assigns kind_step init_step expr_step

abbrev pub init_assigns : Init → Adding
init_assigns = fold-Init Assigns Adding Assigns kind_step init_step expr_step

-- of a list of full expressions, as the arguments of `super(..)` are
abbrev pub all_assign : List Expr → Adding
all_assign exprs = all (each (map assigns exprs))
