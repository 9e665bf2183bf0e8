-- Which accesses of a statement are guarded, and by which tests.
use Rattle.std.specs.Prelude.{ℕ, ◌==◌, Bool, true, false, not, ◌&&◌, ◌||◌, if◌then◌else◌, List, [], ◌∷◌, ◌++◌, map, Option, Some, codes, bytes_eq}
use Rattle.std.specs.List.{list_any}
use Rattle.ix_text.specs.declared.span.Span.{Span}
use Rattle.ix_tree.specs.declared.annot.Ident.{Ident}
use Rattle.ix_tree.specs.declared.decl.LocalDecl.{LocalDecl}
use Rattle.ix_tree.specs.declared.expr.Expr.{Expr}
use Rattle.ix_core.specs.declared.error.Error.{Error}
use Rattle.ix_meaning.specs.declared.note.Meaning.{Meaning}
use Rattle.ix_meaning.specs.declared.note.Meaning.TheVariants.{Local, Param}
use Rattle.ix_meaning.specs.Listed.{same_span}
use Rattle.ix_meaning.specs.Resolved.{Names}
use Rattle.ix_guard.specs.Accesses.{Access, Parts, parts_of, all_decl_parts}

-- What is known of a source: what its names mean, and its errors.
pub record Site : Type 0 where
  pub names : Names
  pub errors : List Error

-- What a statement changes: the meanings of the names that it assigns, and the locals that it declares.
pub record Changes : Type 0 where
  pub assigned : List (Option Meaning)
  pub declared : List LocalDecl

-- ---- an access that isn't proved

-- the rules on an index that may be too low and on one that may be too high
abbrev pub is_of_bounds : ℕ → Bool
is_of_bounds rule = rule == 1 || rule == 2

abbrev pub is_bound_error : Span → Error → Bool
is_bound_error span error = is_of_bounds error.rule && same_span error.span span

-- ---- variables: locals and parameters, by what their names mean

abbrev pub is_variable : Option Meaning → Bool
is_variable (Some (Local number)) = true
is_variable (Some (Param number)) = true
is_variable _ = false

abbrev pub same_variable : Option Meaning → Option Meaning → Bool
same_variable (Some (Local number)) (Some (Local other)) = number == other
same_variable (Some (Param number)) (Some (Param other)) = number == other
same_variable _ _ = false

abbrev pub is_called : Ident → LocalDecl → Bool
is_called name decl = bytes_eq decl.name.text name.text

-- The name is one of a variable that the statement neither assigns nor declares.
abbrev pub is_kept : Site → Changes → Ident → Bool
is_kept site changes name = is_variable (site.names.meaning name.span)
    && (not (list_any (same_variable (site.names.meaning name.span)) changes.assigned) && not (list_any (is_called name) changes.declared))

-- An access is guarded where it isn't proved, and the statement keeps both of its variables.
abbrev pub is_guarded : Site → Changes → Access → Bool
is_guarded site changes access = list_any (is_bound_error access.index.span) site.errors && (is_kept site changes access.array && is_kept site changes access.index)

-- ---- the tests

abbrev pub Pair : Type 0
Pair = Option Meaning × Option Meaning

-- the variables of an access
abbrev pub pair_of : Site → Access → Pair
pair_of site access = (site.names.meaning access.array.span, site.names.meaning access.index.span)

abbrev pub same_pair : Pair → Pair → Bool
same_pair pair other = same_variable pair.0 other.0 && same_variable pair.1 other.1

-- the test of an index in an array, with one blank behind it
abbrev pub test_of : List ℕ → List ℕ → List ℕ
test_of array index =
    codes "if (" ++ array ++ codes " == null || " ++ index ++ codes " < 0 || " ++ index ++ codes " >= " ++ array ++ codes ".length) throw new IndexOutOfBoundsException(\"guard\"); "

abbrev pub test : Access → List ℕ
test access = test_of access.array.text access.index.text

abbrev pub is_tested : Site → Changes → List Pair → Access → Bool
is_tested site changes before access = is_guarded site changes access && not (list_any (same_pair (pair_of site access)) before)

-- the tests of these accesses, where those of the pairs before are written: each pair of variables once
abbrev pub tests_behind : Site → Changes → List Pair → List Access → List ℕ
tests_behind site changes before [] = []
tests_behind site changes before (access ∷ rest) =
    if is_tested site changes before access then test access ++ tests_behind site changes (before ++ pair_of site access ∷ []) rest else tests_behind site changes before rest

-- the tests of a statement that has these parts and declares these locals
abbrev pub tests : Site → List LocalDecl → Parts → List ℕ
tests site declared parts = tests_behind site record { assigned = map site.names.meaning parts.assigned; declared = declared } [] parts.accesses

abbrev pub expression_tests : Site → Expr → List ℕ
expression_tests site expr = tests site [] (parts_of expr)

abbrev pub declaration_tests : Site → List LocalDecl → List ℕ
declaration_tests site decls = tests site decls (all_decl_parts decls)
