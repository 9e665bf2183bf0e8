-- A source of which the promise doesn't hold: a run of it asks for a cell outside.
use Rattle.std.proofs.Common.{◌≡◌, pos, true, false, List, [], ◌∷◌, Some, None, refl, sym, subst, arith}
use Rattle.std.proofs.lemmas.Int.{ints}
use Rattle.ix_num.specs.Ints.{IsInt}
use Rattle.ix_core.specs.declared.fact.Profile.TheVariants.{Int32}
use Rattle.ix_core.specs.Machine.{Outside}
use Rattle.ix_core.specs.Safe.{Input, Whole, Ints, IsBad}
use Rattle.ix_tree.specs.declared.annot.BaseTree.TheVariants as b
use Rattle.ix_tree.specs.declared.decl.Unit.{Unit as Source}
use Rattle.ix_meaning.proofs.Equations as meaning_equations
use Rattle.ix_source.specs.Bodies.{Written, written}
use Rattle.ix_source.specs.Promise.{Enters, SafeSource}
use Rattle.ix_source.specs.Source.{source}
use Rattle.ix_source.proofs.Equations.{equations}
use Rattle.ix_source.proofs.Trees.{at, named, mods, type, name, element, returns_value, MethodNode, method, method_tree, param, Method, class, class_tree}

-- class A { static int get(int[] a, int i) { return a[i]; } }
abbrev get_method : MethodNode
get_method = (method (mods true false false) (Some (type b.Int 0 (at 17 20))) false (named (103 ∷ 101 ∷ 116 ∷ []) 21 24) ((param (mods false false false) (type b.Int 1 (at 25 30)) (named (97 ∷ []) 31 32)) ∷ (param (mods false false false) (type b.Int 0 (at 34 37)) (named (105 ∷ []) 38 39)) ∷ []) None ((returns_value (element (name (named (97 ∷ []) 50 51) (at 50 51)) (name (named (105 ∷ []) 52 53) (at 52 53)) (at 50 54)) (at 43 55)) ∷ []) (at 10 57))

abbrev get : Source
get = record { classes = class_tree (class (named (65 ∷ []) 6 7) None (Method get_method ∷ []) (at 0 59)) ∷ [] }

-- an array of one cell, and the index 1
abbrev inputs : List Input
inputs = Ints (pos 5 ∷ []) ∷ Whole (pos 1) ∷ []

abbrev found : Written
found = written 0 (method_tree get_method)

five_is_int : IsInt (pos 5)
five_is_int = record { from = omega (arith, ints); to = omega (arith, ints) }

one_is_int : IsInt (pos 1)
one_is_int = record { from = omega (arith, ints); to = omega (arith, ints) }

enters : Enters get 0 inputs
enters = record { entry = record { found = found; at = refl; static = refl; typed = ((refl, (five_is_int, tt), omega arith), (one_is_int, tt)) }; meets = (tt, (tt, tt), (tt, tt, tt)) }

run_is : (source get 0 inputs 1).ending ≡ Some (Outside (pos 1) (pos 1) 52)
run_is = simp (equations, meaning_equations.equations) refl

get_is_unsafe : SafeSource Int32 get → ⊥
get_is_unsafe safe = (safe 0 inputs enters 1 tt).ending (subst IsBad (sym run_is) tt)
