-- How high an annotation is at most.
use Rattle.std.proofs.Common.{◌+◌, ◌≤◌, max, List, [], ◌∷◌, Option, Some, None, arith}
use Rattle.ix_tree.specs.declared.annot.Ident.{Ident}
use Rattle.ix_tree.specs.declared.annot.AnnotArg.{AnnotArg}
use Rattle.ix_grammar.specs.AnnotGrammar.{name_height, args_height}

name_low : (name : Option Ident) → name_height name ≤ 1
name_low None = omega arith
name_low (Some name) = omega arith

args_low : (args : List AnnotArg) → args_height args ≤ 2
args_low [] = omega arith
args_low (arg ∷ args) = omega (arith, name_low arg.name, args_low args)

pub named_low : (args : List AnnotArg) → 1 + max 1 (args_height args) ≤ 3
named_low args = omega (arith, args_low args)
