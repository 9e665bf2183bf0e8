use Rattle.std.proofs.Common.{◌≡◌, ◌++◌, drop}
use Rattle.std.specs.HashMap.{get_by_text}
use Rattle.ix_meaning.specs.Classes as spec
use Rattle.ix_symbols.proofs.classes.parents.Given as goal

abbrev pub invariant-loop-class : goal.invariant-loop-class
invariant-loop-class l = l.parents ++ spec.parents_by (get_by_text l.table) (drop l.class-index l.classes) ≡ spec.parents_by (get_by_text l.table) l.classes
