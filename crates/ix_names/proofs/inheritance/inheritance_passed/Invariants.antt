use Rattle.std.proofs.Common.{◌≡◌, drop}
use Rattle.ix_meaning.specs.Limits as spec
use Rattle.ix_names.proofs.inheritance.inheritance_passed.Given as goal

abbrev pub invariant-loop-i : goal.invariant-loop-i
invariant-loop-i l = spec.past_inheritance l.parents l.i (drop l.i l.classes) ≡ spec.past_inheritance l.parents 0 l.classes
