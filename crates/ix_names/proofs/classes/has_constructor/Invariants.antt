use Rattle.std.proofs.Common.{◌≡◌, drop}
use Rattle.ix_meaning.specs.Source as spec
use Rattle.ix_names.proofs.classes.has_constructor.Given as goal

abbrev pub invariant-loop-member : goal.invariant-loop-member
invariant-loop-member l = spec.has_constructor (drop l.member-index l.members) ≡ spec.has_constructor l.members
