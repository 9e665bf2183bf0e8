use Rattle.std.proofs.Common.{◌≡◌, drop}
use Rattle.ix_meaning.specs.Source.{has_constructor}
use Rattle.ix_lower.proofs.number.has_constructor.Given as goal

abbrev pub invariant-loop-member : goal.invariant-loop-member
invariant-loop-member l = has_constructor l.members ≡ has_constructor (drop l.member-index l.members)
