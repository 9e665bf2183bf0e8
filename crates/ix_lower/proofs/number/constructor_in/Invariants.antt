use Rattle.std.proofs.Common.{◌≡◌, drop}
use Rattle.ix_plain.specs.Members as spec
use Rattle.ix_lower.proofs.number.constructor_in.Given as goal

abbrev pub invariant-loop-member : goal.invariant-loop-member
invariant-loop-member l = spec.constructor_in l.default l.initial.next l.members ≡ spec.constructor_in l.default l.next (drop l.member-index l.members)
