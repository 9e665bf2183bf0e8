use Rattle.std.proofs.Common.{◌≡◌, drop}
use Rattle.ix_plain.specs.Members as spec
use Rattle.ix_lower.proofs.number.next_methods.Given as goal

abbrev pub invariant-loop-member : goal.invariant-loop-member
invariant-loop-member l = spec.next_methods l.initial.next l.members ≡ spec.next_methods l.next (drop l.member-index l.members)
