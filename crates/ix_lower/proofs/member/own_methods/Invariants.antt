use Rattle.std.proofs.Common.{◌≡◌, drop, []}
use Rattle.ix_plain.specs.Members as spec
use Rattle.ix_lower.proofs.member.own_methods.Given as goal

abbrev pub invariant-loop-member : goal.invariant-loop-member
invariant-loop-member l = spec.own_methods [] l.first l.members ≡ spec.own_methods l.methods l.next (drop l.member-index l.members)
