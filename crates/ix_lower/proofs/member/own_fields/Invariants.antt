use Rattle.std.proofs.Common.{◌≡◌, drop, []}
use Rattle.ix_plain.specs.Members as spec
use Rattle.ix_lower.proofs.member.own_fields.Given as goal

abbrev pub invariant-loop-member : goal.invariant-loop-member
invariant-loop-member l = spec.own_fields [] l.first l.members ≡ spec.own_fields l.fields l.next (drop l.member-index l.members)
