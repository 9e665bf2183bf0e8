use Rattle.std.proofs.Common.{◌≡◌, drop}
use Rattle.ix_plain.specs.Counts as spec
use Rattle.ix_lower_statements.proofs.access.in_members.Given as goal

abbrev pub invariant-loop-member : goal.invariant-loop-member
invariant-loop-member l = spec.all_of spec.member_accesses l.members l.initial.count ≡ spec.all_of spec.member_accesses (drop l.member-index l.members) l.count
