use Rattle.std.proofs.Common.{◌≡◌, drop}
use Rattle.ix_plain.specs.Members as spec
use Rattle.ix_lower.proofs.number.add_heads.Given as goal

abbrev pub invariant-loop-member : goal.invariant-loop-member
invariant-loop-member l = spec.heads_in l.initial.heads l.class l.members ≡ spec.heads_in l.heads l.class (drop l.member-index l.members)
