use Rattle.std.proofs.Common.{◌≡◌, ◌+◌, ◌≤◌, drop, length}
use Rattle.ix_meaning.specs.Limits as spec
use Rattle.ix_names.proofs.counts.count_methods.Given as goal

abbrev pub invariant-loop-member : goal.invariant-loop-member
invariant-loop-member l = record {
  counted : l.count + length (spec.methods_of (drop l.member-index l.members)) ≡ length (spec.methods_of l.members);
  few : l.count ≤ l.member-index;
}
