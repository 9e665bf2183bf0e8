use Rattle.std.proofs.Common.{◌≡◌, drop, slice_get}
use Rattle.ix_meaning.specs.Limits as spec
use Rattle.ix_names.proofs.counts.method_after.Given as goal

abbrev pub invariant-loop-member : goal.invariant-loop-member
invariant-loop-member l = slice_get (spec.methods_of (drop l.member-index l.members)) l.left ≡ slice_get (spec.methods_of l.members) l.before
