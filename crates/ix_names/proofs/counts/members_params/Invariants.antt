use Rattle.std.proofs.Common.{◌≡◌, drop}
use Rattle.ix_meaning.specs.Limits as spec
use Rattle.ix_names.proofs.counts.members_params.Given as goal

abbrev pub invariant-loop-member : goal.invariant-loop-member
invariant-loop-member l = spec.past_params (spec.methods_of (drop l.member-index l.members)) ≡ spec.past_params (spec.methods_of l.members)
