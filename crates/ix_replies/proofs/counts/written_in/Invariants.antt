use Rattle.std.proofs.Common.{◌≡◌, ◌+◌, drop}
use Rattle.ix_replies.specs.Counts as spec
use Rattle.ix_replies.proofs.counts.written_in.Given as goal

abbrev pub invariant-loop-method : goal.invariant-loop-method
invariant-loop-method l = l.written + spec.written_in (drop l.method-index l.methods) ≡ spec.written_in l.methods
