use Rattle.std.proofs.Common.{◌≡◌, drop}
use Rattle.ix_facts.specs.Bounds as spec
use Rattle.ix_transfer.proofs.new_ends.new_high.Given as goal

abbrev pub invariant-loop-fact : goal.invariant-loop-fact
invariant-loop-fact l = spec.at_most l.high (spec.least (spec.range_high_by l.t) (drop l.fact-index l.new)) ≡ spec.range_high l.new l.t
