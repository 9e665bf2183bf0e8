use Rattle.std.proofs.Common.{◌≡◌, drop}
use Rattle.ix_facts.specs.Bounds as spec
use Rattle.ix_transfer.proofs.new_ends.new_length.Given as goal

abbrev pub invariant-loop-fact : goal.invariant-loop-fact
invariant-loop-fact l = spec.at_least l.low (spec.greatest (spec.length_low_by l.t) (drop l.fact-index l.new)) ≡ spec.length_low l.new l.t
