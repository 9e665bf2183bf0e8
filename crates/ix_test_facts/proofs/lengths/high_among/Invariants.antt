use Rattle.std.proofs.Common.{◌≡◌, drop}
use Rattle.ix_facts.specs.Bounds as spec
use Rattle.ix_test_facts.proofs.lengths.high_among.Given as goal

abbrev pub invariant-loop-fact : goal.invariant-loop-fact
invariant-loop-fact l = spec.at_most l.high (spec.least (spec.range_high_by l.x) (drop l.fact-index l.facts)) ≡ spec.at_most l.fn.greatest (spec.least (spec.range_high_by l.x) l.facts)
