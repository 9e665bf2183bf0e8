use Rattle.std.proofs.Common.{◌≡◌, drop}
use Rattle.ix_facts.specs.Bounds as spec
use Rattle.ix_test_facts.proofs.lengths.low_among.Given as goal

abbrev pub invariant-loop-fact : goal.invariant-loop-fact
invariant-loop-fact l = spec.at_least l.low (spec.greatest (spec.own_low_by l.x) (drop l.fact-index l.facts)) ≡ spec.at_least l.fn.least (spec.greatest (spec.own_low_by l.x) l.facts)
