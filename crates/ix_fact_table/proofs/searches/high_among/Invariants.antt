use Rattle.std.proofs.Common.{◌≡◌, drop}
use Rattle.ix_facts.specs.Bounds as spec
use Rattle.ix_fact_table.proofs.searches.high_among.Given as goal

abbrev pub invariant-loop-fact : goal.invariant-loop-fact
invariant-loop-fact l = spec.at_most l.high (spec.least (spec.range_high_by l.p) (drop l.fact-index l.ranges)) ≡ spec.range_high l.ranges l.p
