use Rattle.std.proofs.Common.{◌≡◌, ◌++◌, drop}
use Rattle.ix_facts.specs.Exact.{each}
use Rattle.ix_fact_table.specs.Saturated.{along}
use Rattle.ix_fact_table.proofs.labels.push_along.Given as goal

abbrev pub invariant-loop-fact : goal.invariant-loop-fact
invariant-loop-fact l = l.out.items ++ each (along l.classes l.arrays) (drop l.fact-index l.facts) ≡ l.fn.out.items ++ each (along l.classes l.arrays) l.facts
