use Rattle.std.proofs.Common.{◌≡◌, ◌++◌, drop}
use Rattle.ix_facts.specs.Exact.{each}
use Rattle.ix_fact_table.specs.Saturated.{negative_of}
use Rattle.ix_fact_table.proofs.searches.push_negatives.Given as goal

abbrev pub invariant-loop-fact : goal.invariant-loop-fact
invariant-loop-fact l = l.out.items ++ each (negative_of l.ranges) (drop l.fact-index l.facts) ≡ l.fn.out.items ++ each (negative_of l.ranges) l.facts
