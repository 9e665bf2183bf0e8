use Rattle.std.proofs.Common.{◌≡◌, ◌++◌, drop}
use Rattle.ix_facts.specs.Exact.{each}
use Rattle.ix_fact_table.specs.Saturated.{class_of}
use Rattle.ix_fact_table.proofs.searches.push_classes.Given as goal

abbrev pub invariant-loop-fact : goal.invariant-loop-fact
invariant-loop-fact l = l.out.items ++ each (class_of) (drop l.fact-index l.ranges) ≡ l.fn.out.items ++ each (class_of) l.ranges
