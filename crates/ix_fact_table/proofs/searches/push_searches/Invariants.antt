use Rattle.std.proofs.Common.{◌≡◌, ◌++◌, drop}
use Rattle.ix_facts.specs.Exact.{each}
use Rattle.ix_fact_table.specs.Saturated.{search_of}
use Rattle.ix_fact_table.proofs.searches.push_searches.Given as goal

abbrev pub invariant-loop-fact : goal.invariant-loop-fact
invariant-loop-fact l = l.out.items ++ each (search_of) (drop l.fact-index l.facts) ≡ l.fn.out.items ++ each (search_of) l.facts
