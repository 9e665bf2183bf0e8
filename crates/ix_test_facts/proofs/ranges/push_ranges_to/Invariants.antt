use Rattle.std.proofs.Common.{◌≡◌, ◌++◌, drop}
use Rattle.ix_facts.specs.Closure.{kept}
use Rattle.ix_facts.specs.Exact.{each}
use Rattle.ix_facts.specs.AfterTest.{below_by}
use Rattle.ix_test_facts.specs.OverGroups.{range_to}
use Rattle.ix_test_facts.proofs.ranges.push_ranges_to.Given as goal

abbrev pub invariant-loop-fact : goal.invariant-loop-fact
invariant-loop-fact l = l.out.items ++ kept (each (below_by (range_to l.limit l.k) l.p) (drop l.fact-index l.below)) ≡ l.fn.out.items ++ kept (each (below_by (range_to l.limit l.k) l.p) l.below)
