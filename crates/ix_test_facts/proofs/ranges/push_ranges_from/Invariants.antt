use Rattle.std.proofs.Common.{◌≡◌, ◌++◌, drop}
use Rattle.ix_facts.specs.Closure.{kept}
use Rattle.ix_facts.specs.Exact.{each}
use Rattle.ix_facts.specs.AfterTest.{above_by}
use Rattle.ix_test_facts.specs.OverGroups.{range_from}
use Rattle.ix_test_facts.proofs.ranges.push_ranges_from.Given as goal

abbrev pub invariant-loop-fact : goal.invariant-loop-fact
invariant-loop-fact l = l.out.items ++ kept (each (above_by (range_from l.bound l.k) l.q) (drop l.fact-index l.above)) ≡ l.fn.out.items ++ kept (each (above_by (range_from l.bound l.k) l.q) l.above)
