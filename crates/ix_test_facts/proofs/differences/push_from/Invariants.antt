use Rattle.std.proofs.Common.{◌≡◌, ◌++◌, drop}
use Rattle.ix_facts.specs.Closure.{kept}
use Rattle.ix_facts.specs.Exact.{each}
use Rattle.ix_facts.specs.AfterTest.{above_by}
use Rattle.ix_test_facts.specs.OverGroups.{between}
use Rattle.ix_test_facts.proofs.differences.push_from.Given as goal

abbrev pub invariant-loop-fact : goal.invariant-loop-fact
invariant-loop-fact l = l.out.items ++ kept (each (above_by (between l.k l.r l.c) l.q) (drop l.fact-index l.above)) ≡ l.fn.out.items ++ kept (each (above_by (between l.k l.r l.c) l.q) l.above)
