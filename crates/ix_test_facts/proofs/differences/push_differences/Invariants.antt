use Rattle.std.proofs.Common.{◌≡◌, ◌++◌, drop}
use Rattle.ix_facts.specs.Closure.{kept}
use Rattle.ix_facts.specs.Exact.{each}
use Rattle.ix_facts.specs.AfterTest.{below_by, above_by}
use Rattle.ix_test_facts.specs.OverGroups.{between, differences_in_turn}
use Rattle.ix_test_facts.proofs.differences.push_differences.Given as goal

abbrev pub invariant-loop-fact : goal.invariant-loop-fact
invariant-loop-fact l = l.out.items ++ kept (each (below_by (λ r c. each (above_by (between l.k r c) l.q) l.above) l.p) (drop l.fact-index l.below)) ≡ l.fn.out.items ++ kept (differences_in_turn l.below l.above l.p l.q l.k)
