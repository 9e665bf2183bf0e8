use Rattle.std.proofs.Common.{◌≡◌, ◌++◌, drop}
use Rattle.ix_facts.specs.Closure.{kept}
use Rattle.ix_facts.specs.Exact.{each}
use Rattle.ix_test_facts.specs.OverGroups.{passed_by}
use Rattle.ix_test_facts.proofs.shared.push_passed.Given as goal

abbrev pub invariant-loop-fact : goal.invariant-loop-fact
invariant-loop-fact l = l.out.items ++ kept (each (passed_by l.from l.to) (drop l.fact-index l.on_from)) ≡ l.fn.out.items ++ kept (each (passed_by l.from l.to) l.on_from)
