use Rattle.std.proofs.Common.{◌≡◌, ◌++◌, drop}
use Rattle.ix_facts.specs.Closure.{kept}
use Rattle.ix_facts.specs.Exact.{each}
use Rattle.ix_test_facts.specs.OverGroups.{length_at}
use Rattle.ix_test_facts.proofs.lengths.push_lengths_at.Given as goal

abbrev pub invariant-loop-fact : goal.invariant-loop-fact
invariant-loop-fact l = l.out.items ++ kept (each (length_at l.x l.low l.high) (drop l.fact-index l.on_x)) ≡ l.fn.out.items ++ kept (each (length_at l.x l.low l.high) l.on_x)
