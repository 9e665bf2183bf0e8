use Rattle.std.proofs.Common.{◌≡◌, ◌++◌, drop}
use Rattle.ix_facts.specs.Closure.{kept}
use Rattle.std.specs.Prelude.{pos, ◌+ℤ◌, ◌-ℤ◌}
use Rattle.ix_facts.specs.Exact.{each}
use Rattle.ix_facts.specs.AfterTest.{bound_moved}
use Rattle.ix_test_facts.proofs.bounds.push_bounds_moved.Given as goal

abbrev pub invariant-loop-fact : goal.invariant-loop-fact
invariant-loop-fact l = l.out.items ++ kept (each (bound_moved l.r (l.c +ℤ l.k -ℤ pos 2) l.q) (drop l.fact-index l.on_q)) ≡ l.fn.out.items ++ kept (each (bound_moved l.r (l.c +ℤ l.k -ℤ pos 2) l.q) l.on_q)
