use Rattle.std.proofs.Common.{◌≡◌, ◌++◌, drop}
use Rattle.ix_facts.specs.Closure.{kept}
use Rattle.std.specs.Prelude.{pos, ◌+ℤ◌, ◌-ℤ◌}
use Rattle.ix_facts.specs.Exact.{each}
use Rattle.ix_facts.specs.AfterTest.{at_below, below_by, bound_moved}
use Rattle.ix_test_facts.proofs.bounds.push_bounds.Given as goal

abbrev pub invariant-loop-fact : goal.invariant-loop-fact
invariant-loop-fact l = l.out.items ++ kept (each (below_by (λ r c. each (bound_moved r (c +ℤ l.k -ℤ pos 2) l.q) l.on_q) l.p) (drop l.fact-index l.on_p)) ≡ l.fn.out.items ++ kept (at_below (λ r c. each (bound_moved r (c +ℤ l.k -ℤ pos 2) l.q) l.on_q) l.on_p l.p)
