use Rattle.std.proofs.Common.{◌≡◌, ◌++◌, drop}
use Rattle.ix_facts.specs.Closure.{kept}
use Rattle.ix_facts.specs.Finish as rule
use Rattle.ix_facts.specs.Exact.{each}
use Rattle.ix_transfer.proofs.along.push_bounds_below.Given as goal

abbrev pub invariant-loop-fact : goal.invariant-loop-fact
invariant-loop-fact l = l.out.items ++ kept (each (rule.bound_below l.t l.q l.c) (drop l.fact-index l.on_other)) ≡ l.fn.out.items ++ kept (each (rule.bound_below l.t l.q l.c) l.on_other)
