use Rattle.std.proofs.Common.{◌≡◌, ◌++◌, drop}
use Rattle.ix_facts.specs.Closure.{kept}
use Rattle.ix_facts.specs.Exact.{each}
use Rattle.ix_test_facts.specs.OverGroups.{parts_by}
use Rattle.ix_test_facts.proofs.parts.push_parts.Given as goal

abbrev pub invariant-loop-bound : goal.invariant-loop-bound
invariant-loop-bound l = l.out.items ++ kept (each (parts_by l.p l.on_p) (drop l.bound-index l.bounds)) ≡ l.fn.out.items ++ kept (each (parts_by l.p l.on_p) l.bounds)
