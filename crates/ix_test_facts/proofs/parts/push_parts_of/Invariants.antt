use Rattle.std.proofs.Common.{◌≡◌, ◌++◌, drop}
use Rattle.ix_facts.specs.Closure.{kept}
use Rattle.ix_facts.specs.Exact.{each}
use Rattle.ix_test_facts.specs.OverGroups.{part_of}
use Rattle.ix_test_facts.proofs.parts.push_parts_of.Given as goal

abbrev pub invariant-loop-fact : goal.invariant-loop-fact
invariant-loop-fact l = l.out.items ++ kept (each (part_of l.p l.a l.e) (drop l.fact-index l.on_p)) ≡ l.fn.out.items ++ kept (each (part_of l.p l.a l.e) l.on_p)
