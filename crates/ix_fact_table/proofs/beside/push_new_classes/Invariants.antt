use Rattle.std.proofs.Common.{◌≡◌, ◌++◌, drop}
use Rattle.ix_facts.specs.Exact.{each}
use Rattle.ix_fact_table.specs.Beside.{new_class_of}
use Rattle.ix_fact_table.proofs.beside.push_new_classes.Given as goal

abbrev pub invariant-loop-fact : goal.invariant-loop-fact
invariant-loop-fact l = l.out.items ++ each (new_class_of l.new) (drop l.fact-index l.ranges) ≡ l.fn.out.items ++ each (new_class_of l.new) l.ranges
