use Rattle.std.proofs.Common.{◌≡◌, ◌++◌, drop}
use Rattle.ix_fact_table.specs.Listed.{over_class}
use Rattle.ix_fact_table.proofs.labels.push_over_class.Given as goal

abbrev pub invariant-loop-label : goal.invariant-loop-label
invariant-loop-label l = l.out.items ++ over_class l.root l.fact (drop l.label-index l.labels) ≡ l.fn.out.items ++ over_class l.root l.fact l.labels
