use Rattle.std.proofs.Common.{◌≡◌, ◌++◌, drop}
use Rattle.ix_fact_table.specs.Classes.{relabelled}
use Rattle.ix_fact_table.proofs.classes.relabel.Given as goal

abbrev pub invariant-loop-entry : goal.invariant-loop-entry
invariant-loop-entry l = l.moved.items ++ relabelled l.old l.new (drop l.entry-index l.roots) ≡ relabelled l.old l.new l.roots
