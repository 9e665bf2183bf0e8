use Rattle.std.proofs.Common.{length}
use Rattle.ix_fact_table.specs.Walks.{Comparing}
use Rattle.ix_fact_table.proofs.walks.covers_all.Given as goal

abbrev pub invariant-loop-other : goal.invariant-loop-other
invariant-loop-other l = Comparing l.first l.second l.mine l.theirs

abbrev pub decreases-loop-other : goal.decreases-loop-other
decreases-loop-other l = length l.theirs
