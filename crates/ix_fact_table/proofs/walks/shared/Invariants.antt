use Rattle.std.proofs.Common.{length}
use Rattle.ix_fact_table.specs.Walks.{Sharing}
use Rattle.ix_fact_table.proofs.walks.shared.Given as goal

abbrev pub invariant-loop-other : goal.invariant-loop-other
invariant-loop-other l = Sharing l.first l.second l.mine l.theirs l.shared.items

abbrev pub decreases-loop-other : goal.decreases-loop-other
decreases-loop-other l = length l.theirs
