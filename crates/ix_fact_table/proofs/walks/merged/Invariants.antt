use Rattle.std.proofs.Common.{◌+◌, ◌≤◌, length}
use Rattle.std.specs.Vec.{vec_len, vec_capacity}
use Rattle.ix_fact_table.specs.Walks.{Merging}
use Rattle.ix_fact_table.proofs.walks.merged.Given as goal

abbrev pub invariant-loop-other : goal.invariant-loop-other
invariant-loop-other l = record {
  facts : Merging l.first l.second l.mine l.theirs l.all.items;
  room : vec_len l.all + (length l.mine + length l.theirs) ≤ vec_capacity l.all;
}

abbrev pub decreases-loop-other : goal.decreases-loop-other
decreases-loop-other l = length l.theirs
