use Rattle.std.proofs.Common.{◌≡◌, ◌++◌, drop}
use Rattle.ix_labels.specs.LoopLabels.{head_stores}
use Rattle.ix_labels.proofs.loops.at_heads.Given as goal

abbrev pub invariant-loop-at : goal.invariant-loop-at
invariant-loop-at l = l.found.items ++ head_stores (drop l.at l.nodes) (drop l.at l.stores) ≡ head_stores l.nodes l.stores
