use Rattle.std.proofs.Common.{All, length, take, ◌<◌}
use Rattle.ix_labels.specs.Runs.{AreEnds}
use Rattle.ix_labels.proofs.runs.ends_of.Given as goal

abbrev pub invariant-loop-node : goal.invariant-loop-node
invariant-loop-node l = All (λ node. node < length l.kept) l.ends.items × AreEnds l.nodes l.kept (take l.node-index l.begins) l.ends.items
