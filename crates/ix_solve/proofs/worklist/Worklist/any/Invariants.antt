use Rattle.std.proofs.Common.{◌≡◌, take}
use Rattle.ix_solve.specs.Waiting.{how_many}
use Rattle.ix_solve.proofs.worklist.Worklist.any.Given as goal

-- none of the nodes passed so far waits
abbrev pub invariant-loop-node : goal.invariant-loop-node
invariant-loop-node l = how_many (take l.node l.self-inside.is_waiting.items) ≡ 0
