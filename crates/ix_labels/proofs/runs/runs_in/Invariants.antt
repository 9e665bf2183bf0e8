use Rattle.std.proofs.Common.{◌≡◌, ◌<◌, All, length}
use Rattle.ix_labels.specs.Runs.{readers_through}
use Rattle.ix_labels.proofs.KeptNodes.{ThroughTo}
use Rattle.ix_labels.proofs.runs.runs_in.Given as goal

abbrev pub invariant-loop-at : goal.invariant-loop-at
invariant-loop-at l =
    (length (readers_through l.readers.items) ≡ l.at) × All (All (λ reader. reader < length l.nodes)) (readers_through l.readers.items) × ThroughTo l.nodes l.kept.items (readers_through l.readers.items)
