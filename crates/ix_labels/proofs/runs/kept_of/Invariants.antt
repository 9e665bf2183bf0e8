use Rattle.std.proofs.Common.{◌≡◌, length, false}
use Rattle.ix_labels.specs.Runs.{ArePassed, AreKept}
use Rattle.ix_labels.proofs.runs.kept_of.Given as goal

abbrev pub invariant-loop-at : goal.invariant-loop-at
invariant-loop-at l = (length l.kept.items ≡ l.at) × ArePassed l.nodes l.kept.items × (l.runs ≡ false → AreKept l.kept.items)
