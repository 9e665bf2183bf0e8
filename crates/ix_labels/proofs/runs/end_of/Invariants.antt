use Rattle.std.proofs.Common.{◌<◌, length}
use Rattle.ix_labels.proofs.KeptNodes.{EndsFrom}
use Rattle.ix_labels.proofs.runs.end_of.Given as goal

abbrev pub invariant-loop-many : goal.invariant-loop-many
invariant-loop-many l = (l.at < length l.kept) × EndsFrom l.nodes l.kept l.from l._many l.at
