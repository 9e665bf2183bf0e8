use Rattle.std.proofs.Common.{◌<◌, ◌≤◌, ◌+◌, ℕ}
use Rattle.ix_labels.specs.Runs.{Continues}
use Rattle.ix_labels.proofs.runs.start_of.Given as goal

-- through the last so many nodes one run goes on
abbrev pub invariant-loop-back : goal.invariant-loop-back
invariant-loop-back l = (l.back ≤ l.at) × ((k : ℕ) → l.at < k + l.back → k ≤ l.at → Continues l.nodes l.kept k)
