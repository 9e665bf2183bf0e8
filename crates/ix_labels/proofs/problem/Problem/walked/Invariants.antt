use Rattle.std.proofs.Common.{map, ◌≤◌}
use Rattle.ix_solve.specs.Solutions.{IsLeastOf}
use Rattle.ix_facts.specs.Stores.{IsBelow}
use Rattle.ix_store.specs.StoredFacts.{stored}
use Rattle.ix_labels.proofs.Visited.{To}
use Rattle.ix_labels.proofs.problem.Problem.walked.Given as goal

abbrev pub invariant-loop-before : goal.invariant-loop-before
invariant-loop-before l = (l.start ≤ l.before) × (l.before ≤ l.at) × IsLeastOf IsBelow (To l.self (map stored l.labels) l.before) (stored l.store)
