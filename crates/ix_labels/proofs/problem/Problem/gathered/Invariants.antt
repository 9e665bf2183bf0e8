use Rattle.std.proofs.Common.{map, take}
use Rattle.ix_solve.specs.Solutions.{IsLeastOf}
use Rattle.ix_facts.specs.Stores.{IsBelow}
use Rattle.ix_store.specs.StoredFacts.{stored}
use Rattle.ix_labels.specs.Problem.{rules_of, kinds_at}
use Rattle.ix_labels.specs.RunAsks.{EachBrings}
use Rattle.ix_labels.proofs.Visited.{To}
use Rattle.ix_labels.proofs.problem.Problem.gathered.Given as goal

abbrev pub invariant-loop-from : goal.invariant-loop-from
invariant-loop-from l = IsLeastOf IsBelow (EachBrings (rules_of l.self) (kinds_at l.self) (To l.self (map stored l.labels)) (take l.from-index l.from-items)) (stored l.joined)
