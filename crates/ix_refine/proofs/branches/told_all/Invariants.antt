use Rattle.std.proofs.Common.{drop}
use Rattle.ix_facts.specs.Stores.{Stored, AreTold}
use Rattle.ix_test_facts.specs.OverGroups.{outcomes_of}
use Rattle.ix_store.specs.StoredFacts.{stored}
use Rattle.ix_refine.proofs.branches.told_all.Given as goal

abbrev pub invariant-loop-outcome : goal.invariant-loop-outcome
invariant-loop-outcome l = (s : Stored) → AreTold (outcomes_of (drop l.outcome-index l.told)) (stored l.after) s → AreTold (outcomes_of l.told) (stored l.fn.store) s
