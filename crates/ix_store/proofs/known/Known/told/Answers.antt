use Rattle.std.proofs.Common.{◌++◌, refl}
use Rattle.std.proofs.lemmas.Result.{IfOk-weaker}
use Rattle.ix_test_facts.specs.OverGroups.{outcome_of}
use Rattle.ix_store.proofs.BehindRules.{told_is, told_have}
use Rattle.ix_store.proofs.ClassesAfter.{right_have}
use Rattle.ix_store.proofs.SmallNumbers.{all_classes}
use Rattle.ix_store.specs.StoredFacts.{facts_in}
use Rattle.ix_store.proofs.known.Known.told.Goals as goal

same : goal.returns-clause-facts
same c =
    let known = facts_in c.args.self.now in
    IfOk-weaker c.facts_of_outcome.result _ _ (λ new is. told_is known known new.items (known ++ new.items) (outcome_of c.args.outcome.now) refl is refl) c.facts_of_outcome.ensures.facts

pub returns-clause-facts : goal.returns-clause-facts
returns-clause-facts = same

pub returns-clause-classes : goal.returns-clause-classes
returns-clause-classes c =
    let known = facts_in c.args.self.now in
    IfOk-weaker c.facts_of_outcome.result _ _ (λ new is. right_have known new.items (told_have known (known ++ new.items) (outcome_of c.args.outcome.now) is (all_classes c.args.self.now.table))) (same c)
