use Rattle.std.proofs.Common.{◌≡◌, ◌++◌, subst}
use Rattle.std.proofs.lemmas.Result.{IfOk-weaker}
use Rattle.ix_facts.specs.Stores.{Reached, with_outcome}
use Rattle.ix_facts.specs.SameFacts.{AreSame}
use Rattle.ix_test_facts.specs.OverGroups.{outcome_of}
use Rattle.ix_store.specs.StoredFacts.{facts_in, stored}
use Rattle.ix_store.proofs.BehindRules.{given_by}
use Rattle.ix_store.proofs.store.Store.told.Goals as goal

pub returns : goal.returns
returns c =
    let i = c.in-Some.is in
    let rule = with_outcome (outcome_of c.args.outcome.now) in
    let known = c.in-Some.known in
    let new = c.in_ok-new.new.items in
    let is : stored c.args.self.now ≡ Reached (facts_in known) = cc in
    let same : AreSame (facts_in known ++ new) (rule (facts_in known)) = subst (λ k. AreSame (facts_in k ++ new) (rule (facts_in k))) c.get.ensures c.in_ok-new.ensures.facts in
    record { after = IfOk-weaker c.with_new.result _ _ (λ store made. given_by rule (stored c.args.self.now) (stored store) (facts_in known) (facts_in known ++ new) is same made) c.with_new.ensures.store }
