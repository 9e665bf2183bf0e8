use Rattle.std.proofs.Common.{◌≡◌, ◌++◌, ap}
use Rattle.std.proofs.lemmas.Result.{IfOk-weaker}
use Rattle.ix_facts.specs.Assume.{claim_facts}
use Rattle.ix_facts.specs.Closure.{kept}
use Rattle.ix_facts.specs.Stores.{Reached, with_facts}
use Rattle.ix_facts.proofs.Members.{same_equal}
use Rattle.ix_store.specs.StoredFacts.{facts_in, stored}
use Rattle.ix_store.proofs.BehindRules.{given_by}
use Rattle.ix_store.proofs.store.Store.assume.Goals as goal

pub returns : goal.returns
returns c =
    let i = c.in-Some.is in
    let known = facts_in c.in-Some.known in
    let new = c.in_ok-new.new.items in
    let told = claim_facts c.args.claim.now c.args.at.now in
    let is : stored c.args.self.now ≡ Reached known = cc in
    record {
      after = IfOk-weaker c.with_new.result _ _
          (λ store made. given_by (with_facts told) (stored c.args.self.now) (stored store) known (known ++ new) is (same_equal (known ++ new) (known ++ kept told) (ap (λ l. known ++ l) c.in_ok-new.ensures.facts)) made)
          c.with_new.ensures.store;
    }
