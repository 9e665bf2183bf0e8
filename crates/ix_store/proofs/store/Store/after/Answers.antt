use Rattle.std.proofs.Common.{◌≡◌, ◌++◌, subst, refl}
use Rattle.std.proofs.lemmas.Result.{IfOk-weaker}
use Rattle.ix_facts.specs.After.{of_target}
use Rattle.ix_facts.specs.Facts.{in_orders}
use Rattle.ix_facts.specs.Forget.{without}
use Rattle.ix_facts.specs.Stores.{Reached, operated}
use Rattle.ix_facts.specs.SameFacts.{AreSame}
use Rattle.ix_store.specs.NewFacts.{after_new}
use Rattle.ix_store.specs.StoredFacts.{facts_in, stored}
use Rattle.ix_store.proofs.BehindRules.{given_by, after_is, after_have}
use Rattle.ix_store.proofs.ClassesAfter.{right_have}
use Rattle.ix_store.proofs.SmallNumbers.{all_classes}
use Rattle.ix_store.proofs.store.Store.after.Goals as goal

pub with_new-requires : goal.with_new-requires
with_new-requires c =
    let kind = c.args.kind.now in
    let profile = c.args.profile in
    let known = c.in-Some.known in
    let rest = c.in_ok-left.left in
    let new = c.in_ok-new.new.items in
    let left : facts_in rest ≡ without (of_target kind) (facts_in known) = c.in_ok-left.ensures in
    let made : AreSame new (after_new (in_orders (facts_in rest)) profile kind) = subst (λ k. AreSame new (after_new (in_orders (facts_in k)) profile kind)) c.get.ensures c.in_ok-new.ensures.facts in
    record { classes = right_have (facts_in rest) new (after_have (facts_in known) (facts_in rest ++ new) profile kind (after_is (facts_in known) (facts_in rest) new (facts_in rest ++ new) profile kind left made refl) (all_classes known.table)) }

pub returns : goal.returns
returns c =
    let i = c.in-Some.is in
    let kind = c.args.kind.now in
    let profile = c.args.profile in
    let known = c.in-Some.known in
    let rest = c.in_ok-left.left in
    let new = c.in_ok-new.new.items in
    let is : stored c.args.self.now ≡ Reached (facts_in known) = cc in
    let left : facts_in rest ≡ without (of_target kind) (facts_in known) = c.in_ok-left.ensures in
    let made : AreSame new (after_new (in_orders (facts_in rest)) profile kind) = subst (λ k. AreSame new (after_new (in_orders (facts_in k)) profile kind)) c.get.ensures c.in_ok-new.ensures.facts in
    let same : AreSame (facts_in rest ++ new) (operated profile kind (facts_in known)) = after_is (facts_in known) (facts_in rest) new (facts_in rest ++ new) profile kind left made refl in
    record { after = IfOk-weaker c.with_new.result _ _ (λ store made. given_by (operated profile kind) (stored c.args.self.now) (stored store) (facts_in known) (facts_in rest ++ new) is same made) c.with_new.ensures.store }
