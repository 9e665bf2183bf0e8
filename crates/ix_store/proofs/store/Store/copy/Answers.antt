use Rattle.std.proofs.Common.{◌≡◌, ◌++◌, subst, refl}
use Rattle.std.proofs.lemmas.Result.{IfOk-weaker}
use Rattle.ix_facts.specs.Forget.{of_path, without}
use Rattle.ix_facts.specs.Stores.{Reached, with_copy}
use Rattle.ix_facts.specs.SameFacts.{AreSame}
use Rattle.ix_store.specs.NewFacts.{copy_new}
use Rattle.ix_store.specs.StoredFacts.{facts_in, stored}
use Rattle.ix_store.proofs.BehindRules.{given_by, copy_is, copy_have}
use Rattle.ix_store.proofs.ClassesAfter.{right_have}
use Rattle.ix_store.proofs.SmallNumbers.{all_classes}
use Rattle.ix_store.proofs.store.Store.copy.Goals as goal

pub with_new-requires : goal.with_new-requires
with_new-requires c =
    let target = c.args.target.now in
    let source = c.args.source.now in
    let ty = c.args.ty.now in
    let known = c.in-Some.known in
    let rest = c.in_ok-left.left in
    let new = c.in_ok-new.new.items in
    let left : facts_in rest ≡ without (of_path target) (facts_in known) = c.in_ok-left.ensures in
    let made : AreSame new (copy_new (facts_in rest) ty target source) = subst (λ k. AreSame new (copy_new (facts_in k) ty target source)) c.get.ensures c.in_ok-new.ensures.facts in
    record { classes = right_have (facts_in rest) new (copy_have (facts_in known) (facts_in rest ++ new) ty target source (copy_is (facts_in known) (facts_in rest) new (facts_in rest ++ new) ty target source left made refl) (all_classes known.table)) }

pub returns : goal.returns
returns c =
    let i = c.in-Some.is in
    let target = c.args.target.now in
    let source = c.args.source.now in
    let ty = c.args.ty.now in
    let known = c.in-Some.known in
    let rest = c.in_ok-left.left in
    let new = c.in_ok-new.new.items in
    let is : stored c.args.self.now ≡ Reached (facts_in known) = cc in
    let left : facts_in rest ≡ without (of_path target) (facts_in known) = c.in_ok-left.ensures in
    let made : AreSame new (copy_new (facts_in rest) ty target source) = subst (λ k. AreSame new (copy_new (facts_in k) ty target source)) c.get.ensures c.in_ok-new.ensures.facts in
    let same : AreSame (facts_in rest ++ new) (with_copy ty target source (facts_in known)) = copy_is (facts_in known) (facts_in rest) new (facts_in rest ++ new) ty target source left made refl in
    record { after = IfOk-weaker c.with_new.result _ _ (λ store made. given_by (with_copy ty target source) (stored c.args.self.now) (stored store) (facts_in known) (facts_in rest ++ new) is same made) c.with_new.ensures.store }
