use Rattle.std.proofs.Common.{sym, subst}
use Rattle.std.proofs.lemmas.Result.{IfOk-weaker}
use Rattle.ix_facts.specs.Closure.{IsCommon}
use Rattle.ix_store.specs.StoredFacts.{facts_in}
use Rattle.ix_fact_table.specs.TableLaws.{all_may}
use Rattle.ix_store.proofs.WeakerCommon.{first_common, second_common}
use Rattle.ix_store.proofs.lattice.common.Goals as goal

pub returns-then-says_all : goal.returns-then-says_all
returns-then-says_all c =
    let first = c.args.first.now in
    let second = c.args.second.now in
    let both = second_common (facts_in first) (facts_in second) (c.says_all.ensures.below.0 c.if-says_all.true) (λ f i. (all_may second.table f i).tells) in
    record { common = IfOk-weaker c.join.result _ _ (λ known is. subst (λ k. IsCommon (facts_in first) (facts_in second) (facts_in k)) (sym is) both) c.join.ensures }

pub returns-then-says_all-2 : goal.returns-then-says_all-2
returns-then-says_all-2 c =
    let first = c.args.first.now in
    let second = c.args.second.now in
    let both = first_common (facts_in first) (facts_in second) (c.says_all-2.ensures.below.0 c.if-says_all-2.true) (λ f i. (all_may first.table f i).tells) in
    record { common = IfOk-weaker c.join-then-says_all-2.result _ _ (λ known is. subst (λ k. IsCommon (facts_in first) (facts_in second) (facts_in k)) (sym is) both) c.join-then-says_all-2.ensures }

pub returns : goal.returns
returns c =
    let first = c.args.first.now in
    let second = c.args.second.now in
    let both = c.in_ok-common.field-0 in
    let common : IsCommon (facts_in first) (facts_in second) (facts_in both) =
    subst (λ k. IsCommon (facts_in k) (facts_in second) (facts_in both)) c.get.ensures
    (subst (λ k. IsCommon (facts_in c.get.result.now) (facts_in k) (facts_in both)) c.get-2.ensures c.in_ok-common.ensures.common) in
    record { common = IfOk-weaker c.new.result _ _ (λ known is. subst (λ k. IsCommon (facts_in first) (facts_in second) (facts_in k)) (sym is) common) c.new.ensures }
