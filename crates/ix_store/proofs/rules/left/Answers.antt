use Rattle.std.proofs.Common.{◌≡◌, ap, sym, subst, ◌∙◌}
use Rattle.std.proofs.lemmas.Result.{IfOk-weaker}
use Rattle.ix_facts.specs.Forget.{without}
use Rattle.ix_fact_paths.specs.ChangedPaths.{is_changed}
use Rattle.ix_store.specs.StoredFacts.{facts_in}
use Rattle.ix_store.proofs.GrownTables.{at_none, at_some}
use Rattle.ix_store.proofs.rules.left.Goals as goal

pub returns-in-None : goal.returns-in-None
returns-in-None c =
    let without_changed = without (is_changed c.args.changed.now) in
    let known = c.args.known.now in
    let same : without_changed (facts_in known) ≡ facts_in known = subst (λ k. without_changed (facts_in k) ≡ facts_in k) c.get.ensures (at_none _ _ c.in-None.is c.in_ok-beside.ensures.same) in
    IfOk-weaker c.join.result _ _ (λ left is. ap facts_in is ∙ sym same) c.join.ensures

pub returns-in-Some : goal.returns-in-Some
returns-in-Some c =
    let without_changed = without (is_changed c.args.changed.now) in
    let fewer = c.in-Some.fewer in
    let left : facts_in fewer ≡ without_changed (facts_in c.args.known.now) =
    subst (λ k. facts_in fewer ≡ without_changed (facts_in k)) c.get.ensures (at_some _ fewer (λ rest. facts_in rest ≡ without_changed (facts_in c.get.result.now)) c.in-Some.is c.in_ok-beside.ensures.fewer) in
    IfOk-weaker c.new.result _ _ (λ joint is. ap facts_in is ∙ left) c.new.ensures
