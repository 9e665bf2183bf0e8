use Rattle.std.proofs.Common.{ap, subst}
use Rattle.std.proofs.lemmas.Result.{IfOk-weaker}
use Rattle.ix_facts.specs.Stores.{Stored}
use Rattle.ix_flow.specs.Walk.{Joins}
use Rattle.ix_store.specs.StoredFacts.{stored}
use Rattle.ix_verify.specs.Walking.{rules}
use Rattle.ix_verify.proofs.walk.Walk.again.Goals as goal

pub returns-clause-joins : goal.returns-clause-joins
returns-clause-joins c =
    IfOk-weaker c.join.result _ _ (λ again joins. subst (λ (s : Stored). Joins (rules c.args.self.now) s (stored c.args.done.now) (stored again)) (ap stored c.replace-inner.ensures.value) joins) c.join.ensures

pub returns-clause-found : goal.returns-clause-found
returns-clause-found c =
    IfOk-weaker c.join.result _ _ (λ again joins. ap (λ s. record c.args.found.now { continues = s }) c.replace-inner.ensures.after) c.join.ensures
