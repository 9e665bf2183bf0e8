use Rattle.std.proofs.Common.{sym, subst, ◌∙◌}
use Rattle.std.specs.Prelude.{None, IfOk}
use Rattle.ix_core.specs.Tables.{param_slots}
use Rattle.ix_facts.specs.Stores.{IsAdded, IsForgotten}
use Rattle.ix_facts.specs.Systems.{HaveClasses}
use Rattle.ix_fact_paths.specs.ChangedPaths.{of_called}
use Rattle.ix_store.specs.StoredFacts.{stored}
use Rattle.ix_errors.proofs.OverridesRefused.{own_have, behind_added}
use Rattle.ix_errors.proofs.overriding.behind_run.Goals as goal

pub add-requires : goal.add-requires
add-requires c = record { classes = subst HaveClasses (sym (c.deref.ensures.value ∙ c.in_ok-facts.ensures)) (own_have c.args.method.now) }

pub returns : goal.returns
returns c =
    let program = c.args.program.now in
    let method = c.args.method.now in
    let first = stored c.args.before.now in
    let between = stored c.in_ok-rest.rest in
    let forgotten : IsForgotten (of_called program (param_slots method) method.effect_free None) first between =
    subst (λ n. IsForgotten (of_called program n method.effect_free None) first between) c.result_slot-target.ensures c.in_ok-rest.ensures.after in
    behind_added program method first between c.add.result forgotten (subst (λ l. IfOk c.add.result (λ store. IsAdded l between (stored store))) (c.deref.ensures.value ∙ c.in_ok-facts.ensures) c.add.ensures.after)
