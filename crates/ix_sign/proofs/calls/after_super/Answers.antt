use Rattle.std.proofs.Common.{sym, subst, ◌∙◌}
use Rattle.std.proofs.lemmas.Result.{IfOk-weaker}
use Rattle.ix_core.specs.Tables.{method_at}
use Rattle.ix_facts.specs.Stores.{IsAdded, IsForgotten}
use Rattle.ix_facts.specs.Systems.{HaveClasses}
use Rattle.ix_store.specs.ChangedPaths.{of_parent}
use Rattle.ix_store.specs.StoredFacts.{stored}
use Rattle.ix_signatures.specs.Signs.{own_fields, inherited_fields}
use Rattle.ix_signatures.specs.Spared.{this_if}
use Rattle.ix_sign.proofs.Rules.{super_least}
use Rattle.ix_signatures.proofs.SignClasses.{super_have}
use Rattle.ix_sign.proofs.calls.after_super.Goals as goal

pub add-requires : goal.add-requires
add-requires c =
    record { classes = subst HaveClasses (sym (c.deref.ensures.value ∙ c.in_ok-facts.ensures)) (super_have c.args.program.now (own_fields c.args.program.now c.args.within.now) (inherited_fields c.args.program.now c.args.within.now)) }

pub returns : goal.returns
returns c =
    let program = c.args.program.now in
    let method = c.args.within.now in
    let call = c.args.call.now in
    let s = stored c.args.store.now in
    let between = stored c.in_ok-rest.rest in
    let forgotten : IsForgotten (of_parent program call.target (method_at program call.method).effect_free (this_if method.constructor)) s between =
    subst (λ b. IsForgotten (of_parent program call.target b (this_if method.constructor)) s between) c.is_effect_free-free.ensures
    (subst (λ o. IsForgotten (of_parent program call.target c.is_effect_free-free.result o) s between) c.this_if-spared.ensures c.in_ok-rest.ensures.after) in
    record { least = IfOk-weaker c.add.result (λ t. IsAdded c.deref.result.now between (stored t)) _ (λ t added. super_least program method call s between (stored t) forgotten (subst (λ l. IsAdded l between (stored t)) (c.deref.ensures.value ∙ c.in_ok-facts.ensures) added)) c.add.ensures.after }
