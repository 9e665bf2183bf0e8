use Rattle.std.proofs.Common.{sym, subst, ◌∙◌}
use Rattle.std.proofs.lemmas.Result.{IfOk-weaker}
use Rattle.std.specs.Prelude.{not, ◌&&◌, ◌==◌}
use Rattle.ix_facts.specs.Exact.{if_so}
use Rattle.ix_facts.specs.Forget.{of_field}
use Rattle.ix_facts.specs.Stores.{IsAdded, IsForgotten}
use Rattle.ix_facts.specs.Systems.{HaveClasses}
use Rattle.ix_store.specs.ChangedPaths.{is_spared}
use Rattle.ix_store.specs.StoredFacts.{stored}
use Rattle.ix_signatures.specs.Names.{is_built}
use Rattle.ix_signatures.specs.Signs.{write_facts}
use Rattle.ix_signatures.specs.Spared.{this_if}
use Rattle.ix_sign.proofs.Rules.{write_least}
use Rattle.ix_signatures.proofs.SignClasses.{if_have, write_have}
use Rattle.ix_sign.proofs.fields.after_write.Goals as goal

pub add-requires : goal.add-requires
add-requires c =
    let program = c.args.program.now in
    record { classes = subst HaveClasses (sym (c.deref.ensures.value ∙ c.in_ok-facts_at_write.ensures)) (if_have (is_built c.args.within.now c.args.object) (write_facts program c.args.object c.args.field) (write_have program c.args.object c.args.field)) }

pub returns : goal.returns
returns c =
    let program = c.args.program.now in
    let method = c.args.within.now in
    let first = stored c.in_ok-known.known in
    let second = stored c.in_ok-rest.rest in
    let added : IsAdded (if_so (is_built method c.args.object) (write_facts program c.args.object c.args.field)) (stored c.args.store.now) first =
    subst (λ l. IsAdded l (stored c.args.store.now) first) (c.deref.ensures.value ∙ c.in_ok-facts_at_write.ensures) c.in_ok-known.ensures.after in
    let forgotten : IsForgotten (of_field c.args.field (is_spared (this_if (method.constructor && not (c.args.object == 0))))) first second =
    subst (λ o. IsForgotten (of_field c.args.field (is_spared o)) first second) c.spared_at_write.ensures c.in_ok-rest.ensures.after in
    record { least = IfOk-weaker c.copied.result _ _ (λ t copied. write_least program method c.args.object c.args.field c.args.value (stored c.args.store.now) first second (stored t) added forgotten copied) c.copied.ensures }
