use Rattle.std.specs.Prelude.{option_map}
use Rattle.std.proofs.lemmas.Result.{IfOk-weaker}
use Rattle.std.proofs.Common.{sym, subst, ◌∙◌}
use Rattle.ix_facts.specs.Stores.{IsAdded, with_facts}
use Rattle.ix_facts.specs.Systems.{HaveClasses}
use Rattle.ix_store.specs.StoredFacts.{stored}
use Rattle.ix_signatures.specs.Signs.{told_facts}
use Rattle.ix_signatures.proofs.LeastSteps.{least_given}
use Rattle.ix_signatures.proofs.SignClasses.{told_have}
use Rattle.ix_sign.proofs.told.tell.Goals as goal

pub add-requires : goal.add-requires
add-requires c = record { classes = subst HaveClasses (sym (c.deref.ensures.value ∙ c.in_ok-facts.ensures)) (told_have c.args.program.now (option_map (λ op. op.now) c.args.last) c.args.slot c.args.answer) }

pub returns : goal.returns
returns c =
    let new = told_facts c.args.program.now (option_map (λ op. op.now) c.args.last) c.args.slot c.args.answer in
    let s = stored c.args.store.now in
    record { least = IfOk-weaker c.add.result (λ t. IsAdded c.deref.result.now s (stored t)) _ (λ t added. least_given (with_facts new) s (stored t) (subst (λ l. IsAdded l s (stored t)) (c.deref.ensures.value ∙ c.in_ok-facts.ensures) added)) c.add.ensures.after }
