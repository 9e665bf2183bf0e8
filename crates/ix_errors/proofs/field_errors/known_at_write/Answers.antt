use Rattle.std.proofs.Common.{sym, subst, ◌∙◌}
use Rattle.std.specs.Prelude.{IfOk}
use Rattle.ix_facts.specs.Stores.{IsAdded}
use Rattle.ix_facts.specs.Systems.{HaveClasses}
use Rattle.ix_store.specs.StoredFacts.{stored}
use Rattle.ix_signatures.specs.Names.{is_built}
use Rattle.ix_signatures.specs.Signs.{write_facts}
use Rattle.ix_signatures.proofs.SignClasses.{if_have, write_have}
use Rattle.ix_errors.proofs.field_errors.known_at_write.Goals as goal

pub add-requires : goal.add-requires
add-requires c =
    let program = c.args.program.now in
    let w = c.args.write.now in
    record { classes = subst HaveClasses (sym (c.deref.ensures.value ∙ c.in_ok-facts.ensures)) (if_have (is_built c.args.within.now w.object) (write_facts program w.object w.field) (write_have program w.object w.field)) }

pub returns : goal.returns
returns c = subst (λ l. IfOk c.add.result (λ known. IsAdded l (stored c.args.store.now) (stored known))) (c.deref.ensures.value ∙ c.in_ok-facts.ensures) c.add.ensures.after
