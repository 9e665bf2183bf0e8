use Rattle.std.proofs.Common.{sym, subst, ◌∙◌}
use Rattle.std.proofs.lemmas.Result.{IfOk-weaker}
use Rattle.ix_facts.specs.Exact.{if_so}
use Rattle.ix_facts.specs.Stores.{IsAdded}
use Rattle.ix_facts.specs.Systems.{HaveClasses}
use Rattle.ix_store.specs.StoredFacts.{stored}
use Rattle.ix_signatures.specs.Names.{is_built}
use Rattle.ix_signatures.specs.Signs.{read_facts}
use Rattle.ix_sign.proofs.Rules.{read_least}
use Rattle.ix_signatures.proofs.SignClasses.{if_have, read_have}
use Rattle.ix_sign.proofs.fields.after_read.Goals as goal

pub add-requires : goal.add-requires
add-requires c =
    let program = c.args.program.now in
    record { classes = subst HaveClasses (sym (c.deref.ensures.value ∙ c.in_ok-facts_at_read.ensures)) (if_have (is_built c.args.within.now c.args.object) (read_facts program c.args.object c.args.field) (read_have program c.args.object c.args.field)) }

pub returns : goal.returns
returns c =
    let program = c.args.program.now in
    let method = c.args.within.now in
    let between = stored c.in_ok-known.known in
    let added : IsAdded (if_so (is_built method c.args.object) (read_facts program c.args.object c.args.field)) (stored c.args.store.now) between =
    subst (λ l. IsAdded l (stored c.args.store.now) between) (c.deref.ensures.value ∙ c.in_ok-facts_at_read.ensures) c.in_ok-known.ensures.after in
    record { least = IfOk-weaker c.copied.result _ _ (λ t copied. read_least program method c.args.target c.args.object c.args.field (stored c.args.store.now) between (stored t) added copied) c.copied.ensures }
