use Rattle.std.proofs.Common.{[], refl, subst}
use Rattle.std.proofs.lemmas.List.{append-nil}
use Rattle.ix_cert.specs.Reading.{FactsText}
use Rattle.ix_cert.proofs.facts.read_facts.Goals as goal

pub returns : goal.returns
returns c =
    let stops = rw c.in_default.is at c.in_ok-fact.ensures.none in
    subst (λ facts. FactsText c.args.slots c.args.fields [] c.args.text.now facts c.loop-facts.rest.now) (append-nil c.loop-facts.facts.items) (c.loop-facts.invariant [] c.loop-facts.rest.now (refl, stops))
