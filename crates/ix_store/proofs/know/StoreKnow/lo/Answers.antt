use Rattle.std.proofs.Common.{rules, w64, ◌≡◌, ap, sym, ◌∙◌}
use Rattle.std.proofs.lemmas.Int.{to_z-of_z}
use Rattle.ix_facts.specs.Bounds.{lower_bound}
use Rattle.ix_facts.specs.Facts.{in_orders}
use Rattle.ix_facts.specs.Stores.{Reached}
use Rattle.ix_store.specs.SeenFacts.{facts_or_none, facts_seen}
use Rattle.ix_store.specs.StoredFacts.{facts_in, stored}
use Rattle.ix_store.proofs.know.StoreKnow.lo.Goals as goal

pub returns-in-Some-clause-bound : goal.returns-in-Some-clause-bound
returns-in-Some-clause-bound c =
    let i = c.in-Some.is in
    let is : stored c.args.self.now ≡ Reached (facts_in c.in-Some.known) = cc in
    let same : facts_in c.get.result.now ≡ facts_seen c.args.self.now = ap facts_in c.get.ensures ∙ sym (ap facts_or_none is) in
    to_z-of_z w64 c.lo.result (search rules) ∙ (c.lo.ensures.bound ∙ ap (λ l. lower_bound (in_orders l) c.args.p.now) same)
