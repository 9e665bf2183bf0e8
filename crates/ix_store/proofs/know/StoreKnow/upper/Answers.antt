use Rattle.std.proofs.Common.{◌≡◌, ap, sym, ◌∙◌}
use Rattle.ix_facts.specs.Bounds.{upper_bound}
use Rattle.ix_facts.specs.Facts.{in_orders}
use Rattle.ix_facts.specs.Stores.{Reached}
use Rattle.ix_store.specs.SeenFacts.{facts_or_none, facts_seen}
use Rattle.ix_store.specs.StoredFacts.{facts_in, stored}
use Rattle.ix_store.proofs.know.StoreKnow.upper.Goals as goal

pub returns-in-Some-clause-bound : goal.returns-in-Some-clause-bound
returns-in-Some-clause-bound c =
    let i = c.in-Some.is in
    let is : stored c.args.self.now ≡ Reached (facts_in c.in-Some.known) = cc in
    let same : facts_in c.get.result.now ≡ facts_seen c.args.self.now = ap facts_in c.get.ensures ∙ sym (ap facts_or_none is) in
    c.upper.ensures.bound ∙ ap (λ l. upper_bound (in_orders l) c.args.p.now c.args.a.now c.args.offset.now) same
