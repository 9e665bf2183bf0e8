use Rattle.std.proofs.Common.{All, ◌≡◌, ap, sym, subst, ◌∙◌}
use Rattle.ix_facts.specs.Facts.{in_orders}
use Rattle.ix_facts.specs.Small.{HasSmallNumbers}
use Rattle.ix_store.specs.StoredFacts.{facts_in}
use Rattle.ix_store.proofs.SmallNumbers.{all_small}
use Rattle.ix_store.proofs.known.Known.by_path.Goals as goal

pub of_lists-requires-clause-small : goal.of_lists-requires-clause-small
of_lists-requires-clause-small c =
    let is : c.in_ok-facts.facts.items ≡ facts_in c.args.self.now = c.in_ok-facts.ensures.items ∙ c.as_slice.ensures.facts in
    subst (λ l. All HasSmallNumbers l) (sym is) (all_small c.args.self.now.table c.args.self.now.holds.full)

pub of_lists-requires-clause-orders : goal.of_lists-requires-clause-orders
of_lists-requires-clause-orders c =
    let is : c.in_ok-facts.facts.items ≡ facts_in c.args.self.now = c.in_ok-facts.ensures.items ∙ c.as_slice.ensures.facts in
    c.in_ok-ordered.ensures.items ∙ (c.ordered.ensures.orders ∙ ap in_orders (sym is))
