use Rattle.std.proofs.Common.{All, sym, subst}
use Rattle.ix_facts.specs.Small.{HasSmallNumbers}
use Rattle.ix_store.proofs.KnownStores.{small_orders}
use Rattle.ix_store.proofs.limited.Limited.of.Goals as goal

pub by_part-requires-clause-small : goal.by_part-requires-clause-small
by_part-requires-clause-small c = subst (λ l. All HasSmallNumbers l) (sym c.ordered-all.ensures.orders) (small_orders c.args.known.now)
