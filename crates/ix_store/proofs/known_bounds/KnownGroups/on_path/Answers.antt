use Rattle.std.proofs.Common.{All, sym, subst}
use Rattle.ix_facts.specs.Small.{HasSmallNumbers}
use Rattle.ix_store.proofs.KnownStores.{small_orders}
use Rattle.ix_store.proofs.known_bounds.KnownGroups.on_path.Goals as goal

pub returns-clause-small : goal.returns-clause-small
returns-clause-small c = subst (λ l. All HasSmallNumbers l) (sym c.ordered.ensures.orders) (small_orders c.args.self.now)
