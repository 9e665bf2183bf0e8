use Rattle.ix_store.proofs.KnownStores.{small_at}
use Rattle.ix_store.proofs.known_bounds.KnownKnow.fact.Goals as goal

pub returns-clause-small : goal.returns-clause-small
returns-clause-small c = small_at c.args.self.now c.args.k c.fact_numbered.result c.fact_numbered.ensures.fact
