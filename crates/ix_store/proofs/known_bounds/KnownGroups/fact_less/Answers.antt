use Rattle.std.proofs.Common.{sym, ◌∙◌}
use Rattle.ix_store.proofs.LessInOrders.{less_in_orders}
use Rattle.ix_store.specs.StoredFacts.{facts_in}
use Rattle.ix_store.proofs.known_bounds.KnownGroups.fact_less.Goals as goal

pub returns-clause-bound : goal.returns-clause-bound
returns-clause-bound c = c.fact_less.ensures.bound ∙ sym (less_in_orders c.args.p.now c.args.q.now (facts_in c.args.self.now))
