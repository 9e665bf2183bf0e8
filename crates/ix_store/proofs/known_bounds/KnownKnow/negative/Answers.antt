use Rattle.std.proofs.Common.{◌∙◌}
use Rattle.ix_bounds.specs.HasOrders.{negative_in_orders}
use Rattle.ix_store.specs.StoredFacts.{facts_in}
use Rattle.ix_store.proofs.known_bounds.KnownKnow.negative.Goals as goal

pub returns : goal.returns
returns c = record { fact = c.has_negative.ensures ∙ negative_in_orders c.args.p.now c.args.a.now (facts_in c.args.self.now) }
