use Rattle.std.proofs.Common.{◌∙◌}
use Rattle.ix_bounds.specs.HasOrders.{length_in_orders}
use Rattle.ix_store.specs.StoredFacts.{facts_in}
use Rattle.ix_store.proofs.known_bounds.KnownKnow.is_len.Goals as goal

pub returns : goal.returns
returns c = record { fact = c.has_length.ensures ∙ length_in_orders c.args.p.now c.args.a.now (facts_in c.args.self.now) }
