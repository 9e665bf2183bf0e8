use Rattle.std.proofs.Common.{ap, ◌∙◌}
use Rattle.ix_facts.specs.Bounds.{upper_bound}
use Rattle.ix_facts.specs.Facts.{in_orders}
use Rattle.ix_store.specs.StoredFacts.{facts_in}
use Rattle.ix_store.proofs.limited.LimitedKnow.upper.Goals as goal

pub returns-clause-bound : goal.returns-clause-bound
returns-clause-bound c = c.upper.ensures.bound ∙ ap (λ known. upper_bound (in_orders (facts_in known)) c.args.p.now c.args.a.now c.args.offset.now) c.self.view_is
