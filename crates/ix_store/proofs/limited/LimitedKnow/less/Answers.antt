use Rattle.std.specs.Prelude.{Some}
use Rattle.std.proofs.Common.{ap, ◌∙◌}
use Rattle.ix_facts.specs.Bounds.{less_bound}
use Rattle.ix_facts.specs.Facts.{in_orders}
use Rattle.ix_store.specs.StoredFacts.{facts_in}
use Rattle.ix_store.proofs.limited.LimitedKnow.less.Goals as goal

pub returns-clause-bound : goal.returns-clause-bound
returns-clause-bound c = c.less.ensures.bound ∙ ap (λ known. Some (less_bound (in_orders (facts_in known)) c.args.p.now c.args.q.now)) c.self.view_is
