use Rattle.std.proofs.Common.{ap, ◌∙◌}
use Rattle.ix_facts.specs.Bounds.{least, fact_less_by}
use Rattle.ix_facts.specs.Facts.{in_orders}
use Rattle.ix_bounds.proofs.PartsAlone.{fact_less_of}
use Rattle.ix_fact_paths.specs.Grouped.{on_list}
use Rattle.ix_fact_list.specs.GroupLaws.{links_among}
use Rattle.ix_fact_list.proofs.fact_list.FactListGroups.fact_less.Goals as goal

pub returns-clause-bound : goal.returns-clause-bound
returns-clause-bound c =
    let all = in_orders c.args.self.now in
    let p = c.args.p.now in
    let q = c.args.q.now in
    c.fact_less_among.ensures.bound
    ∙ (ap (least (fact_less_by p q)) (c.on.ensures ∙ (c.self.invariant.0.1.0 p ∙ ap (λ facts. on_list (in_orders facts) p) c.self.view_is))
    ∙ fact_less_of (on_list all p) all p q (links_among p all))
