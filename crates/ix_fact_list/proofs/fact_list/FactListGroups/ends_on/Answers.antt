use Rattle.std.proofs.Common.{All, sym, subst, ◌∙◌}
use Rattle.ix_facts.specs.Facts.{in_orders}
use Rattle.ix_facts.specs.Small.{HasSmallNumbers}
use Rattle.ix_bounds.specs.Ends.{ends_in}
use Rattle.ix_bounds.proofs.BoundSteps.{in_orders_small}
use Rattle.ix_fact_list.proofs.SmallFacts.{on_list_small, ends_small}
use Rattle.ix_fact_list.proofs.fact_list.FactListGroups.ends_on.Goals as goal

pub returns-clause-small : goal.returns-clause-small
returns-clause-small c =
    let p = c.args.p.now in
    let facts = c.self.inside.facts.items in
    subst (λ l. All HasSmallNumbers l) (sym (c.on.ensures ∙ c.self.invariant.0.1.1 p))
    (on_list_small p (ends_in (in_orders facts)) (ends_small (in_orders facts) (in_orders_small facts c.self.invariant.0.0)))
