use Rattle.std.proofs.Common.{ap, ◌∙◌}
use Rattle.ix_bounds.specs.Ends.{ends_in}
use Rattle.ix_fact_paths.specs.Grouped.{on_list}
use Rattle.ix_fact_list.proofs.fact_list.FactList.of_lists.Goals as goal

pub invariant_of-result : goal.invariant_of-result
invariant_of-result c =
    let ends = c.in_ok-ends_of.ensures.ends ∙ ap ends_in (c.deref.ensures.value ∙ c.requires.orders) in (
      (c.requires.small, ((λ p. c.in_ok-by_path.ensures p ∙ ap (λ l. on_list l p) c.requires.orders), (λ p. c.in_ok-ends.ensures p ∙ ap (λ l. on_list l p) ends))),
      (c.requires.ints, c.requires.arrays),
    )
