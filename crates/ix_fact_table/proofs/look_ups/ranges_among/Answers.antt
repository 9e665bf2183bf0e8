use Rattle.std.proofs.Common.{rules, ◌∙◌}
use Rattle.std.proofs.lemmas.Fn.{always_returns_same}
use Rattle.ix_fact_table.specs.FactOrder.{comes_before}
use Rattle.ix_fact_table.proofs.KeySearches.{ranges_are}
use Rattle.ix_fact_table.proofs.look_ups.ranges_among.Goals as goal

pub returns : goal.returns
returns c =
    c.split_at.ensures.front
    ∙ ranges_are c.args.facts.now c.partition_point-count.result c.requires.rises c.partition_point-count.ensures.bound
    (c.partition_point-count.ensures.partitioned (comes_before 1) (always_returns_same _ _ _ (λ a r next called. search rules)))
