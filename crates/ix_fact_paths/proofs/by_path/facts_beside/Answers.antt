use Rattle.std.proofs.Common.{rules, ap, ◌∙◌}
use Rattle.std.specs.Prelude.{take}
use Rattle.std.proofs.lemmas.Fn.{always_returns_same}
use Rattle.ix_facts.specs.Bounds.{is_path}
use Rattle.ix_fact_paths.proofs.Found.{before, found_is}
use Rattle.ix_fact_paths.proofs.by_path.facts_beside.Goals as goal

pub returns : goal.returns
returns c =
    let p = c.args.p.now in
    c.split_at-3.ensures.front
    ∙ (ap (take c.partition_point-count.result) c.split_at-2.ensures.back
    ∙ found_is p c.args.paths.now c.split_at.result.1.now c.args.facts.now c.partition_point-start.result c.partition_point-count.result c.requires.sorted c.partition_point-start.ensures.bound c.split_at.ensures.back c.partition_point-count.ensures.bound
    (c.partition_point-start.ensures.partitioned (before p) (always_returns_same _ _ _ (λ a r next called. search rules)))
    (c.partition_point-count.ensures.partitioned (is_path p) (always_returns_same _ _ _ (λ a r next called. search rules))))
