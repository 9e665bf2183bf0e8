use Rattle.std.proofs.Common.{[], ◌++◌, ap}
use Rattle.ix_text.proofs.Chained.{both_ok, ok_then}
use Rattle.ix_facts.specs.Exact.{each}
use Rattle.ix_fact_table.specs.Saturated.{pairs, along}
use Rattle.ix_fact_table.proofs.OverLabels.{three}
use Rattle.ix_fact_table.proofs.closing.alike.Goals as goal

pub returns : goal.returns
returns c =
    let facts = c.args.facts.now in
    let roots = c.args.classes.now in
    let arrays = c.args.arrays.now in
    ok_then c.and.result c.push_along.new.out c.and-2.result _ _ c.and-2.ensures
    (both_ok c.push_pairs.result c.push_along.result c.and.result _ _ _ c.and.ensures c.push_pairs.ensures c.push_along.ensures
    (λ one two. three c.new-more.result.items c.push_pairs.new.out.items c.push_along.new.out.items [] (pairs roots arrays) (each (along roots arrays) facts) c.new-more.ensures.items one two))
    (λ all. ap (λ l. facts ++ l) all)
