use Rattle.std.proofs.Common.{◌++◌, ap, ◌∙◌}
use Rattle.ix_text.proofs.Chained.{both_ok, ok_then}
use Rattle.ix_facts.specs.Exact.{each}
use Rattle.ix_fact_table.specs.Saturated as spec
use Rattle.ix_fact_table.specs.Saturated.{search_of}
use Rattle.ix_fact_table.proofs.OverBoth.{over_both}
use Rattle.ix_fact_table.proofs.closing.searched.Goals as goal

pub returns : goal.returns
returns c =
    let facts = c.args.facts.now in
    let alike = c.in_ok-alike.alike.items in
    ok_then c.and.result c.push_searches-2.new.out c.and-2.result _ _ c.and-2.ensures
    (both_ok c.push_searches.result c.push_searches-2.result c.and.result _ _ _ c.and.ensures c.push_searches.ensures c.push_searches-2.ensures
    (λ one two.
    over_both search_of facts alike (spec.alike facts c.args.classes.now c.args.arrays.now) c.in_ok-more.more.items c.push_searches.new.out.items c.push_searches-2.new.out.items c.in_ok-alike.ensures
    (c.in_ok-more.ensures ∙ c.deref.ensures.value) one (two ∙ ap (λ l. c.push_searches.new.out.items ++ each search_of l) c.deref-2.ensures.value)))
    (λ all. all)
