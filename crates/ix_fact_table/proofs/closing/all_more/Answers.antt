use Rattle.std.proofs.Common.{◌++◌, ap, ◌∙◌}
use Rattle.ix_text.proofs.Chained.{both_ok, ok_then}
use Rattle.ix_facts.specs.Exact.{each}
use Rattle.ix_fact_table.specs.Saturated as spec
use Rattle.ix_fact_table.specs.Saturated.{negative_of, class_of}
use Rattle.ix_fact_table.proofs.OverBoth.{over_both_and, both}
use Rattle.ix_fact_table.proofs.closing.all_more.Goals as goal

pub returns : goal.returns
returns c =
    let facts = c.args.facts.now in
    let ranges = c.args.ranges.now in
    let searched = c.in_ok-searched.searched.items in
    ok_then c.and-2.result c.push_classes.new.out c.and-3.result _ _ c.and-3.ensures
    (both_ok c.and.result c.push_classes.result c.and-2.result _ _ _ c.and-2.ensures
    (both_ok c.push_negatives.result c.push_negatives-2.result c.and.result _ _ _ c.and.ensures c.push_negatives.ensures c.push_negatives-2.ensures (λ one two. both one two))
    c.push_classes.ensures
    (λ before classes.
    over_both_and (negative_of ranges) facts searched (spec.searched facts c.args.classes.now c.args.arrays.now) c.in_ok-more.more.items c.push_negatives.new.out.items c.push_negatives-2.new.out.items
    c.push_classes.new.out.items (each class_of ranges) c.in_ok-searched.ensures (c.in_ok-more.ensures ∙ c.deref.ensures.value) before.0
    (before.1 ∙ ap (λ l. c.push_negatives.new.out.items ++ each (negative_of ranges) l) c.deref-2.ensures.value) classes))
    (λ all. all)
