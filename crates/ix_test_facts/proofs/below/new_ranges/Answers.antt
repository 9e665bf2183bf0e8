use Rattle.std.proofs.Common.{◌++◌, ap, ◌∙◌, rules}
use Rattle.ix_text.proofs.Chained.{both_ok, ok_then}
use Rattle.ix_facts.specs.Closure.{kept}
use Rattle.ix_facts.specs.Bounds as spec
use Rattle.ix_facts.specs.Exact.{each}
use Rattle.ix_facts.specs.Facts.{in_orders}
use Rattle.ix_facts.specs.AfterTest.{below_by, above_by}
use Rattle.ix_intervals.specs.KeptLaws.{joined_two, same_int}
use Rattle.ix_test_facts.specs.OverGroups as over
use Rattle.ix_test_facts.proofs.below.new_ranges.Goals as goal

pub returns : goal.returns
returns g c =
    let facts = in_orders (g.K.Know.known c.args.know.now) in
    let below = c.args.below.now in
    let above = c.args.above.now in
    let p = c.args.p.now in
    let q = c.args.q.now in
    let k = c.args.k.now in
    let first = c.in_ok-ranges.ranges.items in
    let second = c.push_ranges_to.new.out.items in
    let low = ap (λ n. first ++ kept (each (below_by (over.range_to n k) p) below)) (same_int c.hi.result (search rules) ∙ c.hi.ensures.bound) in
    let high = ap (λ n. second ++ kept (each (above_by (over.range_from n k) q) above)) (same_int c.lo.result (search rules) ∙ c.lo.ensures.bound) in
    ok_then c.and.result c.push_ranges_from.new.out c.and-2.result _ _ c.and-2.ensures
    (both_ok c.push_ranges_to.result c.push_ranges_from.result c.and.result _ _ _ c.and.ensures c.push_ranges_to.ensures c.push_ranges_from.ensures
    (λ one is.
    joined_two first second c.push_ranges_from.new.out.items (each (below_by (over.range_to (spec.upper_limit facts q) k) p) below) (each (above_by (over.range_from (spec.lower_bound facts p) k) q) above) (one ∙ low) (is ∙ high)
    ∙ ap (λ l. l ++ kept (over.ranges_in_turn below above p q k facts)) c.in_ok-ranges.ensures.items))
    (λ all. all)
