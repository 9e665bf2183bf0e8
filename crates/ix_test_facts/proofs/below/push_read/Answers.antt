use Rattle.std.proofs.Common.{◌++◌, ap, ◌∙◌}
use Rattle.ix_text.proofs.Chained.{both_ok}
use Rattle.ix_facts.specs.Closure.{kept}
use Rattle.ix_facts.specs.Exact.{each}
use Rattle.ix_facts.specs.Facts.{in_orders}
use Rattle.ix_test_facts.specs.OverGroups as over
use Rattle.ix_test_facts.proofs.SixParts.{six, both}
use Rattle.ix_test_facts.proofs.OwnAmong.{ranges_by, differences_by}
use Rattle.ix_test_facts.proofs.below.push_read.Goals as goal

pub returns : goal.returns
returns g c =
    let facts = in_orders (g.K.Know.known c.args.know.now) in
    let on_p = c.args.on_p.now in
    let on_q = c.args.on_q.now in
    let p = c.args.p.now in
    let q = c.args.q.now in
    let k = c.args.k.now in
    let below = over.with_own_below p on_p in
    let above = over.with_own_above q on_q in
    let ranges = c.in_ok-ranges.ensures ∙ ranges_by facts p q k _ _ below above (c.deref.ensures.value ∙ c.in_ok-below.ensures) (c.deref-2.ensures.value ∙ c.in_ok-above.ensures) in
    let differences = differences_by p q k _ _ below above (c.deref-4.ensures.value ∙ c.in_ok-below.ensures) (c.deref-5.ensures.value ∙ c.in_ok-above.ensures) in
    let bounds = c.in_ok-bounds.ensures in
    let out = c.args.out.now.items in
    let new = c.push_all.new.out.items in
    let apart = c.push_differences.new.out.items in
    let bounded = c.push_all-2.new.out.items in
    let long_p = c.push_lengths.new.out.items in
    let long_q = c.push_lengths-2.new.out.items in
    let new_ranges = over.ordered_ranges facts on_p on_q p q k in
    let new_bounds = kept (over.bound_part on_p on_q p q k) in
    both_ok c.and-4.result c.push_parts.result c.and-5.result _ _ _ c.and-5.ensures
    (both_ok c.and-3.result c.push_lengths-2.result c.and-4.result _ _ _ c.and-4.ensures
    (both_ok c.and-2.result c.push_lengths.result c.and-3.result _ _ _ c.and-3.ensures
    (both_ok c.and.result c.push_all-2.result c.and-2.result _ _ _ c.and-2.ensures
    (both_ok c.push_all.result c.push_differences.result c.and.result _ _ _ c.and.ensures c.push_all.ensures c.push_differences.ensures
    (λ one is. both (one ∙ ap (λ l. out ++ l) (c.deref-3.ensures.value ∙ ranges)) (is ∙ ap (λ l. new ++ l) differences)))
    c.push_all-2.ensures (λ before is. both before (is ∙ ap (λ l. apart ++ l) (c.deref-6.ensures.value ∙ bounds))))
    c.push_lengths.ensures (λ before is. both before (is ∙ ap (λ l. bounded ++ kept (over.length_by on_p l p)) (c.deref-7.ensures.value ∙ ranges))))
    c.push_lengths-2.ensures (λ before is. both before (is ∙ ap (λ l. long_p ++ kept (over.length_by on_q l q)) (c.deref-8.ensures.value ∙ ranges))))
    c.push_parts.ensures
    (λ before is. six out new apart bounded long_p long_q c.push_parts.new.out.items
    new_ranges (kept (over.differences_in_turn below above p q k)) new_bounds (kept (over.length_by on_p new_ranges p)) (kept (over.length_by on_q new_ranges q)) (kept (each (over.parts_by p on_p) new_bounds))
    before.0.0.0.0 before.0.0.0.1 before.0.0.1 before.0.1 before.1
    (is ∙ ap (λ l. long_q ++ kept (each (over.parts_by p on_p) l)) (c.deref-9.ensures.value ∙ bounds)))
