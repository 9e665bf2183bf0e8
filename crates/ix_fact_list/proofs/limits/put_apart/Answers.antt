use Rattle.std.proofs.Common.{rules, ◌≡◌, pos, ◌+ℤ◌, ◌-ℤ◌, Some, nat_eq, get_or, w32, w64, to_z, of_z, ap, sym, subst, ◌∙◌}
use Rattle.std.proofs.lemmas.Int.{to_z-of_z}
use Rattle.std.proofs.lemmas.Result.{on_ok_weaker}
use Rattle.ix_num.specs.Ints.{least_int, greatest_int}
use Rattle.ix_facts.specs.Bounds.{at_least, at_most, when}
use Rattle.ix_facts.specs.Small.{IsEnd, IsLimit}
use Rattle.ix_fact_list.proofs.NearRaised.{told_by, raised_small, lowered_small}
use Rattle.ix_fact_list.proofs.limits.put_apart.Goals as goal

pub returns-clause-small_lows : goal.returns-clause-small_lows
returns-clause-small_lows c =
    let n = c.past-low.result in
    let small = subst IsLimit (sym (to_z-of_z w64 n (search rules))) c.past-low.ensures.small in
    let kept = raised_small c.args.lows.now.items c.raise_at.new.numbers.items least_int c.args.great (to_z w64 (of_z w64 n)) c.in_ok-raise_at.ensures small in
    on_ok_weaker c.lower_at.result (λ put. kept) c.lower_at.ensures

pub returns-clause-small_highs : goal.returns-clause-small_highs
returns-clause-small_highs c =
    let n = c.short_of-high.result in
    let small = subst IsLimit (sym (to_z-of_z w64 n (search rules))) c.short_of-high.ensures.small in
    on_ok_weaker c.lower_at.result
    (λ put. lowered_small c.args.highs.now.items c.lower_at.new.numbers.items greatest_int c.args.small (to_z w64 (of_z w64 n)) put small) c.lower_at.ensures

pub returns-clause-raised : goal.returns-clause-raised
returns-clause-raised c =
    let ends = c.args.ends.now.lows.items in
    let constant = to_z-of_z w64 (to_z w32 (of_z w32 c.args.c)) (search rules) ∙ to_z-of_z w32 c.args.c c.ranges.c in
    let low : to_z w64 (of_z w64 c.past-low.result) ≡ get_or ends c.args.small least_int -ℤ c.args.c +ℤ pos 1 =
    told_by (λ end k. end -ℤ k +ℤ pos 1) _ c.past-low.result _ c.number_in.result c.args.c _ _ (to_z-of_z w64 c.past-low.result (search rules)) c.past-low.ensures.value
    (to_z-of_z w64 c.number_in.result (search rules)) (c.number_in.ensures ∙ ap (λ l. get_or l c.args.small least_int) c.deref.ensures.value) constant in
    on_ok_weaker c.lower_at.result (λ _ at. c.in_ok-raise_at.ensures at ∙ ap (λ n. at_least (get_or c.args.lows.now.items at least_int) (when (nat_eq c.args.great at) (Some n))) low) c.lower_at.ensures

pub returns-clause-lowered : goal.returns-clause-lowered
returns-clause-lowered c =
    let ends = c.args.ends.now.highs.items in
    let constant = to_z-of_z w64 (to_z w32 (of_z w32 c.args.c)) (search rules) ∙ to_z-of_z w32 c.args.c c.ranges.c in
    let high : to_z w64 (of_z w64 c.short_of-high.result) ≡ get_or ends c.args.great greatest_int +ℤ c.args.c -ℤ pos 1 =
    told_by (λ end k. end +ℤ k -ℤ pos 1) _ c.short_of-high.result _ c.number_in-2.result c.args.c _ _ (to_z-of_z w64 c.short_of-high.result (search rules)) c.short_of-high.ensures.value
    (to_z-of_z w64 c.number_in-2.result (search rules)) (c.number_in-2.ensures ∙ ap (λ l. get_or l c.args.great greatest_int) c.deref-2.ensures.value) constant in
    on_ok_weaker c.lower_at.result (λ put at. put at ∙ ap (λ n. at_most (get_or c.args.highs.now.items at greatest_int) (when (nat_eq c.args.small at) (Some n))) high) c.lower_at.ensures

pub short_of-high-requires : goal.short_of-high-requires
short_of-high-requires c =
    let high = to_z-of_z w64 c.number_in-2.result (search rules) ∙ (c.number_in-2.ensures ∙ ap (λ l. get_or l c.args.great greatest_int) c.deref-2.ensures.value) in
    record { high = subst IsEnd (sym high) c.requires.high; constant = search rules }
