use Rattle.std.proofs.Common.{rules, arith, ◌<◌, length, get_or, w64, refl, ap₂, ◌∙◌}
use Rattle.std.specs.Int.{int_min}
use Rattle.std.proofs.lemmas.Int.{to_z-of_z}
use Rattle.ix_fact_list.proofs.NearRaised.{set_lowered}
use Rattle.ix_fact_list.proofs.limits.lower_at.Goals as goal

pub returns : goal.returns
returns c =
    let old = c.args.numbers.now.items in
    let place = c.args.place in
    let within : place < length old = omega (arith, c.len.ensures, c.if-place-len.false) in
    let stood = c.number_in.ensures ∙ ap₂ (λ l d. get_or l place d) c.deref.ensures.value (to_z-of_z w64 c.args.default c.ranges.default) in
    let lowered =
    to_z-of_z w64 c.min-lowered.result (search rules)
    ∙ (c.min-lowered.ensures.value ∙ ap₂ int_min (to_z-of_z w64 c.number_in.result (search rules) ∙ stood) (to_z-of_z w64 c.args.high c.ranges.high)) in
    set_lowered old old c.args.default place c.args.high within (λ at. refl) _ lowered
