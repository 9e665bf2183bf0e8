use Rattle.std.proofs.Common.{rules, arith, ◌<◌, length, get_or, w64, refl, ap₂, ◌∙◌}
use Rattle.std.specs.Int.{int_max}
use Rattle.std.proofs.lemmas.Int.{to_z-of_z}
use Rattle.ix_fact_list.proofs.NearRaised.{set_raised}
use Rattle.ix_fact_list.proofs.limits.raise_at.Goals as goal

pub returns : goal.returns
returns c =
    let old = c.args.numbers.now.items in
    let place = c.args.place in
    let within : place < length old = omega (arith, c.len.ensures, c.if-place-len.false) in
    let stood = c.number_in.ensures ∙ ap₂ (λ l d. get_or l place d) c.deref.ensures.value (to_z-of_z w64 c.args.default c.ranges.default) in
    let raised =
    to_z-of_z w64 c.max-raised.result (search rules)
    ∙ (c.max-raised.ensures.value ∙ ap₂ int_max (to_z-of_z w64 c.number_in.result (search rules) ∙ stood) (to_z-of_z w64 c.args.low c.ranges.low)) in
    set_raised old old c.args.default place c.args.low within (λ at. refl) _ raised
