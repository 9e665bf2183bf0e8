use Rattle.std.proofs.Common.{◌≡◌, rules, arith, ◌∙◌, to_z, of_z, pos, ◌-ℤ◌, FitsSigned}
use Rattle.std.specs.Int.{w32, w128}
use Rattle.std.proofs.lemmas.Int.{ints, to_z-of_z}
use Rattle.ix_num.proofs.LowBits.{wrap_low, wrap_high}
use Rattle.ix_num.proofs.arith.wrap.Goals as goal

pub returns-then-low-lt2147483648 : goal.returns-then-low-lt2147483648
returns-then-low-lt2147483648 c =
    let low = c.rem_euclid-low.result in
    let fits : FitsSigned w128 low = search rules in
    let cast : to_z w32 (of_z w32 (to_z w128 (of_z w128 low))) ≡ low =
    omega (arith, ints, c.rem_euclid-low.ensures.lower_bound, c.if-low-lt2147483648.true) in
    cast ∙ wrap_low c.args.n low (simp (to_z-of_z, c.ranges.n) at c.rem_euclid-low.ensures.value) c.rem_euclid-low.ensures.lower_bound (omega (arith, ints))

pub returns-else-low-lt2147483648 : goal.returns-else-low-lt2147483648
returns-else-low-lt2147483648 c =
    let low = c.rem_euclid-low.result in
    let fits : FitsSigned w128 low = search rules in
    let below = c.rem_euclid-low.ensures.upper_bound in
    let subtracted : to_z w32 (of_z w32 (to_z w128 (of_z w128 (to_z w128 (of_z w128 low) -ℤ pos 4294967296)))) ≡ low -ℤ pos 4294967296 =
    omega (arith, ints, c.rem_euclid-low.ensures.lower_bound, below) in
    subtracted ∙ wrap_high c.args.n low (simp (to_z-of_z, c.ranges.n) at c.rem_euclid-low.ensures.value) c.rem_euclid-low.ensures.lower_bound below (omega (arith, ints))
