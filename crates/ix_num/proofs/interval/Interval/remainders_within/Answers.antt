use Rattle.std.proofs.Common.{◌≡◌, ◌∙◌, false, arith, rules, pos, ◌-ℤ◌, neg_ℤ, int_lt, FitsSigned, to_z, of_z}
use Rattle.std.specs.Int.{w64, int_min, int_max}
use Rattle.std.proofs.lemmas.Int.{ints, to_z-of_z}
use Rattle.ix_num.proofs.Ends.{same_ends}
use Rattle.ix_num.proofs.interval.Interval.remainders_within.Goals as goal

pub returns : goal.returns
returns c =
    let x = c.args.self in
    let limit = to_z-of_z w64 c.args.limit c.ranges.limit in
    let no : int_lt c.args.limit (pos 0) ≡ false = grind (arith, ints) in
    let low_fits : FitsSigned w64 x.lo = search rules in
    let high_fits : FitsSigned w64 x.hi = search rules in
    let min_fits : FitsSigned w64 c.min.result = search rules in
    let max_fits : FitsSigned w64 c.max.result = search rules in
    let high_max_fits : FitsSigned w64 c.max-2.result = search rules in
    let high_min_fits : FitsSigned w64 c.min-2.result = search rules in
    let negated : to_z w64 (of_z w64 (pos 0 -ℤ to_z w64 (of_z w64 c.args.limit))) ≡ neg_ℤ c.args.limit = omega (arith, ints) in
    let min = to_z-of_z w64 c.min.result min_fits ∙ c.min.ensures.value ∙ (λ i. int_min (to_z-of_z w64 x.lo low_fits i) (pos 0)) in
    let low = to_z-of_z w64 c.max.result max_fits ∙ c.max.ensures.value ∙ (λ i. int_max (min i) (negated i)) in
    let max = to_z-of_z w64 c.max-2.result high_max_fits ∙ c.max-2.ensures.value ∙ (λ i. int_max (to_z-of_z w64 x.hi high_fits i) (pos 0)) in
    let high = to_z-of_z w64 c.min-2.result high_min_fits ∙ c.min-2.ensures.value ∙ (λ i. int_min (max i) (limit i)) in
    rw no (same_ends low high)
