use Rattle.std.proofs.Common.{◌∙◌, ap, FitsSigned, rules}
use Rattle.std.specs.Int.{w64}
use Rattle.std.proofs.lemmas.Int.{to_z-of_z}
use Rattle.ix_num.specs.Intervals.{hull_of}
use Rattle.ix_num.specs.OpRanges.{quotients_by}
use Rattle.ix_num.proofs.interval.Interval.div.Goals as goal

pub returns : goal.returns
returns c =
    let x = c.args.self in
    let y = c.args.other in
    let low : FitsSigned w64 y.lo = search rules in
    let high : FitsSigned w64 y.hi = search rules in
    let by_low = c.quotients_by.ensures ∙ ap (quotients_by x y) (to_z-of_z w64 y.lo low) in
    let by_high = c.quotients_by-2.ensures ∙ ap (quotients_by x y) (to_z-of_z w64 y.hi high) in
    let by_ends = c.hull-by_ends.ensures.value ∙ (λ i. hull_of (by_low i) (by_high i)) in
    let by_units = c.hull-by_units.ensures.value ∙ (λ i. hull_of (c.quotients_by-3.ensures i) (c.quotients_by-4.ensures i)) in
    c.hull.ensures.value ∙ (λ i. hull_of (by_ends i) (by_units i))
