use Rattle.std.proofs.Common.{◌≡◌, ◌∙◌, Bool, true, sym, ap, ℤ, FitsSigned, to_z, of_z}
use Rattle.std.specs.Int.{w64}
use Rattle.std.proofs.lemmas.Int.{to_z-of_z}
use Rattle.std.proofs.lemmas.Bool.{cond-true}
use Rattle.ix_num.specs.declared.interval.Interval.{Interval}
use Rattle.ix_num.specs.OpRanges.{hull_of_two, has_divisor}
use Rattle.ix_num.proofs.Casts.{low_int, high_int, quotient_is, quotient_fits, divisor_some}
use Rattle.ix_num.proofs.interval.Interval.quotients_by.Goals as goal

has : (y : Interval) (d : ℤ) (r : Bool) → FitsSigned w64 d → r ≡ has_divisor y (to_z w64 (of_z w64 d)) → r ≡ true → has_divisor y d ≡ true
has y d r fits is passed = ap (has_divisor y) (sym (to_z-of_z w64 d fits)) ∙ sym is ∙ passed

pub nonzero_div-self : goal.nonzero_div-self
nonzero_div-self c =
    (divisor_some c.args.other c.args.divisor c.ranges.divisor (has _ _ _ c.ranges.divisor c.has_divisor.ensures c.if-has_divisor.true), quotient_fits c.args.self.lo c.args.divisor (low_int _ c.requires.left) c.ranges.divisor)

pub nonzero_div-self-then-has_divisor : goal.nonzero_div-self-then-has_divisor
nonzero_div-self-then-has_divisor c =
    (divisor_some c.args.other c.args.divisor c.ranges.divisor (has _ _ _ c.ranges.divisor c.has_divisor.ensures c.if-has_divisor.true), quotient_fits c.args.self.hi c.args.divisor (high_int _ c.requires.left) c.ranges.divisor)

pub returns-then-has_divisor : goal.returns-then-has_divisor
returns-then-has_divisor c =
    let p = quotient_is c.args.self.lo c.args.divisor (low_int _ c.requires.left) c.ranges.divisor in
    let q = quotient_is c.args.self.hi c.args.divisor (high_int _ c.requires.left) c.ranges.divisor in
    c.hull_of_two.ensures ∙ (λ i. hull_of_two (p i) (q i)) ∙ sym (cond-true (has_divisor c.args.other c.args.divisor) _ _ (has _ _ _ c.ranges.divisor c.has_divisor.ensures c.if-has_divisor.true))
