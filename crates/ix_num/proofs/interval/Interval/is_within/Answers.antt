use Rattle.std.proofs.Common.{◌∙◌, sym, FitsSigned, rules}
use Rattle.std.specs.Int.{w64}
use Rattle.std.proofs.lemmas.Int.{to_z-of_z}
use Rattle.ix_num.proofs.Members.{within_if_low, not_within_low, filled}
use Rattle.ix_num.proofs.interval.Interval.is_within.Goals as goal

pub returns-then-other-self : goal.returns-then-other-self
returns-then-other-self c =
    let x = c.args.self in
    let y = c.args.other in
    let xl : FitsSigned w64 x.lo = search rules in
    let xh : FitsSigned w64 x.hi = search rules in
    let yl : FitsSigned w64 y.lo = search rules in
    let yh : FitsSigned w64 y.hi = search rules in
    rw (to_z-of_z w64 x.hi xh, to_z-of_z w64 y.hi yh) (within_if_low x y (filled x (sym c.is_empty.ensures.value ∙ c.if-is_empty.false)) (rw (to_z-of_z w64 x.lo xl, to_z-of_z w64 y.lo yl) at c.if-other-self.true))

pub returns-else-other-self : goal.returns-else-other-self
returns-else-other-self c =
    let x = c.args.self in
    let y = c.args.other in
    let xl : FitsSigned w64 x.lo = search rules in
    let yl : FitsSigned w64 y.lo = search rules in
    rw (to_z-of_z w64 x.lo xl, to_z-of_z w64 y.lo yl) (not_within_low x y (filled x (sym c.is_empty.ensures.value ∙ c.if-is_empty.false)) (rw (to_z-of_z w64 x.lo xl, to_z-of_z w64 y.lo yl) at c.if-other-self.false))
