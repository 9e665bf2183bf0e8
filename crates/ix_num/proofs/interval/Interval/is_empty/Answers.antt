use Rattle.std.proofs.Common.{FitsSigned, rules, int_lt}
use Rattle.std.specs.Int.{w64}
use Rattle.std.proofs.lemmas.Int.{to_z-of_z}
use Rattle.ix_num.proofs.IntTests.{less_decides}
use Rattle.ix_num.proofs.interval.Interval.is_empty.Goals as goal

pub returns : goal.returns
returns c =
    let x = c.args.self in
    let low : FitsSigned w64 x.lo = search rules in
    let high : FitsSigned w64 x.hi = search rules in
    record {
      value = λ i. int_lt (to_z-of_z w64 x.hi high i) (to_z-of_z w64 x.lo low i);
      empty = rw (to_z-of_z w64 x.hi high, to_z-of_z w64 x.lo low) (less_decides x.hi x.lo);
    }
