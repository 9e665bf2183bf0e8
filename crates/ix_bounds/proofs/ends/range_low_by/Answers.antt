use Rattle.std.proofs.Common.{FitsSigned, w32, rules, sym}
use Rattle.ix_bounds.proofs.BoundedNumbers.{int_kept, int_end}
use Rattle.ix_bounds.proofs.BoundSteps.{low_of_class}
use Rattle.ix_bounds.proofs.ends.range_low_by.Goals as goal

pub returns-in-Low : goal.returns-in-Low
returns-in-Low c =
    let fits : FitsSigned w32 c.in-Low.low = search rules in
    let is = int_kept c.in-Low.low fits in
    record {
      bound = low_of_class c.args.p.now c.args.fact.now c.in-Low.q c.in-Low.low _ c.in-Low.is (sym c.if-is_same_path-2.ensures) is;
      small = rw is (int_end c.in-Low.low fits);
    }
