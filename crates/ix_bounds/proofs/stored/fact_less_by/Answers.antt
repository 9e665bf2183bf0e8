use Rattle.std.proofs.Common.{FitsSigned, w32, rules, sym}
use Rattle.ix_bounds.proofs.BoundedNumbers.{int_kept, int_end}
use Rattle.ix_bounds.proofs.BoundSteps.{less_of_fact}
use Rattle.ix_bounds.proofs.stored.fact_less_by.Goals as goal

pub returns-then-is_same_path-2 : goal.returns-then-is_same_path-2
returns-then-is_same_path-2 c =
    let fits : FitsSigned w32 c.in-Less.c = search rules in
    let is = int_kept c.in-Less.c fits in
    record {
      bound = less_of_fact c.args.p.now c.args.q.now c.args.fact.now c.in-Less.r c.in-Less.s c.in-Less.c _ c.in-Less.is (sym c.if-is_same_path.ensures) (sym c.if-is_same_path-2.ensures) is;
      small = rw is (int_end c.in-Less.c fits);
    }
