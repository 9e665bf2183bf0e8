use Rattle.std.proofs.Common.{FitsSigned, w32, rules, sym}
use Rattle.ix_bounds.proofs.BoundedNumbers.{int_kept, int_of}
use Rattle.ix_bounds.proofs.BoundSteps.{stored_of_upper}
use Rattle.ix_bounds.proofs.stored.stored_upper_by.Goals as goal

pub returns-then-are_same : goal.returns-then-are_same
returns-then-are_same g c =
    let fits : FitsSigned w32 c.in-Upper-default.c = search rules in
    let is = int_kept c.in-Upper-default.c fits in
    record {
      bound = stored_of_upper (g.G.Groups.all c.args.facts.now) c.args.p.now c.args.a.now c.args.offset.now c.args.fact.now c.in-Upper-default.r c.in-Upper-default.b c.in-Upper-default.x c.in-Upper-default.c _ c.in-Upper-default.is-0 (sym c.if-is_same_path.ensures) (sym c.if-is_same_offset.ensures) (sym c.if-are_same.ensures) is;
      small = rw is (int_of c.in-Upper-default.c fits);
    }
