use Rattle.std.proofs.Common.{sym, ◌∙◌, ◌+ℤ◌, ◌-ℤ◌, ap}
use Rattle.ix_bounds.proofs.BoundedNumbers.{int_limit, sum_bound, difference_bound, constant_sum_is, constant_difference_is}
use Rattle.ix_bounds.proofs.BoundSteps.{upper_of_plus, upper_of_minus}
use Rattle.ix_bounds.proofs.upper.without_offset.Goals as goal

pub returns-in-Plus : goal.returns-in-Plus
returns-in-Plus g c =
    let n = c.args.c in
    let is = constant_sum_is n c.lower_bound.result c.ranges.c c.lower_bound.ensures.small in
    let low = ap (λ m. n +ℤ m) c.lower_bound.ensures.bound in
    record {
      bound = upper_of_plus (g.G.Groups.all c.args.facts.now) c.args.p.now c.args.a.now c.args.offset.now c.args.r.now c.args.b.now c.in-Plus.q n _ c.in-Plus.is (sym c.if-is_same_path.ensures) (sym c.if-are_same.ensures) (is ∙ low);
      small = rw is (sum_bound n c.lower_bound.result (int_limit n c.ranges.c) c.lower_bound.ensures.small);
    }

pub returns-in-Minus : goal.returns-in-Minus
returns-in-Minus g c =
    let n = c.args.c in
    let is = constant_difference_is n c.upper_limit.result c.ranges.c c.upper_limit.ensures.small in
    let high = ap (λ m. n -ℤ m) c.upper_limit.ensures.bound in
    record {
      bound = upper_of_minus (g.G.Groups.all c.args.facts.now) c.args.p.now c.args.a.now c.args.offset.now c.args.r.now c.args.b.now c.in-Minus.q n _ c.in-Minus.is (sym c.if-is_same_path-2.ensures) (sym c.if-are_same-2.ensures) (is ∙ high);
      small = rw is (difference_bound n c.upper_limit.result (int_limit n c.ranges.c) c.upper_limit.ensures.small);
    }
