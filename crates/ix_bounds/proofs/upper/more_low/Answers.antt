use Rattle.std.proofs.Common.{ap, ◌∙◌, Some, ◌+ℤ◌}
use Rattle.ix_bounds.proofs.BoundedNumbers.{sum_is, sum_bound}
use Rattle.ix_bounds.proofs.upper.more_low.Goals as goal

pub returns-in-Some : goal.returns-in-Some
returns-in-Some g c =
    let small = rw c.in-Some.is at c.requires.bound in
    let is = sum_is c.in-Some.c c.lower_bound.result small c.lower_bound.ensures.small in
    record {
      value = rw (c.in-Some.is) (ap Some (is ∙ ap (λ n. c.in-Some.c +ℤ n) c.lower_bound.ensures.bound));
      small = rw is (sum_bound c.in-Some.c c.lower_bound.result small c.lower_bound.ensures.small);
    }
