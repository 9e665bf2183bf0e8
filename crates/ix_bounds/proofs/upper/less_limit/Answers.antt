use Rattle.std.proofs.Common.{ap, ◌∙◌, Some, ◌-ℤ◌}
use Rattle.ix_bounds.proofs.BoundedNumbers.{difference_is, difference_bound}
use Rattle.ix_bounds.proofs.upper.less_limit.Goals as goal

pub returns-in-Some : goal.returns-in-Some
returns-in-Some g c =
    let small = rw c.in-Some.is at c.requires.bound in
    let is = difference_is c.in-Some.c c.upper_limit.result small c.upper_limit.ensures.small in
    record {
      value = rw (c.in-Some.is) (ap Some (is ∙ ap (λ n. c.in-Some.c -ℤ n) c.upper_limit.ensures.bound));
      small = rw is (difference_bound c.in-Some.c c.upper_limit.result small c.upper_limit.ensures.small);
    }
