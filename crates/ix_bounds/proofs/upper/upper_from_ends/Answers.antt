use Rattle.std.proofs.Common.{ap, ◌∙◌, Some, pos, ◌-ℤ◌}
use Rattle.ix_bounds.proofs.BoundedNumbers.{left_is, left_bound}
use Rattle.ix_bounds.proofs.upper.upper_from_ends.Goals as goal

pub returns-in-Nothing-clause-bound : goal.returns-in-Nothing-clause-bound
returns-in-Nothing-clause-bound g c =
    rw (c.in-Nothing.is) (ap Some (left_is c.length_low.result c.upper_limit.result c.length_low.ensures.small c.upper_limit.ensures.small ∙ (λ i. c.length_low.ensures.bound i -ℤ pos 1 -ℤ c.upper_limit.ensures.bound i)))

pub returns-in-Nothing-clause-small : goal.returns-in-Nothing-clause-small
returns-in-Nothing-clause-small g c =
    rw (left_is c.length_low.result c.upper_limit.result c.length_low.ensures.small c.upper_limit.ensures.small) (left_bound c.length_low.result c.upper_limit.result c.length_low.ensures.small c.upper_limit.ensures.small)
