use Rattle.ix_bounds.proofs.BoundedNumbers.{negated_end, negated_is}
use Rattle.ix_bounds.proofs.numbers.negated.Goals as goal

pub returns-in-Some-clause-small : goal.returns-in-Some-clause-small
returns-in-Some-clause-small c =
    let int = rw c.in-Some.is at c.requires in
    rw (negated_is c.in-Some.c int) (negated_end c.in-Some.c int)
