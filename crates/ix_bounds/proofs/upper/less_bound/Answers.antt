use Rattle.ix_bounds.proofs.BoundedNumbers.{bound_kept, at_most_bound}
use Rattle.ix_bounds.proofs.upper.less_bound.Goals as goal

pub returns-clause-small : goal.returns-clause-small
returns-clause-small g c =
    let apart = bound_kept c.apart.result c.apart.ensures.small in
    let small = at_most_bound c.apart.result c.at_most.result c.stored_less.result c.apart.ensures.small c.stored_less.ensures.small (rw apart at c.at_most.ensures) in
    rw (bound_kept c.at_most.result small) small
