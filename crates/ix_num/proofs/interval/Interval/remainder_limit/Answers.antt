use Rattle.ix_num.proofs.Casts.{remainder_limit_is}
use Rattle.ix_num.proofs.interval.Interval.remainder_limit.Goals as goal

pub returns : goal.returns
returns c =
    let is = remainder_limit_is c.args.self _ _ _ c.requires c.abs.ensures.value c.abs-2.ensures.value c.max.ensures.value in
    record { value = is.0; limit = rw (is.0) (is.1) }
