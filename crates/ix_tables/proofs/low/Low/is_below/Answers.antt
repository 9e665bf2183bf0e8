use Rattle.ix_tables.proofs.ClassOrder.{below_by_place}
use Rattle.ix_tables.proofs.low.Low.is_below.Goals as goal

pub returns : goal.returns
returns c = rw (c.place.ensures, c.place-2.ensures) (below_by_place c.args.self c.args.other)
