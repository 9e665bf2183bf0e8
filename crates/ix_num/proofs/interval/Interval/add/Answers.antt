use Rattle.std.proofs.Common.{arith}
use Rattle.std.proofs.lemmas.Int.{ints}
use Rattle.ix_num.proofs.Ends.{same_ends}
use Rattle.ix_num.proofs.interval.Interval.add.Goals as goal

pub returns : goal.returns
returns c = same_ends (omega (arith, ints)) (omega (arith, ints))
