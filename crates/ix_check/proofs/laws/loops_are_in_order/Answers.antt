use Rattle.ix_check.proofs.LoopsInOrder.{loops_in_order}
use Rattle.ix_check.proofs.laws.loops_are_in_order.Goals as goal

-- src/laws.rt
pub returns : goal.returns
returns c = record { in_order = λ program formed number within. loops_in_order program formed number within }
