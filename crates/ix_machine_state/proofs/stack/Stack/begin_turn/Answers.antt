use Rattle.std.proofs.Common.{refl, arith}
use Rattle.ix_machine_state.proofs.Free.{free_same, free_above}
use Rattle.ix_machine_state.proofs.stack.Stack.begin_turn.Goals as goal

pub put_two-requires : goal.put_two-requires
put_two-requires c = record { outer = free_same c.requires refl (omega arith) (omega arith); inner = free_above c.requires refl refl (omega arith) (omega arith) }
