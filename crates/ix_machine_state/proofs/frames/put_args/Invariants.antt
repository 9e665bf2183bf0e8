use Rattle.std.proofs.Common.{◌≡◌, ◌≤◌, ◌+◌, ◌++◌, map, take, vec_len, vec_capacity}
use Rattle.ix_core.specs.Heap.{value_at}
use Rattle.ix_machine_state.specs.Rows.{held_of}
use Rattle.ix_machine_state.proofs.frames.put_args.Given as goal

abbrev pub invariant-loop-arg : goal.invariant-loop-arg
invariant-loop-arg l = record {
  items : map held_of l.slots.items ≡ map held_of l.initial.slots.items ++ map (λ arg. value_at (map held_of l.from) arg.slot) (take l.arg-index l.args);
  len : vec_len l.slots ≡ vec_len l.initial.slots + l.arg-index;
  room : vec_capacity l.initial.slots ≤ vec_capacity l.slots;
}
