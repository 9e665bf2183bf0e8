use Rattle.std.proofs.Common.{◌≡◌, ◌≤◌, ◌++◌, take, vec_capacity}
use Rattle.ix_machine_state.proofs.frames.put_all.Given as goal

abbrev pub invariant-loop-value : goal.invariant-loop-value
invariant-loop-value l = record {
  items : l.slots.items ≡ l.initial.slots.items ++ take l.value-index l.values;
  room : vec_capacity l.initial.slots ≤ vec_capacity l.slots;
}
