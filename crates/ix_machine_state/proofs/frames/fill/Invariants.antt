use Rattle.std.proofs.Common.{◌≡◌, ◌≤◌, ◌+◌, ◌++◌, map, replicate, vec_len, vec_capacity}
use Rattle.std.specs.Prelude.{pos}
use Rattle.ix_core.specs.Heap.{Num}
use Rattle.ix_machine_state.specs.Rows.{held_of}
use Rattle.ix_machine_state.proofs.frames.fill.Given as goal

abbrev pub invariant-loop-done : goal.invariant-loop-done
invariant-loop-done l = record {
  items : map held_of l.slots.items ≡ map held_of l.initial.slots.items ++ replicate l.done (Num (pos 0));
  len : vec_len l.slots ≡ vec_len l.initial.slots + l.done;
  room : vec_capacity l.initial.slots ≤ vec_capacity l.slots;
}
