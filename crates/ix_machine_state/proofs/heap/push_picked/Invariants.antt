use Rattle.std.proofs.Common.{◌≡◌, ◌≤◌, ◌+◌, map, take, vec_len, vec_capacity}
use Rattle.ix_core.specs.Heap.{value_at}
use Rattle.ix_machine_state.specs.Rows.{held_of}
use Rattle.ix_machine_state.specs.Added.{Added}
use Rattle.ix_machine_state.proofs.heap.push_picked.Given as goal

abbrev pub invariant-loop-slot : goal.invariant-loop-slot
invariant-loop-slot l = record {
  items : Added l.initial.cells.items l.cells.items (map (value_at (map held_of l.slots)) (take l.slot-index l.entries));
  len : vec_len l.cells ≡ vec_len l.initial.cells + l.slot-index;
  room : vec_capacity l.initial.cells ≤ vec_capacity l.cells;
}
