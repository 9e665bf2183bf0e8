use Rattle.std.proofs.Common.{◌≡◌, ◌≤◌, ◌++◌, replicate, vec_capacity}
use Rattle.ix_machine_state.proofs.heap.push_copies.Given as goal

abbrev pub invariant-loop-done : goal.invariant-loop-done
invariant-loop-done l = record {
  items : l.cells.items ≡ l.initial.cells.items ++ replicate l.done l.value;
  room : vec_capacity l.initial.cells ≤ vec_capacity l.cells;
}
