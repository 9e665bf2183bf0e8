use Rattle.std.proofs.Common.{◌≡◌, ◌≤◌, ◌+◌, map, take, vec_len, vec_capacity}
use Rattle.ix_core.specs.Heap.{Num}
use Rattle.ix_machine_state.specs.Added.{Added}
use Rattle.ix_machine_state.proofs.heap.push_ints.Given as goal

abbrev pub invariant-loop-n : goal.invariant-loop-n
invariant-loop-n l = record {
  items : Added l.initial.cells.items l.cells.items (map Num (take l.n-index l.ns));
  len : vec_len l.cells ≡ vec_len l.initial.cells + l.n-index;
  room : vec_capacity l.initial.cells ≤ vec_capacity l.cells;
}
