use Rattle.std.proofs.Common.{◌≡◌, ◌≤◌, ◌+◌, map, take, vec_len, vec_capacity}
use Rattle.ix_core.specs.Heap.{default_of}
use Rattle.ix_core.specs.Tables.{field_at}
use Rattle.ix_machine_state.specs.Added.{Added}
use Rattle.ix_machine_state.proofs.heap.push_defaults.Given as goal

abbrev pub invariant-loop-field : goal.invariant-loop-field
invariant-loop-field l = record {
  items : Added l.initial.cells.items l.cells.items (map (λ field. default_of (field_at l.program field).ty) (take l.field-index l.fields));
  len : vec_len l.cells ≡ vec_len l.initial.cells + l.field-index;
  room : vec_capacity l.initial.cells ≤ vec_capacity l.cells;
}
