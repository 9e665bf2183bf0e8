use Rattle.std.proofs.Common.{◌≡◌, ◌≤◌, ◌++◌, map, drop, length}
use Rattle.ix_core.specs.Heap.{cells_used}
use Rattle.ix_core.specs.Safe.{input_heap, input_values}
use Rattle.ix_machine_state.specs.Rows.{held_of}
use Rattle.ix_machine_state.specs.View.{heap_of}
use Rattle.ix_machine_inputs.specs.Shown.{input_of}
use Rattle.ix_machine.proofs.start.values_of.Given as goal

abbrev pub invariant-loop-number : goal.invariant-loop-number
invariant-loop-number l = record {
  made : heap_of l.heap ++ input_heap (drop l.number (map input_of l.inputs)) (drop l.number l.types) ≡ input_heap (map input_of l.inputs) l.types;
  values : map held_of l.values.items ++ input_values (length (heap_of l.heap)) (drop l.number (map input_of l.inputs)) ≡ input_values 0 (map input_of l.inputs);
  fits : cells_used (heap_of l.heap) ≤ l.heap.most;
  most : l.heap.most ≡ l.initial.heap.most;
}
