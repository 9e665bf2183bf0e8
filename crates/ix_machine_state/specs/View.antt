-- What a heap stands for.
use Rattle.std.specs.Prelude.{List}
use Rattle.ix_core.specs.Heap as model
use Rattle.ix_machine_state.specs.declared.heap.Heap.{Heap}
use Rattle.ix_machine_state.specs.Rows.{objects_of}

-- its objects by their numbers, in the order in which they were made
abbrev pub heap_of : Heap → List model.Object
heap_of heap = objects_of heap.rows.items heap.cells.items
