use Rattle.std.proofs.Common.{ap}
use Rattle.ix_machine_state.specs.Rows.{objects_of}
use Rattle.ix_machine_state.proofs.heap.Heap.new.Goals as goal

pub returns-clause-empty : goal.returns-clause-empty
returns-clause-empty c = ap (λ rows. objects_of rows c.in_ok-cells.cells.items) c.in_ok-rows.ensures.items
