-- The state of a machine.
use Rattle.std.specs.Prelude.{option_map}
use Rattle.ix_core.specs.Machine as model
use Rattle.ix_machine_state.specs.View.{heap_of}
use Rattle.ix_machine_state.specs.Frames.{frame_of}
use Rattle.ix_machine_state.specs.Waiting.{waits_of}
use Rattle.ix_machine.specs.declared.machine.Machine.{Machine}

abbrev pub state_of : Machine → model.State
state_of machine = record {
  now = frame_of machine.frame;
  below = waits_of machine.pool.below.items;
  heap = heap_of machine.heap;
  wrapped = machine.wrapped;
  ended = option_map model.ending_of machine.ended;
}

-- how many cells and frames there may be
abbrev pub limits_of : Machine → model.Limits
limits_of machine = model.with_limits machine.heap.most machine.pool.most
