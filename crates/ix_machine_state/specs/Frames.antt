-- What frames stand for.
use Rattle.std.specs.Prelude.{List, map}
use Rattle.ix_core.specs.Heap as heap
use Rattle.ix_core.specs.Machine as model
use Rattle.ix_machine_state.specs.Rows.{held_of}
use Rattle.ix_machine_state.specs.declared.frames.Frame.{Frame}
use Rattle.ix_machine_state.specs.Places.{tasks_open}

abbrev pub slots_of : Frame → List heap.Held
slots_of frame = map held_of frame.slots.items

abbrev pub frame_of : Frame → model.Frame
frame_of frame = record { method = frame.method; tasks = tasks_open frame.stack.places.items; slots = slots_of frame }
