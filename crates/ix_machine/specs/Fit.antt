-- That a frame has the room of the others is a fact without parts.
use Rattle.std.specs.Coded.{×_prop, Coded-set, coded_ℕ}
use Rattle.ix_machine_state.specs.declared.frames.Frame.{Frame}
use Rattle.ix_machine_state.specs.declared.room.Room.{Room}
use Rattle.ix_machine_state.specs.Waiting.{HasRoom}

pub fits_once : (room : Room) (frame : Frame) → IsProp (HasRoom room frame)
fits_once room frame = ×_prop (Coded-set coded_ℕ frame.stack.room.places room.places) (Coded-set coded_ℕ frame.stack.room.values room.values)
