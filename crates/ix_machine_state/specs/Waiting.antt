-- Frames that wait for a call, and the room of frames.
use Rattle.std.specs.Prelude.{◌≡◌, List, [], ◌∷◌, map, reverse}
use Rattle.std.specs.Coded.{×_prop, Coded-set, coded_ℕ}
use Rattle.ix_core.specs.Machine as model
use Rattle.ix_machine_state.specs.declared.frames.Frame.{Frame}
use Rattle.ix_machine_state.specs.declared.pool.Waiting.{Waiting}
use Rattle.ix_machine_state.specs.declared.room.Room.{Room}
use Rattle.ix_machine_state.specs.Frames.{frame_of}

abbrev pub waiting_of : Waiting → model.Waiting
waiting_of waiting = record { frame = frame_of waiting.frame; target = waiting.target }

-- the last that waits comes first
abbrev pub waits_of : List Waiting → List model.Waiting
waits_of below = map waiting_of (reverse below)

-- the frame has this room
abbrev pub HasRoom : Room → Frame → Type 0
HasRoom room frame = (frame.stack.room.places ≡ room.places) × (frame.stack.room.values ≡ room.values)

abbrev pub AllHaveRoom : Room → List Frame → Type 0
AllHaveRoom room [] = Unit {0}
AllHaveRoom room (frame ∷ frames) = HasRoom room frame × AllHaveRoom room frames

abbrev pub AllWithRoom : Room → List Waiting → Type 0
AllWithRoom room [] = Unit {0}
AllWithRoom room (waiting ∷ below) = HasRoom room waiting.frame × AllWithRoom room below

has_room_once : (room : Room) (frame : Frame) → IsProp (HasRoom room frame)
has_room_once room frame = ×_prop (Coded-set coded_ℕ frame.stack.room.places room.places) (Coded-set coded_ℕ frame.stack.room.values room.values)

pub all_once : (room : Room) (frames : List Frame) → IsProp (AllHaveRoom room frames)
all_once room [] = hlevel
all_once room (frame ∷ frames) = ×_prop (has_room_once room frame) (all_once room frames)

pub waiting_once : (room : Room) (below : List Waiting) → IsProp (AllWithRoom room below)
waiting_once room [] = hlevel
waiting_once room (waiting ∷ below) = ×_prop (has_room_once room waiting.frame) (waiting_once room below)
