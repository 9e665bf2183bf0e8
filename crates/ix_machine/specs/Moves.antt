-- What a step of a frame did, as the model says it.
use Rattle.std.specs.Prelude.{◌≡◌, ◌≤◌, ◌+◌, ℕ, List, length}
use Rattle.ix_machine_state.specs.Fits.{IsFree}
use Rattle.ix_machine_state.specs.declared.places.Place.TheVariants as place_
use Rattle.ix_machine_state.specs.declared.room.Room.{Room}
use Rattle.ix_core.specs.Code.{items_code}
use Rattle.ix_core.specs.Heap.{Held, Heap}
use Rattle.ix_core.specs.Machine as model
use Rattle.ix_core.specs.Tasks.{Tasks, code_then}
use Rattle.ix_machine_state.specs.Rows.{held_of}
use Rattle.ix_machine.specs.Kinds.{kind_of}
use Rattle.ix_machine.specs.declared.task.Move.{Move}
use Rattle.ix_machine.specs.declared.task.Move.TheVariants as move

-- the model's move, where these are the tasks, the slots and the heap afterwards
abbrev pub move_of : Move → Tasks → List Held → Heap → model.Move
move_of move.Went tasks slots heap = model.Go tasks slots heap
move_of move.Wrapped tasks slots heap = model.Wrap tasks slots heap
move_of (move.Printed value) tasks slots heap = model.Tell (held_of value) tasks
move_of (move.Enter call place items rest) tasks slots heap = model.Enter (kind_of call.kind) call.op.now place (code_then (items_code rest.now) tasks)
move_of (move.Left slot) tasks slots heap = model.Leave slot
move_of (move.Stopped outcome) tasks slots heap = model.Stop (model.ending_of outcome)

-- nothing but the tasks changed
abbrev pub KeepsValues : Move → Type 0
KeepsValues move.Went = ⊥
KeepsValues move.Wrapped = ⊥
KeepsValues _ = Unit {0}

-- the tasks are as they were
abbrev pub IsBack : Move → Type 0
IsBack (move.Left slot) = Unit {0}
IsBack (move.Stopped outcome) = Unit {0}
IsBack _ = ⊥

-- A call leaves the frame without the items that it begins, and there is room for these, for those behind it, and for the values that it passes.
abbrev pub IsCall : Move → Room → Tasks → Tasks → ℕ → Type 0
IsCall (move.Enter call place items rest) room tasks before below =
    (before ≡ code_then (items_code items.now) tasks) × IsFree below room (place_.Rest items) × IsFree below room (place_.Rest rest) × (length call.op.now.args + 1 ≤ room.values)
IsCall _ room tasks before below = Unit {0}
