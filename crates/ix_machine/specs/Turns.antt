-- States while a run goes on, and what a step does to one.
use Rattle.std.specs.Prelude.{Bool, true, List, None}
use Rattle.ix_core.specs.Heap.{Heap}
use Rattle.ix_core.specs.Machine as model
use Rattle.ix_machine_state.specs.Rows.{held_of}
use Rattle.ix_machine.specs.declared.operations.Done.{Done}
use Rattle.ix_machine.specs.declared.operations.Done.TheVariants as done

-- a state that has not ended
abbrev pub state_with : model.Frame → List model.Waiting → Heap → Bool → model.State
state_with frame below heap wrapped = record { now = frame; below = below; heap = heap; wrapped = wrapped; ended = None }

-- the state after a step that did this
abbrev pub after : Done → model.State → model.State
after done.Done state = state
after done.Wrapped state = record state { wrapped = true }
after (done.Printed value) state = state
after (done.Stopped outcome) state = model.stopped (model.ending_of outcome) state

-- what the step tells
abbrev pub event_of : Done → model.Event
event_of done.Done = model.Went
event_of done.Wrapped = model.Went
event_of (done.Printed value) = model.Prints (held_of value)
event_of (done.Stopped outcome) = model.Stops

-- nothing was printed, and no result wrapped
abbrev pub IsQuiet : Done → Type 0
IsQuiet done.Done = Unit {0}
IsQuiet (done.Stopped outcome) = Unit {0}
IsQuiet _ = ⊥
