-- A call keeps its meaning: the frame of the callee comes back to the caller with what the method gives back.
use Rattle.std.specs.Prelude.{◌≡◌, ◌≤◌, ℕ, Bool, if◌then◌else◌, List, ◌∷◌, ◌++◌, Option, Some, None}
use Rattle.ix_core.specs.Heap.{Held}
use Rattle.ix_core.specs.Machine.{Ending, State, frame, slots_with, set_target}
use Rattle.ix_core.specs.Tables.{Tables}
use Rattle.ix_core.specs.Tasks.{Tasks, Empty, code_then}
use Rattle.ix_core.specs.Traces.{Observation}
use Rattle.ix_source.specs.Runs.{Now, Result, Gives, Stops, Cuts, Action}
use Rattle.ix_source.specs.Seen.{Leads, Frame, at, Decides}

module _ (tables : Tables) (depth : ℕ) where
  module _ (start : State) (caller : Frame) (tasks : Tasks) (slots : List Held) (target : Option ℕ) (now : Now) where
    pub record ComesBack (result : Option Held) (later : Now) : Type 0 where
      pub shows : List Observation
      pub leads : Leads tables start shows (at caller tasks (set_target target result slots) later.heap later.wrapped)
      pub events : later.events ≡ now.events ++ shows
      pub variables : later.variables ≡ now.variables

    pub record EndsThere (ending : Ending) (later : Now) : Type 0 where
      pub final : State
      pub shows : List Observation
      pub leads : Leads tables start shows final
      pub ended : final.ended ≡ Some ending
      pub wrapped : final.wrapped ≡ later.wrapped
      pub events : later.events ≡ now.events ++ shows

    pub record GoesOnThere (later : Now) : Type 0 where
      pub state : State
      pub shows : List Observation
      pub leads : Leads tables start shows state
      pub far : depth ≤ leads.steps
      pub ended : state.ended ≡ None
      pub wrapped : state.wrapped ≡ later.wrapped
      pub events : later.events ≡ now.events ++ shows

    abbrev pub GoesBack : Result (Option Held) → Type 0
    GoesBack (Gives result later) = ComesBack result later
    GoesBack (Stops ending later) = EndsThere ending later
    GoesBack (Cuts later) = GoesOnThere later

  -- the frame of a method that was called there
  abbrev pub called_frame : ℕ → Frame → Tasks → List Held → Option ℕ → Frame
  called_frame number caller tasks slots target = record { method = number; below = record { frame = frame caller.method tasks slots; target = target } ∷ caller.below }

  abbrev pub entered : ℕ → Frame → Tasks → List Held → Option ℕ → List Held → Now → State
  entered number caller tasks slots target values now =
      at (called_frame number caller tasks slots target) (code_then (tables.routines number).body Empty) (slots_with (tables.routines number).slots values) now.heap now.wrapped

  -- what is in the first slots: `this`, but of a static method, and the arguments
  abbrev pub first_slots : Bool → Held → List Held → List Held
  first_slots is_static this given = if is_static then given else this ∷ given

  -- The method runs on that object as the source says, whoever calls it.
  abbrev pub RunsMethod : ℕ → Bool → (Held → List Held → Action (Option Held)) → Held → Type 0
  RunsMethod number is_static invoke this = (caller : Frame) (tasks : Tasks) (slots : List Held) (target : Option ℕ) (given : List Held) (now : Now)
      → Decides tables (entered number caller tasks slots target (first_slots is_static this given) now) → GoesBack (entered number caller tasks slots target (first_slots is_static this given) now) caller tasks slots target now (invoke this given now)
