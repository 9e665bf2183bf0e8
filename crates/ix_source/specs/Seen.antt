-- What is seen of the machine: the accesses and the printed values of its steps, and how one state leads to another.
use Rattle.std.specs.Prelude.{◌≡◌, ℕ, Bool, List, None}
use Rattle.ix_core.specs.Heap.{Held, Boolean, Heap, value_at}
use Rattle.ix_core.specs.Machine.{State, Waiting, frame, no_limits, run}
use Rattle.ix_core.specs.Tables.{Tables}
use Rattle.ix_core.specs.Tasks.{Tasks, DecideTruth}
use Rattle.ix_core.specs.Traces.{Observation, trace}

-- what so many steps show, first to last
abbrev pub seen : Tables → ℕ → State → List Observation
seen tables steps state = trace no_limits tables steps state

-- ---- from one state to another

-- So many steps lead there, and show this.
pub record Leads (tables : Tables) (from : State) (shows : List Observation) (to : State) : Type 0 where
  pub steps : ℕ
  pub there : run no_limits tables steps from ≡ to
  pub shown : seen tables steps from ≡ shows

-- ---- states that go on

-- what stays the same while a frame runs
pub record Frame : Type 0 where
  pub method : ℕ
  pub below : List Waiting

abbrev pub at : Frame → Tasks → List Held → Heap → Bool → State
at f tasks slots heap wrapped = record { now = frame f.method tasks slots; below = f.below; heap = heap; wrapped = wrapped; ended = None }

-- ---- decisions

-- Where the machine is about to decide by a slot, the slot holds a boolean.
abbrev pub DecidesTask : Tasks → List Held → Type 0
DecidesTask (DecideTruth slot first second tasks) slots = (answer : Bool) × (value_at slots slot ≡ Boolean answer)
DecidesTask _ slots = Unit {0}

-- From a state on the machine decides by booleans only: types see to it (JLS 14.9).
abbrev pub Decides : Tables → State → Type 0
Decides tables state = (steps : ℕ) → DecidesTask (run no_limits tables steps state).now.tasks (run no_limits tables steps state).now.slots
