-- What is seen of a run: the accesses that it makes and the values that it prints, in their order.
use Rattle.std.specs.Prelude.{ℕ, zero, suc, ℤ, List, [], ◌∷◌, ◌++◌, length, Option, Some, None}
use Rattle.ix_core.specs.declared.op.OpKind.{OpKind}
use Rattle.ix_core.specs.declared.op.OpKind.TheVariants as op
use Rattle.ix_core.specs.Code as code
use Rattle.ix_core.specs.Heap.{Held, At, Heap, value_at, array_at}
use Rattle.ix_core.specs.Machine.{Ending, Limits, State, int_at, step}
use Rattle.ix_core.specs.Tables.{Tables}
use Rattle.ix_core.specs.Tasks.{Tasks, Run}

-- A cell of an array is asked for (JLS 15.10.4): the index, the length of the array, and the place, which is where the index starts. The run goes on or stops outside.
pub record Access : Type 0 where
  pub index : ℤ
  pub size : ℕ
  pub place : ℕ

pub data Observation : Type 0 where
  Printed : Held → Observation
  Accessed : Access → Observation

-- An access on null is none.
abbrev pub access_on : Held → ℤ → Heap → ℕ → Option Access
access_on (At number) index heap place = Some (record { index = index; size = length (array_at heap number); place = place })
access_on _ index heap place = None

abbrev pub op_access : OpKind → List Held → Heap → ℕ → Option Access
op_access (op.Load target array index ty) slots heap place = access_on (value_at slots array) (int_at slots index) heap place
op_access (op.Store array index value ty) slots heap place = access_on (value_at slots array) (int_at slots index) heap place
op_access _ slots heap place = None

abbrev pub task_access : Tasks → List Held → Heap → Option Access
task_access (Run (code.Do done rest) tasks) slots heap = op_access done.kind slots heap done.span.from
task_access _ slots heap = None

abbrev pub access_from : Option Ending → State → Option Access
access_from None state = task_access state.now.tasks state.now.slots state.heap
access_from (Some ending) state = None

-- the access that the next step makes, if it makes one
abbrev pub next_access : State → Option Access
next_access state = access_from state.ended state

abbrev pub accessed : Option Access → List Observation
accessed None = []
accessed (Some access) = Accessed access ∷ []

abbrev pub op_seen : OpKind → List Held → Heap → ℕ → List Observation
op_seen (op.Print value) slots heap place = Printed (value_at slots value) ∷ []
op_seen kind slots heap place = accessed (op_access kind slots heap place)

abbrev pub task_seen : Tasks → List Held → Heap → List Observation
task_seen (Run (code.Do done rest) tasks) slots heap = op_seen done.kind slots heap done.span.from
task_seen _ slots heap = []

abbrev pub seen_from : Option Ending → State → List Observation
seen_from None state = task_seen state.now.tasks state.now.slots state.heap
seen_from (Some ending) state = []

-- what the step from a state shows
abbrev pub step_seen : State → List Observation
step_seen state = seen_from state.ended state

-- what so many steps show, first to last
abbrev pub trace : Limits → Tables → ℕ → State → List Observation
trace limits tables zero state = []
trace limits tables (suc steps) state = step_seen state ++ trace limits tables steps (step limits tables state)
