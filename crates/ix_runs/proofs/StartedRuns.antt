-- A run that begins stops, and asks for cells, in a text in which the places of its program stand.
use Rattle.std.proofs.Common.{◌≤◌, ℕ, zero, suc, List, [], ◌∷◌, ◌++◌, Option, Some, None, sym, subst}
use Rattle.std.specs.List.{AllByRecursion}
use Rattle.ix_core.specs.CodePlaces.{IsIn, PlacesWithin}
use Rattle.ix_core.proofs.TaskPlaces.{TaskPlaces, then_places}
use Rattle.ix_core.proofs.RunPlaces.{StatePlaces, body_places, run_places, run_stops_at}
use Rattle.ix_core.specs.declared.op.OpKind.{OpKind}
use Rattle.ix_core.specs.declared.op.OpKind.TheVariants as op
use Rattle.ix_core.specs.declared.program.Program.{Program}
use Rattle.ix_core.specs.Code as code
use Rattle.ix_core.specs.Heap.{Held, Num, Boolean, Null, At, Heap, value_at}
use Rattle.ix_core.specs.Machine.{Ending, Limits, State, int_at, step}
use Rattle.ix_core.specs.Safe.{start}
use Rattle.ix_core.specs.Tables.{tables_of, method_at, body_of}
use Rattle.ix_core.specs.Tasks.{Tasks, Empty, Run, Ask, Decide, DecideTruth, Head, Again, Out}
use Rattle.ix_core.specs.Traces.{Observation, access_on, accessed, op_seen, task_seen, seen_from, step_seen, trace}
use Rattle.ix_machine.specs.Starts.{IsStart}
use Rattle.ix_runs.specs.Ends.{RunWithin, IsSeenIn, TraceWithin}

pub started_within : (end : ℕ) (program : Program) (state : State) (limits : Limits) (steps : ℕ) → PlacesWithin end program → IsStart program state → RunWithin end program limits steps state
started_within end program state limits steps places start =
    subst (λ (s : State). RunWithin end program limits steps s) (sym start.3) (run_stops_at (IsIn end) (λ at. at ≤ end) (λ span s. s.0) limits program start.0 start.1 steps places)

module _ (end : ℕ) where
  -- ---- one step

  access_in : (held : Held) (slots : List Held) (index : ℕ) (heap : Heap) (place : ℕ) → place ≤ end → AllByRecursion (IsSeenIn end) (accessed (access_on held (int_at slots index) heap place))
  access_in (At number) slots index heap place within = (within, tt)
  access_in (Num n) slots index heap place within = tt
  access_in (Boolean b) slots index heap place within = tt
  access_in Null slots index heap place within = tt

  op_in : (kind : OpKind) (slots : List Held) (heap : Heap) (place : ℕ) → place ≤ end → AllByRecursion (IsSeenIn end) (op_seen kind slots heap place)
  op_in (op.Const target value) slots heap place within = tt
  op_in (op.Copy target source ty) slots heap place within = tt
  op_in (op.Num target arith left right) slots heap place within = tt
  op_in (op.Unary target unary operand) slots heap place within = tt
  op_in (op.Length target array) slots heap place within = tt
  op_in (op.NewArray target ty size) slots heap place within = tt
  op_in (op.Fill target ty entries) slots heap place within = tt
  op_in (op.Load target array index ty) slots heap place within = access_in (value_at slots array) slots index heap place within
  op_in (op.Store array index value ty) slots heap place within = access_in (value_at slots array) slots index heap place within
  op_in (op.ReadField target object field) slots heap place within = tt
  op_in (op.WriteField object field value) slots heap place within = tt
  op_in (op.NewObject call) slots heap place within = tt
  op_in (op.StaticCall call) slots heap place within = tt
  op_in (op.InstanceCall call) slots heap place within = tt
  op_in (op.SuperCall call) slots heap place within = tt
  op_in (op.Print value) slots heap place within = (tt, tt)

  task_in : (tasks : Tasks) (slots : List Held) (heap : Heap) → TaskPlaces (IsIn end) tasks → AllByRecursion (IsSeenIn end) (task_seen tasks slots heap)
  task_in Empty slots heap t = tt
  task_in (Run code.End tasks) slots heap t = tt
  task_in (Run (code.Do done rest) tasks) slots heap t = op_in done.kind slots heap done.span.from t.0.0.0.0
  task_in (Run (code.If asked first second rest) tasks) slots heap t = tt
  task_in (Run (code.Break rest) tasks) slots heap t = tt
  task_in (Run (code.Continue rest) tasks) slots heap t = tt
  task_in (Run (code.Return value span rest) tasks) slots heap t = tt
  task_in (Run (code.Throw name span rest) tasks) slots heap t = tt
  task_in (Run (code.Loop test_first asked body next number scope rest) tasks) slots heap t = tt
  task_in (Ask asked first second tasks) slots heap t = tt
  task_in (Decide test first second tasks) slots heap t = tt
  task_in (DecideTruth slot first second tasks) slots heap t = tt
  task_in (Head asked body next tasks) slots heap t = tt
  task_in (Again asked body next tasks) slots heap t = tt
  task_in (Out tasks) slots heap t = tt

  step_in : (state : State) (ended : Option Ending) → TaskPlaces (IsIn end) state.now.tasks → AllByRecursion (IsSeenIn end) (seen_from ended state)
  step_in state None t = task_in state.now.tasks state.now.slots state.heap t
  step_in state (Some ending) t = tt

  -- ---- many steps

  both_in : (first second : List Observation) → AllByRecursion (IsSeenIn end) first → AllByRecursion (IsSeenIn end) second → AllByRecursion (IsSeenIn end) (first ++ second)
  both_in [] second a c = c
  both_in (x ∷ first) second a c = (a.0, both_in first second a.1 c)

  module _ (limits : Limits) (program : Program) (places : PlacesWithin end program) where
    trace_in : (steps : ℕ) (state : State) → StatePlaces (IsIn end) (λ at. at ≤ end) (λ span s. s.0) state → TraceWithin end program limits steps state
    trace_in zero state s = tt
    trace_in (suc steps) state s =
        both_in (step_seen state) (trace limits (tables_of program) steps (step limits (tables_of program) state)) (step_in state state.ended s.now)
        (trace_in steps (step limits (tables_of program) state)
        (run_places (IsIn end) (λ at. at ≤ end) (λ span s. s.0) limits (tables_of program) (λ number. body_places (IsIn end) (λ at. at ≤ end) (λ span s. s.0) program.methods number places) 1 state s))

-- its accesses stand there
pub started_shows : (end : ℕ) (program : Program) (state : State) (limits : Limits) (steps : ℕ) → PlacesWithin end program → IsStart program state → TraceWithin end program limits steps state
started_shows end program state limits steps places began =
    subst (λ (s : State). TraceWithin end program limits steps s) (sym began.3)
    (trace_in end limits program places steps (start program began.0 began.1) record {
      now = then_places (IsIn end) (body_of (method_at program began.0)) Empty (body_places (IsIn end) (λ at. at ≤ end) (λ span s. s.0) program.methods began.0 places) tt;
      below = tt;
      ended = tt;
    })
