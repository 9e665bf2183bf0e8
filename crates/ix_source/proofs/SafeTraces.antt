-- Where no state of a run is bad, each access of the run is within its array.
use Rattle.std.proofs.Common.{◌≡◌, ℕ, zero, suc, ◌<◌, ℤ, pos, Bool, true, false, List, [], ◌∷◌, ◌++◌, length, Option, Some, None, refl, arith}
use Rattle.std.specs.Prelude.{if◌then◌else◌}
use Rattle.std.specs.List.{AllByRecursion}
use Rattle.ix_core.specs.declared.op.OpKind.{OpKind}
use Rattle.ix_core.specs.declared.op.OpKind.TheVariants as op
use Rattle.ix_core.specs.Code as code
use Rattle.ix_core.specs.Heap.{Held, Num, Boolean, Null, At, Heap, value_at, array_at, is_within}
use Rattle.ix_core.specs.Machine.{Ending, Outside, State, Effect, Stopped, Stop, no_limits, int_at, at_index, effect_then, operate, moved, step, step_from, run}
use Rattle.ix_core.specs.Safe.{IsBad}
use Rattle.ix_core.specs.Tables.{Tables}
use Rattle.ix_core.specs.Tasks.{Tasks, Empty, Run, Ask, Decide, DecideTruth, Head, Again, Out, code_then}
use Rattle.ix_core.specs.Traces.{Observation, accessed, access_on, op_seen, task_seen, seen_from, step_seen, trace}
use Rattle.ix_source.specs.Promise.{IsWithin}

module _ (tables : Tables) where
  -- ---- one step

  -- how the state ends behind a step of a frame that stops so
  abbrev ended_by : Effect → ℕ → Tasks → State → Option Ending
  ended_by effect place tasks state = (moved no_limits tables (effect_then effect place tasks) state).ended

  cell_seen : (index : ℤ) (size place : ℕ) (b : Bool) (next : Effect) (tasks : Tasks) (state : State) → is_within index size ≡ b
      → (IsBad (ended_by (if b then next else Stopped (Outside index (pos size) place)) place tasks state) → ⊥) → AllByRecursion IsWithin (accessed (Some (record { index = index; size = size; place = place })))
  cell_seen index size place true next tasks state is safe = (is, tt)
  cell_seen index size place false next tasks state is safe = absurd (safe tt)

  load_seen : (held : Held) (target array index : ℕ) (place : ℕ) (slots : List Held) (heap : Heap) (tasks : Tasks) (state : State)
      → (IsBad (ended_by (Rattle.ix_core.specs.Machine.through no_limits tables place slots heap held (λ number. at_index no_limits tables place slots heap (int_at slots index) (array_at heap number) (λ cell. Rattle.ix_core.specs.Machine.assign no_limits tables place slots heap target (value_at (array_at heap number) cell)))) place tasks state) → ⊥)
      → AllByRecursion IsWithin (accessed (access_on held (int_at slots index) heap place))
  load_seen (At number) target array index place slots heap tasks state safe = cell_seen (int_at slots index) (length (array_at heap number)) place (is_within (int_at slots index) (length (array_at heap number))) _ tasks state refl safe
  load_seen (Num n) target array index place slots heap tasks state safe = tt
  load_seen (Boolean b) target array index place slots heap tasks state safe = tt
  load_seen Null target array index place slots heap tasks state safe = tt

  store_seen : (held : Held) (array index value : ℕ) (place : ℕ) (slots : List Held) (heap : Heap) (tasks : Tasks) (state : State)
      → (IsBad (ended_by (Rattle.ix_core.specs.Machine.through no_limits tables place slots heap held (λ number. at_index no_limits tables place slots heap (int_at slots index) (array_at heap number) (λ cell. Rattle.ix_core.specs.Machine.Done slots (Rattle.ix_core.specs.Heap.write_at heap number cell (value_at slots value))))) place tasks state) → ⊥)
      → AllByRecursion IsWithin (accessed (access_on held (int_at slots index) heap place))
  store_seen (At number) array index value place slots heap tasks state safe = cell_seen (int_at slots index) (length (array_at heap number)) place (is_within (int_at slots index) (length (array_at heap number))) _ tasks state refl safe
  store_seen (Num n) array index value place slots heap tasks state safe = tt
  store_seen (Boolean b) array index value place slots heap tasks state safe = tt
  store_seen Null array index value place slots heap tasks state safe = tt

  op_within : (kind : OpKind) (place : ℕ) (tasks : Tasks) (slots : List Held) (heap : Heap) (state : State) → (IsBad (ended_by (operate no_limits tables place slots heap kind) place tasks state) → ⊥) → AllByRecursion IsWithin (op_seen kind slots heap place)
  op_within (op.Const target value) place tasks slots heap state safe = tt
  op_within (op.Copy target source ty) place tasks slots heap state safe = tt
  op_within (op.Num target arith left right) place tasks slots heap state safe = tt
  op_within (op.Unary target unary operand) place tasks slots heap state safe = tt
  op_within (op.Length target array) place tasks slots heap state safe = tt
  op_within (op.NewArray target ty size) place tasks slots heap state safe = tt
  op_within (op.Fill target ty entries) place tasks slots heap state safe = tt
  op_within (op.Load target array index ty) place tasks slots heap state safe = load_seen (value_at slots array) target array index place slots heap tasks state safe
  op_within (op.Store array index value ty) place tasks slots heap state safe = store_seen (value_at slots array) array index value place slots heap tasks state safe
  op_within (op.ReadField target object field) place tasks slots heap state safe = tt
  op_within (op.WriteField object field value) place tasks slots heap state safe = tt
  op_within (op.NewObject call) place tasks slots heap state safe = tt
  op_within (op.StaticCall call) place tasks slots heap state safe = tt
  op_within (op.InstanceCall call) place tasks slots heap state safe = tt
  op_within (op.SuperCall call) place tasks slots heap state safe = tt
  op_within (op.Print value) place tasks slots heap state safe = (tt, tt)

  task_within : (tasks : Tasks) (state : State) → state.now.tasks ≡ tasks → (IsBad (moved no_limits tables (Rattle.ix_core.specs.Machine.step_tasks no_limits tables state.now.slots state.heap tasks) state).ended → ⊥) → AllByRecursion IsWithin (task_seen tasks state.now.slots state.heap)
  task_within Empty state is safe = tt
  task_within (Run code.End tasks) state is safe = tt
  task_within (Run (code.Do done rest) tasks) state is safe = op_within done.kind done.span.from (code_then rest tasks) state.now.slots state.heap state safe
  task_within (Run (code.If asked first second rest) tasks) state is safe = tt
  task_within (Run (code.Break rest) tasks) state is safe = tt
  task_within (Run (code.Continue rest) tasks) state is safe = tt
  task_within (Run (code.Return value span rest) tasks) state is safe = tt
  task_within (Run (code.Throw name span rest) tasks) state is safe = tt
  task_within (Run (code.Loop test_first asked body next number scope rest) tasks) state is safe = tt
  task_within (Ask asked first second tasks) state is safe = tt
  task_within (Decide test first second tasks) state is safe = tt
  task_within (DecideTruth slot first second tasks) state is safe = tt
  task_within (Head asked body next tasks) state is safe = tt
  task_within (Again asked body next tasks) state is safe = tt
  task_within (Out tasks) state is safe = tt

  step_within_from : (ended : Option Ending) (state : State) → (IsBad (step_from no_limits tables ended state).ended → ⊥) → AllByRecursion IsWithin (seen_from ended state)
  step_within_from None state safe = task_within state.now.tasks state refl safe
  step_within_from (Some ending) state safe = tt

  both_within : (first second : List Observation) → AllByRecursion IsWithin first → AllByRecursion IsWithin second → AllByRecursion IsWithin (first ++ second)
  both_within [] second a c = c
  both_within (x ∷ first) second a c = (a.0, both_within first second a.1 c)

  -- ---- many steps: no state behind one of them is bad
  pub traces_within : (steps : ℕ) (state : State) → ((k : ℕ) → k < steps → IsBad (run no_limits tables (suc k) state).ended → ⊥) → AllByRecursion IsWithin (trace no_limits tables steps state)
  traces_within zero state safe = tt
  traces_within (suc steps) state safe =
      both_within (step_seen state) (trace no_limits tables steps (step no_limits tables state)) (step_within_from state.ended state (safe 0 (omega arith)))
      (traces_within steps (step no_limits tables state) (λ k less. safe (suc k) (omega (arith, less))))
