-- In a run of a formed program the machine decides by booleans: what is so of its types says it.
use Rattle.std.proofs.Common.{◌≡◌, ℕ, true, List, length}
use Rattle.ix_core.specs.declared.claim.Type_.{Type_}
use Rattle.ix_core.specs.declared.program.Program.{Program}
use Rattle.ix_core.specs.Formed.{is_formed}
use Rattle.ix_core.specs.Heap.{Held, Heap, value_at}
use Rattle.ix_core.specs.Machine.{State, no_limits, run}
use Rattle.ix_core.specs.Safe.{Input, CanRun, start}
use Rattle.ix_core.specs.Tables.{tables_of, method_at}
use Rattle.ix_core.specs.Tasks.{Tasks, Empty, Run, Ask, Decide, DecideTruth, Head, Again, Out}
use Rattle.ix_core.specs.Typed.{SlotsTyped}
use Rattle.ix_core.specs.TypedStates.{StateTyped, Lead, Giving, Reading}
use Rattle.ix_core.specs.Types.{Types, bool_type}
use Rattle.ix_core.proofs.FormedParts.{locals_of, ways_end}
use Rattle.ix_core.proofs.TypedRuns.{run_typed}
use Rattle.ix_core.proofs.TypedStarts.{start_typed}
use Rattle.ix_core.proofs.TypedValues.{bool_held, read_typed}
use Rattle.ix_source.specs.Seen.{DecidesTask, Decides}

module _ (program : Program) (locals : List (List Type_)) (formed : is_formed program locals ≡ true) where
  abbrev types_in : ℕ → List Type_
  types_in number = locals_of program locals formed number

  task_decides : (number : ℕ) (tasks : Tasks) (types : Types) (slots : List Held) (heap : Heap) → length slots ≡ (method_at program number).slots → SlotsTyped program types slots heap → Lead program (method_at program number) (types_in number) tasks types → DecidesTask tasks slots
  task_decides number (DecideTruth slot first second tasks) types slots heap size typed (Giving _ _ needed gives (Reading _ _ _ _ _ reads then_first then_second)) =
      bool_held program heap (value_at slots slot) (read_typed program (ways_end program locals formed) (method_at program number) needed slots heap size (gives slots heap typed) slot bool_type reads).1
  task_decides number Empty types slots heap size typed lead = tt
  task_decides number (Run code tasks) types slots heap size typed lead = tt
  task_decides number (Ask asked first second tasks) types slots heap size typed lead = tt
  task_decides number (Decide test first second tasks) types slots heap size typed lead = tt
  task_decides number (Head asked body next tasks) types slots heap size typed lead = tt
  task_decides number (Again asked body next tasks) types slots heap size typed lead = tt
  task_decides number (Out tasks) types slots heap size typed lead = tt

  -- from a state that is typed on
  pub typed_decides : (state : State) → StateTyped program types_in state → Decides (tables_of program) state
  typed_decides state typed steps =
      let there : State = run no_limits (tables_of program) steps state in
      let typed_there = run_typed program locals formed no_limits steps state typed in
      task_decides there.now.method there.now.tasks typed_there.now.types there.now.slots there.heap typed_there.now.slots.size typed_there.now.slots.typed typed_there.now.fits

  -- from the start of a run on
  pub start_decides : (method : ℕ) (inputs : List Input) → CanRun program method inputs → Decides (tables_of program) (start program method inputs)
  start_decides method inputs entry = typed_decides (start program method inputs) (start_typed program locals formed method inputs entry)
