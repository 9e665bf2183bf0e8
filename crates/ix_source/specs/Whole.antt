-- What lowering keeps of whole runs.
use Rattle.std.specs.Prelude.{◌≡◌, ◌≤◌, ℕ, List, ◌++◌, Option, Some, None}
use Rattle.ix_core.specs.Machine.{Ending, State, no_limits, run}
use Rattle.ix_core.specs.declared.program.Program.{Program}
use Rattle.ix_core.specs.declared.fact.Profile.{Profile}
use Rattle.ix_core.specs.Safe.{Input, CanRun, Begins, IsSafe, start, state_after}
use Rattle.ix_core.specs.Tables.{Tables, tables_of}
use Rattle.ix_tree.specs.declared.decl.Unit.{Unit as Source}
use Rattle.ix_core.specs.Traces.{Observation}
use Rattle.ix_source.specs.Source.{Shown, source}
use Rattle.ix_source.specs.Seen.{seen}

-- one list begins with another
pub record BeginsWith (whole first : List Observation) : Type 0 where
  pub rest : List Observation
  pub is : whole ≡ first ++ rest

-- the machine's state after so many steps, what they show, and what the source shows with so many turns and nested calls
module _ (tables : Tables) (start : State) (source : ℕ → Shown) where
  abbrev pub after : ℕ → State
  after steps = run no_limits tables steps start

  -- The runs show the same, and the machine ends as the source does.
  pub record Same (steps n : ℕ) (ending : Ending) : Type 0 where
    pub ended : (after steps).ended ≡ Some ending
    pub source_ended : (source n).ending ≡ Some ending
    pub wrapped : (after steps).wrapped ≡ (source n).wrapped
    pub shown : seen tables steps start ≡ (source n).events

  pub record Keeps : Type 0 where
    -- where the source isn't cut, the machine ends as it does
    pub of_source : (n : ℕ) (ending : Ending) → (source n).ending ≡ Some ending → (steps : ℕ) × Same steps n ending
    -- where the machine ends, the source does so with one turn and one nested call more than the machine made steps
    pub of_machine : (steps : ℕ) (ending : Ending) → (after steps).ended ≡ Some ending → (n : ℕ) × Same steps n ending
    -- what the machine has shown is what the source shows first, and the reverse
    pub shown_first : (steps : ℕ) → (n : ℕ) × BeginsWith (source n).events (seen tables steps start)
    pub source_first : (n : ℕ) → (steps : ℕ) × BeginsWith (seen tables steps start) (source n).events

  -- What the simulation gives for each n: the machine ends as the source does, or it goes on, after n steps and more.
  pub record Meets (n : ℕ) (ending : Option Ending) : Type 0 where
    pub steps : ℕ
    pub shown : seen tables steps start ≡ (source n).events
    pub wrapped : (after steps).wrapped ≡ (source n).wrapped
    pub ended : (after steps).ended ≡ ending
    pub far : ending ≡ None → n ≤ steps

-- Whatever the entry and the inputs of its parameters' types, the machine does on the program what the source says.
abbrev pub IsKept : Source → Program → Type 0
IsKept unit program = (method : ℕ) (inputs : List Input) → CanRun program method inputs → Keeps (tables_of program) (start program method inputs) (λ n. source unit method inputs n)

-- No run of the program without limits is bad, whatever the entry, the inputs that meet it and the number of steps.
abbrev pub SafeUnlimited : Program → Profile → Type 0
SafeUnlimited program profile = (method : ℕ) (inputs : List Input) → Begins program method inputs → (steps : ℕ) → IsSafe profile (state_after program no_limits method inputs steps)
