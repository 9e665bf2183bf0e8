-- How a run begins, and why none does.
use Rattle.std.specs.Prelude.{◌≡◌, ◌≢◌, ◌≤◌, ◌<◌, ℕ, ◌+◌, List, length, None, Some, Result, Ok, Err}
use Rattle.ix_core.specs.declared.claim.Type_.{Type_}
use Rattle.ix_core.specs.declared.program.Program.{Program}
use Rattle.ix_core.specs.Heap.{cells_used}
use Rattle.ix_core.specs.Inputs.{Unmet, first_unmet}
use Rattle.ix_core.specs.Machine.{State}
use Rattle.ix_core.specs.Safe.{Input, input_heap, Begins, start}
use Rattle.ix_core.specs.Tables.{method_at}
use Rattle.ix_machine_inputs.specs.Entries.{entry_of}
use Rattle.ix_machine_inputs.specs.Words.{AreValues, IsFirstWrong}
use Rattle.ix_machine.specs.declared.start.StartError.{StartError}
use Rattle.ix_machine.specs.declared.start.StartError.TheVariants as error

abbrev pub types_at : Program → ℕ → List Type_
types_at program method = (method_at program method).param_types

-- what stands in the way of a run of the method where its inputs don't meet a claim: inputs count from 1
abbrev pub refusal_of : ℕ → Unmet → StartError
refusal_of method unmet = error.Unmet method (unmet.param + 1) unmet.claim

-- The words write these inputs of the method that the entry means, one for each parameter.
pub record Given (program : Program) (entry : List ℕ) (words : List (List ℕ)) (method : ℕ) (inputs : List Input) : Type 0 where
  pub found : entry_of program entry ≡ Some method
  pub values : AreValues (types_at program method) words inputs

-- A run that is asked for by an entry and words begins in this state, where there may be so many cells, or this refusal stands in its way. The first that holds
-- decides: the entry, the count of words, their types, the claims of the parameters, the room for input arrays.
pub data Starts (program : Program) (entry : List ℕ) (words : List (List ℕ)) (cells : ℕ) : Result State StartError → Type 0 where
  no_entry : entry_of program entry ≡ None → Starts program entry words cells (Err error.NotEntry)
  wrong_count : (method : ℕ) → entry_of program entry ≡ Some method → length words ≢ length (types_at program method) → Starts program entry words cells (Err error.WrongCount)
  wrong_kind : (method number : ℕ) → entry_of program entry ≡ Some method → length words ≡ length (types_at program method) → IsFirstWrong (types_at program method) words number
      → Starts program entry words cells (Err (error.WrongKind number))
  not_met : (method : ℕ) (inputs : List Input) (unmet : Unmet) → Given program entry words method inputs → first_unmet (method_at program method) inputs ≡ Some unmet
      → Starts program entry words cells (Err (refusal_of method unmet))
  too_large : (method : ℕ) (inputs : List Input) → Given program entry words method inputs → first_unmet (method_at program method) inputs ≡ None
      → cells < cells_used (input_heap inputs (types_at program method)) → Starts program entry words cells (Err error.InputsTooLarge)
  begins : (method : ℕ) (inputs : List Input) → Given program entry words method inputs → first_unmet (method_at program method) inputs ≡ None
      → cells_used (input_heap inputs (types_at program method)) ≤ cells → Starts program entry words cells (Ok (start program method inputs))

-- The refusal stands in the way of the run; of want of memory nothing is said.
abbrev pub Refuses : Program → List ℕ → List (List ℕ) → ℕ → StartError → Type 0
Refuses program entry words cells error.Memory = Unit {0}
Refuses program entry words cells why = Starts program entry words cells (Err why)

-- A run that the promise speaks of begins in the state: one of an entry, with inputs that meet its claims.
abbrev pub IsStart : Program → State → Type 0
IsStart program state = (method : ℕ) × (inputs : List Input) × Begins program method inputs × (state ≡ start program method inputs)
