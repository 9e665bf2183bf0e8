-- What is promised of a source, in its own words: no run asks for a cell outside an array or makes an array of negative length.
use Rattle.std.specs.Prelude.{◌≡◌, ℕ, true, false, List, [], ◌∷◌, slice_get, Option, Some, None}
use Rattle.std.specs.List.{AllByRecursion}
use Rattle.ix_text.specs.declared.span.Span.{Span}
use Rattle.ix_core.specs.declared.claim.Claim.{Claim}
use Rattle.ix_core.specs.declared.claim.Name.{Name}
use Rattle.ix_core.specs.declared.fact.Profile.{Profile}
use Rattle.ix_core.specs.declared.fact.Profile.TheVariants.{Ideal, Int32}
use Rattle.ix_core.specs.Claims.{AreTrue}
use Rattle.ix_core.specs.Heap.{Reading, is_within}
use Rattle.ix_core.specs.Safe.{Input, HaveTypes, AllTrue, IsBad, input_reading, input_names, elements_of, element_claims}
use Rattle.ix_core.specs.Traces.{Observation, Printed, Accessed}
use Rattle.ix_tree.specs.declared.decl.Unit.{Unit as Source}
use Rattle.ix_meaning.specs.declared.note.Declared.{Declared}
use Rattle.ix_meaning.specs.Resolved.{Names, names}
use Rattle.ix_source.specs.Bodies.{Written, written_from}
use Rattle.ix_source.specs.Context.{type_declared}
use Rattle.ix_source.specs.Source.{Shown, types_of, source}

-- ---- entries

-- what a declaration claims of its variable
abbrev pub claims_declared : Option Declared → List Claim
claims_declared None = []
claims_declared (Some declared) = declared.claims.list

-- The inputs meet the annotations of the parameters, and their ints those on elements.
abbrev pub MeetParams : Names → List Input → List Span → (Name → Reading) → Type 0
MeetParams names (input ∷ inputs) (param ∷ params) stand =
    AreTrue (claims_declared (names.declared param)) (input_reading input) stand
    × AllTrue (element_claims (type_declared (names.declared param))) (elements_of input)
    × MeetParams names inputs params stand
MeetParams names _ _ stand = Unit {0}

-- A static method that can be run, by its number, and inputs of its parameters' types.
pub record CanRun (unit : Source) (method : ℕ) (inputs : List Input) : Type 0 where
  pub found : Written
  pub at : slice_get (written_from 0 unit.classes) method ≡ Some found
  pub static : found.is_static ≡ true
  pub typed : HaveTypes inputs (types_of (names unit) (Some found))

-- A method that a run may begin with: inputs of its parameters' types that meet their annotations.
pub record Enters (unit : Source) (method : ℕ) (inputs : List Input) : Type 0 where
  pub entry : CanRun unit method inputs
  pub meets : MeetParams (names unit) inputs entry.found.params (input_names inputs)

-- ---- runs

-- an access within its array
abbrev pub IsWithin : Observation → Type 0
IsWithin (Printed value) = Unit {0}
IsWithin (Accessed access) = is_within access.index access.size ≡ true

-- each access is within its array, and no array was to have a negative length
pub record IsGood (shown : Shown) : Type 0 where
  pub accesses : AllByRecursion IsWithin shown.events
  pub ending : IsBad shown.ending → ⊥

-- In the profile `ideal` only runs count in which nothing wrapped.
abbrev pub Counts : Profile → Shown → Type 0
Counts Ideal shown = shown.wrapped ≡ false
Counts Int32 shown = Unit {0}

-- Whatever the entry, the inputs that meet it, and how many turns and nested calls there are.
abbrev pub SafeSource : Profile → Source → Type 0
SafeSource profile unit = (method : ℕ) (inputs : List Input) → Enters unit method inputs → (n : ℕ) → Counts profile (source unit method inputs n) → IsGood (source unit method inputs n)
