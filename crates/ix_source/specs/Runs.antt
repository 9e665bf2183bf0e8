-- What a run of a source has so far, and how a part of it ends.
use Rattle.std.specs.Prelude.{ℕ, ◌==◌, ℤ, pos, Bool, true, if◌then◌else◌, List, [], ◌∷◌, ◌++◌, Option, Some}
use Rattle.ix_core.specs.Heap.{Held, Num, Heap}
use Rattle.ix_core.specs.Machine.{Ending}
use Rattle.ix_core.specs.Traces.{Observation, Accessed}
use Rattle.ix_meaning.specs.declared.note.Meaning.{Meaning}
use Rattle.ix_meaning.specs.declared.note.Meaning.TheVariants as meaning

-- ---- what is seen of a run

-- An access: its index, the length of the array, the place of the index.
abbrev pub access : ℤ → ℕ → ℕ → Observation
access index size place = Accessed (record { index = index; size = size; place = place })

-- ---- what a run has so far

-- The object that `this` means, and what the parameters and locals hold, by their numbers.
pub record Variables : Type 0 where
  pub this : Held
  pub params : ℕ → Held
  pub locals : ℕ → Held

pub record Now : Type 0 where
  pub variables : Variables
  pub heap : Heap
  -- first to last
  pub events : List Observation
  -- an operation had an exact result that is no int
  pub wrapped : Bool

abbrev pub set_at : ℕ → Held → (ℕ → Held) → ℕ → Held
set_at number value values other = if other == number then value else values other

-- what a name that means a parameter or a local holds; a name that means neither holds nothing
abbrev pub held_by : Variables → Option Meaning → Held
held_by variables (Some (meaning.Local number)) = variables.locals number
held_by variables (Some (meaning.Param number)) = variables.params number
held_by variables _ = Num (pos 0)

abbrev pub with_held : Option Meaning → Held → Variables → Variables
with_held (Some (meaning.Local number)) value variables = record variables { locals = set_at number value variables.locals }
with_held (Some (meaning.Param number)) value variables = record variables { params = set_at number value variables.params }
with_held _ value variables = variables

-- ---- how a part of a run ends

-- It ends with a value; it stops the run; or the run needs more turns or deeper calls than it has, and is cut there.
pub data Result (A : Type 0) : Type 0 where
  Gives : A → Now → Result A
  Stops : Ending → Now → Result A
  Cuts : Now → Result A

abbrev pub Action : Type 0 → Type 0
Action A = Now → Result A

abbrev pub go_on : {A B : Type 0} → (A → Action B) → Result A → Result B
go_on next (Gives value now) = next value now
go_on next (Stops ending now) = Stops ending now
go_on next (Cuts now) = Cuts now

-- one after the other; where the first stops or is cut, so is the whole
infixl 10 ◌>>=◌
abbrev pub ◌>>=◌ : {A B : Type 0} → Action A → (A → Action B) → Action B
◌>>=◌ first next now = go_on next (first now)

abbrev pub gives : {A : Type 0} → A → Action A
gives value now = Gives value now

abbrev pub stops : {A : Type 0} → Ending → Action A
stops ending now = Stops ending now

abbrev pub cuts : {A : Type 0} → Action A
cuts now = Cuts now

-- ---- the effects

-- it has been seen
abbrev pub sees : Observation → Now → Now
sees event now = record now { events = now.events ++ event ∷ [] }

abbrev pub with_heap : Heap → Now → Now
with_heap heap now = record now { heap = heap }

abbrev pub with_variables : Variables → Now → Now
with_variables variables now = record now { variables = variables }

abbrev pub wraps : Now → Now
wraps now = record now { wrapped = true }

-- a new object or array, which gets the next number
abbrev pub assigns : Option Meaning → Held → Now → Now
assigns variable value now = with_variables (with_held variable value now.variables) now
