-- The machine goes along with an action of the source: it arrives where the action gives a value, stops where it stops, and makes enough steps where it is cut.
use Rattle.std.specs.Prelude.{◌≡◌, ◌≤◌, ◌<◌, ℕ, Bool, true, false, List, ◌++◌, length, Option, Some, None}
use Rattle.ix_core.specs.Heap.{Held, value_at}
use Rattle.ix_core.specs.Machine.{Ending, State}
use Rattle.ix_core.specs.Tables.{Tables}
use Rattle.ix_core.specs.Tasks.{Tasks}
use Rattle.ix_meaning.specs.declared.note.Meaning.{Meaning}
use Rattle.ix_meaning.specs.declared.note.Meaning.TheVariants as meaning
use Rattle.ix_plain.specs.Scope.{Scope, slot_of, is_among}
use Rattle.ix_core.specs.Traces.{Observation}
use Rattle.ix_source.specs.Runs.{Variables, Now, Result, Gives, Stops, Cuts, held_by}
use Rattle.ix_source.specs.Seen.{Leads, Frame, at}

-- Where an expression stands in its method: the plain form's scope, the first slot that is no variable's, and the variable in scope that a slot below holds.
pub record Setting : Type 0 where
  pub tables : Tables
  pub scope : Scope
  pub base : ℕ
  pub owner : ℕ → Option Meaning
  pub has_this : Bool
  -- the object that it means
  pub this : Held
  -- so many calls may still nest
  pub depth : ℕ

abbrev pub is_variable : Meaning → Bool
is_variable (meaning.Local number) = true
is_variable (meaning.Param number) = true
is_variable _ = false

-- A slot holds one variable, whose slot it is, and no value of `this`; no slot above those of variables is an assigned one's.
pub record IsSet (z : Setting) : Type 0 where
  pub kind : (slot : ℕ) (m : Meaning) → z.owner slot ≡ Some m → is_variable m ≡ true
  pub temporaries : (slot : ℕ) → z.base ≤ slot → is_among slot z.scope.assigned ≡ false
  pub own : (slot : ℕ) (m : Meaning) → z.owner slot ≡ Some m → slot_of z.scope (Some m) ≡ slot
  pub low : (slot : ℕ) (m : Meaning) → z.owner slot ≡ Some m → slot < z.base
  pub this : z.has_this ≡ true → z.owner 0 ≡ None
  pub this_low : z.has_this ≡ true → 0 < z.base
  pub this_stays : z.has_this ≡ true → is_among 0 z.scope.assigned ≡ false

module _ (z : Setting) where
  -- The slots hold what the variables in scope hold.
  pub record Agrees (slots : List Held) (variables : Variables) : Type 0 where
    pub held : (slot : ℕ) (m : Meaning) → z.owner slot ≡ Some m → value_at slots slot ≡ held_by variables (Some m)
    pub this : z.has_this ≡ true → (value_at slots 0 ≡ z.this) × (variables.this ≡ z.this)

  -- Of the slots below that number only those of assigned variables may change.
  pub record Keeps (free : ℕ) (before after : List Held) : Type 0 where
    pub size : length after ≡ length before
    pub same : (slot : ℕ) → slot < free → is_among slot z.scope.assigned ≡ false → value_at after slot ≡ value_at before slot

  module _ {A : Type 0} (f : Frame) (start : State) (next : A → Tasks) (holds : A → List Held → Type 0) (free : ℕ) (slots : List Held) (now : Now) where
    pub record Arrives (value : A) (after : Now) : Type 0 where
      pub behind : List Held
      pub shows : List Observation
      pub leads : Leads z.tables start shows (at f (next value) behind after.heap after.wrapped)
      pub events : after.events ≡ now.events ++ shows
      pub agrees : Agrees behind after.variables
      pub keeps : Keeps free slots behind
      pub held : holds value behind

    pub record Ends (ending : Ending) (after : Now) : Type 0 where
      pub final : State
      pub shows : List Observation
      pub leads : Leads z.tables start shows final
      pub ended : final.ended ≡ Some ending
      pub wrapped : final.wrapped ≡ after.wrapped
      pub events : after.events ≡ now.events ++ shows

    pub record GoesOn (after : Now) : Type 0 where
      pub state : State
      pub shows : List Observation
      pub leads : Leads z.tables start shows state
      pub far : z.depth ≤ leads.steps
      pub ended : state.ended ≡ None
      pub wrapped : state.wrapped ≡ after.wrapped
      pub events : after.events ≡ now.events ++ shows

    abbrev pub Along : Result A → Type 0
    Along (Gives value after) = Arrives value after
    Along (Stops ending after) = Ends ending after
    Along (Cuts after) = GoesOn after
