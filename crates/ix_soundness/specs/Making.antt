-- How far a constructor is: whether its parent's constructor is still to come, and the types of its slots from which its tasks fit.
use Rattle.std.specs.Prelude.{◌≡◌, ℕ, Bool, true, false, pos, List, length, None}
use Rattle.ix_core.specs.declared.claim.Type_.{Type_}
use Rattle.ix_core.specs.declared.fact.Path.TheVariants.{FieldOf}
use Rattle.ix_core.specs.declared.program.Method.{Method}
use Rattle.ix_core.specs.declared.program.Program.{Program}
use Rattle.ix_core.specs.Heap.{Held, At, Heap, ObjectOf, value_at, object_at}
use Rattle.ix_core.specs.Machine.{Move, Go}
use Rattle.ix_core.specs.Numbers.{Numbers}
use Rattle.ix_core.specs.Objects.{HasField}
use Rattle.ix_core.specs.Tables.{method_at}
use Rattle.ix_core.specs.Tasks.{Tasks}
use Rattle.ix_core.specs.Typed.{SlotsTyped}
use Rattle.ix_core.specs.TypedStates.{Lead}
use Rattle.ix_core.specs.Types.{Types}
use Rattle.ix_core.specs.World.{World}
use Rattle.ix_soundness.specs.Supers.{Supers}

pub data Stage : Type 0 where
  -- a method, which makes no object
  Plain : Stage
  -- a constructor of the class; `true` before it has called its parent's
  Making : ℕ → Bool → Types → Stage

abbrev pub with_types : Stage → Types → Stage
with_types Plain types = Plain
with_types (Making class new old) types = Making class new types

-- The types are those of some frame whose first slot has an object of the constructor's own class, and of no class below it.
pub record Tracks (program : Program) (method : Method) (types : Types) : Type 0 where
  pub slots : List Held
  pub heap : Heap
  pub size : length slots ≡ method.slots
  pub this : value_at slots 0 ≡ At 0
  pub kind : (object_at heap 0).kind ≡ ObjectOf method.class
  pub typed : SlotsTyped program types slots heap

-- a constructor at this stage has these tasks left
pub record MakingFits (program : Program) (local_types : List Type_) (method : Method) (tasks : Tasks) (class : ℕ) (new : Bool) (types : Types) : Type 0 where
  pub constructor : method.constructor ≡ true
  pub of : class ≡ method.class
  pub tracks : Tracks program method types
  pub lead : Lead program method local_types tasks types
  pub hidden : new ≡ true → types 0 ≡ None
  pub supers : Supers new tasks

module _ (program : Program) (locals : ℕ → List Type_) where
  abbrev pub StageFits : ℕ → Tasks → Stage → Type 0
  StageFits number tasks Plain = (method_at program number).constructor ≡ false
  StageFits number tasks (Making class new types) = MakingFits program (locals number) (method_at program number) tasks class new types

  -- a move that does no operation stays at the stage
  abbrev pub StageStays : ℕ → Stage → Move → Type 0
  StageStays number stage (Go tasks later after) = (types : Types) × StageFits number tasks (with_types stage types)
  StageStays number stage _ = Unit {0}

-- Before the parent's constructor has run, the fields of the object are as in a new one.
abbrev pub StageHolds : World → Stage → Numbers → Type 0
StageHolds world (Making class true types) v = (field : ℕ) → HasField world (ObjectOf class) field → (v.int (FieldOf 0 field) ≡ pos 0) × (v.size (FieldOf 0 field) ≡ pos 0)
StageHolds world _ v = Unit {0}
