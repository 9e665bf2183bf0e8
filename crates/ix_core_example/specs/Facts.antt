-- Facts of one frame, and what stays of them behind an assignment, a write and a call.
use Rattle.std.specs.Prelude.{◌≡◌, ◌⊎◌, ℕ, ◌==◌, ◌≤ℤ◌, ◌<ℤ◌, pos, int_le, Bool, true, not, ◌&&◌, if◌then◌else◌, List, [], ◌∷◌}
use Rattle.ix_core.specs.declared.claim.Claim.{Claim}
use Rattle.ix_core.specs.declared.claim.Claim.TheVariants as claim
use Rattle.ix_core.specs.declared.fact.Path.{Path}
use Rattle.ix_core.specs.declared.fact.Path.TheVariants.{Slot, FieldOf}
use Rattle.ix_core.specs.declared.program.Method.{Method}
use Rattle.ix_core.specs.Heap.{Held, Null, At, Heap, value_at, field_value, int_of, size_of, reading_of, no_reading}
use Rattle.ix_core.specs.Machine.{CallKind}
use Rattle.ix_core.specs.Waits.{is_super}
use Rattle.ix_core.specs.World.{World}

pub data Fact : Type 0 where
  -- the path's int is at least 0
  NotNegative : Path → Fact
  -- the path's int is below the length of the array in the slot
  Below : Path → ℕ → Fact
  -- the first slot's int is the length of the array in the second
  IsLength : ℕ → ℕ → Fact
  -- the slot holds what the path holds
  Holds : ℕ → Path → Fact
  -- the path reads as a field of a new object
  IsFresh : Path → Fact

-- ---- what facts say

-- a field of what a value refers to; null where it refers to nothing
abbrev pub held_through : World → Heap → Held → ℕ → Held
held_through world heap (At object) field = field_value world.place heap object field
held_through world heap _ field = Null

abbrev pub held_at : World → List Held → Heap → Path → Held
held_at world slots heap (Slot slot) = value_at slots slot
held_at world slots heap (FieldOf slot field) = held_through world heap (value_at slots slot) field

abbrev pub IsTrue : World → List Held → Heap → Fact → Type 0
IsTrue world slots heap (NotNegative path) = pos 0 ≤ℤ int_of (held_at world slots heap path)
IsTrue world slots heap (Below path array) = int_of (held_at world slots heap path) <ℤ size_of heap (value_at slots array)
IsTrue world slots heap (IsLength slot array) = int_of (value_at slots slot) ≡ size_of heap (value_at slots array)
IsTrue world slots heap (Holds slot path) = value_at slots slot ≡ held_at world slots heap path
IsTrue world slots heap (IsFresh path) = reading_of heap (held_at world slots heap path) ≡ no_reading

abbrev pub AllTrue : World → List Fact → List Held → Heap → Type 0
AllTrue world [] slots heap = Unit {0}
AllTrue world (fact ∷ facts) slots heap = IsTrue world slots heap fact × AllTrue world facts slots heap

abbrev pub IsIn : Fact → List Fact → Type 0
IsIn fact [] = ⊥
IsIn fact (other ∷ facts) = (fact ≡ other) ⊎ IsIn fact facts

-- ---- what stays

-- every path that the fact names is kept
abbrev pub names_only : (Path → Bool) → Fact → Bool
names_only kept (NotNegative path) = kept path
names_only kept (Below path array) = kept path && kept (Slot array)
names_only kept (IsLength slot array) = kept (Slot slot) && kept (Slot array)
names_only kept (Holds slot path) = kept (Slot slot) && kept path
names_only kept (IsFresh path) = kept path

-- the facts whose paths all are kept
abbrev pub only : (Path → Bool) → List Fact → List Fact
only kept [] = []
only kept (fact ∷ facts) = if names_only kept fact then fact ∷ only kept facts else only kept facts

-- an assignment of a slot: the other slots, and the fields of what they refer to
abbrev pub off_slot : ℕ → Path → Bool
off_slot target (Slot slot) = not (slot == target)
off_slot target (FieldOf slot field) = not (slot == target)

-- a write of a field: the slots, and other fields
abbrev pub off_field : ℕ → Path → Bool
off_field field (Slot slot) = true
off_field field (FieldOf slot other) = not (other == field)

-- a call: the slots but for its target, and of a method without effects their fields too
abbrev pub off_call : Method → CallKind → ℕ → Path → Bool
off_call named kind target (Slot slot) = not (slot == target)
off_call named kind target (FieldOf slot field) = not (slot == target) && (named.effect_free && not (is_super kind))

-- ---- claims

-- each claim says that an int isn't less than a number
abbrev pub AreLow : List Claim → Type 0
AreLow [] = Unit {0}
AreLow (claim.Low low ∷ claims) = AreLow claims
AreLow (_ ∷ claims) = ⊥

-- the claims of a path are true where these facts are
abbrev pub Proves : List Fact → Path → List Claim → Type 0
Proves facts path [] = Unit {0}
Proves facts path (claim.Low low ∷ claims) = (low ≤ℤ pos 0) × IsIn (NotNegative path) facts × Proves facts path claims
Proves facts path (_ ∷ claims) = ⊥

-- the facts, and what the claims of a path say
abbrev pub with_claims : Path → List Claim → List Fact → List Fact
with_claims path [] facts = facts
with_claims path (claim.Low low ∷ claims) facts = if int_le (pos 0) low then NotNegative path ∷ with_claims path claims facts else with_claims path claims facts
with_claims path (_ ∷ claims) facts = with_claims path claims facts
