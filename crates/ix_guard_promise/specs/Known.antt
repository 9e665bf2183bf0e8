-- What is known along a body that has guards: no state is there, nothing is known, or one index is inside one array. All else that a store may say is left out.
use Rattle.std.specs.Prelude.{◌≡◌, ℕ, Bool, false, ◌||◌, ◌==◌, if◌then◌else◌, Option, None, Some}
use Rattle.ix_core.specs.declared.op.OpKind.{OpKind}
use Rattle.ix_core.specs.declared.op.OpKind.TheVariants as op

pub data Known : Type 0 where
  Nowhere : Known
  Unknown : Known
  -- `0 <= index < array.length`, of the ints and arrays in these slots
  Inside : (array index : ℕ) → Known

-- The first says all that the second says.
abbrev pub Says : Known → Known → Type 0
Says Nowhere other = Unit {0}
Says (Inside array index) (Inside other at) = (array ≡ other) × (index ≡ at)
Says (Inside array index) Unknown = Unit {0}
Says Unknown Unknown = Unit {0}
Says _ _ = ⊥

-- ---- operations

-- the operation writes the slot
abbrev pub writes : OpKind → ℕ → Bool
writes (op.Const target value) slot = slot == target
writes (op.Copy target source ty) slot = slot == target
writes (op.Num target arith left right) slot = slot == target
writes (op.Unary target unary operand) slot = slot == target
writes (op.Length target array) slot = slot == target
writes (op.NewArray target ty size) slot = slot == target
writes (op.Fill target ty entries) slot = slot == target
writes (op.Load target array index ty) slot = slot == target
writes (op.Store array index value ty) slot = false
writes (op.ReadField target object field) slot = slot == target
writes (op.WriteField object field value) slot = false
writes (op.NewObject call) slot = slot == call.target
writes (op.StaticCall call) slot = slot == call.target
writes (op.InstanceCall call) slot = slot == call.target
writes (op.SuperCall call) slot = slot == call.target
writes (op.Print value) slot = false

-- What stays known behind an operation: that an index is inside an array, unless it writes one of the two slots. What is in a field or in a cell plays no part.
abbrev pub behind : OpKind → Known → Known
behind kind Nowhere = Nowhere
behind kind Unknown = Unknown
behind kind (Inside array index) = if writes kind array || writes kind index then Unknown else Inside array index

-- the slots of the array and of the index of an access
abbrev pub accessed : OpKind → Option (ℕ × ℕ)
accessed (op.Load target array index ty) = Some (array, index)
accessed (op.Store array index value ty) = Some (array, index)
accessed _ = None

-- the index of the access is known to be inside its array
abbrev pub IsInside : Known → ℕ × ℕ → Type 0
IsInside Nowhere access = Unit {0}
IsInside Unknown access = ⊥
IsInside (Inside array index) access = (array ≡ access.0) × (index ≡ access.1)
