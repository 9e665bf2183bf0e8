-- What has to be known of an operation before it, so that it keeps what a step of a frame keeps and has no bad end.
use Rattle.std.specs.Prelude.{◌≡◌, ℕ, ◌<◌, ◌≤ℤ◌, ◌<ℤ◌, pos, List, length, slice_get, Some}
use Rattle.ix_core.specs.declared.op.OpKind.{OpKind}
use Rattle.ix_core.specs.declared.op.OpKind.TheVariants as op
use Rattle.ix_core.specs.declared.program.Method.{Method}
use Rattle.ix_core.specs.Heap.{Held, At, Heap, ArrayOf, value_at, object_at, place_in, size_of, cell_default, write_at}
use Rattle.ix_core.specs.Machine.{int_at}
use Rattle.ix_core.specs.Objects.{IsOwn, IsInput, MayWrite, MeetsElement, MeetsFields}
use Rattle.ix_core.specs.Safe.{element_claims}
use Rattle.ix_core.specs.World.{World}

-- the method may assign the slot
pub record MayTake (method : Method) (slots : List Held) (slot : ℕ) : Type 0 where
  pub within : slot < length slots
  pub input : IsInput method slot → ⊥
  pub own : IsOwn method slot → ⊥

module _ (world : World) (method : Method) (slots : List Held) (heap : Heap) where
  abbrev pub Takes : OpKind → Type 0
  Takes (op.Const t value) = MayTake method slots t
  Takes (op.Copy t s ty) = MayTake method slots t
  Takes (op.Num t arith y z) = MayTake method slots t
  Takes (op.Unary t unary y) = MayTake method slots t
  Takes (op.Length t a) = MayTake method slots t
  Takes (op.NewArray t ty n) = MayTake method slots t
  Takes (op.Fill t ty entries) = MayTake method slots t
  Takes (op.Load t a i ty) = MayTake method slots t
  Takes (op.ReadField t o f) = MayTake method slots t
  Takes _ = Unit {0}

  -- an index lies within the array
  abbrev pub IsInside : ℕ → ℕ → Type 0
  IsInside array index = (pos 0 ≤ℤ int_at slots index) × (int_at slots index <ℤ size_of heap (value_at slots array))

  -- what the rules show of accesses, elements and fields
  abbrev pub Shown : OpKind → Type 0
  Shown (op.NewArray t ty n) = (pos 0 ≤ℤ int_at slots n) × (pos 0 <ℤ int_at slots n → MeetsElement (element_claims ty) (cell_default ty))
  Shown (op.Fill t ty entries) = (at entry : ℕ) → slice_get entries at ≡ Some entry → MeetsElement (element_claims ty) (value_at slots entry)
  Shown (op.Load t a i ty) = IsInside a i
  Shown (op.Store a i v ty) = IsInside a i × MeetsElement (element_claims ty) (value_at slots v) × ((number : ℕ) → value_at slots a ≡ At number → (object_at heap number).kind ≡ ArrayOf ty)
  Shown (op.WriteField o f v) = MayWrite world method o f
      × ((number place : ℕ) → value_at slots o ≡ At number → place_in world.place (object_at heap number).kind f ≡ Some place → (IsOwn method o → ⊥) → MeetsFields world (write_at heap number place (value_at slots v)) number)
  Shown _ = Unit {0}
