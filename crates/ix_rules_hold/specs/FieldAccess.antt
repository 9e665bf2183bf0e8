-- What a write of a field rests on, and which slots it spares: two slots may hold one object, so a write through one of them changes the field of the
-- object in the other too (JLS 4.3.1, 15.26.1).
use Rattle.std.specs.Prelude.{◌≡◌, ℕ, ◌<◌, ◌==◌, Bool, true, not, ◌&&◌, List, length, Some}
use Rattle.ix_core.specs.declared.program.Method.{Method}
use Rattle.ix_core.specs.Heap.{Held, At, Heap, Places, value_at, object_at, place_in}
use Rattle.ix_rules_hold.specs.MachineSteps.{own_slot}

-- Each object has a cell for each of its fields, and no two of its fields share one.
pub record HasFieldCells (place : Places) (heap : Heap) : Type 0 where
  pub room : (object field cell : ℕ) → place_in place (object_at heap object).kind field ≡ Some cell → cell < length (object_at heap object).cells
  pub apart : (object field other cell : ℕ) → place_in place (object_at heap object).kind field ≡ Some cell → place_in place (object_at heap object).kind other ≡ Some cell → field ≡ other

-- No slot that is spared holds the object that this slot holds.
abbrev pub HoldOthers : (ℕ → Bool) → List Held → ℕ → Type 0
HoldOthers spared slots through = (slot number : ℕ) → spared slot ≡ true → value_at slots through ≡ At number → value_at slots slot ≡ At number → ⊥

-- In a constructor a write through another slot spares `this`; in a method, and through `this`, a write spares none.
abbrev pub spared_by : Method → ℕ → ℕ → Bool
spared_by method through slot = own_slot method slot && not (through == 0)

-- In a constructor no other slot holds the object of slot 0, the one that is being made.
abbrev pub IsThisAlone : Method → List Held → Type 0
IsThisAlone method slots = method.constructor ≡ true → (slot number : ℕ) → (slot ≡ 0 → ⊥) → value_at slots 0 ≡ At number → value_at slots slot ≡ At number → ⊥
