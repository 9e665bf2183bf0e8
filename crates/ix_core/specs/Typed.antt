-- What types say of a state of a formed program: slots, fields and cells hold values of their types (JLS 4.12.2). No claim enters it.
use Rattle.std.specs.Prelude.{◌≡◌, ℕ, ◌<◌, true, List, length, Some}
use Rattle.ix_core.specs.declared.claim.Base.TheVariants as base
use Rattle.ix_core.specs.declared.claim.Type_.{Type_}
use Rattle.ix_core.specs.declared.claim.Type_.TheVariants as type
use Rattle.ix_core.specs.declared.program.Program.{Program}
use Rattle.ix_core.specs.Heap.{Held, Num, Boolean, Null, At, Heap, ObjectOf, ArrayOf, value_at, object_at, place_in}
use Rattle.ix_core.specs.Tables.{tables_of, field_at}
use Rattle.ix_core.specs.Types.{Types, cell_type, is_below}

-- The value is one of the type: null is one of every class and of every array type.
abbrev pub IsOfType : Program → Heap → Type_ → Held → Type 0
IsOfType program heap (type.Plain base.Int) (Num n) = Unit {0}
IsOfType program heap (type.Plain base.Bool) (Boolean answer) = Unit {0}
IsOfType program heap (type.Plain (base.Class class)) Null = Unit {0}
IsOfType program heap (type.Plain (base.Class class)) (At number) = (of : ℕ) × ((object_at heap number).kind ≡ ObjectOf of) × (is_below program of class ≡ true)
IsOfType program heap (type.Array of depth element) Null = Unit {0}
IsOfType program heap (type.Array of depth element) (At number) = (object_at heap number).kind ≡ ArrayOf (type.Array of depth element)
IsOfType program heap _ _ = ⊥

-- Each object has a cell for each of its fields, and fields and cells hold values of their types.
pub record HeapTyped (program : Program) (heap : Heap) : Type 0 where
  pub room : (object field place : ℕ) → place_in (tables_of program).place (object_at heap object).kind field ≡ Some place → place < length (object_at heap object).cells
  pub fields : (object field place : ℕ) → place_in (tables_of program).place (object_at heap object).kind field ≡ Some place → IsOfType program heap (field_at program field).ty (value_at (object_at heap object).cells place)
  pub cells : (array place : ℕ) (ty : Type_) → (object_at heap array).kind ≡ ArrayOf ty → place < length (object_at heap array).cells → IsOfType program heap (cell_type ty) (value_at (object_at heap array).cells place)

-- each slot holds a value of the type that is known of it
abbrev pub SlotsTyped : Program → Types → List Held → Heap → Type 0
SlotsTyped program types slots heap = (slot : ℕ) (ty : Type_) → types slot ≡ Some ty → IsOfType program heap ty (value_at slots slot)
