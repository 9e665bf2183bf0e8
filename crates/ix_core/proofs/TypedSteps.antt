-- Each operation of a body that fits leaves slots and heap typed.
use Rattle.std.specs.Prelude.{◌≡◌, ℕ, zero, suc, ◌<◌, nat_lt, true, if◌then◌else◌, List, [], ◌∷◌, ◌++◌, length, replicate, slice_set, Some}
use Rattle.std.proofs.Common.{arith, sym, subst}
use Rattle.std.proofs.lemmas.Bool.{false≢true}
use Rattle.std.proofs.lemmas.Bool.Decides.{nat_tests}
use Rattle.ix_core.specs.declared.claim.Base.TheVariants as base
use Rattle.ix_core.specs.declared.claim.Type_.{Type_}
use Rattle.ix_core.specs.declared.claim.Type_.TheVariants as type
use Rattle.ix_core.specs.declared.program.Program.{Program}
use Rattle.ix_core.specs.Heap.{Held, Null, Heap, Object, ArrayOf, nothing, value_at, object_at, place_in, default_of_base, cell_default}
use Rattle.ix_core.specs.Objects.{Later}
use Rattle.ix_core.specs.Tables.{tables_of, field_at}
use Rattle.ix_core.specs.Typed.{IsOfType, HeapTyped}
use Rattle.ix_core.specs.Types.{cell_type, is_array}
use Rattle.ix_core.proofs.Entered.{at_pushed}
use Rattle.ix_core.proofs.FieldSteps.{at_kept}
use Rattle.ix_core.proofs.TypedValues.{later_typed}
use Rattle.ix_core.proofs.Waiting.{later_push}
use Rattle.ix_core.proofs.Writes.{write_later}

-- ---- heaps

-- an object's fields and cells hold values of their types
pub record ObjectTyped (program : Program) (heap : Heap) (object : Object) : Type 0 where
  pub room : (field place : ℕ) → place_in (tables_of program).place object.kind field ≡ Some place → place < length object.cells
  pub fields : (field place : ℕ) → place_in (tables_of program).place object.kind field ≡ Some place → IsOfType program heap (field_at program field).ty (value_at object.cells place)
  pub cells : (place : ℕ) (ty : Type_) → object.kind ≡ ArrayOf ty → place < length object.cells → IsOfType program heap (cell_type ty) (value_at object.cells place)

object_later : (program : Program) (heap after : Heap) (object : Object) → Later heap after → ObjectTyped program heap object → ObjectTyped program after object
object_later program heap after object later typed = record {
  room = typed.room;
  fields = λ field place e. later_typed program heap after (field_at program field).ty (value_at object.cells place) later (typed.fields field place e);
  cells = λ place ty e lt. later_typed program heap after (cell_type ty) (value_at object.cells place) later (typed.cells place ty e lt);
}

pub object_of : (program : Program) (heap : Heap) → HeapTyped program heap → (number : ℕ) → ObjectTyped program heap (object_at heap number)
object_of program heap typed number = record { room = typed.room number; fields = typed.fields number; cells = typed.cells number }

heap_of : (program : Program) (heap : Heap) → ((number : ℕ) → ObjectTyped program heap (object_at heap number)) → HeapTyped program heap
heap_of program heap each = record {
  room = λ number. (each number).room;
  fields = λ number. (each number).fields;
  cells = λ number. (each number).cells;
}

-- a new object
pub grown_typed : (program : Program) (heap : Heap) (object : Object) → HeapTyped program heap → ObjectTyped program (heap ++ object ∷ []) object → HeapTyped program (heap ++ object ∷ [])
grown_typed program heap object typed here =
    heap_of program (heap ++ object ∷ [])
    (at_pushed nothing (λ k o. ObjectTyped program (heap ++ object ∷ []) o) heap object here
    (λ k. object_later program heap (heap ++ object ∷ []) (object_at heap k) (later_push heap object) (object_of program heap typed k)))

-- an object of the same kind and size in the place of one
module _ (program : Program) (heap : Heap) (number : ℕ) (new : Object) (on : number < length heap) (kind : new.kind ≡ (object_at heap number).kind) (size : length new.cells ≡ length (object_at heap number).cells) where
  pub written_typed : HeapTyped program heap → ObjectTyped program heap new → HeapTyped program (slice_set heap number new)
  written_typed typed here =
      heap_of program (slice_set heap number new)
      (at_kept nothing (λ k o. ObjectTyped program (slice_set heap number new) o) heap number new
      (object_later program heap (slice_set heap number new) new (write_later heap number new on kind size) here)
      (λ k. object_later program heap (slice_set heap number new) (object_at heap k) (write_later heap number new on kind size) (object_of program heap typed k)))

-- ---- defaults

-- what a new cell of an array type holds is of the cell's type
pub default_typed : (program : Program) (heap : Heap) (ty : Type_) → is_array program ty ≡ true → IsOfType program heap (cell_type ty) (cell_default ty)
default_typed program heap (type.Array base.Int zero element) e = tt
default_typed program heap (type.Array base.Bool zero element) e = tt
default_typed program heap (type.Array (base.Class class) zero element) e = tt
default_typed program heap (type.Array base.Int (suc zero) element) e = tt
default_typed program heap (type.Array base.Bool (suc zero) element) e = tt
default_typed program heap (type.Array (base.Class class) (suc zero) element) e = tt
default_typed program heap (type.Array of (suc (suc depth)) element) e =
    let deep : nat_lt 1 (suc (suc depth)) ≡ true = grind (arith, nat_tests) in
    subst (λ t. IsOfType program heap (type.Array of (suc depth) element) (if t then Null else default_of_base of)) (sym deep) tt
default_typed program heap (type.Plain of) e = absurd (false≢true e)
default_typed program heap type.Void e = absurd (false≢true e)

-- ---- lists of values

abbrev pub AllTyped : Program → Heap → Type_ → List Held → Type 0
AllTyped program heap ty [] = Unit {0}
AllTyped program heap ty (value ∷ values) = IsOfType program heap ty value × AllTyped program heap ty values

all_typed : (program : Program) (heap : Heap) (ty : Type_) (values : List Held) (place : ℕ) → AllTyped program heap ty values → place < length values → IsOfType program heap ty (value_at values place)
all_typed program heap ty [] place all lt = absurd (omega (arith, lt))
all_typed program heap ty (value ∷ values) zero all lt = all.0
all_typed program heap ty (value ∷ values) (suc place) all lt = all_typed program heap ty values place all.1 (omega (arith, lt))

pub copies_typed : (program : Program) (heap : Heap) (ty : Type_) (count : ℕ) (value : Held) → IsOfType program heap ty value → AllTyped program heap ty (replicate count value)
copies_typed program heap ty zero value is = tt
copies_typed program heap ty (suc count) value is = (is, copies_typed program heap ty count value is)

array_same : (ty other : Type_) → ArrayOf ty ≡ ArrayOf other → ty ≡ other
array_same ty other e = cc

-- a new array of values of its cells' type
pub array_typed : (program : Program) (heap : Heap) (ty : Type_) (cells : List Held) → AllTyped program heap (cell_type ty) cells → ObjectTyped program heap (record { kind = ArrayOf ty; cells = cells })
array_typed program heap ty cells all = record {
  room = λ field place e. absurd cc;
  fields = λ field place e. absurd cc;
  cells = λ place other e lt. subst (λ y. IsOfType program heap (cell_type y) (value_at cells place)) (array_same ty other e) (all_typed program heap (cell_type ty) cells place all lt);
}

pub all_later : (program : Program) (heap after : Heap) (ty : Type_) (values : List Held) → Later heap after → AllTyped program heap ty values → AllTyped program after ty values
all_later program heap after ty [] later all = tt
all_later program heap after ty (value ∷ values) later all = (later_typed program heap after ty value later all.0, all_later program heap after ty values later all.1)
