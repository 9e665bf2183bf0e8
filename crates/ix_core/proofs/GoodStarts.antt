-- A run starts good, where an analysis has the laws.
use Rattle.std.specs.Prelude.{◌≡◌, ℕ, zero, suc, ◌+◌, ◌<◌, ℤ, pos, List, [], ◌∷◌, ◌++◌, length, map, slice_get, refl}
use Rattle.std.proofs.Common.{arith, sym, ap, subst, ◌∙◌}
use Rattle.std.proofs.lemmas.List.{length-map, length-append}
use Rattle.ix_core.specs.declared.claim.Claim.{Claim}
use Rattle.ix_core.specs.declared.claim.Name.{Name}
use Rattle.ix_core.specs.declared.claim.Type_.{Type_}
use Rattle.ix_core.specs.declared.program.Local.{Local as Variable}
use Rattle.ix_core.specs.Heap.{Num, Heap, Object, Kind, ObjectOf, ArrayOf, Reading, reading_of, value_at, object_at, array_at, array_cells}
use Rattle.ix_core.specs.Objects.{IsFree, MeetsElement, kind_claims}
use Rattle.ix_core.specs.Safe.{Input, Whole, Flag, Ints, HaveTypes, AllTrue, MeetEach, input_values, input_heap, reading_in, element_claims}
use Rattle.ix_core.proofs.TypedStarts.{kind_at, one_more}

-- ---- the cells of input arrays

int_cell : (ns : List ℤ) (place : ℕ) → (n : ℤ) × (value_at (map Num ns) place ≡ Num n)
int_cell [] place = (pos 0, refl)
int_cell (n ∷ ns) zero = (n, refl)
int_cell (n ∷ ns) (suc place) = int_cell ns place

free_cell : (heap : Heap) (ns : List ℤ) (place : ℕ) → IsFree (λ object. ⊥) heap (value_at (map Num ns) place)
free_cell heap ns place = let cell = int_cell ns place in subst (IsFree (λ object. ⊥) heap) (sym cell.1) tt

pub inputs_free : (heap : Heap) (inputs : List Input) (types : List Type_) (number place : ℕ) → IsFree (λ object. ⊥) heap (value_at (object_at (input_heap inputs types) number).cells place)
inputs_free heap [] types number place = tt
inputs_free heap (Whole n ∷ inputs) [] number place = tt
inputs_free heap (Flag answer ∷ inputs) [] number place = tt
inputs_free heap (Ints ns ∷ inputs) [] number place = tt
inputs_free heap (Whole n ∷ inputs) (ty ∷ types) number place = inputs_free heap inputs types number place
inputs_free heap (Flag answer ∷ inputs) (ty ∷ types) number place = inputs_free heap inputs types number place
inputs_free heap (Ints ns ∷ inputs) (ty ∷ types) zero place = free_cell heap ns place
inputs_free heap (Ints ns ∷ inputs) (ty ∷ types) (suc number) place = inputs_free heap inputs types number place

elements_true : (claims : List Claim) (ns : List ℤ) (place : ℕ) → AllTrue claims ns → place < length (map Num ns) → MeetsElement claims (value_at (map Num ns) place)
elements_true claims [] place all lt = absurd (omega (arith, lt))
elements_true claims (n ∷ ns) zero all lt = all.0
elements_true claims (n ∷ ns) (suc place) all lt = elements_true claims ns place all.1 (omega (arith, lt))

pub inputs_elements : (inputs : List Input) (params : List Variable) (types : List Type_) (names : Name → Reading) → MeetEach inputs params types names → length params ≡ length types → (number place : ℕ)
    → place < length (array_at (input_heap inputs types) number) → MeetsElement (kind_claims (object_at (input_heap inputs types) number).kind) (value_at (array_at (input_heap inputs types) number) place)
inputs_elements [] params types names met count number place lt = absurd (omega (arith, lt))
inputs_elements (Whole n ∷ inputs) params [] names met count number place lt = absurd (omega (arith, lt))
inputs_elements (Flag answer ∷ inputs) params [] names met count number place lt = absurd (omega (arith, lt))
inputs_elements (Ints ns ∷ inputs) params [] names met count number place lt = absurd (omega (arith, lt))
inputs_elements (input ∷ inputs) [] (ty ∷ types) names met count number place lt = absurd (omega (arith, count))
inputs_elements (Whole n ∷ inputs) (param ∷ params) (ty ∷ types) names met count number place lt = inputs_elements inputs params types names met.2 (omega (arith, count)) number place lt
inputs_elements (Flag answer ∷ inputs) (param ∷ params) (ty ∷ types) names met count number place lt = inputs_elements inputs params types names met.2 (omega (arith, count)) number place lt
inputs_elements (Ints ns ∷ inputs) (param ∷ params) (ty ∷ types) names met count zero place lt = elements_true (element_claims ty) ns place met.1 lt
inputs_elements (Ints ns ∷ inputs) (param ∷ params) (ty ∷ types) names met count (suc number) place lt = inputs_elements inputs params types names met.2 (omega (arith, count)) number place lt

-- input arrays are no instances
abbrev pub IsInstance : Kind → Type 0
IsInstance (ObjectOf class) = Unit {0}
IsInstance (ArrayOf ty) = ⊥

pub inputs_arrays : (inputs : List Input) (types : List Type_) (number : ℕ) → IsInstance (object_at (input_heap inputs types) number).kind → ⊥
inputs_arrays [] types number is = is
inputs_arrays (Whole n ∷ inputs) [] number is = is
inputs_arrays (Flag answer ∷ inputs) [] number is = is
inputs_arrays (Ints ns ∷ inputs) [] number is = is
inputs_arrays (Whole n ∷ inputs) (ty ∷ types) number is = inputs_arrays inputs types number is
inputs_arrays (Flag answer ∷ inputs) (ty ∷ types) number is = inputs_arrays inputs types number is
inputs_arrays (Ints ns ∷ inputs) (ty ∷ types) zero is = is
inputs_arrays (Ints ns ∷ inputs) (ty ∷ types) (suc number) is = inputs_arrays inputs types number is

-- ---- the values of inputs

-- a value is a number, or the next arrays of the heap
arrays_before : (before : Heap) (inputs : List Input) (types : List Type_) → HaveTypes inputs types → (k : ℕ) → IsFree (λ object. ⊥) (before ++ input_heap inputs types) (value_at (input_values (length before) inputs) k)
arrays_before before [] types have k = tt
arrays_before before (input ∷ inputs) [] have k = absurd have
arrays_before before (Whole n ∷ inputs) (ty ∷ types) have zero = tt
arrays_before before (Whole n ∷ inputs) (ty ∷ types) have (suc k) = arrays_before before inputs types have.1 k
arrays_before before (Flag answer ∷ inputs) (ty ∷ types) have zero = tt
arrays_before before (Flag answer ∷ inputs) (ty ∷ types) have (suc k) = arrays_before before inputs types have.1 k
arrays_before before (Ints ns ∷ inputs) (ty ∷ types) have zero =
    let array : Object = record { kind = ArrayOf ty; cells = map Num ns } in
    let long = length-append before (array ∷ input_heap inputs types) in
    (omega (arith, long), λ is. is)
arrays_before before (Ints ns ∷ inputs) (ty ∷ types) have (suc k) =
    let array : Object = record { kind = ArrayOf ty; cells = map Num ns } in
    let count : length (before ++ array ∷ []) ≡ length before + 1 = length-append before (array ∷ []) in
    subst (λ h. IsFree (λ object. ⊥) h (value_at (input_values (length before + 1) inputs) k)) (one_more before array (input_heap inputs types))
    (subst (λ n. IsFree (λ object. ⊥) ((before ++ array ∷ []) ++ input_heap inputs types) (value_at (input_values n inputs) k)) count (arrays_before (before ++ array ∷ []) inputs types have.1 k))

pub values_free : (inputs : List Input) (types : List Type_) → HaveTypes inputs types → (k : ℕ) → IsFree (λ object. ⊥) (input_heap inputs types) (value_at (input_values 0 inputs) k)
values_free inputs types have k = arrays_before [] inputs types have k

-- what is read of an input's value is what is said of the input
read_before : (before : Heap) (inputs : List Input) (types : List Type_) → HaveTypes inputs types → (k : ℕ) → reading_of (before ++ input_heap inputs types) (value_at (input_values (length before) inputs) k) ≡ reading_in (slice_get inputs k)
read_before before [] types have k = refl
read_before before (input ∷ inputs) [] have k = absurd have
read_before before (Whole n ∷ inputs) (ty ∷ types) have zero = refl
read_before before (Whole n ∷ inputs) (ty ∷ types) have (suc k) = read_before before inputs types have.1 k
read_before before (Flag answer ∷ inputs) (ty ∷ types) have zero = refl
read_before before (Flag answer ∷ inputs) (ty ∷ types) have (suc k) = read_before before inputs types have.1 k
read_before before (Ints ns ∷ inputs) (ty ∷ types) have zero =
    let array : Object = record { kind = ArrayOf ty; cells = map Num ns } in
    ap (λ (o : Object). record { int = pos 0; size = pos (length (array_cells o.kind o.cells)) }) (kind_at before array (input_heap inputs types)) ∙ ap (λ n. record { int = pos 0; size = pos n }) (length-map ns Num)
read_before before (Ints ns ∷ inputs) (ty ∷ types) have (suc k) =
    let array : Object = record { kind = ArrayOf ty; cells = map Num ns } in
    let count : length (before ++ array ∷ []) ≡ length before + 1 = length-append before (array ∷ []) in
    subst (λ h. reading_of h (value_at (input_values (length before + 1) inputs) k) ≡ reading_in (slice_get inputs k)) (one_more before array (input_heap inputs types))
    (subst (λ n. reading_of ((before ++ array ∷ []) ++ input_heap inputs types) (value_at (input_values n inputs) k) ≡ reading_in (slice_get inputs k)) count (read_before (before ++ array ∷ []) inputs types have.1 k))

pub values_read : (inputs : List Input) (types : List Type_) → HaveTypes inputs types → (k : ℕ) → reading_of (input_heap inputs types) (value_at (input_values 0 inputs) k) ≡ reading_in (slice_get inputs k)
values_read inputs types have k = read_before [] inputs types have k
