-- Each operation's rule keeps what a step of a frame has to keep, and its facts are true behind it.
use Rattle.std.specs.Prelude.{◌≡◌, ◌⊎◌, ℕ, zero, suc, ◌+◌, ◌<◌, ◌==◌, nat_lt, ◌≤ℤ◌, ◌<ℤ◌, ℤ, pos, negsuc, unsigned_abs, Bool, true, false, not, if◌then◌else◌, List, [], ◌∷◌, ◌++◌, length, replicate, slice_set, Option, Some, None, refl}
use Rattle.std.proofs.Common.{arith, sym, ap, ◌∙◌, subst, ⊎_elim}
use Rattle.std.proofs.lemmas.Bool.{false≢true}
use Rattle.std.proofs.lemmas.Bool.Decides.{nat_tests}
use Rattle.std.proofs.lemmas.Int.{ints}
use Rattle.ix_core.specs.declared.claim.Base.{Base}
use Rattle.ix_core.specs.declared.claim.Base.TheVariants as base
use Rattle.ix_core.specs.declared.claim.Claim.{Claim}
use Rattle.ix_core.specs.declared.claim.Type_.{Type_}
use Rattle.ix_core.specs.declared.claim.Type_.TheVariants as type
use Rattle.ix_core.specs.declared.fact.Path.{Path}
use Rattle.ix_core.specs.declared.fact.Path.TheVariants.{Slot, FieldOf}
use Rattle.ix_core.specs.declared.op.OpKind.{OpKind}
use Rattle.ix_core.specs.declared.program.Method.{Method}
use Rattle.ix_core.specs.Analysis.{IsWorld}
use Rattle.ix_core.specs.Heap.{Held, Num, Boolean, Null, At, Heap, Kind, ObjectOf, ArrayOf, Object, cell_default, default_of_base, cells_used, with_cells, array_cells, cell_of, value_at, object_at, array_at, place_in, field_value, is_within, int_of, size_of, write_at}
use Rattle.ix_core.specs.Machine.{Limits, HeapFull, new_array, is_past, assign_length, Effect, Done, Stopped, Wrapped, Printed, Called, operate, through, at_place, at_index, int_at}
use Rattle.ix_core.specs.Objects.{IsOn, MeetsElement, AllOn, Later, IsSame, HasField, MeetsField, MeetsFields, field_readings, IsFree, HeapKeeps, FrameKeeps, IsOwn, MayWrite, StepKeeps}
use Rattle.ix_core.specs.Safe.{IsBad, element_claims}
use Rattle.ix_core.specs.World.{World, tables_in}
use Rattle.ix_core.proofs.Cases.{by_test, equal, differ}
use Rattle.ix_core.proofs.Heaps.{value_set, value_other, object_set, object_other, grown_old}
use Rattle.ix_core.proofs.Kept.{all_on}
use Rattle.ix_core.proofs.SlotSteps.{read_meets, assign_keeps, read_keeps}
use Rattle.ix_core.proofs.ArraySteps.{array_keeps, cell_keeps}
use Rattle.ix_core.proofs.FieldSteps.{write_later, write_same, write_value, write_keeps}
use Rattle.ix_core_example.specs.Facts.{Fact, NotNegative, Below, IsLength, Holds, held_through, held_at, AllTrue, only, off_slot, off_field, AreLow, Proves, with_claims}
use Rattle.ix_core_example.specs.Rules.{MayAssign, Step, constant, copy, load, read, store, write}
use Rattle.ix_core_example.specs.Rules as rules
use Rattle.ix_core_example.proofs.TypedArrays.{HoldsArray}
use Rattle.ix_core_example.proofs.Truths.{in_true, Stays, later_stays, only_true, all_stay, claims_true, proves_true, low_same}

pub not_true : (b : Bool) → not b ≡ true → b ≡ false
not_true false e = refl
not_true true e = absurd (false≢true e)

same_number : (n : ℕ) → (n == n) ≡ true
same_number n = by_test (n == n) (λ t. t) (λ t. absurd (differ n n t refl))

within : (n : ℤ) (size : ℕ) → pos 0 ≤ℤ n → n <ℤ pos size → is_within n size ≡ true
within n size low high = grind (arith, ints, nat_tests)

module _ (world : World) (tables : IsWorld world) (lows : (field : ℕ) → AreLow (world.field_claims field)) (limits : Limits) (place : ℕ) (building : ℕ → Type 0) (method : Method) (slots : List Held) (heap : Heap)
    (keeps : HeapKeeps world building heap) (frame : FrameKeeps building method slots heap) where
  -- the operation is done, and what has to be kept is, or it stops with no bad end
  abbrev pub IsGood : List Fact → Effect → Type 0
  IsGood after (Done later now) = StepKeeps world building method slots heap later now × AllTrue world after later now
  IsGood after (Stopped ending) = IsBad (Some ending) → ⊥
  IsGood after (Wrapped later now) = ⊥
  IsGood after (Printed value) = ⊥
  IsGood after (Called kind call) = ⊥

  on : AllOn slots heap
  on = all_on world building method slots heap keeps frame

  slot_stays : (target : ℕ) (x : Held) → Stays world (off_slot target) slots heap (slice_set slots target x) heap
  slot_stays target x = record { held = held; size = λ path e. ap (size_of heap) (held path e) }
    where
      held : (path : Path) → off_slot target path ≡ true → held_at world slots heap path ≡ held_at world (slice_set slots target x) heap path
      held (Slot slot) e = sym (value_other slots target slot x (not_true (slot == target) e))
      held (FieldOf slot field) e = ap (λ held. held_through world heap held field) (sym (value_other slots target slot x (not_true (slot == target) e)))

  off_true : (target : ℕ) (x : Held) (facts : List Fact) → AllTrue world facts slots heap → AllTrue world (only (off_slot target) facts) (slice_set slots target x) heap
  off_true target x facts all = only_true world (off_slot target) slots heap (slice_set slots target x) heap (slot_stays target x) facts all

  set_same : (target : ℕ) (x : Held) → MayAssign method target → value_at (slice_set slots target x) target ≡ x
  set_same target x may = value_set slots target x (let size = frame.size in let lt = may.within in omega (arith, size, lt))

  set_other : (target slot : ℕ) (x : Held) → (slot ≡ target → ⊥) → value_at (slice_set slots target x) slot ≡ value_at slots slot
  set_other target slot x apart = value_other slots target slot x (by_test (slot == target) (λ t. absurd (apart (equal slot target t))) (λ t. t))

  through_good : (after : List Fact) (held : Held) (next : ℕ → Effect) → ((number : ℕ) → held ≡ At number → IsGood after (next number)) → IsGood after (through limits (tables_in world) place slots heap held next)
  through_good after (At number) next each = each number refl
  through_good after (Num n) next each = λ bad. bad
  through_good after (Boolean answer) next each = λ bad. bad
  through_good after Null next each = λ bad. bad

  place_good : (after : List Fact) (found : Option ℕ) (next : ℕ → Effect) → ((cell : ℕ) → found ≡ Some cell → IsGood after (next cell)) → IsGood after (at_place limits (tables_in world) place slots heap found next)
  place_good after None next each = λ bad. bad
  place_good after (Some cell) next each = each cell refl

  index_good : (after : List Fact) (index : ℤ) (cells : List Held) (next : ℕ → Effect) → pos 0 ≤ℤ index → index <ℤ pos (length cells) → IsGood after (next (unsigned_abs index))
      → IsGood after (at_index limits (tables_in world) place slots heap index cells next)
  index_good after index cells next low high good = rw (within index (length cells) low high) good

  array_free : (kind : Kind) (cells : List Held) → ((cell : ℕ) → IsFree building heap (value_at cells cell)) → (cell : ℕ) → IsFree building heap (value_at (array_cells kind cells) cell)
  array_free (ObjectOf class) cells free cell = tt
  array_free (ArrayOf ty) cells free cell = free cell

  -- ---- a field is written

  module _ (object field value number cell : ℕ) (facts : List Fact) (holds : value_at slots object ≡ At number) (placed : place_in world.place (object_at heap number).kind field ≡ Some cell) (hidden : IsOwn method value → ⊥)
      (proves : Proves facts (Slot value) (world.field_claims field)) (all : AllTrue world facts slots heap) where
    abbrev heap_after : Heap
    heap_after = write_at heap number cell (value_at slots value)

    later : Later heap heap_after
    later = write_later world tables building method slots heap keeps frame object field number cell value holds placed

    same_or : (of other : ℕ) → IsSame world heap heap_after of other ⊎ ((of ≡ number) × (other ≡ field))
    same_or of other = write_same world tables building method slots heap keeps frame object field number cell value holds placed of other

    written : field_value world.place heap_after number field ≡ value_at slots value
    written = write_value world tables building method slots heap keeps frame object field number cell value holds placed

    meets : (IsOwn method object → ⊥) → MeetsFields world heap_after number
    meets other g has =
        let free : IsFree building heap (At number) = subst (IsFree building heap) holds (frame.free object other) in
        let before : HasField world (object_at heap number).kind g = subst (λ kind. HasField world kind g) (sym (later number free.0).kind) has in
        ⊎_elim
        (λ same. low_same (world.field_claims g) _ _ (field_readings world heap number) (field_readings world heap_after number) (lows g) (ap int_of same) (keeps.built number free.1 g before))
        (λ is. subst (λ f. MeetsField world heap_after number f) (sym is.1)
        (proves_true world (Slot value) slots heap facts (world.field_claims field) _ (field_readings world heap_after number) proves (ap int_of written) all))
        (same_or number g)

    through_same : (g : ℕ) → (g == field) ≡ false → (held : Held) → held_through world heap held g ≡ held_through world heap_after held g
    through_same g apart (At of) = ⊎_elim (λ same. same) (λ is. absurd (false≢true (sym apart ∙ (ap (λ n. n == field) is.1 ∙ same_number field)))) (same_or of g)
    through_same g apart (Num n) = refl
    through_same g apart (Boolean answer) = refl
    through_same g apart Null = refl

    field_stays : Stays world (off_field field) slots heap slots heap_after
    field_stays = later_stays world (off_field field) slots heap slots heap_after on later held
      where
        held : (path : Path) → off_field field path ≡ true → held_at world slots heap path ≡ held_at world slots heap_after path
        held (Slot slot) e = refl
        held (FieldOf slot g) e = through_same g (not_true (g == field) e) (value_at slots slot)

    write_good : MayWrite world method object field → IsGood (only (off_field field) facts) (Done slots heap_after)
    write_good may = (write_keeps world tables building method slots heap keeps frame object field number cell value holds placed may hidden meets, only_true world (off_field field) slots heap slots heap_after field_stays facts all)

  -- ---- a field is read

  read_good : (facts : List Fact) (target object field number cell : ℕ) → value_at slots object ≡ At number → place_in world.place (object_at heap number).kind field ≡ Some cell → MayAssign method target → (object ≡ target → ⊥)
      → (IsOwn method object → ⊥) → AllTrue world facts slots heap
      → IsGood (with_claims (Slot target) (world.field_claims field) (Holds target (FieldOf object field) ∷ only (off_slot target) facts)) (Done (slice_set slots target (value_at (object_at heap number).cells cell)) heap)
  read_good facts target object field number cell holds placed may apart other all =
      let x : Held = value_at (object_at heap number).cells cell in
      let later : List Held = slice_set slots target x in
      let is : field_value world.place heap number field ≡ x = ap (cell_of (object_at heap number).cells) placed in
      let set : value_at later target ≡ x = set_same target x may in
      let through_is : held_through world heap (value_at later object) field ≡ x = ap (λ held. held_through world heap held field) (set_other target object x apart ∙ holds) ∙ is in (
        read_keeps world building method slots heap keeps frame target number cell may.input may.own,
        claims_true world (Slot target) later heap (Holds target (FieldOf object field) ∷ only (off_slot target) facts) (world.field_claims field) _ (field_readings world heap number)
            (read_meets world building method slots heap keeps frame object field number cell holds placed other) (ap int_of (is ∙ sym set)) (set ∙ sym through_is, off_true target x facts all),
      )

  -- ---- a cell is stored

  element_met : (facts : List Fact) (value : ℕ) (claims : List Claim) (held : Held) → value_at slots value ≡ held → Proves facts (Slot value) claims → AllTrue world facts slots heap → MeetsElement claims held
  element_met facts value claims (Num n) is proves all = proves_true world (Slot value) slots heap facts claims _ _ proves (ap int_of (sym is)) all
  element_met facts value claims (Boolean answer) is proves all = tt
  element_met facts value claims Null is proves all = tt
  element_met facts value claims (At number) is proves all = tt

  module _ (number cell value : ℕ) (ty : Type_) (there : number < length heap) (is : (object_at heap number).kind ≡ ArrayOf ty) (hidden : IsOwn method value → ⊥) (meets : MeetsElement (element_claims ty) (value_at slots value)) where
    abbrev stored_heap : Heap
    stored_heap = write_at heap number cell (value_at slots value)

    stored_keeps : StepKeeps world building method slots heap slots stored_heap
    stored_keeps = cell_keeps world building method slots heap keeps frame number cell ty (value_at slots value) there is (frame.free value hidden) meets

    -- an array has no fields
    array_null : (cells : List Held) (field : ℕ) → cell_of cells (place_in world.place (object_at heap number).kind field) ≡ Null
    array_null cells field = ap (λ kind. cell_of cells (place_in world.place kind field)) is

    field_same : (of field : ℕ) → field_value world.place heap of field ≡ field_value world.place stored_heap of field
    field_same of field =
        by_test (of == number)
        (λ t.
        let same : of ≡ number = equal of number t in
        subst (λ n. field_value world.place heap n field ≡ field_value world.place stored_heap n field) (sym same)
        (array_null (object_at heap number).cells field
        ∙ sym (ap (λ (o : Object). cell_of o.cells (place_in world.place o.kind field)) (object_set heap number (with_cells (object_at heap number) (slice_set (object_at heap number).cells cell (value_at slots value))) there)
        ∙ array_null (slice_set (object_at heap number).cells cell (value_at slots value)) field)))
        (λ t. sym (ap (λ (o : Object). cell_of o.cells (place_in world.place o.kind field)) (object_other heap number of (with_cells (object_at heap number) (slice_set (object_at heap number).cells cell (value_at slots value))) t)))

    through_stored : (field : ℕ) (held : Held) → held_through world heap held field ≡ held_through world stored_heap held field
    through_stored field (At of) = field_same of field
    through_stored field (Num n) = refl
    through_stored field (Boolean answer) = refl
    through_stored field Null = refl

    stored_stays : Stays world (λ path. true) slots heap slots stored_heap
    stored_stays = later_stays world (λ path. true) slots heap slots stored_heap on stored_keeps.later held
      where
        held : (path : Path) → true ≡ true → held_at world slots heap path ≡ held_at world slots stored_heap path
        held (Slot slot) e = refl
        held (FieldOf slot field) e = through_stored field (value_at slots slot)

    stored_good : (facts : List Fact) → AllTrue world facts slots heap → IsGood facts (Done slots stored_heap)
    stored_good facts all = (stored_keeps, all_stay world (λ path. true) slots heap slots stored_heap stored_stays (λ path. refl) facts all)

  -- ---- a new array

  module _ (facts : List Fact) (target size : ℕ) (ty : Type_) (may : MayAssign method target) (plain : element_claims ty ≡ []) (all : AllTrue world facts slots heap) where
    default_free : (of : Type_) → IsFree building heap (cell_default of)
    default_free type.Void = tt
    default_free (type.Plain of) = tt
    default_free (type.Array of depth element) = by_depth (nat_lt 1 depth) of
      where
        by_depth : (deep : Bool) (of : Base) → IsFree building heap (if deep then Null else default_of_base of)
        by_depth true of = tt
        by_depth false base.Int = tt
        by_depth false base.Bool = tt
        by_depth false (base.Class class) = tt

    copies_free : (count place : ℕ) → IsFree building heap (value_at (replicate count (cell_default ty)) place)
    copies_free zero place = tt
    copies_free (suc count) zero = default_free ty
    copies_free (suc count) (suc place) = copies_free count place

    no_claims : (held : Held) → MeetsElement [] held
    no_claims (Num n) = tt
    no_claims (Boolean answer) = tt
    no_claims Null = tt
    no_claims (At number) = tt

    module _ (count : ℕ) where
      abbrev grown : Heap
      grown = heap ++ record { kind = ArrayOf ty; cells = replicate count (cell_default ty) } ∷ []

      made_keeps : StepKeeps world building method slots heap (slice_set slots target (At (length heap))) grown
      made_keeps = array_keeps world building method slots heap keeps frame ty (replicate count (cell_default ty)) (copies_free count)
          (λ place lt. subst (λ claims. MeetsElement claims (value_at (replicate count (cell_default ty)) place)) (sym plain) (no_claims (value_at (replicate count (cell_default ty)) place))) target may.input may.own

      through_grown : (field : ℕ) (held : Held) → IsOn heap held → held_through world heap held field ≡ held_through world grown held field
      through_grown field (At of) lt = sym (ap (λ (o : Object). cell_of o.cells (place_in world.place o.kind field)) (grown_old heap (record { kind = ArrayOf ty; cells = replicate count (cell_default ty) }) of lt))
      through_grown field (Num n) lt = refl
      through_grown field (Boolean answer) lt = refl
      through_grown field Null lt = refl

      grown_stays : Stays world (off_slot target) slots heap (slice_set slots target (At (length heap))) grown
      grown_stays = later_stays world (off_slot target) slots heap (slice_set slots target (At (length heap))) grown on made_keeps.later held
        where
          held : (path : Path) → off_slot target path ≡ true → held_at world slots heap path ≡ held_at world (slice_set slots target (At (length heap))) grown path
          held (Slot slot) e = sym (value_other slots target slot (At (length heap)) (not_true (slot == target) e))
          held (FieldOf slot field) e = through_grown field (value_at slots slot) (on.held slot) ∙ ap (λ held. held_through world grown held field) (sym (value_other slots target slot (At (length heap)) (not_true (slot == target) e)))

      allocated : (full : Bool) → IsGood (only (off_slot target) facts) (if full then Stopped (HeapFull place) else Done (slice_set slots target (At (length heap))) grown)
      allocated true = λ bad. bad
      allocated false = (made_keeps, only_true world (off_slot target) slots heap (slice_set slots target (At (length heap))) grown grown_stays facts all)

    made_good : (n : ℤ) → pos 0 ≤ℤ n → IsGood (only (off_slot target) facts) (new_array limits (tables_in world) place slots heap target ty n)
    made_good (pos count) low = allocated count (is_past limits.cells (cells_used heap + (count + 1)))
    made_good (negsuc n) low = absurd (omega (arith, ints, low))

  -- ---- the operations

  assigned : (facts : List Fact) (target : ℕ) (x : Held) → MayAssign method target → IsFree building heap x → AllTrue world facts slots heap → IsGood (only (off_slot target) facts) (Done (slice_set slots target x) heap)
  assigned facts target x may free all = (assign_keeps world building method slots heap keeps frame target x free may.input may.own, off_true target x facts all)

  length_is : (facts : List Fact) (target array : ℕ) → MayAssign method target → (array ≡ target → ⊥) → AllTrue world facts slots heap → (held : Held) → value_at slots array ≡ held
      → IsGood (IsLength target array ∷ only (off_slot target) facts) (Done (slice_set slots target (Num (size_of heap held))) heap)
  length_is facts target array may apart all held is =
      let x : Held = Num (size_of heap held) in
      let kept = assigned facts target x may tt all in
      (kept.0, (ap int_of (set_same target x may) ∙ sym (ap (size_of heap) (set_other target array x apart ∙ is)), kept.1))

  length_good : (facts : List Fact) (target array : ℕ) → MayAssign method target → (array ≡ target → ⊥) → AllTrue world facts slots heap → (held : Held) → value_at slots array ≡ held
      → IsGood (IsLength target array ∷ only (off_slot target) facts) (assign_length limits (tables_in world) place slots heap target held)
  length_good facts target array may apart all Null is = λ bad. bad
  length_good facts target array may apart all (Num n) is = length_is facts target array may apart all (Num n) is
  length_good facts target array may apart all (Boolean answer) is = length_is facts target array may apart all (Boolean answer) is
  length_good facts target array may apart all (At number) is = length_is facts target array may apart all (At number) is

  pub operation_good : (facts after : List Fact) (kind : OpKind) → Step world method kind facts after → AllTrue world facts slots heap → HoldsArray slots heap kind → IsGood after (operate limits (tables_in world) place slots heap kind)
  operation_good facts after kind (rules.new_array _ target size ty may plain low) all arrays = made_good facts target size ty may plain all (int_at slots size) (in_true world facts (NotNegative (Slot size)) slots heap low all)
  operation_good facts after kind (store _ array index value ty hidden low high proves) all arrays =
      through_good facts (value_at slots array) _
      (λ number is.
      index_good facts (int_at slots index) (array_at heap number) (λ cell. Done slots (write_at heap number cell (value_at slots value))) (in_true world facts (NotNegative (Slot index)) slots heap low all)
      (subst (λ held. int_at slots index <ℤ size_of heap held) is (in_true world facts (Below (Slot index) array) slots heap high all))
      (stored_good number (unsigned_abs (int_at slots index)) value ty (subst (IsOn heap) is (on.held array)) (arrays number is) hidden
      (element_met facts value (element_claims ty) (value_at slots value) refl proves all) facts all))
  operation_good facts after kind (constant _ target n int may) all arrays = assigned facts target (Num n) may tt all
  operation_good facts after kind (copy _ target source ty may other) all arrays = assigned facts target (value_at slots source) may (frame.free source other) all
  operation_good facts after kind (rules.length _ target array may apart) all arrays =
      length_good facts target array may apart all (value_at slots array) refl
  operation_good facts after kind (load _ target array index ty may low high) all arrays =
      through_good (only (off_slot target) facts) (value_at slots array) _
      (λ number is.
      index_good (only (off_slot target) facts) (int_at slots index) (array_at heap number) (λ cell. Done (slice_set slots target (value_at (array_at heap number) cell)) heap) (in_true world facts (NotNegative (Slot index)) slots heap low all)
      (subst (λ held. int_at slots index <ℤ size_of heap held) is (in_true world facts (Below (Slot index) array) slots heap high all))
      (assigned facts target (value_at (array_at heap number) (unsigned_abs (int_at slots index))) may
      (array_free (object_at heap number).kind (object_at heap number).cells (keeps.free number) (unsigned_abs (int_at slots index))) all))
  operation_good facts behind kind (read _ target object field may apart other) all arrays =
      through_good behind (value_at slots object) _
      (λ number is. place_good behind (place_in world.place (object_at heap number).kind field) _ (λ cell placed. read_good facts target object field number cell is placed may apart other all))
  operation_good facts after kind (write _ object field value may hidden proves) all arrays =
      through_good after (value_at slots object) _
      (λ number is. place_good after (place_in world.place (object_at heap number).kind field) _ (λ cell placed. write_good object field value number cell facts is placed hidden proves all may))
