-- An operation that fits, on slots and a heap that are typed: no slot lies past the frame, each operand is of its type, and what it leaves is typed.
use Rattle.std.specs.Prelude.{◌≡◌, ℕ, ◌+◌, ◌<◌, ◌==◌, ℤ, pos, negsuc, int_le, int_lt, unsigned_abs, Bool, true, false, not, ◌&&◌, if◌then◌else◌, List, [], ◌∷◌, ◌++◌, length, map, replicate, slice_set, Option, None, Some, unwrap_or, refl}
use Rattle.std.proofs.Common.{arith, sym, ap, subst, ◌∙◌}
use Rattle.std.proofs.lemmas.Bool.{and_parts, false≢true}
use Rattle.std.proofs.lemmas.Bool.Decides.{nat_tests}
use Rattle.std.proofs.lemmas.Int.{ints}
use Rattle.std.proofs.lemmas.List.{length-set}
use Rattle.ix_num.specs.Arithmetic.{exact_of, wrap_of}
use Rattle.ix_text.specs.declared.span.Span.{Span}
use Rattle.ix_core.specs.declared.claim.Base.TheVariants as base
use Rattle.ix_core.specs.declared.claim.Type_.{Type_}
use Rattle.ix_core.specs.declared.claim.Type_.TheVariants as type
use Rattle.ix_core.specs.declared.op.Literal.{Literal}
use Rattle.ix_core.specs.declared.op.Literal.TheVariants as literal
use Rattle.ix_core.specs.declared.op.Op.{Op}
use Rattle.ix_core.specs.declared.op.OpKind.{OpKind}
use Rattle.ix_core.specs.declared.op.OpKind.TheVariants as op
use Rattle.ix_core.specs.declared.program.Method.{Method}
use Rattle.ix_core.specs.declared.program.Program.{Program}
use Rattle.ix_core.specs.Formed.{is_array_at, reads, is_slot, is_target, variable_type, copy_fits, op_fits, op_types, literal_type, literal_fits, are_entries, field_fits, at_most}
use Rattle.ix_core.specs.Heap.{Held, Num, Boolean, Null, At, Heap, Object, Kind, ObjectOf, ArrayOf, value_at, object_at, array_at, array_cells, place_in, cell_default, cells_used, is_within, with_cells, write_at}
use Rattle.ix_core.specs.Machine.{Limits, Effect, Done, Wrapped, Printed, Called, Stopped, is_past, is_int, int_at, literal_value, unary_of, assign_length, assign_int, assign_result, through, at_place, allocate, new_array, operate}
use Rattle.ix_core.specs.Objects.{Later}
use Rattle.ix_core.specs.Tables.{Tables, tables_of, field_at, param_slot, param_slots}
use Rattle.ix_core.specs.Typed.{IsOfType, HeapTyped, SlotsTyped}
use Rattle.ix_core.specs.Types.{Types, Point, with_type, int_type, cell_type, is_reference_type, is_array, is_of, is_type}
use Rattle.ix_core.proofs.Entered.{has_on, none_some}
use Rattle.ix_core.proofs.FieldSteps.{at_kept}
use Rattle.ix_core.proofs.Heaps.{value_other}
use Rattle.ix_core.proofs.TypeLaws.{WaysEnd, of_above}
use Rattle.ix_core.proofs.TypedSteps.{grown_typed, written_typed, default_typed, copies_typed, array_typed, all_later, AllTyped}
use Rattle.ix_core.proofs.TypedValues.{array_there, slots_later, assign_typed, slot_there, read_typed}
use Rattle.ix_core.proofs.Waiting.{later_push, later_refl}
use Rattle.ix_core.proofs.WorldTables.{world_apart}
use Rattle.ix_core.proofs.Writes.{write_later}

-- What slots and a heap became: as many slots, `this` as it was, typed, on a later heap that is typed.
pub record Became (program : Program) (method : Method) (slots : List Held) (heap : Heap) (types : Types) (later : List Held) (after : Heap) : Type 0 where
  pub size : length later ≡ length slots
  pub this : method.is_static ≡ false → value_at later 0 ≡ value_at slots 0
  pub typed : SlotsTyped program types later after
  pub heap_typed : HeapTyped program after
  pub heap_later : Later heap after

abbrev pub Leaves : Program → Method → List Held → Heap → Types → Effect → Type 0
Leaves program method slots heap types (Done later after) = Became program method slots heap types later after
Leaves program method slots heap types (Wrapped later after) = Became program method slots heap types later after
Leaves program method slots heap types (Printed value) = SlotsTyped program types slots heap
Leaves program method slots heap types (Called kind call) = ⊥
Leaves program method slots heap types (Stopped ending) = Unit {0}

-- an operation that is no call
abbrev pub IsNoCall : OpKind → Type 0
IsNoCall (op.NewObject call) = ⊥
IsNoCall (op.StaticCall call) = ⊥
IsNoCall (op.InstanceCall call) = ⊥
IsNoCall (op.SuperCall call) = ⊥
IsNoCall _ = Unit {0}

leaves_if : (program : Program) (method : Method) (slots : List Held) (heap : Heap) (types : Types) (t : Bool) (first second : Effect) → (t ≡ true → Leaves program method slots heap types first) → (t ≡ false → Leaves program method slots heap types second)
    → Leaves program method slots heap types (if t then first else second)
leaves_if program method slots heap types true first second a b = a refl
leaves_if program method slots heap types false first second a b = b refl

-- a slot of the frame, and not that of `this`
pub record CanTake (method : Method) (slots : List Held) (slot : ℕ) : Type 0 where
  pub within : slot < length slots
  pub apart : method.is_static ≡ false → (0 == slot) ≡ false

-- the types behind an operation, where a way led to it
abbrev pub types_of : Point → Types → Types
types_of None types = types
types_of (Some found) types = found

module _ (program : Program) (ends : WaysEnd program) (method : Method) (local_types : List Type_) (types : Types) (slots : List Held) (heap : Heap) (size : length slots ≡ method.slots) (typed : SlotsTyped program types slots heap) (heap_typed : HeapTyped program heap) where
  abbrev Good : Types → Effect → Type 0
  Good after effect = Leaves program method slots heap after effect

  not_first : (static : Bool) (count slot : ℕ) → at_most (if static then count else count + 1) slot ≡ true → static ≡ false → (0 == slot) ≡ false
  not_first true count slot e is = absurd (false≢true (sym is))
  not_first false count slot e is = grind (arith, nat_tests)

  pub target_there : (slot : ℕ) → is_target program method slot ≡ true → CanTake method slots slot
  target_there slot e =
      let parts = and_parts (is_slot program method slot) (at_most (param_slots method) slot) e in
      record { within = slot_there program ends method types slots heap size typed slot parts.0; apart = not_first method.is_static (length method.params) slot parts.1 }

  read : (slot : ℕ) (ty : Type_) → reads program method (Some types) slot ty ≡ true → IsOfType program heap ty (value_at slots slot)
  read slot ty e = (read_typed program ends method types slots heap size typed slot ty e).1

  module _ (limits : Limits) (place : ℕ) where
    abbrev tables : Tables
    tables = tables_of program

    assigns : (t : ℕ) (ty : Type_) (x : Held) → CanTake method slots t → IsOfType program heap ty x → Good (with_type t ty types) (Done (slice_set slots t x) heap)
    assigns t ty x lt is = record {
      size = length-set slots t x;
      this = λ e. value_other slots t 0 x (lt.apart e);
      typed = assign_typed program types slots heap t ty x lt.within is typed;
      heap_typed = heap_typed;
      heap_later = later_refl heap;
    }

    assigns_int : (t : ℕ) (exact : ℤ) → CanTake method slots t → Good (with_type t int_type types) (assign_int limits tables place slots heap t exact)
    assigns_int t exact lt = leaves_if program method slots heap (with_type t int_type types) (is_int exact) _ _ (λ e. assigns t int_type (Num exact) lt tt) (λ e. assigns t int_type (Num (wrap_of exact)) lt tt)

    assigns_result : (t : ℕ) (exact : Option ℤ) → CanTake method slots t → Good (with_type t int_type types) (assign_result limits tables place slots heap t exact)
    assigns_result t None lt = tt
    assigns_result t (Some exact) lt = assigns_int t exact lt

    -- through a reference, where each object that it may refer to is good for what follows
    through_good : (after : Types) (held : Held) (next : ℕ → Effect) → ((number : ℕ) → held ≡ At number → Good after (next number)) → Good after (through limits tables place slots heap held next)
    through_good after (Num n) next each = tt
    through_good after (Boolean answer) next each = tt
    through_good after Null next each = tt
    through_good after (At number) next each = each number refl

    length_good : (t : ℕ) (held : Held) → CanTake method slots t → Good (with_type t int_type types) (assign_length limits tables place slots heap t held)
    length_good t (Num n) lt = assigns t int_type (Num (pos 0)) lt tt
    length_good t (Boolean answer) lt = assigns t int_type (Num (pos 0)) lt tt
    length_good t Null lt = tt
    length_good t (At number) lt = assigns t int_type (Num (pos (length (array_at heap number)))) lt tt

    allocates : (t : ℕ) (ty : Type_) (count : ℕ) (cells : List Held) → CanTake method slots t → is_array program ty ≡ true → AllTyped program heap (cell_type ty) cells → Good (with_type t ty types) (allocate limits tables place slots heap t ty count cells)
    allocates t ty count cells lt is all =
        let made : Object = record { kind = ArrayOf ty; cells = cells } in
        let after : Heap = heap ++ made ∷ [] in
        let later : Later heap after = later_push heap made in
        leaves_if program method slots heap (with_type t ty types) (is_past limits.cells (cells_used heap + (count + 1))) _ _ (λ e. tt)
        (λ e. record {
          size = length-set slots t (At (length heap));
          this = λ e. value_other slots t 0 (At (length heap)) (lt.apart e);
          typed = assign_typed program types slots after t ty (At (length heap)) lt.within (made_typed ty is cells) (slots_later program types slots heap after later typed);
          heap_typed = grown_typed program heap made heap_typed (array_typed program after ty cells (all_later program heap after (cell_type ty) cells later all));
          heap_later = later;
        })
      where
        made_typed : (ty : Type_) → is_array program ty ≡ true → (cells : List Held) → IsOfType program (heap ++ record { kind = ArrayOf ty; cells = cells } ∷ []) ty (At (length heap))
        made_typed (type.Array of depth element) is cells = ap (λ (o : Object). o.kind) (Rattle.ix_core.proofs.Heaps.grown_new heap (record { kind = ArrayOf (type.Array of depth element); cells = cells }))
        made_typed (type.Plain of) is cells = absurd (false≢true is)
        made_typed type.Void is cells = absurd (false≢true is)

    new_good : (t : ℕ) (ty : Type_) (n : ℤ) → CanTake method slots t → is_array program ty ≡ true → Good (with_type t ty types) (new_array limits tables place slots heap t ty n)
    new_good t ty (negsuc n) lt is = tt
    new_good t ty (pos count) lt is = allocates t ty count (replicate count (cell_default ty)) lt is (copies_typed program heap (cell_type ty) count (cell_default ty) (default_typed program heap ty is))

    entries_typed : (target : ℕ) (entries : List ℕ) (ty : Type_) → are_entries program method (Some types) target entries ty ≡ true → AllTyped program heap ty (map (value_at slots) entries)
    entries_typed target [] ty e = tt
    entries_typed target (entry ∷ entries) ty e =
        let parts = and_parts (reads program method (Some types) entry ty) (not (entry == target) && are_entries program method (Some types) target entries ty) e in
        (read entry ty parts.0, entries_typed target entries ty (and_parts (not (entry == target)) (are_entries program method (Some types) target entries ty) parts.1).1)

    -- a cell of an array, at an index within it
    is_below : (index : ℤ) (count : ℕ) → is_within index count ≡ true → unsigned_abs index < count
    is_below index count e = let both = and_parts (int_le (pos 0) index) (int_lt index (pos count)) e in let a = both.0 in let b = both.1 in omega (arith, ints, a, b)

    cell_typed : (number : ℕ) (ty : Type_) (index : ℤ) → (object_at heap number).kind ≡ ArrayOf ty → is_within index (length (array_at heap number)) ≡ true → IsOfType program heap (cell_type ty) (value_at (array_at heap number) (unsigned_abs index))
    cell_typed number ty index kind within =
        let same : array_at heap number ≡ (object_at heap number).cells = ap (λ k. array_cells k (object_at heap number).cells) kind in
        subst (λ (cells : List Held). IsOfType program heap (cell_type ty) (value_at cells (unsigned_abs index))) (sym same)
        (heap_typed.cells number (unsigned_abs index) ty kind (is_below index (length (object_at heap number).cells) (subst (λ (cells : List Held). is_within index (length cells) ≡ true) same within)))

    at_kind : (ty : Type_) (number : ℕ) → is_array program ty ≡ true → IsOfType program heap ty (At number) → (object_at heap number).kind ≡ ArrayOf ty
    at_kind (type.Array of depth element) number is typed_at = typed_at
    at_kind (type.Plain of) number is typed_at = absurd (false≢true is)
    at_kind type.Void number is typed_at = absurd (false≢true is)

    load_good : (t array index : ℕ) (ty : Type_) → CanTake method slots t → is_array program ty ≡ true → IsOfType program heap ty (value_at slots array)
        → Good (with_type t (cell_type ty) types) (operate limits tables place slots heap (op.Load t array index ty))
    load_good t array index ty lt is typed_array =
        through_good (with_type t (cell_type ty) types) (value_at slots array) _
        (λ number e.
        leaves_if program method slots heap (with_type t (cell_type ty) types) (is_within (int_at slots index) (length (array_at heap number))) _ _
        (λ within. assigns t (cell_type ty) _ lt (cell_typed number ty (int_at slots index) (at_kind ty number is (subst (IsOfType program heap ty) e typed_array)) within))
        (λ past. tt))

    -- a cell that is written holds a value of its type, and so do all others
    stored : (number : ℕ) (ty : Type_) (cell : ℕ) (x : Held) → (object_at heap number).kind ≡ ArrayOf ty → number < length heap → IsOfType program heap (cell_type ty) x
        → HeapTyped program (write_at heap number cell x)
    stored number ty cell x kind on is =
        let object = object_at heap number in
        let new : Object = with_cells object (slice_set object.cells cell x) in
        written_typed program heap number new on refl (length-set object.cells cell x) heap_typed
        (record {
          room = λ field at e. absurd (no_field field at kind e);
          fields = λ field at e. absurd (no_field field at kind e);
          cells = λ at other same below.
              let one : ty ≡ other = array_is (sym kind ∙ same) in
              at_kept (Num (pos 0)) (λ j v. j < length object.cells → IsOfType program heap (cell_type other) v) object.cells cell x
              (λ h. subst (λ y. IsOfType program heap (cell_type y) x) one is)
              (λ j h. heap_typed.cells number j other same h) at (subst (λ n. at < n) (length-set object.cells cell x) below);
        })
      where
        array_is : {ty other : Type_} → ArrayOf ty ≡ ArrayOf other → ty ≡ other
        array_is e = cc

        no_field : {kind : Kind} (field at : ℕ) → kind ≡ ArrayOf ty → place_in (tables_of program).place kind field ≡ Some at → ⊥
        no_field field at kind e = none_some at (subst (λ k. place_in (tables_of program).place k field ≡ Some at) kind e)

    store_good : (array index value : ℕ) (ty : Type_) → is_array program ty ≡ true → IsOfType program heap ty (value_at slots array) → IsOfType program heap (cell_type ty) (value_at slots value)
        → Good types (operate limits tables place slots heap (op.Store array index value ty))
    store_good array index value ty is typed_array typed_value =
        through_good types (value_at slots array) _
        (λ number e.
        let kind = at_kind ty number is (subst (IsOfType program heap ty) e typed_array) in
        leaves_if program method slots heap types (is_within (int_at slots index) (length (array_at heap number))) _ _
        (λ within.
        let object = object_at heap number in
        let on = array_there program heap number ty is kind in
        let cell = unsigned_abs (int_at slots index) in
        let new : Object = with_cells object (slice_set object.cells cell (value_at slots value)) in
        let later : Later heap (write_at heap number cell (value_at slots value)) = write_later heap number new on refl (length-set object.cells cell (value_at slots value)) in record {
          size = refl;
          this = λ e. refl;
          typed = slots_later program types slots heap (write_at heap number cell (value_at slots value)) later typed;
          heap_typed = stored number ty cell (value_at slots value) kind on typed_value;
          heap_later = later;
        })
        (λ past. tt))

    read_good : (t object field : ℕ) → CanTake method slots t → Good (with_type t (field_at program field).ty types) (operate limits tables place slots heap (op.ReadField t object field))
    read_good t object field lt =
        through_good (with_type t (field_at program field).ty types) (value_at slots object) _
        (λ number e. found_good number (place_in tables.place (object_at heap number).kind field) refl)
      where
        found_good : (number : ℕ) (found : Option ℕ) → place_in tables.place (object_at heap number).kind field ≡ found
            → Good (with_type t (field_at program field).ty types) (at_place limits tables place slots heap found (λ cell. Done (slice_set slots t (value_at (object_at heap number).cells cell)) heap))
        found_good number None is = tt
        found_good number (Some cell) is = assigns t (field_at program field).ty (value_at (object_at heap number).cells cell) lt (heap_typed.fields number field cell is)

    -- a field that is written holds a value of its type, and so do all others
    set_field : (number field cell : ℕ) (x : Held) → place_in tables.place (object_at heap number).kind field ≡ Some cell → IsOfType program heap (field_at program field).ty x → HeapTyped program (write_at heap number cell x)
    set_field number field cell x placed is =
        let object = object_at heap number in
        let new : Object = with_cells object (slice_set object.cells cell x) in
        written_typed program heap number new (has_on tables.place heap number field cell placed) refl (length-set object.cells cell x) heap_typed
        (record {
          room = λ other at e. subst (λ n. at < n) (sym (length-set object.cells cell x)) (heap_typed.room number other at e);
          fields = λ other at e.
              at_kept (Num (pos 0)) (λ j v. j ≡ at → IsOfType program heap (field_at program other).ty v) object.cells cell x
              (λ same. subst (λ f. IsOfType program heap (field_at program f).ty x) (one_field object.kind field other cell placed (subst (λ j. place_in tables.place object.kind other ≡ Some j) (sym same) e)) is)
              (λ j same. subst (λ k. IsOfType program heap (field_at program other).ty (value_at object.cells k)) (sym same) (heap_typed.fields number other at e)) at refl;
          cells = λ at ty same below. no_array object.kind ty field cell same placed;
        })
      where
        one_field : (kind : Kind) (field other cell : ℕ) → place_in tables.place kind field ≡ Some cell → place_in tables.place kind other ≡ Some cell → field ≡ other
        one_field (ObjectOf class) field other cell a b = world_apart program class field other cell a b
        one_field (ArrayOf ty) field other cell a b = none_some cell a

        no_array : (kind : Kind) (ty : Type_) (field cell : ℕ) {A : Type 0} → kind ≡ ArrayOf ty → place_in tables.place kind field ≡ Some cell → A
        no_array kind ty field cell e placed = none_some cell (subst (λ k. place_in tables.place k field ≡ Some cell) e placed)

    write_good : (object field value : ℕ) → IsOfType program heap (field_at program field).ty (value_at slots value) → Good types (operate limits tables place slots heap (op.WriteField object field value))
    write_good object field value is =
        through_good types (value_at slots object) _ (λ number e. found_good number (place_in tables.place (object_at heap number).kind field) refl)
      where
        found_good : (number : ℕ) (found : Option ℕ) → place_in tables.place (object_at heap number).kind field ≡ found
            → Good types (at_place limits tables place slots heap found (λ cell. Done slots (write_at heap number cell (value_at slots value))))
        found_good number None placed = tt
        found_good number (Some cell) placed =
            let here = object_at heap number in
            let new : Object = with_cells here (slice_set here.cells cell (value_at slots value)) in
            let later : Later heap (write_at heap number cell (value_at slots value)) = write_later heap number new (has_on tables.place heap number field cell placed) refl (length-set here.cells cell (value_at slots value)) in record {
              size = refl;
              this = λ e. refl;
              typed = slots_later program types slots heap (write_at heap number cell (value_at slots value)) later typed;
              heap_typed = set_field number field cell (value_at slots value) placed is;
              heap_later = later;
            }

    null_typed : (ty : Type_) → is_reference_type ty ≡ true → IsOfType program heap ty Null
    null_typed (type.Plain (base.Class class)) e = tt
    null_typed (type.Array of depth element) e = tt
    null_typed (type.Plain base.Int) e = absurd (false≢true e)
    null_typed (type.Plain base.Bool) e = absurd (false≢true e)
    null_typed type.Void e = absurd (false≢true e)

    literal_typed : (value : Literal) → literal_fits program method value ≡ true → IsOfType program heap (literal_type value) (literal_value value)
    literal_typed (literal.Int n) e = tt
    literal_typed (literal.Bool answer) e = tt
    literal_typed (literal.NullOf ty) e = null_typed ty (and_parts (is_reference_type ty) (is_type program ty) e).0

    copy_good : (variable : Option Type_) (target source : ℕ) (ty : Type_) (parts : List Span) → reads program method (Some types) source ty ≡ true → copy_fits program method local_types variable target source ty parts ≡ true
        → Good (with_type target (unwrap_or variable ty) types) (Done (slice_set slots target (value_at slots source)) heap)
    copy_good (Some variable) target source ty parts from e =
        let one = and_parts (length parts == 2) (is_of program ty variable && (is_slot program method target && at_most (param_slot method 0) target)) e in
        let two = and_parts (is_of program ty variable) (is_slot program method target && at_most (param_slot method 0) target) one.1 in
        let three = and_parts (is_slot program method target) (at_most (param_slot method 0) target) two.1 in
        assigns target variable (value_at slots source) (record { within = slot_there program ends method types slots heap size typed target three.0; apart = not_first method.is_static 0 target three.1 })
        (of_above program ends heap ty variable (value_at slots source) two.0 (read source ty from))
    copy_good None target source ty parts from e =
        let one = and_parts (length parts == 0) (is_target program method target && not (method.constructor && (source == 0))) e in
        let two = and_parts (is_target program method target) (not (method.constructor && (source == 0))) one.1 in
        assigns target ty (value_at slots source) (target_there target two.0) (read source ty from)

    -- What an operation that fits leaves.
    pub operation_good : (done : Op) (kind : OpKind) → IsNoCall kind → op_fits program method local_types (Some types) done kind ≡ true
        → Good (types_of (op_types program method local_types (Some types) done kind) types) (operate limits tables place slots heap kind)
    operation_good done (op.Const t value) plain e =
        let one = and_parts (literal_fits program method value) _ e in
        let two = and_parts (is_target program method t) _ one.1 in
        assigns t (literal_type value) (literal_value value) (target_there t two.0) (literal_typed value one.0)
    operation_good done (op.Copy t source ty) plain e =
        let one = and_parts (reads program method (Some types) source ty) _ e in
        let two = and_parts (not (t == source)) _ one.1 in
        copy_good (variable_type program method local_types t done.span) t source ty done.parts one.0 two.1
    operation_good done (op.Num t arith_op left right) plain e =
        let one = and_parts (reads program method (Some types) left int_type) _ e in
        let two = and_parts (reads program method (Some types) right int_type) _ one.1 in
        let three = and_parts (is_target program method t) _ two.1 in
        assigns_result t (exact_of arith_op (int_at slots left) (int_at slots right)) (target_there t three.0)
    operation_good done (op.Unary t unary operand) plain e =
        let one = and_parts (reads program method (Some types) operand int_type) _ e in
        let two = and_parts (is_target program method t) _ one.1 in
        assigns_int t (unary_of unary (int_at slots operand)) (target_there t two.0)
    operation_good done (op.Length t array) plain e =
        let one = and_parts (is_slot program method array) _ e in
        let two = and_parts (is_array_at (Some types) array) _ one.1 in
        let three = and_parts (is_target program method t) _ two.1 in
        length_good t (value_at slots array) (target_there t three.0)
    operation_good done (op.NewArray t ty count) plain e =
        let one = and_parts (reads program method (Some types) count int_type) _ e in
        let two = and_parts (is_array program ty) _ one.1 in
        let three = and_parts (is_target program method t) _ two.1 in
        new_good t ty (int_at slots count) (target_there t three.0) two.0
    operation_good done (op.Fill t ty entries) plain e =
        let one = and_parts (is_array program ty) _ e in
        let two = and_parts (are_entries program method (Some types) t entries (cell_type ty)) _ one.1 in
        let three = and_parts (is_target program method t) _ two.1 in
        allocates t ty (length entries) (map (value_at slots) entries) (target_there t three.0) one.0 (entries_typed t entries (cell_type ty) two.0)
    operation_good done (op.Load t array index ty) plain e =
        let one = and_parts (is_array program ty) _ e in
        let two = and_parts (reads program method (Some types) array ty) _ one.1 in
        let three = and_parts (reads program method (Some types) index int_type) _ two.1 in
        let four = and_parts (is_target program method t) _ three.1 in
        load_good t array index ty (target_there t four.0) one.0 (read array ty two.0)
    operation_good done (op.Store array index value ty) plain e =
        let one = and_parts (is_array program ty) _ e in
        let two = and_parts (reads program method (Some types) array ty) _ one.1 in
        let three = and_parts (reads program method (Some types) index int_type) _ two.1 in
        let four = and_parts (reads program method (Some types) value (cell_type ty)) _ three.1 in
        store_good array index value ty one.0 (read array ty two.0) (read value (cell_type ty) four.0)
    operation_good done (op.ReadField t object field) plain e =
        let one = and_parts (field_fits program method (Some types) object field) _ e in
        let two = and_parts (is_target program method t) _ one.1 in
        read_good t object field (target_there t two.0)
    operation_good done (op.WriteField object field value) plain e =
        let one = and_parts (field_fits program method (Some types) object field) _ e in
        let two = and_parts (reads program method (Some types) value (field_at program field).ty) _ one.1 in
        write_good object field value (read value (field_at program field).ty two.0)
    operation_good done (op.NewObject call) plain e = absurd plain
    operation_good done (op.StaticCall call) plain e = absurd plain
    operation_good done (op.InstanceCall call) plain e = absurd plain
    operation_good done (op.SuperCall call) plain e = absurd plain
    operation_good done (op.Print value) plain e = typed
