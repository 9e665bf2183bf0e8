-- The steps of expressions keep to those of the source, whatever their places.
use Rattle.std.proofs.Common.{ℤ, pos, negsuc, ℕ, Bool, true, false, [], ◌∷◌, ◌++◌, length, replicate, Option, Some, None, refl, subst}
use Rattle.std.specs.Prelude.{if◌then◌else◌, unsigned_abs}
use Rattle.ix_num.specs.Arithmetic.{wrap_of}
use Rattle.ix_core.specs.declared.claim.Type_.{Type_}
use Rattle.ix_core.specs.Heap.{Held, Num, Boolean, Null, At, Object, ArrayOf, value_at, object_at, array_at, place_in, int_of, size_of, cell_default, is_within, write_at}
use Rattle.ix_core.specs.Machine.{Outside, Negative, NullUsed, ZeroDivisor, is_int}
use Rattle.ix_meaning.specs.declared.note.Meaning.{Meaning}
use Rattle.ix_meaning.specs.Resolved.{Names}
use Rattle.ix_source.specs.Runs.{Gives, Action, gives, stops, access, sees, wraps, with_heap, held_by, with_held, with_variables}
use Rattle.ix_source.specs.Context.{Members, Calls, Context}
use Rattle.ix_source.specs.Values.{Target, Variable, FieldOf, Cell, int_result, result_at, through, within, at_cell, at_field, field_cell, cell_read, field_read, written, load, store, get_field, put_field, length_of, made, array_of, of_variable, of_this, assign, read, write}
use Rattle.ix_guard_text.specs.Moved.{Move}
use Rattle.ix_guard_promise.specs.Behind.{SameTarget}
use Rattle.ix_guard_promise.proofs.Following.{Equal, KeepsBy, Keeps, gives_keep, stops_keep, heap_keeps, variables_keep, changed_keeps, access_unprinted, seen_alike}

-- The same members, and whatever else.
abbrev pub in_context : Names → Members → Calls → ℕ → Context
in_context names members calls turns = record { names = names; members = members; calls = calls; turns = turns }

module _ (move : Move) where
  pub if_keeps : {A : Type 0} (Same : A → A → Type 0) (answer : Bool) (new old new_else old_else : Action A) → KeepsBy move Same new old → KeepsBy move Same new_else old_else
      → KeepsBy move Same (if answer then new else new_else) (if answer then old else old_else)
  if_keeps Same true new old new_else old_else first second = first
  if_keeps Same false new old new_else old_else first second = second

  pub if_now_keeps : {A : Type 0} (Same : A → A → Type 0) (answer : Bool) (new old new_else old_else : Action A) → KeepsBy move Same new old → KeepsBy move Same new_else old_else
      → KeepsBy move Same (λ now. if answer then new now else new_else now) (λ now. if answer then old now else old_else now)
  if_now_keeps Same true new old new_else old_else first second = first
  if_now_keeps Same false new old new_else old_else first second = second

  pub gives_same : {A : Type 0} (value : A) → Keeps move (gives value) (gives value)
  gives_same value = gives_keep move Equal value value refl

  -- ---- ints

  wraps_keeps : {A : Type 0} (value : A) → Keeps move (λ now. Gives value (wraps now)) (λ now. Gives value (wraps now))
  wraps_keeps value = changed_keeps move Equal wraps wraps (gives value) (gives value)
      (λ n o like. record { variables = like.variables; heap = like.heap; wrapped = refl; events = like.events }) (λ now. refl) (gives_same value)

  pub int_result_keeps : (exact : ℤ) → Keeps move (int_result exact) (int_result exact)
  int_result_keeps exact = if_now_keeps Equal (is_int exact) (gives (Num exact)) (gives (Num exact)) (λ now. Gives (Num (wrap_of exact)) (wraps now)) (λ now. Gives (Num (wrap_of exact)) (wraps now))
      (gives_same (Num exact)) (wraps_keeps (Num (wrap_of exact)))

  pub result_keeps : (place at : ℕ) (exact : Option ℤ) → Keeps move (result_at place exact) (result_at at exact)
  result_keeps place at None = stops_keep move Equal (ZeroDivisor place) (ZeroDivisor at) tt
  result_keeps place at (Some exact) = int_result_keeps exact

  -- ---- arrays and objects

  pub through_keeps : {A : Type 0} (Same : A → A → Type 0) (place at : ℕ) (held : Held) (new old : ℕ → Action A) → ((number : ℕ) → KeepsBy move Same (new number) (old number))
      → KeepsBy move Same (through place held new) (through at held old)
  through_keeps Same place at (At number) new old next = next number
  through_keeps Same place at (Num n) new old next = stops_keep move Same (NullUsed place) (NullUsed at) tt
  through_keeps Same place at (Boolean answer) new old next = stops_keep move Same (NullUsed place) (NullUsed at) tt
  through_keeps Same place at Null new old next = stops_keep move Same (NullUsed place) (NullUsed at) tt

  within_keeps : {A : Type 0} (Same : A → A → Type 0) (place at : ℕ) (index : ℤ) (size : ℕ) (new old : ℕ → Action A) → ((number : ℕ) → KeepsBy move Same (new number) (old number))
      → KeepsBy move Same (within place index size new) (within at index size old)
  within_keeps Same place at index size new old next = if_keeps Same (is_within index size)
      (new (unsigned_abs index)) (old (unsigned_abs index)) (stops (Outside index (pos size) place)) (stops (Outside index (pos size) at))
      (next (unsigned_abs index)) (stops_keep move Same (Outside index (pos size) place) (Outside index (pos size) at) (refl, refl))

  at_cell_keeps : {A : Type 0} (Same : A → A → Type 0) (place at : ℕ) (index : ℤ) (number : ℕ) (new old : ℕ → Action A) → ((cell : ℕ) → KeepsBy move Same (new cell) (old cell))
      → KeepsBy move Same (at_cell place index number new) (at_cell at index number old)
  at_cell_keeps Same place at index number new old next = heap_keeps move Same
      (λ heap now. within place index (length (array_at heap number)) new (sees (access index (length (array_at heap number)) place) now))
      (λ heap now. within at index (length (array_at heap number)) old (sees (access index (length (array_at heap number)) at) now))
      (λ heap. let size = length (array_at heap number) in
      changed_keeps move Same (sees (access index size place)) (sees (access index size at)) (within place index size new) (within at index size old)
      (seen_alike index size place at) (λ now. access_unprinted now.events index size at) (within_keeps Same place at index size new old next))

  at_field_keeps : {A : Type 0} (Same : A → A → Type 0) (place at : ℕ) (cell : Option ℕ) (new old : ℕ → Action A) → ((cell : ℕ) → KeepsBy move Same (new cell) (old cell))
      → KeepsBy move Same (at_field place cell new) (at_field at cell old)
  at_field_keeps Same place at None new old next = stops_keep move Same (NullUsed place) (NullUsed at) tt
  at_field_keeps Same place at (Some cell) new old next = next cell

  cell_read_keeps : (number cell : ℕ) → Keeps move (cell_read number cell) (cell_read number cell)
  cell_read_keeps number cell = heap_keeps move Equal (λ heap now. Gives (value_at (array_at heap number) cell) now) (λ heap now. Gives (value_at (array_at heap number) cell) now)
      (λ heap. gives_same (value_at (array_at heap number) cell))

  field_read_keeps : (number cell : ℕ) → Keeps move (field_read number cell) (field_read number cell)
  field_read_keeps number cell = heap_keeps move Equal (λ heap now. Gives (value_at (object_at heap number).cells cell) now) (λ heap now. Gives (value_at (object_at heap number).cells cell) now)
      (λ heap. gives_same (value_at (object_at heap number).cells cell))

  -- a heap in the place of what there was
  heap_set : {A : Type 0} (value : A) (heap : Rattle.ix_core.specs.Heap.Heap) → Keeps move (λ now. Gives value (with_heap heap now)) (λ now. Gives value (with_heap heap now))
  heap_set value heap = changed_keeps move Equal (with_heap heap) (with_heap heap) (gives value) (gives value)
      (λ n o like. record { variables = like.variables; heap = refl; wrapped = like.wrapped; events = like.events }) (λ now. refl) (gives_same value)

  written_keeps : (value : Held) (number cell : ℕ) → Keeps move (written value number cell) (written value number cell)
  written_keeps value number cell = heap_keeps move Equal (λ heap now. Gives tt (with_heap (write_at heap number cell value) now)) (λ heap now. Gives tt (with_heap (write_at heap number cell value) now))
      (λ heap. heap_set tt (write_at heap number cell value))

  pub made_keeps : (object : Object) → Keeps move (made object) (made object)
  made_keeps object = heap_keeps move Equal (λ heap now. Gives (At (length heap)) (with_heap (heap ++ object ∷ []) now)) (λ heap now. Gives (At (length heap)) (with_heap (heap ++ object ∷ []) now))
      (λ heap. heap_set (At (length heap)) (heap ++ object ∷ []))

  pub load_keeps : (place at : ℕ) (array index : Held) → Keeps move (load place array index) (load at array index)
  load_keeps place at array index = through_keeps Equal place at array
      (λ number. at_cell place (int_of index) number (λ cell. cell_read number cell)) (λ number. at_cell at (int_of index) number (λ cell. cell_read number cell))
      (λ number. at_cell_keeps Equal place at (int_of index) number (λ cell. cell_read number cell) (λ cell. cell_read number cell) (cell_read_keeps number))

  pub store_keeps : (place at : ℕ) (array index value : Held) → Keeps move (store place array index value) (store at array index value)
  store_keeps place at array index value =
      through_keeps Equal place at array (λ number. at_cell place (int_of index) number (λ cell. written value number cell)) (λ number. at_cell at (int_of index) number (λ cell. written value number cell))
      (λ number. at_cell_keeps Equal place at (int_of index) number (λ cell. written value number cell) (λ cell. written value number cell) (written_keeps value number))

  length_held : (held : Held) → Keeps move (λ now. Gives (Num (size_of now.heap held)) now) (λ now. Gives (Num (size_of now.heap held)) now)
  length_held held = heap_keeps move Equal (λ heap now. Gives (Num (size_of heap held)) now) (λ heap now. Gives (Num (size_of heap held)) now) (λ heap. gives_same (Num (size_of heap held)))

  pub length_keeps : (place at : ℕ) (held : Held) → Keeps move (length_of place held) (length_of at held)
  length_keeps place at Null = stops_keep move Equal (NullUsed place) (NullUsed at) tt
  length_keeps place at (Num n) = length_held (Num n)
  length_keeps place at (Boolean answer) = length_held (Boolean answer)
  length_keeps place at (At number) = length_held (At number)

  pub array_keeps : (place at : ℕ) (ty : Type_) (size : ℤ) → Keeps move (array_of place ty size) (array_of at ty size)
  array_keeps place at ty (negsuc n) = stops_keep move Equal (Negative (negsuc n) place) (Negative (negsuc n) at) refl
  array_keeps place at ty (pos size) = made_keeps (record { kind = ArrayOf ty; cells = replicate size (cell_default ty) })

  -- ---- variables

  pub variable_keeps : (variable : Option Meaning) → Keeps move (of_variable variable) (of_variable variable)
  variable_keeps variable = variables_keep move Equal (λ variables now. Gives (held_by variables variable) now)
      (λ variables now. Gives (held_by variables variable) now) (λ variables. gives_same (held_by variables variable))

  pub this_keeps : Keeps move of_this of_this
  this_keeps = variables_keep move Equal (λ variables now. Gives variables.this now) (λ variables now. Gives variables.this now) (λ variables. gives_same variables.this)

  pub assign_keeps : (variable : Option Meaning) (value : Held) → Keeps move (assign variable value) (assign variable value)
  assign_keeps variable value = variables_keep move Equal
      (λ variables now. Gives tt (with_variables (with_held variable value variables) now)) (λ variables now. Gives tt (with_variables (with_held variable value variables) now))
      (λ variables. changed_keeps move Equal (with_variables (with_held variable value variables)) (with_variables (with_held variable value variables)) (gives tt) (gives tt)
      (λ n o like. record { variables = refl; heap = like.heap; wrapped = like.wrapped; events = like.events }) (λ now. refl) (gives_same tt))

  -- ---- fields and targets, where the members are the same

  module _ (members : Members) (names others : Names) (calls older : Calls) (turns most : ℕ) where
    abbrev new : Context
    new = in_context names members calls turns

    abbrev old : Context
    old = in_context others members older most

    field_cell_keeps : {A : Type 0} (Same : A → A → Type 0) (place at field number : ℕ) (next other : ℕ → Action A) → ((cell : ℕ) → KeepsBy move Same (next cell) (other cell))
        → KeepsBy move Same (field_cell new place field number next) (field_cell old at field number other)
    field_cell_keeps Same place at field number next other keeps = heap_keeps move Same
        (λ heap. at_field place (place_in members.place (object_at heap number).kind field) next) (λ heap. at_field at (place_in members.place (object_at heap number).kind field) other)
        (λ heap. at_field_keeps Same place at (place_in members.place (object_at heap number).kind field) next other keeps)

    pub get_field_keeps : (place at : ℕ) (object : Held) (field : ℕ) → Keeps move (get_field new place object field) (get_field old at object field)
    get_field_keeps place at object field = through_keeps Equal place at object
        (λ number. field_cell new place field number (λ cell. field_read number cell)) (λ number. field_cell old at field number (λ cell. field_read number cell))
        (λ number. field_cell_keeps Equal place at field number (λ cell. field_read number cell) (λ cell. field_read number cell) (field_read_keeps number))

    pub put_field_keeps : (place at : ℕ) (object : Held) (field : ℕ) (value : Held) → Keeps move (put_field new place object field value) (put_field old at object field value)
    put_field_keeps place at object field value =
        through_keeps Equal place at object (λ number. field_cell new place field number (λ cell. written value number cell)) (λ number. field_cell old at field number (λ cell. written value number cell))
        (λ number. field_cell_keeps Equal place at field number (λ cell. written value number cell) (λ cell. written value number cell) (written_keeps value number))

    pub read_keeps : (place at : ℕ) (target other : Target) → SameTarget move target other → Keeps move (read new place target) (read old at other)
    read_keeps place at (Variable variable) (Variable other) e = subst (λ other. Keeps move (of_variable variable) (of_variable other)) e (variable_keeps variable)
    read_keeps place at (FieldOf object field) (FieldOf other number) (e, f) =
        subst (λ other. Keeps move (get_field new place object field) (get_field old at other number)) e
        (subst (λ number. Keeps move (get_field new place object field) (get_field old at object number)) f (get_field_keeps place at object field))
    read_keeps place at (Cell array index first) (Cell other number second) (e, f) =
        subst (λ other. Keeps move (load first array index) (load second other number)) e
        (subst (λ number. Keeps move (load first array index) (load second array number)) f (load_keeps first second array index))
    read_keeps place at (Variable variable) (FieldOf other number) none = absurd none
    read_keeps place at (Variable variable) (Cell other number second) none = absurd none
    read_keeps place at (FieldOf object field) (Variable other) none = absurd none
    read_keeps place at (FieldOf object field) (Cell other number second) none = absurd none
    read_keeps place at (Cell array index first) (Variable other) none = absurd none
    read_keeps place at (Cell array index first) (FieldOf other number) none = absurd none

    pub write_keeps : (place at : ℕ) (target other : Target) (value : Held) → SameTarget move target other → Keeps move (write new place target value) (write old at other value)
    write_keeps place at (Variable variable) (Variable other) value e = subst (λ other. Keeps move (assign variable value) (assign other value)) e (assign_keeps variable value)
    write_keeps place at (FieldOf object field) (FieldOf other number) value (e, f) =
        subst (λ other. Keeps move (put_field new place object field value) (put_field old at other number value)) e
        (subst (λ number. Keeps move (put_field new place object field value) (put_field old at object number value)) f (put_field_keeps place at object field value))
    write_keeps place at (Cell array index first) (Cell other number second) value (e, f) =
        subst (λ other. Keeps move (store first array index value) (store second other number value)) e
        (subst (λ number. Keeps move (store first array index value) (store second array number value)) f (store_keeps first second array index value))
    write_keeps place at (Variable variable) (FieldOf other number) value none = absurd none
    write_keeps place at (Variable variable) (Cell other number second) value none = absurd none
    write_keeps place at (FieldOf object field) (Variable other) value none = absurd none
    write_keeps place at (FieldOf object field) (Cell other number second) value none = absurd none
    write_keeps place at (Cell array index first) (Variable other) value none = absurd none
    write_keeps place at (Cell array index first) (FieldOf other number) value none = absurd none

  pub target_itself : (target : Target) → SameTarget move target target
  target_itself (Variable variable) = refl
  target_itself (FieldOf object field) = (refl, refl)
  target_itself (Cell array index place) = (refl, refl)
