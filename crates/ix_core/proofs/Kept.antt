-- What each state of a run keeps: references to objects that are there, and ints.
use Rattle.std.specs.Prelude.{◌≡◌, ℕ, ◌+◌, ◌-◌, ◌<◌, ◌≤◌, ◌==◌, nat_lt, ℤ, pos, negsuc, int_le, unsigned_abs, Bool, true, false, if◌then◌else◌, List, [], ◌∷◌, ◌++◌, length, map, replicate, slice_set, unwrap_or, All, Option, Some, None, refl}
use Rattle.std.proofs.Common.{arith, sym, ap, ◌∙◌, subst}
use Rattle.std.proofs.lemmas.Bool.{and_parts, false≢true}
use Rattle.std.proofs.lemmas.Bool.Decides.{nat_tests}
use Rattle.std.proofs.lemmas.Int.{ints}
use Rattle.std.proofs.lemmas.List.{set_past, length-map, length-replicate, length-append}
use Rattle.std.proofs.lemmas.List.Elements.{All-nil, All-cons, All-append, All-get_or, All-replicate, All-map}
use Rattle.std.proofs.lemmas.Option.{slice_get_past}
use Rattle.ix_num.specs.Ints.{IsInt, least_int, greatest_int}
use Rattle.ix_num.specs.Arithmetic.{exact_of, wrap_of}
use Rattle.ix_num.proofs.RowsInclude.{wrap_is_int}
use Rattle.ix_core.specs.declared.claim.Base.{Base}
use Rattle.ix_core.specs.declared.claim.Base.TheVariants as base
use Rattle.ix_core.specs.declared.claim.Type_.{Type_}
use Rattle.ix_core.specs.declared.claim.Type_.TheVariants as type
use Rattle.ix_core.specs.declared.fact.Path.{Path}
use Rattle.ix_core.specs.declared.fact.Path.TheVariants.{Slot, FieldOf}
use Rattle.ix_core.specs.declared.op.Literal.TheVariants as literal
use Rattle.ix_core.specs.declared.op.OpKind.{OpKind}
use Rattle.ix_core.specs.declared.op.OpKind.TheVariants as op
use Rattle.ix_core.specs.declared.program.Method.{Method}
use Rattle.ix_core.specs.Heap.{Held, Num, Boolean, Null, At, Object, Heap, Kind, ObjectOf, ArrayOf, nothing, value_at, object_at, array_at, array_cells, Places, place_in, cell_of, int_of, default_of_base, cell_default, cells_used, is_within, with_cells, write_at}
use Rattle.ix_core.specs.Machine.{Limits, HeapFull, Effect, Done, Wrapped, Stopped, is_past, is_int, int_at, unary_of, assign_length, assign_int, assign_result, through, at_place, allocate, new_array, operate, slots_with}
use Rattle.ix_core.specs.Numbers.{HasInts, field_of, held_at}
use Rattle.ix_core.specs.Objects.{IsOn, AllOn, IsIntHeld, KeepsInts, IntsOnly, HeapKeeps, FrameKeeps}
use Rattle.ix_core.specs.Safe.{Input, Whole, Flag, Ints, AreInts, HaveTypes, input_values, input_heap}
use Rattle.ix_core.specs.Tables.{Tables}
use Rattle.ix_core.specs.World.{World}
use Rattle.ix_core.proofs.Cases.{by_test, equal, differ}
use Rattle.ix_core.proofs.Heaps.{value_is, object_is, set_keeps, grown_old, grown_new, object_set, object_other, cells_length}
use Rattle.ix_core.proofs.Entered.{free_on}

pub int_is : (n : ℤ) → is_int n ≡ true → IsInt n
int_is n e =
    let both = and_parts (int_le least_int n) (int_le n greatest_int) e in
    let a = both.0 in
    let b = both.1 in
    record { from = omega (arith, ints, a, b); to = omega (arith, ints, a, b) }

-- ---- no reference to nowhere

this_on : (heap : Heap) (held : Held) → ((object : ℕ) → held ≡ At object → object < length heap) → IsOn heap held
this_on heap (At number) on = on number refl
this_on heap (Num n) on = tt
this_on heap (Boolean answer) on = tt
this_on heap Null on = tt

pub all_on : (world : World) (building : ℕ → Type 0) (method : Method) (slots : List Held) (heap : Heap) → HeapKeeps world building heap → FrameKeeps building method slots heap → AllOn slots heap
all_on world building method slots heap kept frame = record {
  held = λ slot.
      by_test method.constructor
      (λ t.
      by_test (slot == 0)
      (λ u. subst (λ s. IsOn heap (value_at slots s)) (sym (equal slot 0 u)) (this_on heap (value_at slots 0) (λ object e. kept.bound object (frame.this t object e))))
      (λ u. free_on building heap (value_at slots slot) (frame.free slot (λ own. let i : slot ≡ 0 = own.1 in absurd (differ slot 0 u i)))))
      (λ t. free_on building heap (value_at slots slot) (frame.free slot (λ own. absurd (false≢true (sym t ∙ own.0)))));
  within = λ number place. free_on building heap (value_at (object_at heap number).cells place) (kept.free number place);
}

-- ---- numbers that are ints

zero_is_int : IsInt (pos 0)
zero_is_int = record { from = omega (arith, ints); to = omega (arith, ints) }

int_of_is : (held : Held) → IsIntHeld held → IsInt (int_of held)
int_of_is (Num n) int = int
int_of_is (Boolean answer) int = zero_is_int
int_of_is Null int = zero_is_int
int_of_is (At number) int = zero_is_int

cell_int : (cells : List Held) (at : Option ℕ) → ((k : ℕ) → IsIntHeld (value_at cells k)) → IsIntHeld (cell_of cells at)
cell_int cells None int = tt
cell_int cells (Some at) int = int at

array_int : (kind : Kind) (cells : List Held) (k : ℕ) → IsIntHeld (value_at cells k) → IsIntHeld (value_at (array_cells kind cells) k)
array_int (ObjectOf class) cells k int = record { from = omega (arith, ints); to = omega (arith, ints) }
array_int (ArrayOf ty) cells k int = int

field_int : (place : Places) (slots : List Held) (heap : Heap) → KeepsInts slots heap → (f : ℕ) (held : Held) → IsIntHeld (field_of place heap f held)
field_int place slots heap keeps f (Num n) = tt
field_int place slots heap keeps f (Boolean answer) = tt
field_int place slots heap keeps f Null = tt
field_int place slots heap keeps f (At number) = cell_int (object_at heap number).cells (place_in place (object_at heap number).kind f) (keeps.within number)

held_int : (place : Places) (slots : List Held) (heap : Heap) → KeepsInts slots heap → (p : Path) → IsIntHeld (held_at place slots heap p)
held_int place slots heap keeps (Slot s) = keeps.held s
held_int place slots heap keeps (FieldOf s f) = field_int place slots heap keeps f (value_at slots s)

pub has_ints : (place : Places) (slots : List Held) (heap : Heap) → KeepsInts slots heap → HasInts place slots heap
has_ints place slots heap keeps = record {
  from = λ p. (int_of_is (held_at place slots heap p) (held_int place slots heap keeps p)).from;
  to = λ p. (int_of_is (held_at place slots heap p) (held_int place slots heap keeps p)).to;
  sizes = keeps.sizes;
}

-- ---- each operation keeps ints

-- the same of objects
IsIntObject : Object → Type 0
IsIntObject object = ((place : ℕ) → IsIntHeld (value_at object.cells place)) × (length (array_cells object.kind object.cells) ≤ 2147483647)

zero_int : IsIntHeld (Num (pos 0))
zero_int = record { from = omega (arith, ints); to = omega (arith, ints) }

nothing_int : IsIntObject nothing
unfolding IsIntObject
nothing_int = (λ place. zero_int, omega arith)

objects : (slots : List Held) (heap : Heap) → KeepsInts slots heap → (number : ℕ) → IsIntObject (object_at heap number)
unfolding IsIntObject
objects slots heap keeps number = (keeps.within number, keeps.sizes number)

keeps_of : (slots : List Held) (heap : Heap) → ((slot : ℕ) → IsIntHeld (value_at slots slot)) → ((number : ℕ) → IsIntObject (object_at heap number)) → KeepsInts slots heap
unfolding IsIntObject
keeps_of slots heap held all = record { held = held; within = λ number. (all number).0; sizes = λ number. (all number).1 }

grown_keeps : (heap : Heap) (object : Object) → IsIntObject object → ((number : ℕ) → IsIntObject (object_at heap number)) → (number : ℕ) → IsIntObject (object_at (heap ++ object ∷ []) number)
grown_keeps heap object here all number =
    by_test (nat_lt number (length heap))
    (λ t. let h : number < length heap = grind (arith, nat_tests) in subst IsIntObject (sym (grown_old heap object number h)) (all number))
    (λ t.
    by_test (number == length heap)
    (λ u. subst (λ n. IsIntObject (object_at (heap ++ object ∷ []) n)) (sym (equal number (length heap) u)) (subst IsIntObject (sym (grown_new heap object)) here))
    (λ u.
    let a : length heap ≤ number = grind (arith, nat_tests) in
    let b = differ number (length heap) u in
    let c : length (heap ++ object ∷ []) ≡ length heap + 1 = length-append heap (object ∷ []) in
    let h : length (heap ++ object ∷ []) ≤ number = omega (arith, a, b, c) in
    subst IsIntObject (sym (ap (λ o. unwrap_or o nothing) (slice_get_past (heap ++ object ∷ []) number h))) nothing_int))

written_keeps : (heap : Heap) (n : ℕ) (object : Object) → IsIntObject object → ((number : ℕ) → IsIntObject (object_at heap number)) → (number : ℕ) → IsIntObject (object_at (slice_set heap n object) number)
written_keeps heap n object here all number =
    by_test (number == n)
    (λ u.
    by_test (nat_lt n (length heap))
    (λ w. let h : n < length heap = grind (arith, nat_tests) in subst IsIntObject (sym (subst (λ k. object_at (slice_set heap n object) k ≡ object) (sym (equal number n u)) (object_set heap n object h))) here)
    (λ w. let h : length heap ≤ n = grind (arith, nat_tests) in subst (λ l. IsIntObject (object_at l number)) (sym (set_past heap n object h)) (all number)))
    (λ u. subst IsIntObject (sym (object_other heap n number object u)) (all number))

abbrev pub Keeps : Effect → Type 0
Keeps (Done later after) = KeepsInts later after
Keeps (Wrapped later after) = KeepsInts later after
Keeps _ = Unit {0}

if_keeps : (t : Bool) (a b : Effect) → (t ≡ true → Keeps a) → Keeps b → Keeps (if t then a else b)
if_keeps true a b first second = first refl
if_keeps false a b first second = second

base_int : (of : Base) → IsIntHeld (default_of_base of)
base_int base.Int = zero_int
base_int base.Bool = tt
base_int (base.Class class) = tt

null_or : (t : Bool) (of : Base) → IsIntHeld (if t then Null else default_of_base of)
null_or true of = tt
null_or false of = base_int of

default_int : (ty : Type_) → IsIntHeld (cell_default ty)
default_int type.Void = zero_int
default_int (type.Plain of) = zero_int
default_int (type.Array of depth element) = null_or (nat_lt 1 depth) of

all_int : (cells : List Held) → All IsIntHeld cells → (k : ℕ) → IsIntHeld (value_at cells k)
all_int cells all k =
    by_test (nat_lt k (length cells))
    (λ t. let h : k < length cells = grind (arith, nat_tests) in subst IsIntHeld (sym (value_is cells k)) (All-get_or IsIntHeld cells k (Num (pos 0)) h all))
    (λ t. let h : length cells ≤ k = grind (arith, nat_tests) in subst IsIntHeld (sym (ap (λ o. unwrap_or o (Num (pos 0))) (slice_get_past cells k h))) zero_int)

module _ (limits : Limits) (tables : Tables) (at : ℕ) (slots : List Held) (heap : Heap) (keeps : KeepsInts slots heap) where
  through_keeps : (held : Held) (next : ℕ → Effect) → ((number : ℕ) → Keeps (next number)) → Keeps (through limits tables at slots heap held next)
  through_keeps (Num n) next all = tt
  through_keeps (Boolean answer) next all = tt
  through_keeps Null next all = tt
  through_keeps (At number) next all = all number

  place_keeps : (found : Option ℕ) (next : ℕ → Effect) → ((k : ℕ) → Keeps (next k)) → Keeps (at_place limits tables at slots heap found next)
  place_keeps None next all = tt
  place_keeps (Some k) next all = all k

  assigned_keeps : (t : ℕ) (x : Held) → IsIntHeld x → KeepsInts (slice_set slots t x) heap
  assigned_keeps t x int = keeps_of (slice_set slots t x) heap (set_keeps IsIntHeld slots t x int keeps.held) (objects slots heap keeps)

  int_keeps : (t : ℕ) (exact : ℤ) → Keeps (assign_int limits tables at slots heap t exact)
  int_keeps t exact =
      if_keeps (is_int exact) (Done (slice_set slots t (Num exact)) heap) (Wrapped (slice_set slots t (Num (wrap_of exact))) heap)
      (λ e. assigned_keeps t (Num exact) (int_is exact e)) (assigned_keeps t (Num (wrap_of exact)) (wrap_is_int exact))

  result_keeps : (t : ℕ) (exact : Option ℤ) → Keeps (assign_result limits tables at slots heap t exact)
  result_keeps t None = tt
  result_keeps t (Some exact) = int_keeps t exact

  -- a new array
  made_keeps : (t : ℕ) (ty : Type_) (size : ℕ) (cells : List Held) → All IsIntHeld cells → length cells ≤ 2147483647 → Keeps (allocate limits tables at slots heap t ty size cells)
  unfolding IsIntObject
  made_keeps t ty size cells int short =
      if_keeps (is_past limits.cells (cells_used heap + (size + 1))) (Stopped (HeapFull at)) (Done (slice_set slots t (At (length heap))) (heap ++ record { kind = ArrayOf ty; cells = cells } ∷ [])) (λ e. tt)
      (keeps_of (slice_set slots t (At (length heap))) (heap ++ record { kind = ArrayOf ty; cells = cells } ∷ []) (set_keeps IsIntHeld slots t (At (length heap)) tt keeps.held)
      (grown_keeps heap (record { kind = ArrayOf ty; cells = cells }) (all_int cells int, short) (objects slots heap keeps)))

  new_keeps : (t : ℕ) (ty : Type_) (n : ℤ) → IsInt n → Keeps (new_array limits tables at slots heap t ty n)
  new_keeps t ty (negsuc n) int = tt
  new_keeps t ty (pos size) int =
      let short : size ≤ 2147483647 = omega (arith, ints, int.to) in
      made_keeps t ty size (replicate size (cell_default ty)) (All-replicate IsIntHeld size (cell_default ty) (default_int ty)) (rw (length-replicate size (cell_default ty)) short)

  fill_keeps : (t : ℕ) (ty : Type_) (entries : List ℕ) → length entries ≤ 2147483647 → Keeps (allocate limits tables at slots heap t ty (length entries) (map (value_at slots) entries))
  fill_keeps t ty entries short =
      made_keeps t ty (length entries) (map (value_at slots) entries) (All-map IsIntHeld (value_at slots) entries (λ k d h. keeps.held _)) (rw (length-map entries (value_at slots)) short)

  write_keeps : (number k v : ℕ) → KeepsInts slots (write_at heap number k (value_at slots v))
  unfolding IsIntObject
  write_keeps number k v =
      let object = object_at heap number in
      let long : length (array_cells object.kind (slice_set object.cells k (value_at slots v))) ≤ 2147483647 = rw (cells_length object.kind object.cells k (value_at slots v)) (keeps.sizes number) in
      keeps_of slots (write_at heap number k (value_at slots v)) keeps.held
      (written_keeps heap number (with_cells object (slice_set object.cells k (value_at slots v))) (set_keeps IsIntHeld object.cells k (value_at slots v) (keeps.held v) (keeps.within number), long) (objects slots heap keeps))

  length_keeps : (t : ℕ) (held : Held) → Keeps (assign_length limits tables at slots heap t held)
  length_keeps t (Num n) = assigned_keeps t (Num (pos 0)) record { from = omega (arith, ints); to = omega (arith, ints) }
  length_keeps t (Boolean answer) = assigned_keeps t (Num (pos 0)) record { from = omega (arith, ints); to = omega (arith, ints) }
  length_keeps t Null = tt
  length_keeps t (At number) =
      let h = keeps.sizes number in
      assigned_keeps t (Num (pos (length (array_at heap number)))) record { from = omega (arith, ints); to = omega (arith, ints) }

  pub operate_keeps : (kind : OpKind) → IntsOnly kind → Keeps (operate limits tables at slots heap kind)
  operate_keeps (op.Const t (literal.Int n)) only = assigned_keeps t (Num n) only
  operate_keeps (op.Const t (literal.Bool answer)) only = assigned_keeps t (Boolean answer) tt
  operate_keeps (op.Const t (literal.NullOf ty)) only = assigned_keeps t Null tt
  operate_keeps (op.Copy t s ty) only = assigned_keeps t (value_at slots s) (keeps.held s)
  operate_keeps (op.Num t arith_op y z) only = result_keeps t (exact_of arith_op (int_at slots y) (int_at slots z))
  operate_keeps (op.Unary t unary y) only = int_keeps t (unary_of unary (int_at slots y))
  operate_keeps (op.Length t a) only = length_keeps t (value_at slots a)
  operate_keeps (op.NewArray t ty n) only = new_keeps t ty (int_at slots n) (int_of_is (value_at slots n) (keeps.held n))
  operate_keeps (op.Fill t ty entries) only = fill_keeps t ty entries only
  operate_keeps (op.Load t a i ty) only =
      through_keeps (value_at slots a) _ (λ number. if_keeps (is_within (int_at slots i) (length (array_at heap number))) _ _
      (λ e. assigned_keeps t (value_at (array_at heap number) (unsigned_abs (int_at slots i))) (array_int (object_at heap number).kind (object_at heap number).cells (unsigned_abs (int_at slots i)) (keeps.within number (unsigned_abs (int_at slots i))))) tt)
  operate_keeps (op.Store a i v ty) only =
      through_keeps (value_at slots a) _ (λ number. if_keeps (is_within (int_at slots i) (length (array_at heap number))) _ _ (λ e. write_keeps number (unsigned_abs (int_at slots i)) v) tt)
  operate_keeps (op.ReadField t o f) only =
      through_keeps (value_at slots o) _ (λ number. place_keeps (place_in tables.place (object_at heap number).kind f) _ (λ k. assigned_keeps t (value_at (object_at heap number).cells k) (keeps.within number k)))
  operate_keeps (op.WriteField o f v) only =
      through_keeps (value_at slots o) _ (λ number. place_keeps (place_in tables.place (object_at heap number).kind f) _ (λ k. write_keeps number k v))
  operate_keeps (op.Print value) only = tt
  operate_keeps (op.NewObject call) only = tt
  operate_keeps (op.StaticCall call) only = tt
  operate_keeps (op.InstanceCall call) only = tt
  operate_keeps (op.SuperCall call) only = tt

  pub done_keeps : (kind : OpKind) (later : List Held) (after : Heap) → IntsOnly kind → operate limits tables at slots heap kind ≡ Done later after → KeepsInts later after
  done_keeps kind later after only e = subst Keeps e (operate_keeps kind only)

  pub wrapped_keeps : (kind : OpKind) (later : List Held) (after : Heap) → IntsOnly kind → operate limits tables at slots heap kind ≡ Wrapped later after → KeepsInts later after
  wrapped_keeps kind later after only e = subst Keeps e (operate_keeps kind only)

-- ---- the start of a run

values_int : (number : ℕ) (inputs : List Input) (types : List Type_) → HaveTypes inputs types → All IsIntHeld (input_values number inputs)
values_int number [] types typed = All-nil IsIntHeld
values_int number (Whole n ∷ inputs) (type.Plain base.Int ∷ types) typed =
    All-cons IsIntHeld (Num n) (input_values number inputs) (typed.0) (values_int number inputs types typed.1)
values_int number (Whole n ∷ inputs) (type.Plain base.Bool ∷ types) typed = absurd typed.0
values_int number (Whole n ∷ inputs) (type.Plain (base.Class class) ∷ types) typed = absurd typed.0
values_int number (Whole n ∷ inputs) (type.Void ∷ types) typed = absurd typed.0
values_int number (Whole n ∷ inputs) (type.Array of depth element ∷ types) typed = absurd typed.0
values_int number (Flag answer ∷ inputs) (ty ∷ types) typed = All-cons IsIntHeld (Boolean answer) (input_values number inputs) tt (values_int number inputs types typed.1)
values_int number (Ints ns ∷ inputs) (ty ∷ types) typed = All-cons IsIntHeld (At number) (input_values (number + 1) inputs) tt (values_int (number + 1) inputs types typed.1)
values_int number (Whole n ∷ inputs) [] typed = absurd typed
values_int number (Flag answer ∷ inputs) [] typed = absurd typed
values_int number (Ints ns ∷ inputs) [] typed = absurd typed

cells_int : (ns : List ℤ) → AreInts ns → All IsIntHeld (map Num ns)
cells_int [] are = All-nil IsIntHeld
cells_int (n ∷ ns) are = All-cons IsIntHeld (Num n) (map Num ns) (are.0) (cells_int ns are.1)

input_object : (ns : List ℤ) (ty : Type_) → AreInts ns → length ns ≤ 2147483647 → IsIntObject (record { kind = ArrayOf ty; cells = map Num ns })
unfolding IsIntObject
input_object ns ty are short = (all_int (map Num ns) (cells_int ns are), rw (length-map ns Num) short)

heap_int : (inputs : List Input) (types : List Type_) → HaveTypes inputs types → All IsIntObject (input_heap inputs types)
heap_int [] types typed = All-nil IsIntObject
heap_int (Whole n ∷ inputs) (ty ∷ types) typed = heap_int inputs types typed.1
heap_int (Flag answer ∷ inputs) (ty ∷ types) typed = heap_int inputs types typed.1
heap_int (Ints ns ∷ inputs) (type.Array base.Int depth element ∷ types) typed =
    All-cons IsIntObject (record { kind = ArrayOf (type.Array base.Int depth element); cells = map Num ns }) (input_heap inputs types) (input_object ns (type.Array base.Int depth element) typed.0.1 typed.0.2) (heap_int inputs types typed.1)
heap_int (Ints ns ∷ inputs) (type.Array base.Bool depth element ∷ types) typed = absurd typed.0
heap_int (Ints ns ∷ inputs) (type.Array (base.Class class) depth element ∷ types) typed = absurd typed.0
heap_int (Ints ns ∷ inputs) (type.Plain of ∷ types) typed = absurd typed.0
heap_int (Ints ns ∷ inputs) (type.Void ∷ types) typed = absurd typed.0
heap_int (Whole n ∷ inputs) [] typed = absurd typed
heap_int (Flag answer ∷ inputs) [] typed = absurd typed
heap_int (Ints ns ∷ inputs) [] typed = absurd typed

objects_int : (heap : Heap) → All IsIntObject heap → (k : ℕ) → IsIntObject (object_at heap k)
objects_int heap all k =
    by_test (nat_lt k (length heap))
    (λ t. let h : k < length heap = grind (arith, nat_tests) in subst IsIntObject (sym (object_is heap k)) (All-get_or IsIntObject heap k nothing h all))
    (λ t. let h : length heap ≤ k = grind (arith, nat_tests) in subst IsIntObject (sym (ap (λ o. unwrap_or o nothing) (slice_get_past heap k h))) nothing_int)

pub start_keeps : (count : ℕ) (inputs : List Input) (types : List Type_) → HaveTypes inputs types → KeepsInts (slots_with count (input_values 0 inputs)) (input_heap inputs types)
start_keeps count inputs types typed =
    let values = input_values 0 inputs in
    keeps_of (slots_with count values) (input_heap inputs types)
    (all_int (slots_with count values) (All-append IsIntHeld values (replicate (count - length values) (Num (pos 0))) (values_int 0 inputs types typed) (All-replicate IsIntHeld (count - length values) (Num (pos 0)) zero_int)))
    (objects_int (input_heap inputs types) (heap_int inputs types typed))
