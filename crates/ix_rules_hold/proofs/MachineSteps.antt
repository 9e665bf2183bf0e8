-- What an operation of the machine does to the numbers of paths.
use Rattle.std.specs.Prelude.{◌≡◌, ℕ, ◌+◌, ◌<◌, ℤ, pos, negsuc, int_le, unsigned_abs, Bool, true, false, if◌then◌else◌, List, [], ◌∷◌, ◌++◌, length, map, replicate, slice_set, Option, Some, None, refl}
use Rattle.std.proofs.Common.{arith, sym, ap, ◌∙◌, subst}
use Rattle.std.proofs.lemmas.Bool.{and_parts, false≢true}
use Rattle.std.proofs.lemmas.Int.{ints}
use Rattle.std.proofs.lemmas.List.{length-map, length-replicate}
use Rattle.ix_num.specs.declared.arith.Arith.{Arith}
use Rattle.ix_num.specs.Arithmetic.{exact_of, wrap_of}
use Rattle.ix_num.proofs.OpRangeLaws.{wrap_of_int}
use Rattle.ix_core.specs.declared.claim.Type_.{Type_}
use Rattle.ix_core.specs.declared.fact.Path.{Path}
use Rattle.ix_core.specs.declared.fact.Path.TheVariants.{Slot, FieldOf}
use Rattle.ix_core.specs.declared.fact.Profile.{Profile}
use Rattle.ix_core.specs.declared.fact.Profile.TheVariants.{Ideal, Int32}
use Rattle.ix_core.specs.declared.op.Literal.{Literal}
use Rattle.ix_core.specs.declared.op.Literal.TheVariants as literal
use Rattle.ix_core.specs.declared.op.Op.{Op}
use Rattle.ix_core.specs.declared.op.OpKind.{OpKind}
use Rattle.ix_core.specs.declared.op.OpKind.TheVariants as op
use Rattle.ix_core.specs.declared.op.UnaryNum.{UnaryNum}
use Rattle.ix_core.specs.Claims.{AreTrueOf}
use Rattle.ix_core.specs.Code.{Code, Do}
use Rattle.ix_core.specs.Heap.{Held, Num, Boolean, Null, At, Object, Heap, Kind, ObjectOf, ArrayOf, value_at, object_at, array_at, array_cells, Places, place_in, cell_of, field_value, int_of, size_of, cell_default, cells_used, is_within, with_cells, write_at}
use Rattle.ix_core.specs.Machine.{Limits, Ending, Outside, Effect, Done, Wrapped, Stopped, State, is_past, is_int, int_at, unary_of, assign, assign_length, assign_int, assign_result, through, at_array, at_index, at_place, allocate, new_array, operate, effect_then, step_tasks, step_from, step, moved}
use Rattle.ix_core.specs.Numbers.{Numbers, HasInts, field_of, held_at, numbers_of}
use Rattle.ix_core.specs.Objects.{IsOn, AllOn}
use Rattle.ix_core.specs.Tables.{Tables}
use Rattle.ix_core.specs.Tasks.{Tasks, Run, code_then}
use Rattle.ix_core.proofs.Heaps.{value_set, value_other, grown_old, grown_new, cells_length, written_same}
use Rattle.ix_core.proofs.Kept.{int_is}
use Rattle.ix_facts.specs.Forget.{of_slot}
use Rattle.ix_facts.specs.AfterOperation.{Computed, Results, loaded_claims}
use Rattle.ix_facts.specs.After.{of_target, Step}
use Rattle.ix_rules_hold.specs.MachineSteps.{HasTarget, LoadsMet}

-- ---- what a path holds after an assignment

pub kept_held : (place : Places) (slots : List Held) (heap : Heap) (t : ℕ) (x : Held) (p : Path) → of_slot t p ≡ false → held_at place (slice_set slots t x) heap p ≡ held_at place slots heap p
kept_held place slots heap t x (Slot s) e = value_other slots t s x e
kept_held place slots heap t x (FieldOf s f) e = ap (field_of place heap f) (value_other slots t s x e)

-- the numbers of a path that holds the same in the same heap
Stays : (place : Places) (slots : List Held) (heap : Heap) (later : List Held) (after : Heap) (p : Path) → Type 0
Stays place slots heap later after p =
    (int_of (held_at place later after p) ≡ int_of (held_at place slots heap p)) × (size_of after (held_at place later after p) ≡ size_of heap (held_at place slots heap p))

assigned_stays : (place : Places) (slots : List Held) (heap : Heap) (t : ℕ) (x : Held) (p : Path) → of_slot t p ≡ false → Stays place slots heap (slice_set slots t x) heap p
unfolding Stays
assigned_stays place slots heap t x p e = (ap int_of (kept_held place slots heap t x p e), ap (size_of heap) (kept_held place slots heap t x p e))

-- ---- numbers in a heap that grew

module _ (heap : Heap) (object : Object) where
  grown_size : (held : Held) → IsOn heap held → size_of (heap ++ object ∷ []) held ≡ size_of heap held
  grown_size (Num n) on = refl
  grown_size (Boolean answer) on = refl
  grown_size Null on = refl
  grown_size (At k) on = ap (λ th. pos (length (array_cells th.kind th.cells))) (grown_old heap object k on)

  grown_field : (place : Places) (f : ℕ) (held : Held) → IsOn heap held → field_of place (heap ++ object ∷ []) f held ≡ field_of place heap f held
  grown_field place f (Num n) on = refl
  grown_field place f (Boolean answer) on = refl
  grown_field place f Null on = refl
  grown_field place f (At k) on = ap (λ th. cell_of th.cells (place_in place th.kind f)) (grown_old heap object k on)

cell_on : (heap : Heap) (cells : List Held) (at : Option ℕ) → ((k : ℕ) → IsOn heap (value_at cells k)) → IsOn heap (cell_of cells at)
cell_on heap cells None on = tt
cell_on heap cells (Some at) on = on at

field_on : (place : Places) (slots : List Held) (heap : Heap) → AllOn slots heap → (f : ℕ) (held : Held) → IsOn heap (field_of place heap f held)
field_on place slots heap all f (Num n) = tt
field_on place slots heap all f (Boolean answer) = tt
field_on place slots heap all f Null = tt
field_on place slots heap all f (At k) = cell_on heap (object_at heap k).cells (place_in place (object_at heap k).kind f) (all.within k)

held_on : (place : Places) (slots : List Held) (heap : Heap) → AllOn slots heap → (p : Path) → IsOn heap (held_at place slots heap p)
held_on place slots heap all (Slot s) = all.held s
held_on place slots heap all (FieldOf s f) = field_on place slots heap all f (value_at slots s)

grown_held : (place : Places) (slots : List Held) (heap : Heap) (object : Object) → AllOn slots heap → (p : Path) → held_at place slots (heap ++ object ∷ []) p ≡ held_at place slots heap p
grown_held place slots heap object all (Slot s) = refl
grown_held place slots heap object all (FieldOf s f) = grown_field heap object place f (value_at slots s) (all.held s)

made_stays : (place : Places) (slots : List Held) (heap : Heap) (object : Object) (t : ℕ) (x : Held) → AllOn slots heap → (p : Path) → of_slot t p ≡ false → Stays place slots heap (slice_set slots t x) (heap ++ object ∷ []) p
unfolding Stays
made_stays place slots heap object t x all p e =
    let same = kept_held place slots (heap ++ object ∷ []) t x p e ∙ grown_held place slots heap object all p in
    let on = held_on place slots heap all p in
    (ap int_of same, ap (size_of (heap ++ object ∷ [])) same ∙ grown_size heap object (held_at place slots heap p) on)

-- ---- numbers in a heap where a cell of an array was written

fields_same : (place : Places) (f : ℕ) (kind : Kind) (cells : List Held) (index : ℤ) (k : ℕ) (x : Held) → is_within index (length (array_cells kind cells)) ≡ true
    → cell_of (slice_set cells k x) (place_in place kind f) ≡ cell_of cells (place_in place kind f)
fields_same place f (ObjectOf class) cells index k x e = let both = and_parts (int_le (pos 0) index) (Rattle.std.specs.Prelude.int_lt index (pos 0)) e in let a = both.0 in let b = both.1 in absurd (omega (arith, ints, a, b))
fields_same place f (ArrayOf ty) cells index k x e = refl

module _ (heap after : Heap) (sizes : (k : ℕ) → length (array_at after k) ≡ length (array_at heap k)) (place : Places) (fields : (k f : ℕ) → field_value place after k f ≡ field_value place heap k f) where
  same_size : (held : Held) → size_of after held ≡ size_of heap held
  same_size (Num n) = refl
  same_size (Boolean answer) = refl
  same_size Null = refl
  same_size (At k) = ap pos (sizes k)

  same_field : (f : ℕ) (held : Held) → field_of place after f held ≡ field_of place heap f held
  same_field f (Num n) = refl
  same_field f (Boolean answer) = refl
  same_field f Null = refl
  same_field f (At k) = fields k f

  same_held : (slots : List Held) (p : Path) → held_at place slots after p ≡ held_at place slots heap p
  same_held slots (Slot s) = refl
  same_held slots (FieldOf s f) = same_field f (value_at slots s)

  same_stays : (slots : List Held) (p : Path) → Stays place slots heap slots after p
  unfolding Stays
  same_stays slots p =
      (ap int_of (same_held slots p), ap (size_of after) (same_held slots p) ∙ same_size (held_at place slots heap p))

stored_stays : (place : Places) (slots : List Held) (heap : Heap) (number k : ℕ) (index : ℤ) (x : Held) → is_within index (length (array_at heap number)) ≡ true → (p : Path) → Stays place slots heap slots (write_at heap number k x) p
stored_stays place slots heap number k index x e =
    let object = object_at heap number in
    let new : Object = with_cells object (slice_set object.cells k x) in
    same_stays heap (write_at heap number k x)
    (written_same (λ th. length (array_cells th.kind th.cells)) heap number new (cells_length object.kind object.cells k x))
    place (λ j f. written_same (λ th. cell_of th.cells (place_in place th.kind f)) heap number new (fields_same place f object.kind object.cells index k x e) j)
    slots

-- ---- what was done

module _ (later : List Held) (after : Heap) where
  pub of_done : (slots : List Held) (heap : Heap) → Done slots heap ≡ Done later after → (slots ≡ later) × (heap ≡ after)
  of_done slots heap e = (cc, cc)

  of_within : (t : Bool) (effect : Effect) (ending : Ending) → (if t then effect else Stopped ending) ≡ Done later after → (t ≡ true) × (effect ≡ Done later after)
  of_within true effect ending e = (refl, e)
  of_within false effect ending e = absurd cc

  of_limit : (t : Bool) (effect : Effect) (ending : Ending) → (if t then Stopped ending else effect) ≡ Done later after → effect ≡ Done later after
  of_limit true effect ending e = absurd cc
  of_limit false effect ending e = e

  of_kept : (t : Bool) (slots others : List Held) (heap : Heap) → (if t then Done slots heap else Wrapped others heap) ≡ Done later after → (t ≡ true) × (slots ≡ later) × (heap ≡ after)
  of_kept true slots others heap e = (refl, cc, cc)
  of_kept false slots others heap e = absurd cc

  module _ (limits : Limits) (tables : Tables) (at : ℕ) (slots : List Held) (heap : Heap) where
    pub of_through : (held : Held) (next : ℕ → Effect) → through limits tables at slots heap held next ≡ Done later after → (number : ℕ) × (held ≡ At number) × (next number ≡ Done later after)
    of_through (Num n) next e = absurd cc
    of_through (Boolean answer) next e = absurd cc
    of_through Null next e = absurd cc
    of_through (At number) next e = (number, refl, e)

    of_array : (slot : ℕ) (next : ℕ → List Held → Effect) → at_array limits tables at slots heap slot next ≡ Done later after
        → (number : ℕ) × (value_at slots slot ≡ At number) × (next number (array_at heap number) ≡ Done later after)
    of_array slot next e = of_through (value_at slots slot) (λ number. next number (array_at heap number)) e

    of_length : (t : ℕ) (held : Held) → assign_length limits tables at slots heap t held ≡ Done later after → assign limits tables at slots heap t (Num (size_of heap held)) ≡ Done later after
    of_length t (Num n) e = e
    of_length t (Boolean answer) e = e
    of_length t Null e = absurd cc
    of_length t (At number) e = e

    of_index : (index : ℤ) (cells : List Held) (next : ℕ → Effect) → at_index limits tables at slots heap index cells next ≡ Done later after
        → (is_within index (length cells) ≡ true) × (next (unsigned_abs index) ≡ Done later after)
    of_index index cells next e = of_within (is_within index (length cells)) (next (unsigned_abs index)) (Outside index (pos (length cells)) at) e

-- ---- the results

module _ (place : Places) (slots : List Held) (heap : Heap) where
  -- the target holds the value, and all else stays
  module _ (profile : Profile) (kind : OpKind) (before : HasInts place slots heap) (later : List Held) (after : Heap) (behind : HasInts place later after) where
    step_of : ((p : Path) → of_target kind p ≡ false → Stays place slots heap later after p) → Results profile kind (numbers_of place slots heap before) (numbers_of place later after behind)
        → Step profile kind (numbers_of place slots heap before) (numbers_of place later after behind)
    unfolding Stays
    step_of stays results = record { others = stays; results = results }

  -- an assignment, in the heap as it was
  assigned : (t : ℕ) (x : Held) (later : List Held) (after : Heap) → slice_set slots t x ≡ later → heap ≡ after → (p : Path) → of_slot t p ≡ false → Stays place slots heap later after p
  assigned t x later after e f p h = subst (λ l. Stays place slots heap l after p) e (subst (λ a. Stays place slots heap (slice_set slots t x) a p) f (assigned_stays place slots heap t x p h))

  -- the target's number
  target_is : (t : ℕ) (x : Held) (later : List Held) → t < length slots → slice_set slots t x ≡ later → value_at later t ≡ x
  target_is t x later h e = subst (λ l. value_at l t ≡ x) e (value_set slots t x h)

  -- an array that was made
  module _ (object : Object) (t : ℕ) (later : List Held) (after : Heap) (e : slice_set slots t (At (length heap)) ≡ later) (f : (heap ++ object ∷ []) ≡ after) where
    made : AllOn slots heap → (p : Path) → of_slot t p ≡ false → Stays place slots heap later after p
    made all p h = subst (λ l. Stays place slots heap l after p) e (subst (λ a. Stays place slots heap (slice_set slots t (At (length heap))) a p) f (made_stays place slots heap object t (At (length heap)) all p h))

    made_size : t < length slots → size_of after (value_at later t) ≡ pos (length (array_cells object.kind object.cells))
    made_size h =
        ap (size_of after) (target_is t (At (length heap)) later h e)
        ∙ subst (λ a. size_of a (At (length heap)) ≡ pos (length (array_cells object.kind object.cells))) f (ap (λ th. pos (length (array_cells th.kind th.cells))) (grown_new heap object))

value_kept : (profile : Profile) (exact : Option ℤ) (n : ℤ) (value : ℤ) → exact ≡ Some n → is_int n ≡ true → value ≡ n → Computed profile exact value
value_kept profile exact n value e i v = record { result = n; is = e; kept = v ∙ sym (wrap_of_int n (int_is n i)); unwrapped = λ p. int_is n i }

module _ (profile : Profile) (limits : Limits) (tables : Tables) (at : ℕ) (slots : List Held) (heap : Heap) (later : List Held) (after : Heap) (before : HasInts tables.place slots heap) (behind : HasInts tables.place later after) where
  IsStep : OpKind → Type 0
  IsStep kind = Step profile kind (numbers_of tables.place slots heap before) (numbers_of tables.place later after behind)

  Does : OpKind → Type 0
  Does kind = operate limits tables at slots heap kind ≡ Done later after

  stays_of : (kind : OpKind) → ((p : Path) → of_target kind p ≡ false → Stays tables.place slots heap later after p) → Results profile kind (numbers_of tables.place slots heap before) (numbers_of tables.place later after behind) → IsStep kind
  unfolding IsStep
  stays_of kind = step_of tables.place slots heap profile kind before later after behind

  -- an operation whose rules are others may change all
  free : (kind : OpKind) → ((p : Path) → of_target kind p ≡ true) → Results profile kind (numbers_of tables.place slots heap before) (numbers_of tables.place later after behind) → IsStep kind
  free kind all results = stays_of kind (λ p e. absurd (false≢true (sym e ∙ all p))) results

  -- the target holds the value, in the heap as it was
  module _ (t : ℕ) (h : t < length slots) (x : Held) (e : Done (slice_set slots t x) heap ≡ Done later after) where
    others_stay : (p : Path) → of_slot t p ≡ false → Stays tables.place slots heap later after p
    others_stay = let d = of_done later after _ _ e in assigned tables.place slots heap t x later after d.0 d.1

    target_holds : value_at later t ≡ x
    target_holds = let d = of_done later after _ _ e in target_is tables.place slots heap t x later h d.0

    target_size : size_of after (value_at later t) ≡ size_of heap x
    target_size = let d = of_done later after _ _ e in subst (λ a. size_of a (value_at later t) ≡ size_of heap x) d.1 (ap (size_of heap) target_holds)

  const_step : (t : ℕ) (value : Literal) → t < length slots → Does (op.Const t value) → IsStep (op.Const t value)
  unfolding Does
  const_step t (literal.Int n) h e = stays_of (op.Const t (literal.Int n)) (others_stay t h (Num n) e) (ap int_of (target_holds t h (Num n) e))
  const_step t (literal.Bool answer) h e = stays_of (op.Const t (literal.Bool answer)) (others_stay t h (Boolean answer) e) tt
  const_step t (literal.NullOf ty) h e = stays_of (op.Const t (literal.NullOf ty)) (others_stay t h Null e) (target_size t h Null e)

  copy_step : (t s : ℕ) (ty : Type_) → t < length slots → Does (op.Copy t s ty) → IsStep (op.Copy t s ty)
  unfolding Does
  copy_step t s ty h e = stays_of (op.Copy t s ty) (others_stay t h (value_at slots s) e) (ap int_of (target_holds t h (value_at slots s) e), target_size t h (value_at slots s) e)

  -- a result that is an int
  int_done : (kind : OpKind) (t : ℕ) (exact : ℤ) → t < length slots → assign_int limits tables at slots heap t exact ≡ Done later after → ((p : Path) → of_target kind p ≡ false → of_slot t p ≡ false)
      → ((Computed profile (Some exact) (int_of (value_at later t))) → Results profile kind (numbers_of tables.place slots heap before) (numbers_of tables.place later after behind)) → IsStep kind
  int_done kind t exact h e of results =
      let d = of_kept later after (is_int exact) _ _ _ e in
      let same : Done (slice_set slots t (Num exact)) heap ≡ Done later after = rw (d.1, d.2) refl in
      stays_of kind (λ p n. others_stay t h (Num exact) same p (of p n)) (results (value_kept profile (Some exact) exact (int_of (value_at later t)) refl d.0 (ap int_of (target_holds t h (Num exact) same))))

  result_done : (t : ℕ) (arith_op : Arith) (y z : ℕ) (exact : Option ℤ) → t < length slots → exact_of arith_op (int_at slots y) (int_at slots z) ≡ exact → assign_result limits tables at slots heap t exact ≡ Done later after
      → IsStep (op.Num t arith_op y z)
  result_done t arith_op y z None h same e = absurd cc
  result_done t arith_op y z (Some exact) h same e = int_done (op.Num t arith_op y z) t exact h e (λ p n. n) (λ c. rw same c)

  num_step : (t : ℕ) (arith_op : Arith) (y z : ℕ) → t < length slots → Does (op.Num t arith_op y z) → IsStep (op.Num t arith_op y z)
  unfolding Does
  num_step t arith_op y z h e = result_done t arith_op y z (exact_of arith_op (int_at slots y) (int_at slots z)) h refl e

  unary_step : (t : ℕ) (unary : UnaryNum) (y : ℕ) → t < length slots → Does (op.Unary t unary y) → IsStep (op.Unary t unary y)
  unfolding Does
  unary_step t unary y h e = int_done (op.Unary t unary y) t (unary_of unary (int_at slots y)) h e (λ p n. n) (λ c. c)

  length_step : (t a : ℕ) → t < length slots → Does (op.Length t a) → IsStep (op.Length t a)
  unfolding Does
  length_step t a h e =
      let size : Held = Num (size_of heap (value_at slots a)) in
      let x = of_length later after limits tables at slots heap t (value_at slots a) e in
      stays_of (op.Length t a) (others_stay t h size x) (ap int_of (target_holds t h size x))

  -- a new array's length is the number that was asked for
  module _ (t : ℕ) (ty : Type_) (size : ℕ) (cells : List Held) (h : t < length slots) (all : AllOn slots heap) (e : allocate limits tables at slots heap t ty size cells ≡ Done later after) where
    done_new : (slice_set slots t (At (length heap)) ≡ later) × ((heap ++ record { kind = ArrayOf ty; cells = cells } ∷ []) ≡ after)
    done_new = of_done later after _ _ (of_limit later after (is_past limits.cells (cells_used heap + (size + 1))) _ _ e)

    others_as_made : (p : Path) → of_slot t p ≡ false → Stays tables.place slots heap later after p
    others_as_made = made tables.place slots heap (record { kind = ArrayOf ty; cells = cells }) t later after done_new.0 done_new.1 all

    new_size : size_of after (value_at later t) ≡ pos (length cells)
    new_size = made_size tables.place slots heap (record { kind = ArrayOf ty; cells = cells }) t later after done_new.0 done_new.1 h

  new_by : (t : ℕ) (ty : Type_) (n : ℕ) (size : ℤ) → t < length slots → AllOn slots heap → int_at slots n ≡ size → new_array limits tables at slots heap t ty size ≡ Done later after → IsStep (op.NewArray t ty n)
  new_by t ty n (negsuc size) h all is e = absurd cc
  new_by t ty n (pos size) h all is e =
      let cells = replicate size (cell_default ty) in
      stays_of (op.NewArray t ty n) (others_as_made t ty size cells h all e) (new_size t ty size cells h all e ∙ (ap pos (length-replicate size (cell_default ty)) ∙ sym is))

  new_step : (t : ℕ) (ty : Type_) (n : ℕ) → t < length slots → AllOn slots heap → Does (op.NewArray t ty n) → IsStep (op.NewArray t ty n)
  unfolding Does
  new_step t ty n h all e = new_by t ty n (int_at slots n) h all refl e

  fill_step : (t : ℕ) (ty : Type_) (entries : List ℕ) → t < length slots → AllOn slots heap → Does (op.Fill t ty entries) → IsStep (op.Fill t ty entries)
  unfolding Does
  fill_step t ty entries h all e =
      let cells = map (value_at slots) entries in
      stays_of (op.Fill t ty entries) (others_as_made t ty (length entries) cells h all e) (new_size t ty (length entries) cells h all e ∙ ap pos (length-map entries (value_at slots)))

  load_step : (t a i : ℕ) (ty : Type_) → t < length slots → LoadsMet (op.Load t a i ty) slots heap → Does (op.Load t a i ty) → IsStep (op.Load t a i ty)
  unfolding Does
  load_step t a i ty h met e =
      let index = int_at slots i in
      let x = of_array later after limits tables at slots heap a (λ number cells. at_index limits tables at slots heap index cells (λ cell. assign limits tables at slots heap t (value_at cells cell))) e in
      let w = of_index later after limits tables at slots heap index (array_at heap x.0) (λ cell. assign limits tables at slots heap t (value_at (array_at heap x.0) cell)) x.2 in
      let loaded = value_at (array_at heap x.0) (unsigned_abs index) in
      stays_of (op.Load t a i ty) (others_stay t h loaded w.1) (subst (λ n. AreTrueOf (loaded_claims ty) n) (ap int_of (sym (target_holds t h loaded w.1))) (met x.0 x.1 w.0))

  store_step : (a i v : ℕ) (ty : Type_) → Does (op.Store a i v ty) → IsStep (op.Store a i v ty)
  unfolding Does
  store_step a i v ty e =
      let index = int_at slots i in
      let x = of_array later after limits tables at slots heap a (λ number cells. at_index limits tables at slots heap index cells (λ cell. Done slots (write_at heap number cell (value_at slots v)))) e in
      let w = of_index later after limits tables at slots heap index (array_at heap x.0) (λ cell. Done slots (write_at heap x.0 cell (value_at slots v))) x.2 in
      let d = of_done later after _ _ w.1 in
      stays_of (op.Store a i v ty)
      (λ p none. subst (λ l. Stays tables.place slots heap l after p) d.0
      (subst (λ o. Stays tables.place slots heap slots o p) d.1 (stored_stays tables.place slots heap x.0 (unsigned_abs index) index (value_at slots v) w.0 p)))
      tt

  pub done_step : (kind : OpKind) → HasTarget kind slots → LoadsMet kind slots heap → AllOn slots heap → operate limits tables at slots heap kind ≡ Done later after
      → Step profile kind (numbers_of tables.place slots heap before) (numbers_of tables.place later after behind)
  unfolding IsStep Does
  done_step (op.Const t value) h met all e = const_step t value h e
  done_step (op.Copy t s ty) h met all e = copy_step t s ty h e
  done_step (op.Num t arith_op y z) h met all e = num_step t arith_op y z h e
  done_step (op.Unary t unary y) h met all e = unary_step t unary y h e
  done_step (op.Length t a) h met all e = length_step t a h e
  done_step (op.NewArray t ty n) h met all e = new_step t ty n h all e
  done_step (op.Fill t ty entries) h met all e = fill_step t ty entries h all e
  done_step (op.Load t a i ty) h met all e = load_step t a i ty h met e
  done_step (op.Store a i v ty) h met all e = store_step a i v ty e
  done_step (op.Print value) h met all e = absurd cc
  done_step (op.ReadField t o f) h met all e = free (op.ReadField t o f) (λ p. refl) tt
  done_step (op.WriteField o f v) h met all e = free (op.WriteField o f v) (λ p. refl) tt
  done_step (op.NewObject call) h met all e = absurd cc
  done_step (op.StaticCall call) h met all e = absurd cc
  done_step (op.InstanceCall call) h met all e = absurd cc
  done_step (op.SuperCall call) h met all e = absurd cc

-- ---- a result that wrapped

module _ (later : List Held) (after : Heap) where
  wrapped_kept : (t : Bool) (slots others : List Held) (heap : Heap) → (if t then Done slots heap else Wrapped others heap) ≡ Wrapped later after → (others ≡ later) × (heap ≡ after)
  wrapped_kept true slots others heap e = absurd cc
  wrapped_kept false slots others heap e = (cc, cc)

  not_within : (t : Bool) (effect : Effect) (ending : Ending) → (effect ≡ Wrapped later after → ⊥) → (if t then effect else Stopped ending) ≡ Wrapped later after → ⊥
  not_within true effect ending none e = none e
  not_within false effect ending none e = cc

  not_limit : (t : Bool) (slots : List Held) (heap : Heap) (ending : Ending) → (if t then Stopped ending else Done slots heap) ≡ Wrapped later after → ⊥
  not_limit true slots heap ending e = cc
  not_limit false slots heap ending e = cc

  not_done : (slots : List Held) (heap : Heap) → Done slots heap ≡ Wrapped later after → ⊥
  not_done slots heap e = cc

  module _ (limits : Limits) (tables : Tables) (at : ℕ) (slots : List Held) (heap : Heap) where
    not_through : (held : Held) (next : ℕ → Effect) → ((number : ℕ) → next number ≡ Wrapped later after → ⊥) → through limits tables at slots heap held next ≡ Wrapped later after → ⊥
    not_through (Num n) next none e = cc
    not_through (Boolean answer) next none e = cc
    not_through Null next none e = cc
    not_through (At number) next none e = none number e

    not_length : (t : ℕ) (held : Held) → assign_length limits tables at slots heap t held ≡ Wrapped later after → ⊥
    not_length t (Num n) e = cc
    not_length t (Boolean answer) e = cc
    not_length t Null e = cc
    not_length t (At number) e = cc

    not_place : (found : Option ℕ) (next : ℕ → Effect) → ((k : ℕ) → next k ≡ Wrapped later after → ⊥) → at_place limits tables at slots heap found next ≡ Wrapped later after → ⊥
    not_place None next none e = cc
    not_place (Some k) next none e = none k e

    not_new : (t : ℕ) (ty : Type_) (n : ℤ) → new_array limits tables at slots heap t ty n ≡ Wrapped later after → ⊥
    not_new t ty (negsuc n) e = cc
    not_new t ty (pos size) e = not_limit (is_past limits.cells (cells_used heap + (size + 1))) _ _ _ e

not_ideal : {A : Type 0} → Int32 ≡ Ideal → A
not_ideal e = absurd cc

module _ (limits : Limits) (tables : Tables) (at : ℕ) (slots : List Held) (heap : Heap) (later : List Held) (after : Heap) (before : HasInts tables.place slots heap) (behind : HasInts tables.place later after) where
  wrapped_done : (kind : OpKind) (t : ℕ) (exact : ℤ) → t < length slots → assign_int limits tables at slots heap t exact ≡ Wrapped later after → ((p : Path) → of_target kind p ≡ false → of_slot t p ≡ false)
      → ((Computed Int32 (Some exact) (int_of (value_at later t))) → Results Int32 kind (numbers_of tables.place slots heap before) (numbers_of tables.place later after behind))
      → Step Int32 kind (numbers_of tables.place slots heap before) (numbers_of tables.place later after behind)
  wrapped_done kind t exact h e of results =
      let d = wrapped_kept later after (is_int exact) _ _ _ e in
      step_of tables.place slots heap Int32 kind before later after behind (λ p n. assigned tables.place slots heap t (Num (wrap_of exact)) later after d.0 d.1 p (of p n))
      (results record { result = exact; is = refl; kept = ap int_of (target_is tables.place slots heap t (Num (wrap_of exact)) later h d.0); unwrapped = λ p. not_ideal p })

  wrapped_result : (t : ℕ) (arith_op : Arith) (y z : ℕ) (exact : Option ℤ) → t < length slots → exact_of arith_op (int_at slots y) (int_at slots z) ≡ exact → assign_result limits tables at slots heap t exact ≡ Wrapped later after
      → Step Int32 (op.Num t arith_op y z) (numbers_of tables.place slots heap before) (numbers_of tables.place later after behind)
  wrapped_result t arith_op y z None h same e = absurd cc
  wrapped_result t arith_op y z (Some exact) h same e = wrapped_done (op.Num t arith_op y z) t exact h e (λ p n. n) (λ c. rw same c)

  pub wrapped_step : (kind : OpKind) → HasTarget kind slots → operate limits tables at slots heap kind ≡ Wrapped later after
      → Step Int32 kind (numbers_of tables.place slots heap before) (numbers_of tables.place later after behind)
  wrapped_step (op.Num t arith_op y z) h e = wrapped_result t arith_op y z (exact_of arith_op (int_at slots y) (int_at slots z)) h refl e
  wrapped_step (op.Unary t unary y) h e = wrapped_done (op.Unary t unary y) t (unary_of unary (int_at slots y)) h e (λ p n. n) (λ c. c)
  wrapped_step (op.Const t value) h e = absurd cc
  wrapped_step (op.Copy t s ty) h e = absurd cc
  wrapped_step (op.Length t a) h e = absurd (not_length later after limits tables at slots heap t (value_at slots a) e)
  wrapped_step (op.NewArray t ty n) h e = absurd (not_new later after limits tables at slots heap t ty (int_at slots n) e)
  wrapped_step (op.Fill t ty entries) h e = absurd (not_limit later after (is_past limits.cells (cells_used heap + (length entries + 1))) _ _ _ e)
  wrapped_step (op.Load t a i ty) h e =
      absurd (not_through later after limits tables at slots heap (value_at slots a) _ (λ number. not_within later after (is_within (int_at slots i) (length (array_at heap number))) _ _ (not_done later after _ _)) e)
  wrapped_step (op.Store a i v ty) h e =
      absurd (not_through later after limits tables at slots heap (value_at slots a) _ (λ number. not_within later after (is_within (int_at slots i) (length (array_at heap number))) _ _ (not_done later after _ _)) e)
  wrapped_step (op.ReadField t o f) h e =
      absurd (not_through later after limits tables at slots heap (value_at slots o) _
      (λ number. not_place later after limits tables at slots heap (place_in tables.place (object_at heap number).kind f) _ (λ k. not_done later after _ _)) e)
  wrapped_step (op.WriteField o f v) h e =
      absurd (not_through later after limits tables at slots heap (value_at slots o) _
      (λ number. not_place later after limits tables at slots heap (place_in tables.place (object_at heap number).kind f) _ (λ k. not_done later after _ _)) e)
  wrapped_step (op.Print value) h e = absurd cc
  wrapped_step (op.NewObject call) h e = absurd cc
  wrapped_step (op.StaticCall call) h e = absurd cc
  wrapped_step (op.InstanceCall call) h e = absurd cc
  wrapped_step (op.SuperCall call) h e = absurd cc

-- `Print` changes no number, and no other operation prints
pub printed_stays : (profile : Profile) (value : ℕ) (v : Numbers) → Step profile (op.Print value) v v
printed_stays profile value v = record { others = λ p e. (refl, refl); results = tt }

-- ---- a state that does an operation

pub state_does : (limits : Limits) (tables : Tables) (state : State) (done : Op) (code : Code) (tasks : Tasks) → state.ended ≡ None → state.now.tasks ≡ Run (Do done code) tasks
    → step limits tables state ≡ moved limits tables (effect_then (operate limits tables done.span.from state.now.slots state.heap done.kind) done.span.from (code_then code tasks)) state
state_does limits tables state done code tasks running first =
    ap (λ e. step_from limits tables e state) running ∙ ap (λ ts. moved limits tables (step_tasks limits tables state.now.slots state.heap ts) state) first
