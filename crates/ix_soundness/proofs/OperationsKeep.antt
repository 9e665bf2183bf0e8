-- An operation of which enough is shown keeps what a step of a frame keeps, or stops with no bad end.
use Rattle.std.specs.Prelude.{◌≡◌, ℕ, zero, suc, ◌+◌, ◌<◌, nat_lt, ◌≤ℤ◌, ◌<ℤ◌, ℤ, pos, negsuc, unsigned_abs, Bool, true, false, if◌then◌else◌, List, [], ◌∷◌, ◌++◌, length, map, replicate, slice_get, slice_set, Option, Some, None, refl}
use Rattle.std.proofs.Common.{arith, sym, subst}
use Rattle.std.proofs.lemmas.Bool.Decides.{nat_tests}
use Rattle.std.proofs.lemmas.Int.{ints}
use Rattle.ix_num.specs.Arithmetic.{exact_of, wrap_of}
use Rattle.ix_core.specs.declared.claim.Base.{Base}
use Rattle.ix_core.specs.declared.claim.Base.TheVariants as base
use Rattle.ix_core.specs.declared.claim.Type_.{Type_}
use Rattle.ix_core.specs.declared.claim.Type_.TheVariants as type
use Rattle.ix_core.specs.declared.op.Literal.{Literal}
use Rattle.ix_core.specs.declared.op.Literal.TheVariants as literal
use Rattle.ix_core.specs.declared.op.OpKind.{OpKind}
use Rattle.ix_core.specs.declared.op.OpKind.TheVariants as op
use Rattle.ix_core.specs.declared.program.Method.{Method}
use Rattle.ix_core.specs.Analysis.{IsWorld}
use Rattle.ix_core.specs.Heap.{Held, Num, Boolean, Null, At, Heap, Kind, ObjectOf, ArrayOf, cell_default, default_of_base, cells_used, array_cells, value_at, object_at, array_at, place_in, is_within, size_of, write_at}
use Rattle.ix_core.specs.Machine.{Limits, HeapFull, Effect, Done, Stopped, Wrapped, Printed, Called, allocate, new_array, is_past, is_int, operate, through, at_place, at_index, assign_length, assign_int, assign_result, literal_value, unary_of, int_at}
use Rattle.ix_core.specs.Objects.{IsOn, MeetsElement, AllOn, IsFree, HeapKeeps, FrameKeeps, IsOwn, StepKeeps}
use Rattle.ix_core.specs.Safe.{IsBad, element_claims}
use Rattle.ix_core.specs.World.{World, tables_in}
use Rattle.ix_core.proofs.Kept.{all_on}
use Rattle.ix_core.proofs.SlotSteps.{assign_keeps, read_keeps}
use Rattle.ix_core.proofs.ArraySteps.{array_keeps, cell_keeps}
use Rattle.ix_core.proofs.FieldSteps.{write_keeps}
use Rattle.ix_soundness.specs.Clean.{Hides}
use Rattle.ix_soundness.specs.Shown.{MayTake, Takes, Shown}

within : (n : ℤ) (size : ℕ) → pos 0 ≤ℤ n → n <ℤ pos size → is_within n size ≡ true
within n size low high = grind (arith, ints, nat_tests)

-- an exact result may be no int
abbrev pub MayWrap : OpKind → Type 0
MayWrap (op.Num t arith_op y z) = Unit {0}
MayWrap (op.Unary t unary y) = Unit {0}
MayWrap _ = ⊥

-- the operation calls nothing and prints nothing
abbrev pub IsNoCall : OpKind → Type 0
IsNoCall (op.NewObject call) = ⊥
IsNoCall (op.StaticCall call) = ⊥
IsNoCall (op.InstanceCall call) = ⊥
IsNoCall (op.SuperCall call) = ⊥
IsNoCall (op.Print value) = ⊥
IsNoCall _ = Unit {0}

module _ (world : World) (tables : IsWorld world) (limits : Limits) (place : ℕ) (building : ℕ → Type 0) (method : Method) (slots : List Held) (heap : Heap) (keeps : HeapKeeps world building heap) (frame : FrameKeeps building method slots heap) where
  -- what the operation is done with is kept; whether its result may be no int is told
  abbrev pub Keeps : Type 0 → Effect → Type 0
  Keeps Wraps (Done later after) = StepKeeps world building method slots heap later after
  Keeps Wraps (Wrapped later after) = Wraps × StepKeeps world building method slots heap later after
  Keeps Wraps (Printed value) = ⊥
  Keeps Wraps (Called kind call) = ⊥
  Keeps Wraps (Stopped ending) = IsBad (Some ending) → ⊥

  on : AllOn slots heap
  on = all_on world building method slots heap keeps frame

  assigned : (t : ℕ) (x : Held) → MayTake method slots t → IsFree building heap x → StepKeeps world building method slots heap (slice_set slots t x) heap
  assigned t x may free = assign_keeps world building method slots heap keeps frame t x free may.input may.own

  literal_free : (value : Literal) → IsFree building heap (literal_value value)
  literal_free (literal.Int n) = tt
  literal_free (literal.Bool answer) = tt
  literal_free (literal.NullOf ty) = tt

  -- ---- arrays

  default_free : (of : Type_) → IsFree building heap (cell_default of)
  default_free type.Void = tt
  default_free (type.Plain of) = tt
  default_free (type.Array of depth element) = by_depth (nat_lt 1 depth) of
    where
      by_depth : (deep : Bool) (of : Base) → IsFree building heap (if deep then Null else default_of_base of)
      by_depth true of = tt
      by_depth false base.Int = tt
      by_depth false base.Bool = tt
      by_depth false (base.Class class) = tt

  copies_free : (count : ℕ) (x : Held) → IsFree building heap x → (k : ℕ) → IsFree building heap (value_at (replicate count x) k)
  copies_free zero x free k = tt
  copies_free (suc count) x free zero = free
  copies_free (suc count) x free (suc k) = copies_free count x free k

  copies_are : (count : ℕ) (x : Held) (k : ℕ) → k < length (replicate count x) → (0 < count) × (value_at (replicate count x) k ≡ x)
  copies_are zero x k lt = absurd (omega (arith, lt))
  copies_are (suc count) x zero lt = (omega (arith), refl)
  copies_are (suc count) x (suc k) lt = (omega (arith), (copies_are count x k (omega (arith, lt))).1)

  entries_free : (entries : List ℕ) → ((at entry : ℕ) → slice_get entries at ≡ Some entry → IsOwn method entry → ⊥) → (k : ℕ) → IsFree building heap (value_at (map (value_at slots) entries) k)
  entries_free [] hides k = tt
  entries_free (entry ∷ entries) hides zero = frame.free entry (hides 0 entry refl)
  entries_free (entry ∷ entries) hides (suc k) = entries_free entries (λ at e is. hides (suc at) e is) k

  entries_meet : (claims : _) (entries : List ℕ) → ((at entry : ℕ) → slice_get entries at ≡ Some entry → MeetsElement claims (value_at slots entry)) → (k : ℕ) → k < length (map (value_at slots) entries)
      → MeetsElement claims (value_at (map (value_at slots) entries) k)
  entries_meet claims [] each k lt = absurd (omega (arith, lt))
  entries_meet claims (entry ∷ entries) each zero lt = each 0 entry refl
  entries_meet claims (entry ∷ entries) each (suc k) lt = entries_meet claims entries (λ at e is. each (suc at) e is) k (omega (arith, lt))

  cells_free : (kind : Kind) (cells : List Held) → ((k : ℕ) → IsFree building heap (value_at cells k)) → (k : ℕ) → IsFree building heap (value_at (array_cells kind cells) k)
  cells_free (ObjectOf class) cells free k = tt
  cells_free (ArrayOf ty) cells free k = free k

  module _ (Wraps : Type 0) where
    through_kept : (held : Held) (next : ℕ → Effect) → ((number : ℕ) → held ≡ At number → Keeps Wraps (next number)) → Keeps Wraps (through limits (tables_in world) place slots heap held next)
    through_kept (At number) next each = each number refl
    through_kept (Num n) next each = λ bad. bad
    through_kept (Boolean answer) next each = λ bad. bad
    through_kept Null next each = λ bad. bad

    length_kept : (t : ℕ) (held : Held) → MayTake method slots t → Keeps Wraps (assign_length limits (tables_in world) place slots heap t held)
    length_kept t (Num n) may = assigned t (Num (pos 0)) may tt
    length_kept t (Boolean answer) may = assigned t (Num (pos 0)) may tt
    length_kept t Null may = λ bad. bad
    length_kept t (At number) may = assigned t (Num (pos (length (array_at heap number)))) may tt

    place_kept : (found : Option ℕ) (next : ℕ → Effect) → ((cell : ℕ) → found ≡ Some cell → Keeps Wraps (next cell)) → Keeps Wraps (at_place limits (tables_in world) place slots heap found next)
    place_kept None next each = λ bad. bad
    place_kept (Some cell) next each = each cell refl

    index_kept : (index : ℤ) (cells : List Held) (next : ℕ → Effect) → pos 0 ≤ℤ index → index <ℤ pos (length cells) → Keeps Wraps (next (unsigned_abs index)) → Keeps Wraps (at_index limits (tables_in world) place slots heap index cells next)
    index_kept index cells next low high good = rw (within index (length cells) low high) good

    int_kept : Wraps → (t : ℕ) (exact : ℤ) → MayTake method slots t → Keeps Wraps (assign_int limits (tables_in world) place slots heap t exact)
    int_kept wraps t exact may = by_int (is_int exact)
      where
        by_int : (b : Bool) → Keeps Wraps (if b then Done (slice_set slots t (Num exact)) heap else Wrapped (slice_set slots t (Num (wrap_of exact))) heap)
        by_int true = assigned t (Num exact) may tt
        by_int false = (wraps, assigned t (Num (wrap_of exact)) may tt)

    result_kept : Wraps → (t : ℕ) (exact : Option ℤ) → MayTake method slots t → Keeps Wraps (assign_result limits (tables_in world) place slots heap t exact)
    result_kept wraps t None may = λ bad. bad
    result_kept wraps t (Some exact) may = int_kept wraps t exact may

    allocated : (t : ℕ) (ty : Type_) (size : ℕ) (cells : List Held) → MayTake method slots t → ((k : ℕ) → IsFree building heap (value_at cells k)) → ((k : ℕ) → k < length cells → MeetsElement (element_claims ty) (value_at cells k))
        → Keeps Wraps (allocate limits (tables_in world) place slots heap t ty size cells)
    allocated t ty size cells may free meets = by_room (is_past limits.cells (cells_used heap + (size + 1)))
      where
        by_room : (full : Bool) → Keeps Wraps (if full then Stopped (HeapFull place) else Done (slice_set slots t (At (length heap))) (heap ++ record { kind = ArrayOf ty; cells = cells } ∷ []))
        by_room true = λ bad. bad
        by_room false = array_keeps world building method slots heap keeps frame ty cells free meets t may.input may.own

    made : (t : ℕ) (ty : Type_) (n : ℤ) → MayTake method slots t → pos 0 ≤ℤ n → (pos 0 <ℤ n → MeetsElement (element_claims ty) (cell_default ty)) → Keeps Wraps (new_array limits (tables_in world) place slots heap t ty n)
    made t ty (pos size) may low meets =
        allocated t ty size (replicate size (cell_default ty)) may (copies_free size (cell_default ty) (default_free ty))
        (λ k lt. let is = copies_are size (cell_default ty) k lt in let some = is.0 in subst (MeetsElement (element_claims ty)) (sym is.1) (meets (omega (arith, ints, some))))
    made t ty (negsuc n) may low meets = absurd (omega (arith, ints, low))

  -- ---- the operations

  pub operation_keeps : (kind : OpKind) → IsNoCall kind → Takes world method slots heap kind → Hides method kind → Shown world method slots heap kind → Keeps (MayWrap kind) (operate limits (tables_in world) place slots heap kind)
  operation_keeps (op.Const t value) plain may hides shown = assigned t (literal_value value) may (literal_free value)
  operation_keeps (op.Copy t s ty) plain may hides shown = assigned t (value_at slots s) may (frame.free s hides)
  operation_keeps (op.Num t arith_op y z) plain may hides shown = result_kept (Unit {0}) tt t (exact_of arith_op (int_at slots y) (int_at slots z)) may
  operation_keeps (op.Unary t unary y) plain may hides shown = int_kept (Unit {0}) tt t (unary_of unary (int_at slots y)) may
  operation_keeps (op.Length t a) plain may hides shown = length_kept ⊥ t (value_at slots a) may
  operation_keeps (op.NewArray t ty n) plain may hides shown = made ⊥ t ty (int_at slots n) may shown.0 shown.1
  operation_keeps (op.Fill t ty entries) plain may hides shown = allocated ⊥ t ty (length entries) (map (value_at slots) entries) may (entries_free entries hides) (entries_meet (element_claims ty) entries shown)
  operation_keeps (op.Load t a i ty) plain may hides shown =
      through_kept ⊥ (value_at slots a) _
      (λ number is.
      index_kept ⊥ (int_at slots i) (array_at heap number) (λ cell. Done (slice_set slots t (value_at (array_at heap number) cell)) heap) shown.0 (subst (λ held. int_at slots i <ℤ size_of heap held) is shown.1)
      (assigned t (value_at (array_at heap number) (unsigned_abs (int_at slots i))) may (cells_free (object_at heap number).kind (object_at heap number).cells (keeps.free number) (unsigned_abs (int_at slots i)))))
  operation_keeps (op.Store a i v ty) plain may hides shown =
      through_kept ⊥ (value_at slots a) _
      (λ number is.
      index_kept ⊥ (int_at slots i) (array_at heap number) (λ cell. Done slots (write_at heap number cell (value_at slots v))) shown.0.0 (subst (λ held. int_at slots i <ℤ size_of heap held) is shown.0.1)
      (cell_keeps world building method slots heap keeps frame number (unsigned_abs (int_at slots i)) ty (value_at slots v) (subst (IsOn heap) is (on.held a)) (shown.2 number is) (frame.free v hides) shown.1))
  operation_keeps (op.ReadField t o f) plain may hides shown =
      through_kept ⊥ (value_at slots o) _ (λ number is. place_kept ⊥ (place_in world.place (object_at heap number).kind f) _ (λ cell placed. read_keeps world building method slots heap keeps frame t number cell may.input may.own))
  operation_keeps (op.WriteField o f v) plain may hides shown =
      through_kept ⊥ (value_at slots o) _
      (λ number is. place_kept ⊥ (place_in world.place (object_at heap number).kind f) _ (λ cell placed. write_keeps world tables building method slots heap keeps frame o f number cell v is placed shown.0 hides (shown.1 number cell is placed)))
  operation_keeps (op.NewObject call) plain may hides shown = absurd plain
  operation_keeps (op.StaticCall call) plain may hides shown = absurd plain
  operation_keeps (op.InstanceCall call) plain may hides shown = absurd plain
  operation_keeps (op.SuperCall call) plain may hides shown = absurd plain
  operation_keeps (op.Print value) plain may hides shown = absurd plain
