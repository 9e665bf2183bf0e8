-- What slots and heaps hold after an assignment, a new object and a write.
use Rattle.std.specs.Prelude.{◌≡◌, ℕ, ◌<◌, ◌≤◌, ◌==◌, nat_lt, pos, false, List, [], ◌∷◌, ◌++◌, length, slice_set, refl}
use Rattle.std.proofs.Common.{arith, get_or, sym, ap, ◌∙◌, subst}
use Rattle.std.proofs.lemmas.Bool.Decides.{nat_tests}
use Rattle.std.proofs.lemmas.List.{length-set, set_past, get_or-set_same, get_or-set_other, get_or_append_left}
use Rattle.std.proofs.lemmas.Option.{unwrap_or-slice_get}
use Rattle.std.proofs.Math.Seq.{get_or-append_seam}
use Rattle.ix_core.specs.Heap.{Held, Num, Object, Heap, Kind, ObjectOf, ArrayOf, nothing, value_at, object_at, array_cells}
use Rattle.ix_core.proofs.Cases.{by_test, differ, equal}

pub value_is : (held : List Held) (k : ℕ) → value_at held k ≡ get_or held k (Num (pos 0))
value_is held k = unwrap_or-slice_get held k (Num (pos 0))

pub object_is : (heap : Heap) (k : ℕ) → object_at heap k ≡ get_or heap k nothing
object_is heap k = unwrap_or-slice_get heap k nothing

-- ---- slots

pub value_set : (slots : List Held) (t : ℕ) (x : Held) → t < length slots → value_at (slice_set slots t x) t ≡ x
value_set slots t x h = value_is (slice_set slots t x) t ∙ get_or-set_same slots t x (Num (pos 0)) h

pub value_other : (slots : List Held) (t s : ℕ) (x : Held) → (s == t) ≡ false → value_at (slice_set slots t x) s ≡ value_at slots s
value_other slots t s x e = value_is (slice_set slots t x) s ∙ (get_or-set_other slots t s x (Num (pos 0)) (differ s t e) ∙ sym (value_is slots s))

-- what holds of the value and of each slot holds of each slot after the value was written
pub set_keeps : (P : Held → Type 0) (slots : List Held) (t : ℕ) (x : Held) → P x → ((k : ℕ) → P (value_at slots k)) → (k : ℕ) → P (value_at (slice_set slots t x) k)
set_keeps P slots t x here all k =
    by_test (k == t)
    (λ u.
    by_test (nat_lt t (length slots))
    (λ w. let h : t < length slots = grind (arith, nat_tests) in subst P (sym (subst (λ n. value_at (slice_set slots t x) n ≡ x) (sym (equal k t u)) (value_set slots t x h))) here)
    (λ w. let h : length slots ≤ t = grind (arith, nat_tests) in subst (λ l. P (value_at l k)) (sym (set_past slots t x h)) (all k)))
    (λ u. subst P (sym (value_other slots t k x u)) (all k))

-- ---- heaps

pub grown_old : (heap : Heap) (object : Object) (k : ℕ) → k < length heap → object_at (heap ++ object ∷ []) k ≡ object_at heap k
grown_old heap object k h = object_is (heap ++ object ∷ []) k ∙ (get_or_append_left heap (object ∷ []) nothing k h ∙ sym (object_is heap k))

pub grown_new : (heap : Heap) (object : Object) → object_at (heap ++ object ∷ []) (length heap) ≡ object
grown_new heap object = object_is (heap ++ object ∷ []) (length heap) ∙ get_or-append_seam heap object [] nothing

pub object_set : (heap : Heap) (n : ℕ) (object : Object) → n < length heap → object_at (slice_set heap n object) n ≡ object
object_set heap n object h = object_is (slice_set heap n object) n ∙ get_or-set_same heap n object nothing h

pub object_other : (heap : Heap) (n k : ℕ) (object : Object) → (k == n) ≡ false → object_at (slice_set heap n object) k ≡ object_at heap k
object_other heap n k object e = object_is (slice_set heap n object) k ∙ (get_or-set_other heap n k object nothing (differ k n e) ∙ sym (object_is heap k))

-- a write changes no length
pub cells_length : (kind : Kind) (cells : List Held) (k : ℕ) (x : Held) → length (array_cells kind (slice_set cells k x)) ≡ length (array_cells kind cells)
cells_length (ObjectOf class) cells k x = refl
cells_length (ArrayOf ty) cells k x = length-set cells k x

-- what is the same of an object and the one in its place is the same of every object
pub written_same : {A : Type 0} (of : Object → A) (heap : Heap) (number : ℕ) (object : Object) → of object ≡ of (object_at heap number) → (k : ℕ) → of (object_at (slice_set heap number object) k) ≡ of (object_at heap k)
written_same of heap number object e k =
    by_test (k == number)
    (λ t.
    let i : k ≡ number = equal k number t in
    by_test (nat_lt number (length heap))
    (λ u.
    let h : number < length heap = grind (arith, nat_tests) in
    subst (λ n. of (object_at (slice_set heap number object) n) ≡ of (object_at heap n)) (sym i) (ap of (object_set heap number object h) ∙ e))
    (λ u.
    let h : length heap ≤ number = grind (arith, nat_tests) in
    ap (λ l. of (object_at l k)) (set_past heap number object h)))
    (λ t. ap of (object_other heap number k object t))
