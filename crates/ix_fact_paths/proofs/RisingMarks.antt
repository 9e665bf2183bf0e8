-- Of landmarks that rise, the greatest at most a number and the least at least it stand beside one place.
use Rattle.std.specs.Prelude.{◌≡◌, ℕ, zero, suc, ◌+◌, ◌<◌, ◌≤◌, true, false, ℤ, pos, ◌≤ℤ◌, ◌<ℤ◌, int_lt, int_le, List, [], ◌∷◌, length, get_or, Some, None, refl}
use Rattle.std.specs.Int.{int_min, int_max}
use Rattle.std.specs.List.{AllAdjacentBelow}
use Rattle.std.specs.List.Sorted.{IsPartitionedBy}
use Rattle.std.proofs.Common.{arith, ap, ◌∙◌, subst}
use Rattle.std.proofs.lemmas.Int.{ints, clamps}
use Rattle.ix_facts.specs.Bounds.{best}
use Rattle.ix_facts.specs.Round.{Rises, mark_below, mark_above}

rest_rises : (m : ℤ) (ms : List ℤ) → Rises (m ∷ ms) → Rises ms
rest_rises m [] r = tt
rest_rises m (n ∷ ms) r = r.1

first_below : (m : ℤ) (ms : List ℤ) (k : ℕ) (d : ℤ) → Rises (m ∷ ms) → k < length ms → m <ℤ get_or ms k d
first_below m [] k d r h = absurd (omega (arith, h))
first_below m (n ∷ ms) zero d r h = r.0
first_below m (n ∷ ms) (suc k) d r h =
    let start = r.0 in
    let rest = first_below n ms k d r.1 (omega (arith, h)) in
    omega (arith, ints, start, rest)

ordered : (ms : List ℤ) (i j : ℕ) (d : ℤ) → Rises ms → i ≤ j → j < length ms → get_or ms i d ≤ℤ get_or ms j d
ordered [] i j d r from within = absurd (omega (arith, within))
ordered (m ∷ ms) zero zero d r from within = omega (arith, ints)
ordered (m ∷ ms) zero (suc j) d r from within = let less = first_below m ms j d r (omega (arith, within)) in omega (arith, ints, less)
ordered (m ∷ ms) (suc i) zero d r from within = absurd (omega (arith, from))
ordered (m ∷ ms) (suc i) (suc j) d r from within = ordered ms i j d (rest_rises m ms r) (omega (arith, from)) (omega (arith, within))

at_most_still : (l m n : ℤ) → l ≤ℤ m → int_le m n ≡ true → int_le l n ≡ true
at_most_still l m n h t = grind (arith, ints)

less_still : (l m n : ℤ) → l ≤ℤ m → int_lt m n ≡ true → int_lt l n ≡ true
less_still l m n h t = grind (arith, ints)

less_not : (m n : ℤ) → int_lt m n ≡ true → int_le n m ≡ false
less_not m n t = grind (arith, ints)

not_less : (m n : ℤ) → int_lt m n ≡ false → n ≤ℤ m
not_less m n t = grind (arith, ints)

is_less : (m n : ℤ) → true ≡ int_lt m n → m <ℤ n
is_less m n t = grind (arith, ints)

is_at_most : (m n : ℤ) → m ≤ℤ n → int_le m n ≡ true
is_at_most m n h = grind (arith, ints)

pub parted_at_most : (ms : List ℤ) (n : ℤ) → Rises ms → IsPartitionedBy (λ m. int_le m n) ms
parted_at_most ms n r i j d from within h = at_most_still (get_or ms i d) (get_or ms j d) n (ordered ms i j d r from within) h

pub parted_less : (ms : List ℤ) (n : ℤ) → Rises ms → IsPartitionedBy (λ m. int_lt m n) ms
parted_less ms n r i j d from within h = less_still (get_or ms i d) (get_or ms j d) n (ordered ms i j d r from within) h

pub none_below : (ms : List ℤ) (n : ℤ) → ((k : ℕ) (d : ℤ) → k < length ms → int_le (get_or ms k d) n ≡ false) → mark_below ms n ≡ None
none_below [] n none = refl
none_below (m ∷ ms) n none = rw (none 0 m (omega arith)) (none_below ms n (λ k d h. none (suc k) d (omega (arith, h))))

greatest_of : (m n : ℤ) → m <ℤ n → Some (int_max m n) ≡ Some n
greatest_of m n h = ap Some (omega (arith, ints, clamps, h))

pub last_is : (ms : List ℤ) (n : ℤ) (i : ℕ) → Rises ms → i < length ms → ((k : ℕ) (d : ℤ) → k ≤ i → int_le (get_or ms k d) n ≡ true)
    → ((k : ℕ) (d : ℤ) → i < k → k < length ms → int_le (get_or ms k d) n ≡ false) → (d : ℤ) → mark_below ms n ≡ Some (get_or ms i d)
last_is [] n i r within all none d = absurd (omega (arith, within))
last_is (m ∷ ms) n zero r within all none d =
    rw (all 0 m (omega arith)) (ap (best int_max (Some m)) (none_below ms n (λ k e h. none (suc k) e (omega arith) (omega (arith, h)))))
last_is (m ∷ ms) n (suc i) r within all none d =
    let rest = last_is ms n i (rest_rises m ms r) (omega (arith, within)) (λ k e h. all (suc k) e (omega (arith, h))) (λ k e h g. none (suc k) e (omega (arith, h)) (omega (arith, g))) d in
    rw (all 0 m (omega arith)) (ap (best int_max (Some m)) rest ∙ greatest_of m (get_or ms i d) (first_below m ms i d r (omega (arith, within))))

pub none_above : (ms : List ℤ) (n : ℤ) → ((k : ℕ) (d : ℤ) → k < length ms → int_lt (get_or ms k d) n ≡ true) → mark_above ms n ≡ None
none_above [] n all = refl
none_above (m ∷ ms) n all =
    rw (less_not m n (all 0 m (omega arith))) (none_above ms n (λ k d h. all (suc k) d (omega (arith, h))))

least_of : (m n : ℤ) → m <ℤ n → Some (int_min m n) ≡ Some m
least_of m n h = ap Some (omega (arith, ints, clamps, h))

-- Where none is less than the number, the first landmark is the least.
head_is : (m : ℤ) (ms : List ℤ) (n : ℤ) → Rises (m ∷ ms) → n ≤ℤ m → mark_above (m ∷ ms) n ≡ Some m
head_is m [] n r h = rw (is_at_most n m h) refl
head_is m (l ∷ ms) n r h =
    let start = r.0 in
    let rest = head_is l ms n r.1 (omega (arith, ints, h, start)) in
    rw (is_at_most n m h) (ap (best int_min (Some m)) rest ∙ least_of m l start)

pub first_is : (ms : List ℤ) (n : ℤ) (i : ℕ) → Rises ms → i < length ms → ((k : ℕ) (d : ℤ) → k < i → int_lt (get_or ms k d) n ≡ true)
    → ((d : ℤ) → int_lt (get_or ms i d) n ≡ false) → (d : ℤ) → mark_above ms n ≡ Some (get_or ms i d)
first_is [] n i r within all here d = absurd (omega (arith, within))
first_is (m ∷ ms) n zero r within all here d = head_is m ms n r (not_less m n (here d))
first_is (m ∷ ms) n (suc i) r within all here d =
    rw (less_not m n (all 0 m (omega arith))) (first_is ms n i (rest_rises m ms r) (omega (arith, within)) (λ k e h. all (suc k) e (omega (arith, h))) here d)

pub rises_from : (ms : List ℤ) → AllAdjacentBelow (λ m n. true ≡ int_lt m n) ms (length ms) → Rises ms
rises_from [] h = tt
rises_from (m ∷ []) h = tt
rises_from (m ∷ n ∷ ms) h = (
  is_less m n (h 0 m (omega arith)),
  rises_from (n ∷ ms) (λ k d g.
      let next : suc k + 1 ≡ suc (k + 1) = omega arith in
      subst (λ x. true ≡ int_lt (get_or (n ∷ ms) k d) x) (ap (λ i. get_or (m ∷ n ∷ ms) i d) next) (h (suc k) d (omega (arith, g)))),
)

next_above : (ms : List ℤ) (k : ℕ) (d : ℤ) → Rises ms → k + 1 < length ms → get_or ms k d <ℤ get_or ms (k + 1) d
next_above [] k d r h = absurd (omega (arith, h))
next_above (m ∷ ms) zero d r h = first_below m ms 0 d r (omega (arith, h))
next_above (m ∷ ms) (suc k) d r h =
    let next : suc (k + 1) ≡ suc k + 1 = omega arith in
    subst (λ x. get_or ms k d <ℤ x) (ap (λ i. get_or (m ∷ ms) i d) next) (next_above ms k d (rest_rises m ms r) (omega (arith, h)))

not_above : (m n : ℤ) → m <ℤ n → false ≡ int_lt m n → ⊥
not_above m n h t = grind (arith, ints)

pub falls_from : (ms : List ℤ) → (k : ℕ) × (k + 1 < length ms) × ((d : ℤ) → false ≡ int_lt (get_or ms k d) (get_or ms (k + 1) d)) → Rises ms → ⊥
falls_from ms fall r = not_above (get_or ms fall.0 (pos 0)) (get_or ms (fall.0 + 1) (pos 0)) (next_above ms fall.0 (pos 0) r fall.1) (fall.2 (pos 0))
