-- Each list of numbers has landmarks.
use Rattle.std.proofs.Common.{◌≡◌, ◌⊎◌, inl, inr, true, false, ℤ, pos, negsuc, ◌+ℤ◌, ◌-ℤ◌, ◌≤ℤ◌, ◌<ℤ◌, List, [], ◌∷◌, arith, refl, sym, subst, ⊎_elim}
use Rattle.std.specs.Prelude.{int_le, int_lt, cond, ◌&&◌}
use Rattle.std.proofs.lemmas.Int.{ints}
use Rattle.ix_num.specs.Ints.{least_int, greatest_int, IsInt}
use Rattle.ix_core.proofs.Cases.{by_test}
use Rattle.std.proofs.lemmas.Bool.{and_parts, and_from}
use Rattle.ix_facts.proofs.Tests.{at_most_true, at_most_is}
use Rattle.ix_facts.specs.Round.{IsAmong, IsLandmark, Rises, AreLandmarks}

-- ---- rising numbers with one more

with_number : ℤ → List ℤ → List ℤ
with_number n [] = n ∷ []
with_number n (m ∷ ms) = cond (int_lt n m) (n ∷ m ∷ ms) (cond (int_lt m n) (m ∷ with_number n ms) (m ∷ ms))

not_below : (n m : ℤ) → int_lt n m ≡ false → int_lt m n ≡ false → n ≡ m
not_below n m first second = grind (arith, ints)

is_below : (n m : ℤ) → int_lt n m ≡ true → n <ℤ m
is_below n m test = grind (arith, ints)

from_number : (n k : ℤ) (ms : List ℤ) → IsAmong k (with_number n ms) → (k ≡ n) ⊎ IsAmong k ms
unfolding with_number
from_number n k [] has = has
from_number n k (m ∷ ms) has =
    by_test (int_lt n m)
    (λ t. rw t at has)
    (λ t. by_test (int_lt m n)
    (λ u. ⊎_elim (λ is. inr (inl is)) (λ there. ⊎_elim (λ is. inl is) (λ rest. inr (inr rest)) (from_number n k ms there)) (rw (t, u) at has))
    (λ u. inr (rw (t, u) at has)))

the_number : (n : ℤ) (ms : List ℤ) → IsAmong n (with_number n ms)
unfolding with_number
the_number n [] = inl refl
the_number n (m ∷ ms) =
    by_test (int_lt n m)
    (λ t. rw t (inl refl))
    (λ t. by_test (int_lt m n) (λ u. rw (t, u) (inr (the_number n ms))) (λ u. rw (t, u) (inl (not_below n m t u))))

others_there : (n k : ℤ) (ms : List ℤ) → IsAmong k ms → IsAmong k (with_number n ms)
unfolding with_number
others_there n k [] has = absurd has
others_there n k (m ∷ ms) has =
    by_test (int_lt n m)
    (λ t. rw t (inr has))
    (λ t. by_test (int_lt m n) (λ u. rw (t, u) (⊎_elim (λ is. inl is) (λ there. inr (others_there n k ms there)) has)) (λ u. rw (t, u) has))

rises_behind : (m : ℤ) (ms : List ℤ) → Rises (m ∷ ms) → Rises ms
rises_behind m [] rises = tt
rises_behind m (k ∷ ms) rises = rises.1

all_above : (m k : ℤ) (ms : List ℤ) → Rises (m ∷ ms) → IsAmong k ms → m <ℤ k
all_above m k [] rises has = absurd has
all_above m k (j ∷ ms) rises (inl is) = grind (arith, ints, is, rises.0)
all_above m k (j ∷ ms) rises (inr there) = grind (arith, ints, rises.0, all_above j k ms rises.1 there)

rises_from : (m : ℤ) (ms : List ℤ) → ((k : ℤ) → IsAmong k ms → m <ℤ k) → Rises ms → Rises (m ∷ ms)
rises_from m [] above rises = tt
rises_from m (k ∷ ms) above rises = (above k (inl refl), rises)

number_rises : (n : ℤ) (ms : List ℤ) → Rises ms → Rises (with_number n ms)
unfolding with_number
number_rises n [] rises = tt
number_rises n (m ∷ ms) rises =
    by_test (int_lt n m)
    (λ t. rw t (is_below n m t, rises))
    (λ t. by_test (int_lt m n)
    (λ u. rw (t, u) (rises_from m (with_number n ms)
    (λ k has. ⊎_elim (λ is. subst (λ j. m <ℤ j) (sym is) (is_below m n u)) (λ there. all_above m k ms rises there) (from_number n k ms has))
    (number_rises n ms (rises_behind m ms rises))))
    (λ u. rw (t, u) rises))

-- ---- with one more that is an int

with_int : ℤ → List ℤ → List ℤ
with_int n ms = cond (int_le least_int n && int_le n greatest_int) (with_number n ms) ms

int_when : (n : ℤ) → (int_le least_int n && int_le n greatest_int) ≡ true → IsInt n
int_when n test = let both = and_parts (int_le least_int n) (int_le n greatest_int) test in record { from = at_most_true least_int n both.0; to = at_most_true n greatest_int both.1 }

when_int : (n : ℤ) → IsInt n → (int_le least_int n && int_le n greatest_int) ≡ true
when_int n int = and_from (int_le least_int n) (int_le n greatest_int) (at_most_is least_int n int.from) (at_most_is n greatest_int int.to)

from_int : (n k : ℤ) (ms : List ℤ) → IsAmong k (with_int n ms) → ((k ≡ n) × IsInt k) ⊎ IsAmong k ms
unfolding with_int
from_int n k ms has =
    by_test (int_le least_int n && int_le n greatest_int)
    (λ t. ⊎_elim (λ is. inl (is, subst IsInt (sym is) (int_when n t))) (λ there. inr there) (from_number n k ms (rw t at has)))
    (λ t. inr (rw t at has))

the_int : (n : ℤ) (ms : List ℤ) → IsInt n → IsAmong n (with_int n ms)
unfolding with_int
the_int n ms int = rw (when_int n int) (the_number n ms)

ints_there : (n k : ℤ) (ms : List ℤ) → IsAmong k ms → IsAmong k (with_int n ms)
unfolding with_int
ints_there n k ms has = by_test (int_le least_int n && int_le n greatest_int) (λ t. rw t (others_there n k ms has)) (λ t. rw t has)

int_rises : (n : ℤ) (ms : List ℤ) → Rises ms → Rises (with_int n ms)
unfolding with_int
int_rises n ms rises = by_test (int_le least_int n && int_le n greatest_int) (λ t. rw t (number_rises n ms rises)) (λ t. rw t rises)

-- ---- the landmarks of numbers

with_near : ℤ → List ℤ → List ℤ
with_near c ms = with_int (c -ℤ pos 1) (with_int c (with_int (c +ℤ pos 1) ms))

marks : List ℤ → List ℤ
marks [] = least_int ∷ negsuc 0 ∷ pos 0 ∷ pos 1 ∷ greatest_int ∷ []
marks (c ∷ numbers) = with_near c (marks numbers)

near_rises : (c : ℤ) (ms : List ℤ) → Rises ms → Rises (with_near c ms)
unfolding with_near
near_rises c ms rises = int_rises (c -ℤ pos 1) (with_int c (with_int (c +ℤ pos 1) ms)) (int_rises c (with_int (c +ℤ pos 1) ms) (int_rises (c +ℤ pos 1) ms rises))

marks_rise : (numbers : List ℤ) → Rises (marks numbers)
unfolding marks
marks_rise [] = (omega (arith, ints), (omega (arith, ints), (omega (arith, ints), (omega (arith, ints), tt))))
marks_rise (c ∷ numbers) = near_rises c (marks numbers) (marks_rise numbers)

-- n is an int at most 1 away from c
IsNear : ℤ → ℤ → Type 0
IsNear c n = IsInt n × ((c -ℤ pos 1) ≤ℤ n) × (n ≤ℤ (c +ℤ pos 1))

from_near : (c n : ℤ) (ms : List ℤ) → IsAmong n (with_near c ms) → IsNear c n ⊎ IsAmong n ms
unfolding with_near IsNear
from_near c n ms has =
    ⊎_elim (λ is. let e = is.0 in inl (is.1, omega (arith, ints), omega (arith, ints)))
    (λ more. ⊎_elim (λ is. let e = is.0 in inl (is.1, omega (arith, ints), omega (arith, ints)))
    (λ rest. ⊎_elim (λ is. let e = is.0 in inl (is.1, omega (arith, ints), omega (arith, ints))) (λ there. inr there) (from_int (c +ℤ pos 1) n ms rest))
    (from_int c n (with_int (c +ℤ pos 1) ms) more))
    (from_int (c -ℤ pos 1) n (with_int c (with_int (c +ℤ pos 1) ms)) has)

one_of_three : (c n : ℤ) → (c -ℤ pos 1) ≤ℤ n → n ≤ℤ (c +ℤ pos 1) → (n ≡ c -ℤ pos 1) ⊎ ((n ≡ c) ⊎ (n ≡ c +ℤ pos 1))
one_of_three c n from to =
    by_test (int_lt n c)
    (λ t. inl (let below = is_below n c t in omega (arith, ints)))
    (λ t. by_test (int_lt c n) (λ u. inr (inr (let above = is_below c n u in omega (arith, ints)))) (λ u. inr (inl (not_below n c t u))))

near_there : (c n : ℤ) (ms : List ℤ) → IsNear c n → IsAmong n (with_near c ms)
unfolding with_near IsNear
near_there c n ms near =
    ⊎_elim (λ is. subst (λ k. IsAmong k (with_int (c -ℤ pos 1) (with_int c (with_int (c +ℤ pos 1) ms)))) (sym is) (the_int (c -ℤ pos 1) (with_int c (with_int (c +ℤ pos 1) ms)) (subst IsInt is near.0)))
    (λ more. ints_there (c -ℤ pos 1) n (with_int c (with_int (c +ℤ pos 1) ms)) (⊎_elim
    (λ is. subst (λ k. IsAmong k (with_int c (with_int (c +ℤ pos 1) ms))) (sym is) (the_int c (with_int (c +ℤ pos 1) ms) (subst IsInt is near.0)))
    (λ is. ints_there c n (with_int (c +ℤ pos 1) ms) (subst (λ k. IsAmong k (with_int (c +ℤ pos 1) ms)) (sym is) (the_int (c +ℤ pos 1) ms (subst IsInt is near.0))))
    more))
    (one_of_three c n near.1 near.2)

others_near : (c n : ℤ) (ms : List ℤ) → IsAmong n ms → IsAmong n (with_near c ms)
unfolding with_near
others_near c n ms has = ints_there (c -ℤ pos 1) n (with_int c (with_int (c +ℤ pos 1) ms)) (ints_there c n (with_int (c +ℤ pos 1) ms) (ints_there (c +ℤ pos 1) n ms has))

more_landmarks : (c n : ℤ) (numbers : List ℤ) → IsLandmark numbers n → IsLandmark (c ∷ numbers) n
more_landmarks c n numbers mark = record {
  int = mark.int;
  is = elim mark.is [
    | inl end ↦ inl end
    | inr (inl small) ↦ inr (inl small)
    | inr (inr near) ↦ inr (inr (near.0, inr near.1, near.2, near.3))
  ];
}

is_mark : (numbers : List ℤ) (n : ℤ) → IsAmong n (marks numbers) → IsLandmark numbers n
unfolding marks IsNear
is_mark [] n (inl is) = record { int = record { from = omega (arith, ints, is); to = omega (arith, ints, is) }; is = inl (inl is) }
is_mark [] n (inr (inl is)) = record { int = record { from = omega (arith, ints, is); to = omega (arith, ints, is) }; is = inr (inl (omega (arith, ints, is), omega (arith, ints, is))) }
is_mark [] n (inr (inr (inl is))) = record { int = record { from = omega (arith, ints, is); to = omega (arith, ints, is) }; is = inr (inl (omega (arith, ints, is), omega (arith, ints, is))) }
is_mark [] n (inr (inr (inr (inl is)))) = record { int = record { from = omega (arith, ints, is); to = omega (arith, ints, is) }; is = inr (inl (omega (arith, ints, is), omega (arith, ints, is))) }
is_mark [] n (inr (inr (inr (inr (inl is))))) = record { int = record { from = omega (arith, ints, is); to = omega (arith, ints, is) }; is = inl (inr is) }
is_mark [] n (inr (inr (inr (inr (inr none))))) = absurd none
is_mark (c ∷ numbers) n has = ⊎_elim
    (λ near. record { int = near.0; is = inr (inr (c, inl refl, near.1, near.2)) })
    (λ there. more_landmarks c n numbers (is_mark numbers n there))
    (from_near c n (marks numbers) has)

small_one : (n : ℤ) → negsuc 0 ≤ℤ n → n ≤ℤ pos 1 → (n ≡ negsuc 0) ⊎ ((n ≡ pos 0) ⊎ (n ≡ pos 1))
small_one n from to = one_of_three (pos 0) n from to

first_marks : (n : ℤ) → IsLandmark [] n → IsAmong n (marks [])
unfolding marks
first_marks n mark = elim mark.is [
  | inl (inl least) ↦ inl least
  | inl (inr greatest) ↦ inr (inr (inr (inr (inl greatest))))
  | inr (inl small) ↦ elim (small_one n small.0 small.1) [
    | inl is ↦ inr (inl is)
    | inr (inl is) ↦ inr (inr (inl is))
    | inr (inr is) ↦ inr (inr (inr (inl is)))
  ]
  | inr (inr near) ↦ absurd near.1
]

mark_there : (numbers : List ℤ) (n : ℤ) → IsLandmark numbers n → IsAmong n (marks numbers)
unfolding marks IsNear
mark_there [] n mark = first_marks n mark
mark_there (c ∷ numbers) n mark = elim mark.is [
  | inl end ↦ others_near c n (marks numbers) (mark_there numbers n (record { int = mark.int; is = inl end }))
  | inr (inl small) ↦ others_near c n (marks numbers) (mark_there numbers n (record { int = mark.int; is = inr (inl small) }))
  | inr (inr (k, inl is, from, to)) ↦ near_there c n (marks numbers) (mark.int, subst (λ j. (j -ℤ pos 1) ≤ℤ n) is from, subst (λ j. n ≤ℤ (j +ℤ pos 1)) is to)
  | inr (inr (k, inr there, from, to)) ↦ others_near c n (marks numbers) (mark_there numbers n (record { int = mark.int; is = inr (inr (k, there, from, to)) }))
]

-- Any numbers have landmarks.
pub landmarks_exist : (numbers : List ℤ) → (ms : List ℤ) × AreLandmarks numbers ms
landmarks_exist numbers = (marks numbers, record { rises = marks_rise numbers; only = is_mark numbers; all = mark_there numbers })
