-- Ascending numbers, each once.
use Rattle.std.proofs.Common.{◌≡◌, inl, inr, ◌↔◌, ℕ, zero, suc, ◌+◌, ◌<◌, ℤ, ◌≤ℤ◌, ◌<ℤ◌, List, [], ◌∷◌, ◌++◌, Option, Some, None, length, take, get_or, arith, refl, sym, ap, subst, ◌∙◌}
use Rattle.std.specs.List.Sorted.{IsSorted, IsPermutation}
use Rattle.std.specs.List.{Contains}
use Rattle.std.proofs.Common.{int_cmp, ◌≤◌, take_all, Bool, true, false, cond, int_lt, int_eq, true≢false}
use Rattle.std.specs.Option.{option_eq}
use Rattle.std.specs.Ordering.{is_lt}
use Rattle.std.specs.declared.cmp.Ordering.TheVariants.{Less, Greater, Equal}
use Rattle.std.proofs.Math.Seq.{take-suc}
use Rattle.std.proofs.lemmas.List.Sorted.{Contains-permutation, IsPermutation-sym}
use Rattle.ix_landmarks.proofs.Added.{among_left, among_right, among_either}
use Rattle.std.proofs.lemmas.Int.{ints}
use Rattle.ix_facts.specs.Round.{IsAmong, Rises}
use Rattle.ix_landmarks.specs.Items.{IsAscending}

-- the last of some numbers, which are all at most it
abbrev IsLast : Option ℤ → List ℤ → Type 0
IsLast None ns = ns ≡ []
IsLast (Some last) ns = IsAmong last ns × ((n : ℤ) → IsAmong n ns → n ≤ℤ last)

-- rising numbers, the last of them, and the numbers that they are
pub record IsOnce (ints : List ℤ) (last : Option ℤ) (front : List ℤ) : Type 0 where
  pub rises : Rises ints
  pub ends : IsLast last ints
  pub same : (n : ℤ) → IsAmong n ints ↔ IsAmong n front

abbrev IsFirstAtLeast : ℤ → List ℤ → Type 0
IsFirstAtLeast least [] = Unit {0}
IsFirstAtLeast least (n ∷ ns) = least ≤ℤ n

rises_more : (ms : List ℤ) (n : ℤ) → Rises ms → ((m : ℤ) → IsAmong m ms → m <ℤ n) → Rises (ms ++ n ∷ [])
rises_more [] n rises below = tt
rises_more (m ∷ []) n rises below = (below m (inl refl), tt)
rises_more (m ∷ k ∷ ms) n rises below = (rises.0, rises_more (k ∷ ms) n rises.1 (λ j has. below j (inr has)))

-- each of ascending numbers is at least what the first of them is at least
first_least : (ns : List ℤ) (least : ℤ) (k : ℕ) (d : ℤ) → IsFirstAtLeast least ns → IsAscending ns → k < length ns → least ≤ℤ get_or ns k d
first_least [] least k d first up within = absurd (omega (arith, within))
first_least (n ∷ ns) least zero d first up within = first
first_least (n ∷ []) least (suc k) d first up within = absurd (omega (arith, within))
first_least (n ∷ j ∷ ns) least (suc k) d first up within = first_least (j ∷ ns) least k d (grind (arith, ints, first, up.0)) up.1 (omega (arith, within))

-- in ascending numbers each is at least those before it
ascends : (ns : List ℤ) (k : ℕ) (d : ℤ) → IsAscending ns → k < length ns → (m : ℤ) → IsAmong m (take k ns) → m ≤ℤ get_or ns k d
ascends [] k d up within m has = absurd (omega (arith, within))
ascends (n ∷ ns) zero d up within m has = absurd has
ascends (n ∷ []) (suc k) d up within m has = absurd (omega (arith, within))
ascends (n ∷ j ∷ ns) (suc k) d up within m (inl is) = grind (arith, ints, is, first_least (j ∷ ns) n k d up.0 up.1 (omega (arith, within)))
ascends (n ∷ j ∷ ns) (suc k) d up within m (inr has) = ascends (j ∷ ns) k d up.1 (omega (arith, within)) m has

-- ---- one number more

strictly : (l x : ℤ) → l ≤ℤ x → (l ≡ x → ⊥) → l <ℤ x
strictly l x most apart = grind (arith, ints)

below_last : (ns ints : List ℤ) (last : Option ℤ) (k : ℕ) (d : ℤ) → IsAscending ns → k < length ns → IsOnce ints last (take k ns) → (last ≡ Some (get_or ns k d) → ⊥)
    → (m : ℤ) → IsAmong m ints → m <ℤ get_or ns k d
below_last ns ints None k d up within once apart m has = absurd (subst (IsAmong m) once.ends has)
below_last ns ints (Some l) k d up within once apart m has =
    let x = get_or ns k d in
    let most : l <ℤ x = strictly l x (ascends ns k d up within l ((once.same l).0 once.ends.0)) (λ is. apart (ap Some is)) in
    let under : m ≤ℤ l = once.ends.1 m has in
    grind (arith, ints)

pub next_front : (ns : List ℤ) (k : ℕ) (d : ℤ) → k < length ns → take (k + 1) ns ≡ take k ns ++ get_or ns k d ∷ []
next_front ns k d within = (let e : k + 1 ≡ suc k = omega arith in ap (λ j. take j ns) e) ∙ take-suc ns k d within

both_ways : (ints front : List ℤ) (x n : ℤ) → (IsAmong n ints ↔ IsAmong n front) → IsAmong n (ints ++ x ∷ []) ↔ IsAmong n (front ++ x ∷ [])
both_ways ints front x n same = (
  λ has. elim (among_either n ints (x ∷ []) has) [
    | inl left ↦ among_left n front (x ∷ []) (same.0 left)
    | inr right ↦ among_right n front (x ∷ []) right
  ],
  λ has. elim (among_either n front (x ∷ []) has) [
    | inl left ↦ among_left n ints (x ∷ []) (same.1 left)
    | inr right ↦ among_right n ints (x ∷ []) right
  ],
)

pub once_more : (ns ints : List ℤ) (last : Option ℤ) (k : ℕ) (d : ℤ) → IsAscending ns → k < length ns → IsOnce ints last (take k ns) → (last ≡ Some (get_or ns k d) → ⊥)
    → IsOnce (ints ++ get_or ns k d ∷ []) (Some (get_or ns k d)) (take (k + 1) ns)
once_more ns ints last k d up within once apart =
    let x = get_or ns k d in
    let below = below_last ns ints last k d up within once apart in
    record {
      rises = rises_more ints x once.rises below;
      ends = (
        among_right x ints (x ∷ []) (inl refl),
        λ n has. elim (among_either n ints (x ∷ []) has) [
          | inl left ↦ (let under : n <ℤ x = below n left in grind (arith, ints))
          | inr (inl is) ↦ grind (arith, ints)
          | inr (inr none) ↦ absurd none
        ],
      );
      same = λ n. subst (λ front. IsAmong n (ints ++ x ∷ []) ↔ IsAmong n front) (sym (next_front ns k d within)) (both_ways ints (take k ns) x n (once.same n));
    }

pub once_again : (ns ints : List ℤ) (last : Option ℤ) (k : ℕ) (d : ℤ) → k < length ns → IsOnce ints last (take k ns) → last ≡ Some (get_or ns k d) → IsOnce ints last (take (k + 1) ns)
once_again ns ints last k d within once is =
    let x = get_or ns k d in
    let ends : IsLast (Some x) ints = subst (λ l. IsLast l ints) is once.ends in
    record {
      rises = once.rises;
      ends = once.ends;
      same = λ n. subst (λ front. IsAmong n ints ↔ IsAmong n front) (sym (next_front ns k d within)) (
        λ has. among_left n (take k ns) (x ∷ []) ((once.same n).0 has),
        λ has. elim (among_either n (take k ns) (x ∷ []) has) [
          | inl left ↦ (once.same n).1 left
          | inr (inl same) ↦ subst (λ m. IsAmong m ints) (sym same) ends.0
          | inr (inr none) ↦ absurd none
        ],
      );
    }

pub all_once : (ns kept : List ℤ) (last : Option ℤ) (k : ℕ) → length ns ≤ k → IsOnce kept last (take k ns) → (n : ℤ) → IsAmong n kept ↔ IsAmong n ns
all_once ns kept last k past once n = subst (λ front. IsAmong n kept ↔ IsAmong n front) (take_all k ns past) (once.same n)

-- ---- what a sort gives

most : (m n : ℤ) (less : Bool) → int_lt n m ≡ less → is_lt (cond less Less (cond (int_lt m n) Greater Equal)) ≡ false → m ≤ℤ n
most m n true is apart = absurd (true≢false apart)
most m n false is apart = grind (arith, ints)

pub sorted_ascends : (ns : List ℤ) → IsSorted int_cmp ns → IsAscending ns
sorted_ascends [] sorted = tt
sorted_ascends (n ∷ []) sorted = tt
sorted_ascends (n ∷ m ∷ ns) sorted = (
  most n m (int_lt m n) refl (sorted 0 n (omega arith) (omega arith)),
  sorted_ascends (m ∷ ns) (λ k d low high.
      let e : suc k + 1 ≡ suc (k + 1) = omega arith in
      subst (λ j. is_lt (int_cmp (get_or (n ∷ m ∷ ns) j d) (get_or (m ∷ ns) k d)) ≡ false) e (sorted (suc k) d (omega arith) (omega (arith, high)))),
)

among_contains : (ns : List ℤ) (n : ℤ) → IsAmong n ns → Contains ns n
among_contains [] n has = absurd has
among_contains (m ∷ ns) n (inl is) = (0, omega arith, sym is)
among_contains (m ∷ ns) n (inr has) = let r = among_contains ns n has in (suc r.0, omega (arith, r.1), r.2)

contains_among : (ns : List ℤ) (n : ℤ) (k : ℕ) → k < length ns → get_or ns k n ≡ n → IsAmong n ns
contains_among [] n k within is = absurd (omega (arith, within))
contains_among (m ∷ ns) n zero within is = inl (sym is)
contains_among (m ∷ ns) n (suc k) within is = inr (contains_among ns n k (omega (arith, within)) is)

pub same_members : (xs ys : List ℤ) (n : ℤ) → IsPermutation xs ys → IsAmong n xs ↔ IsAmong n ys
same_members xs ys n moved = (
  λ has. let r = Contains-permutation xs ys n moved (among_contains xs n has) in contains_among ys n r.0 r.1 r.2,
  λ has. let r = Contains-permutation ys xs n (IsPermutation-sym xs ys moved) (among_contains ys n has) in contains_among xs n r.0 r.1 r.2,
)

-- ---- whether the last number is this one

pub some_same : (l : Option ℤ) (x : ℤ) → l ≡ Some x → option_eq int_eq l (Some x) ≡ true
some_same l x is = subst (λ o. option_eq int_eq o (Some x) ≡ true) (sym is) (let e : int_eq x x ≡ true = grind (arith, ints) in e)

pub same_some : (l : Option ℤ) (x : ℤ) → option_eq int_eq l (Some x) ≡ true → l ≡ Some x
same_some None x is = absurd (true≢false (sym is))
same_some (Some y) x is = ap Some (let e : y ≡ x = grind (arith, ints) in e)
