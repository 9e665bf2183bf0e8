-- The members of an interval, and the intervals of all common, all enclosed, all negated and all flipped numbers.
use Rattle.std.proofs.Common.{◌≡◌, ◌⊎◌, ◌↔◌, inl, inr, true, false, refl, ℤ, neg_ℤ, ◌≤ℤ◌, arith}
use Rattle.std.specs.Prelude.{IsTrue, int_le}
use Rattle.std.proofs.lemmas.Bool.{both_ways}
use Rattle.std.specs.Int.{int_min, int_max}
use Rattle.std.proofs.lemmas.Int.{ints, clamps, by_lt_z}
use Rattle.ix_num.proofs.IntTests.{at_most_decides}
use Rattle.ix_num.specs.declared.interval.Interval.{Interval}
use Rattle.ix_num.specs.Arithmetic.{flip_of}
use Rattle.ix_num.specs.Intervals.{Includes, IsWithin, IsEmpty, interval, normal, no_numbers, is_empty, includes, meet_of, hull_of, neg_of, not_of}

-- which of its two answers the test gives, and what it tells
pub cases_empty : (i : Interval) → ((is_empty i ≡ true) × IsEmpty i) ⊎ ((is_empty i ≡ false) × (i.lo ≤ℤ i.hi))
cases_empty i = by_lt_z i.hi i.lo (λ h. inl (grind (arith, ints), h)) (λ h. inr (grind (arith, ints), h))

-- the two tests of `includes`: that of the upper end where the lower one passes, and that of the lower one
pub includes_from : (i : Interval) (n : ℤ) → int_le i.lo n ≡ true → (int_le n i.hi ≡ includes i n) × (IsTrue (int_le n i.hi) ↔ Includes i n)
includes_from i n low = (
  rw low,
  (λ h. record { from = grind (arith, ints); to = (at_most_decides n i.hi).0 h }, λ p. (at_most_decides n i.hi).1 p.to),
)

pub not_from : (i : Interval) (n : ℤ) → int_le i.lo n ≡ false → (false ≡ includes i n) × (IsTrue false ↔ Includes i n)
not_from i n low = (
  rw low,
  (λ h. absurd (both_ways false refl h), λ p. absurd (both_ways _ low ((at_most_decides i.lo n).1 p.from))),
)

pub within_by_ends : (i j : Interval) → j.lo ≤ℤ i.lo → i.hi ≤ℤ j.hi → IsWithin i j
within_by_ends i j from to = record { each = λ n p. record { from = omega (arith, ints, p.from); to = omega (arith, ints, p.to) } }

pub within_if_empty : (i j : Interval) → IsEmpty i → IsWithin i j
within_if_empty i j empty = record { each = λ n p. absurd (omega (arith, ints, p.from, p.to)) }

pub within_itself : (i : Interval) → IsWithin i i
within_itself i = record { each = λ n p. p }

pub within_within : (i j k : Interval) → IsWithin i j → IsWithin j k → IsWithin i k
within_within i j k p q = record { each = λ n m. q.each n (p.each n m) }

-- the ends of an interval that is not empty are members
pub low_end : (i : Interval) → i.lo ≤ℤ i.hi → Includes i i.lo
low_end i some = record { from = omega (arith, ints); to = some }

pub high_end : (i : Interval) → i.lo ≤ℤ i.hi → Includes i i.hi
high_end i some = record { from = some; to = omega (arith, ints) }

pub filled : (i : Interval) → is_empty i ≡ false → i.lo ≤ℤ i.hi
filled i some = grind (arith, ints)

-- the two tests of `is_within`, at an interval that is not empty: that of the upper ends where the lower ones pass, and that of the lower ones
pub within_if_low : (i j : Interval) → i.lo ≤ℤ i.hi → int_le j.lo i.lo ≡ true → IsTrue (int_le i.hi j.hi) ↔ IsWithin i j
within_if_low i j some low = (
  λ high. within_by_ends i j (grind (arith, ints)) (grind (arith, ints)),
  λ within. let top = within.each i.hi (high_end i some) in let to = top.to in grind (arith, ints),
)

pub not_within_low : (i j : Interval) → i.lo ≤ℤ i.hi → int_le j.lo i.lo ≡ false → IsTrue (int_le j.lo i.lo) ↔ IsWithin i j
not_within_low i j some low = (
  λ is. absurd (both_ways _ low is),
  λ within. let bottom = within.each i.lo (low_end i some) in let from = bottom.from in grind (arith, ints),
)

-- a member is between two members where the interval is convex: what lies between two members is one
pub between_members : (i : Interval) (m n k : ℤ) → Includes i m → Includes i n → m ≤ℤ k → k ≤ℤ n → Includes i k
between_members i m n k p q from to = record { from = omega (arith, ints, p.from); to = omega (arith, ints, q.to) }

-- `normal` keeps the members
pub normal_in : (i : Interval) (n : ℤ) → Includes i n → Includes (normal i) n
normal_in i n p =
    elim (cases_empty i) [ inl e ↦ absurd (omega (arith, ints, e.1, p.from, p.to)) | inr e ↦ rw (e.0) p ]

pub normal_out : (i : Interval) (n : ℤ) → Includes (normal i) n → Includes i n
normal_out i n =
    elim (cases_empty i) [ inl e ↦ rw (e.0) (λ p. absurd (omega (arith, ints, p.from, p.to))) | inr e ↦ rw (e.0) (λ p. p) ]

-- ---- all common numbers

pub meet_common : (i j : Interval) (n : ℤ) → Includes (meet_of i j) n ↔ (Includes i n × Includes j n)
meet_common i j n =
    let common = interval (int_max i.lo j.lo) (int_min i.hi j.hi) in (
      λ p. let q = normal_out common n p in (record { from = omega (arith, ints, clamps, q.from); to = omega (arith, ints, clamps, q.to) }, record { from = omega (arith, ints, clamps, q.from); to = omega (arith, ints, clamps, q.to) }),
      λ p. normal_in common n (record { from = omega (arith, ints, clamps, p.0.from, p.1.from); to = omega (arith, ints, clamps, p.0.to, p.1.to) }),
    )

pub meet_monotone : (i j x y : Interval) → IsWithin i x → IsWithin j y → IsWithin (meet_of i j) (meet_of x y)
meet_monotone i j x y p q = record { each = λ n m. let b = (meet_common i j n).0 m in (meet_common x y n).1 (p.each n b.0, q.each n b.1) }

-- ---- all enclosed numbers

pub hull_left : (i j : Interval) → IsWithin i (hull_of i j)
hull_left i j =
    elim (cases_empty i) [
      | inl e ↦ within_if_empty i _ e.1
      | inr e ↦ rw (e.0) (elim (cases_empty j) [
        | inl f ↦ rw (f.0) (within_itself i)
        | inr f ↦ rw (f.0) (within_by_ends i _ (omega (arith, ints, clamps)) (omega (arith, ints, clamps)))
      ])
    ]

pub hull_right : (i j : Interval) → IsWithin j (hull_of i j)
hull_right i j =
    elim (cases_empty i) [
      | inl e ↦ rw (e.0) (record { each = normal_in j })
      | inr e ↦ rw (e.0) (elim (cases_empty j) [
        | inl f ↦ within_if_empty j _ f.1
        | inr f ↦ rw (f.0) (within_by_ends j _ (omega (arith, ints, clamps)) (omega (arith, ints, clamps)))
      ])
    ]

pub hull_least : (i j k : Interval) → IsWithin i k → IsWithin j k → IsWithin (hull_of i j) k
hull_least i j k p q =
    elim (cases_empty i) [
      | inl e ↦ rw (e.0) (record { each = λ n m. q.each n (normal_out j n m) })
      | inr e ↦ rw (e.0) (elim (cases_empty j) [
        | inl f ↦ rw (f.0) p
        | inr f ↦ rw (f.0) (
            let a = p.each i.lo (low_end i e.1) in
            let b = p.each i.hi (high_end i e.1) in
            let c = q.each j.lo (low_end j f.1) in
            let d = q.each j.hi (high_end j f.1) in
            within_by_ends _ k (omega (arith, ints, clamps, a.from, c.from)) (omega (arith, ints, clamps, b.to, d.to)))
      ])
    ]

pub hull_monotone : (i j x y : Interval) → IsWithin i x → IsWithin j y → IsWithin (hull_of i j) (hull_of x y)
hull_monotone i j x y p q = hull_least i j (hull_of x y) (within_within i x _ p (hull_left x y)) (within_within j y _ q (hull_right x y))

-- ---- all negated and all flipped numbers

pub neg_if_empty : (i : Interval) → is_empty i ≡ true → neg_of i ≡ no_numbers
neg_if_empty i empty =
    let is : is_empty (interval (neg_ℤ i.hi) (neg_ℤ i.lo)) ≡ true = grind (arith, ints) in
    rw is

pub neg_if_some : (i : Interval) → is_empty i ≡ false → neg_of i ≡ interval (neg_ℤ i.hi) (neg_ℤ i.lo)
neg_if_some i some =
    let is : is_empty (interval (neg_ℤ i.hi) (neg_ℤ i.lo)) ≡ false = grind (arith, ints) in
    rw is

pub not_if_empty : (i : Interval) → is_empty i ≡ true → not_of i ≡ no_numbers
not_if_empty i empty =
    let is : is_empty (interval (flip_of i.hi) (flip_of i.lo)) ≡ true = grind (arith, ints) in
    rw is

pub not_if_some : (i : Interval) → is_empty i ≡ false → not_of i ≡ interval (flip_of i.hi) (flip_of i.lo)
not_if_some i some =
    let is : is_empty (interval (flip_of i.hi) (flip_of i.lo)) ≡ false = grind (arith, ints) in
    rw is

pub neg_members : (i : Interval) (n : ℤ) → Includes (neg_of i) n ↔ Includes i (neg_ℤ n)
neg_members i n =
    let negated = interval (neg_ℤ i.hi) (neg_ℤ i.lo) in (
      λ p. let q = normal_out negated n p in record { from = omega (arith, ints, q.to); to = omega (arith, ints, q.from) },
      λ p. normal_in negated n (record { from = omega (arith, ints, p.to); to = omega (arith, ints, p.from) }),
    )

pub neg_monotone : (i x : Interval) → IsWithin i x → IsWithin (neg_of i) (neg_of x)
neg_monotone i x p = record { each = λ n m. (neg_members x n).1 (p.each (neg_ℤ n) ((neg_members i n).0 m)) }

pub not_members : (i : Interval) (n : ℤ) → Includes (not_of i) n ↔ Includes i (flip_of n)
not_members i n =
    let flipped = interval (flip_of i.hi) (flip_of i.lo) in (
      λ p. let q = normal_out flipped n p in record { from = omega (arith, ints, q.to); to = omega (arith, ints, q.from) },
      λ p. normal_in flipped n (record { from = omega (arith, ints, p.to); to = omega (arith, ints, p.from) }),
    )

pub not_monotone : (i x : Interval) → IsWithin i x → IsWithin (not_of i) (not_of x)
not_monotone i x p = record { each = λ n m. (not_members x n).1 (p.each (flip_of n) ((not_members i n).0 m)) }
