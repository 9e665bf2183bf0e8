-- Each row of the table is monotone: of smaller operands it gives a smaller interval.
use Rattle.std.proofs.Common.{◌≡◌, ◌⊎◌, inl, inr, true, false, refl, ℕ, suc, zero, ℤ, pos, negsuc, ◌*ℤ◌, ◌≤ℤ◌, ◌<ℤ◌, not, ◌-◌, ◌^◌, ◌<◌, ◌≤◌, int_le, int_div, int_lt, nat_lt, arith}
use Rattle.std.proofs.lemmas.Int.{ints, clamps, by_lt_z}
use Rattle.std.proofs.lemmas.Bool.{cases_Bool, both_ways, and_parts, ltb-true, not-true}
use Rattle.std.proofs.lemmas.Bool.Decides.{Decides-int_eq}
use Rattle.std.proofs.Math.Nat.{pow-le-pow_right}
use Rattle.std.specs.Ordering.{int_eq}
use Rattle.ix_num.specs.declared.interval.Interval.{Interval}
use Rattle.ix_num.specs.declared.arith.Arith.{Arith}
use Rattle.ix_num.specs.declared.arith.Arith.TheVariants.{Add, Sub, Mul, Div, Rem, And, Or, Xor, Shl, Shr, Ushr}
use Rattle.ix_num.specs.Ints.{greatest_int}
use Rattle.ix_num.specs.Arithmetic.{shift_distance}
use Rattle.ix_num.specs.Intervals.{Includes, IsWithin, IsIntRange, interval, no_numbers, includes, hull_of, all_ints}
use Rattle.ix_num.specs.OpRanges.{hull_of_two, mul_range, has_divisor, quotients_by, div_range, remainders_within, remainder_limit, and_range, or_range, xor_range, shr_range, ushr_range, greatest_after, row_of, is_natural, is_single}
use Rattle.ix_num.proofs.Members.{hull_least, low_end, high_end, within_by_ends, within_if_empty, within_itself}
use Rattle.ix_num.proofs.BitsWithinBounds.{ushr_natural}
use Rattle.ix_num.proofs.RowsInclude.{mul_includes, div_includes, shr_includes, ushr_includes, cases_natural, cases_single, between_two, test_true}

-- the ends of a smaller interval that is not empty are members of the greater
pub record TakesEnds (i x : Interval) : Type 0 where
  pub some : i.lo ≤ℤ i.hi
  pub low : Includes x i.lo
  pub high : Includes x i.hi

pub takes_ends : (i x : Interval) → i.lo ≤ℤ i.hi → IsWithin i x → TakesEnds i x
takes_ends i x some within = record { some = some; low = within.each i.lo (low_end i some); high = within.each i.hi (high_end i some) }

-- two members enclose members alone
two_within : (h : Interval) (p q : ℤ) → Includes h p → Includes h q → IsWithin (hull_of_two p q) h
two_within h p q a b = record { each = λ n m. between_two h p q n a b m }

mul_monotone : (i j x y : Interval) → TakesEnds i x → TakesEnds j y → IsWithin (mul_range i j) (mul_range x y)
mul_monotone i j x y p q =
    let h = mul_range x y in
    hull_least (hull_of_two (i.lo *ℤ j.lo) (i.lo *ℤ j.hi)) (hull_of_two (i.hi *ℤ j.lo) (i.hi *ℤ j.hi)) h
    (two_within h _ _ (mul_includes x y i.lo j.lo p.low q.low) (mul_includes x y i.lo j.hi p.low q.high))
    (two_within h _ _ (mul_includes x y i.hi j.lo p.high q.low) (mul_includes x y i.hi j.hi p.high q.high))

-- ---- `/`

quotient_member : (x y : Interval) (m d : ℤ) → Includes x m → Includes y d → (d ≡ pos 0 → ⊥) → Includes (div_range x y) (int_div m d)
quotient_member x y m (pos zero) p q divides = absurd (divides refl)
quotient_member x y m (pos (suc k)) p q divides = div_includes x y m (pos (suc k)) p q
quotient_member x y m (negsuc k) p q divides = div_includes x y m (negsuc k) p q

-- what the test for a divisor tells
pub divisor_included : (y : Interval) (d : ℤ) → has_divisor y d ≡ true → Includes y d
divisor_included y d has =
    let both = and_parts (includes y d) (not (int_eq d (pos 0))) has in
    let ends = and_parts (int_le y.lo d) (int_le d y.hi) both.0 in
    let low = ends.0 in
    let high = ends.1 in
    record { from = grind (arith, ints); to = grind (arith, ints) }

pub divisor_divides : (y : Interval) (d : ℤ) → has_divisor y d ≡ true → d ≡ pos 0 → ⊥
divisor_divides y d has is_zero =
    let both = and_parts (includes y d) (not (int_eq d (pos 0))) has in
    both_ways (int_eq d (pos 0)) (not-true _ both.1) ((Decides-int_eq d (pos 0)).1 is_zero)

-- the quotients by a divisor of the smaller interval are quotients of members of the greater
quotients_monotone : (i j x y : Interval) (d : ℤ) → TakesEnds i x → IsWithin j y → IsWithin (quotients_by i j d) (div_range x y)
quotients_monotone i j x y d p within =
    elim (cases_Bool (has_divisor j d)) [
      | inl e ↦
          let q = within.each d (divisor_included j d e) in
          let divides = divisor_divides j d e in
          rw e (two_within (div_range x y) _ _ (quotient_member x y i.lo d p.low q divides) (quotient_member x y i.hi d p.high q divides))
      | inr e ↦ rw e (within_if_empty no_numbers (div_range x y) (omega (arith, ints)))
    ]

div_monotone : (i j x y : Interval) → TakesEnds i x → IsWithin j y → IsWithin (div_range i j) (div_range x y)
div_monotone i j x y p within =
    let part = λ (d : ℤ). quotients_monotone i j x y d p within in
    let by_ends = hull_least (quotients_by i j j.lo) (quotients_by i j j.hi) (div_range x y) (part j.lo) (part j.hi) in
    let by_units = hull_least (quotients_by i j (negsuc 0)) (quotients_by i j (pos 1)) (div_range x y) (part (negsuc 0)) (part (pos 1)) in
    hull_least (hull_of (quotients_by i j j.lo) (quotients_by i j j.hi)) (hull_of (quotients_by i j (negsuc 0)) (quotients_by i j (pos 1))) (div_range x y) by_ends by_units

-- ---- `%`

limit_up : (j y : Interval) → TakesEnds j y → remainder_limit j ≤ℤ remainder_limit y
limit_up j y q = omega (arith, ints, clamps, q.low.from, q.low.to, q.high.from, q.high.to)

cases_limit : (m : ℤ) → ((int_lt m (pos 0) ≡ true) × (m <ℤ pos 0)) ⊎ ((int_lt m (pos 0) ≡ false) × (pos 0 ≤ℤ m))
cases_limit m = by_lt_z m (pos 0) (λ h. inl (grind (arith, ints), h)) (λ h. inr (grind (arith, ints), h))

remainders_monotone : (i x : Interval) (k m : ℤ) → k ≤ℤ m → TakesEnds i x → IsWithin (remainders_within i k) (remainders_within x m)
remainders_monotone i x k m up p =
    elim (cases_limit k) [
      | inl e ↦ rw (e.0) (within_if_empty no_numbers (remainders_within x m) (omega (arith, ints)))
      | inr e ↦ elim (cases_limit m) [
        | inl f ↦ absurd (omega (arith, ints, e.1, f.1))
        | inr f ↦ rw (e.0, f.0) (within_by_ends _ _ (omega (arith, ints, clamps, p.low.from)) (omega (arith, ints, clamps, p.high.to)))
      ]
    ]

-- ---- `& | ^`

-- an interval within one without negative numbers has none
natural_within : (i x : Interval) → TakesEnds i x → pos 0 ≤ℤ x.lo → is_natural i ≡ true
natural_within i x p h = let up = p.low.from in test_true (pos 0) i.lo (omega (arith, ints))

and_monotone : (i j x y : Interval) → IsIntRange x → IsIntRange y → TakesEnds i x → TakesEnds j y → IsWithin (and_range i j) (and_range x y)
and_monotone i j x y r s p q =
    elim (cases_natural x) [
      | inl e ↦
          let a = natural_within i x p e.1 in
          elim (cases_natural y) [
            | inl f ↦
                let b = natural_within j y q f.1 in
                rw (e.0, f.0, a, b) (within_by_ends _ _ (omega (arith, ints)) (omega (arith, ints, clamps, p.high.to, q.high.to)))
            | inr f ↦ elim (cases_natural j) [
              | inl b ↦ rw (e.0, f.0, a, b.0) (within_by_ends _ _ (omega (arith, ints)) (omega (arith, ints, clamps, p.high.to)))
              | inr b ↦ rw (e.0, f.0, a, b.0) (within_by_ends _ _ (omega (arith, ints)) (omega (arith, ints, p.high.to)))
            ]
          ]
      | inr e ↦ elim (cases_natural y) [
        | inl f ↦
            let b = natural_within j y q f.1 in
            elim (cases_natural i) [
              | inl a ↦ rw (e.0, f.0, a.0, b) (within_by_ends _ _ (omega (arith, ints)) (omega (arith, ints, clamps, q.high.to)))
              | inr a ↦ rw (e.0, f.0, a.0, b) (within_by_ends _ _ (omega (arith, ints)) (omega (arith, ints, q.high.to)))
            ]
        | inr f ↦ elim (cases_natural i) [
          | inl a ↦ elim (cases_natural j) [
            | inl b ↦ rw (e.0, f.0, a.0, b.0) (within_by_ends _ _ (omega (arith, ints)) (omega (arith, ints, clamps, p.high.to, r.to)))
            | inr b ↦ rw (e.0, f.0, a.0, b.0) (within_by_ends _ _ (omega (arith, ints)) (omega (arith, ints, p.high.to, r.to)))
          ]
          | inr a ↦ elim (cases_natural j) [
            | inl b ↦ rw (e.0, f.0, a.0, b.0) (within_by_ends _ _ (omega (arith, ints)) (omega (arith, ints, q.high.to, s.to)))
            | inr b ↦ rw (e.0, f.0, a.0, b.0) (within_itself all_ints)
          ]
        ]
      ]
    ]

-- the interval of `|` and of `^` is within all ints
or_ints : (i j : Interval) → IsWithin (or_range i j) all_ints
or_ints i j =
    elim (cases_natural i) [
      | inl a ↦ elim (cases_natural j) [
        | inl b ↦ rw (a.0, b.0) (within_by_ends _ _ (omega (arith, ints, clamps, a.1)) (omega (arith, ints)))
        | inr b ↦ rw (a.0, b.0) (within_itself all_ints)
      ]
      | inr a ↦ rw (a.0) (within_itself all_ints)
    ]

or_monotone : (i j x y : Interval) → TakesEnds i x → TakesEnds j y → IsWithin (or_range i j) (or_range x y)
or_monotone i j x y p q =
    elim (cases_natural x) [
      | inl e ↦ elim (cases_natural y) [
        | inl f ↦
            let a = natural_within i x p e.1 in
            let b = natural_within j y q f.1 in
            rw (e.0, f.0, a, b) (within_by_ends _ _ (omega (arith, ints, clamps, p.low.from, q.low.from)) (omega (arith, ints)))
        | inr f ↦ rw (e.0, f.0) (or_ints i j)
      ]
      | inr e ↦ rw (e.0) (or_ints i j)
    ]

xor_ints : (i j : Interval) → IsWithin (xor_range i j) all_ints
xor_ints i j =
    elim (cases_natural i) [
      | inl a ↦ elim (cases_natural j) [
        | inl b ↦ rw (a.0, b.0) (within_by_ends _ _ (omega (arith, ints)) (omega (arith, ints)))
        | inr b ↦ rw (a.0, b.0) (within_itself all_ints)
      ]
      | inr a ↦ rw (a.0) (within_itself all_ints)
    ]

xor_monotone : (i j x y : Interval) → TakesEnds i x → TakesEnds j y → IsWithin (xor_range i j) (xor_range x y)
xor_monotone i j x y p q =
    elim (cases_natural x) [
      | inl e ↦ elim (cases_natural y) [
        | inl f ↦
            let a = natural_within i x p e.1 in
            let b = natural_within j y q f.1 in
            rw (e.0, f.0, a, b) (within_itself (interval (pos 0) greatest_int))
        | inr f ↦ rw (e.0, f.0) (xor_ints i j)
      ]
      | inr e ↦ rw (e.0) (xor_ints i j)
    ]

-- ---- `>> >>>`

-- a part of a single number that is not empty is that number
single_within : (j y : Interval) → TakesEnds j y → y.lo ≡ y.hi → (is_single j ≡ true) × (j.lo ≡ y.lo)
single_within j y q same =
    ((Decides-int_eq j.lo j.hi).1 (omega (arith, ints, same, q.some, q.low.from, q.high.to)), omega (arith, ints, same, q.some, q.low.from, q.low.to, q.high.to))

ends_within : (h : Interval) (p q : ℤ) → Includes h p → Includes h q → IsWithin (interval p q) h
ends_within h p q a b = within_by_ends (interval p q) h a.from b.to

shr_monotone : (i j x y : Interval) → TakesEnds i x → TakesEnds j y → IsWithin (shr_range i j) (shr_range x y)
shr_monotone i j x y p q =
    elim (cases_single j) [
      | inl a ↦ rw (a.0) (ends_within (shr_range x y) _ _ (shr_includes x y i.lo j.lo p.low q.low) (shr_includes x y i.hi j.lo p.high q.low))
      | inr a ↦ elim (cases_single y) [
        | inl e ↦ absurd (both_ways (is_single j) a.0 (single_within j y q e.1).0)
        | inr e ↦ rw (a.0, e.0) (within_by_ends _ _ (omega (arith, ints, clamps, p.low.from)) (omega (arith, ints, clamps, p.high.to)))
      ]
    ]

-- the number of 32 - s bits is an int
after_is_int : (s : ℕ) → 0 < s → greatest_after s ≤ℤ greatest_int
after_is_int s some =
    let half : 2 ^ (32 - s) ≤ 2 ^ 31 = pow-le-pow_right {n = 2} (omega arith) {i = 32 - s} {j = 31} (omega arith) in
    omega (arith, ints)

ushr_of_naturals : (i j x y : Interval) → IsIntRange x → TakesEnds i x → TakesEnds j y → pos 0 ≤ℤ i.lo → IsWithin (shr_range i j) (ushr_range x y)
ushr_of_naturals i j x y r p q natural =
    elim (cases_single j) [
      | inl a ↦
          let low = ushr_natural i.lo (shift_distance j.lo) natural (omega (arith, ints, p.low.to, r.to)) in
          let high = ushr_natural i.hi (shift_distance j.lo) (omega (arith, ints, p.some)) (omega (arith, ints, p.high.to, r.to)) in
          rw (a.0) (ends_within (ushr_range x y) _ _ (rw low at (ushr_includes x y i.lo j.lo r p.low q.low)) (rw high at (ushr_includes x y i.hi j.lo r p.high q.low)))
      | inr a ↦ elim (cases_single y) [
        | inl e ↦ absurd (both_ways (is_single j) a.0 (single_within j y q e.1).0)
        | inr e ↦ elim (cases_natural x) [
          | inl f ↦ rw (f.0) (shr_monotone i j x y p q)
          | inr f ↦ rw (a.0, e.0, f.0) (within_by_ends _ _ (omega (arith, ints, clamps, natural)) (omega (arith, ints, clamps, p.high.to, r.to)))
        ]
      ]
    ]

-- where x has negative numbers
ushr_of_others : (i j x y : Interval) → TakesEnds i x → TakesEnds j y → is_natural i ≡ false → is_natural x ≡ false → IsWithin (ushr_range i j) (ushr_range x y)
ushr_of_others i j x y p q a b =
    elim (cases_single j) [
      | inl e ↦ elim (cases_Bool (nat_lt 0 (shift_distance j.lo))) [
        | inl g ↦ elim (cases_single y) [
          | inl f ↦
              let same = (single_within j y q f.1).1 in
              let g' : nat_lt 0 (shift_distance y.lo) ≡ true = rw same at g in
              rw (a, b, e.0, f.0, same, g') (within_itself (interval (pos 0) (greatest_after (shift_distance y.lo))))
          | inr f ↦ rw (a, b, e.0, f.0, g) (within_by_ends _ _ (omega (arith, ints)) (after_is_int (shift_distance j.lo) (ltb-true 0 (shift_distance j.lo) g)))
        ]
        | inr g ↦ elim (cases_single y) [
          | inl f ↦
              let same = (single_within j y q f.1).1 in
              let g' : nat_lt 0 (shift_distance y.lo) ≡ false = rw same at g in
              rw (a, b, e.0, f.0, same, g') (within_itself all_ints)
          | inr f ↦ rw (a, b, e.0, f.0, g) (within_itself all_ints)
        ]
      ]
      | inr e ↦ elim (cases_single y) [
        | inl f ↦ absurd (both_ways (is_single j) e.0 (single_within j y q f.1).0)
        | inr f ↦ rw (a, b, e.0, f.0) (within_itself all_ints)
      ]
    ]

ushr_monotone : (i j x y : Interval) → IsIntRange x → TakesEnds i x → TakesEnds j y → IsWithin (ushr_range i j) (ushr_range x y)
ushr_monotone i j x y r p q =
    elim (cases_natural i) [
      | inl a ↦ rw (a.0) (ushr_of_naturals i j x y r p q a.1)
      | inr a ↦ elim (cases_natural x) [
        | inl b ↦ absurd (omega (arith, ints, a.1, b.1, p.low.from))
        | inr b ↦ ushr_of_others i j x y p q a.0 b.0
      ]
    ]

-- ---- all rows

pub row_monotone : (op : Arith) (i j x y : Interval) → IsIntRange x → IsIntRange y → IsWithin j y → TakesEnds i x → TakesEnds j y → IsWithin (row_of op i j) (row_of op x y)
row_monotone Add i j x y r s within p q = within_by_ends _ _ (omega (arith, ints, p.low.from, q.low.from)) (omega (arith, ints, p.high.to, q.high.to))
row_monotone Sub i j x y r s within p q = within_by_ends _ _ (omega (arith, ints, p.low.from, q.high.to)) (omega (arith, ints, p.high.to, q.low.from))
row_monotone Mul i j x y r s within p q = mul_monotone i j x y p q
row_monotone Div i j x y r s within p q = div_monotone i j x y p within
row_monotone Rem i j x y r s within p q = remainders_monotone i x (remainder_limit j) (remainder_limit y) (limit_up j y q) p
row_monotone And i j x y r s within p q = and_monotone i j x y r s p q
row_monotone Or i j x y r s within p q = or_monotone i j x y p q
row_monotone Xor i j x y r s within p q = xor_monotone i j x y p q
row_monotone Shl i j x y r s within p q = within_itself all_ints
row_monotone Shr i j x y r s within p q = shr_monotone i j x y p q
row_monotone Ushr i j x y r s within p q = ushr_monotone i j x y r p q
