-- Each row of the table includes every result of operands that its intervals include.
use Rattle.std.proofs.Common.{◌≡◌, ◌⊎◌, inl, inr, true, false, ℕ, suc, zero, ℤ, pos, negsuc, ◌+ℤ◌, ◌*ℤ◌, ◌-◌, nat_lt, ◌≤ℤ◌, ◌<ℤ◌, ◌<◌, ◌≤◌, ◌/◌, ◌^◌, int_div, int_rem, int_lt, int_le, unsigned_abs, IfSome, arith, to_z, of_z, subst}
use Rattle.std.specs.Int.{w32, int_shr, int_bit_and, int_bit_or, int_bit_xor}
use Rattle.std.specs.Ordering.{int_eq}
use Rattle.std.proofs.lemmas.Int.{ints, clamps, by_lt_z, SFits-int_wrap}
use Rattle.std.proofs.lemmas.Bool.{and_from, not_from_false, false_from_ne_true, cond-true, cases_Bool, both_ways, ltb-true}
use Rattle.std.proofs.lemmas.Bool.Decides.{Decides-int_eq}
use Rattle.ix_num.specs.declared.interval.Interval.{Interval}
use Rattle.ix_num.specs.declared.arith.Arith.{Arith}
use Rattle.ix_num.specs.declared.arith.Arith.TheVariants.{Add, Sub, Mul, Div, Rem, And, Or, Xor, Shl, Shr, Ushr}
use Rattle.ix_num.specs.Ints.{IsInt}
use Rattle.ix_num.specs.Arithmetic.{exact_of, shift_distance, wrap_of}
use Rattle.ix_num.specs.Intervals.{Includes, IsWithin, IsIntRange, hull_of}
use Rattle.ix_num.specs.OpRanges.{hull_of_two, mul_range, has_divisor, quotients_by, div_range, rem_range, remainder_limit, and_range, or_range, xor_range, shr_range, ushr_range, row_of, is_natural, is_single}
use Rattle.ix_num.proofs.Members.{hull_left, hull_right}
use Rattle.ix_num.proofs.ProductsKeepOrder.{product_between_left, product_between_right}
use Rattle.ix_num.proofs.QuotientsKeepOrder.{quotient_between_left, quotient_between_positive, quotient_between_negative}
use Rattle.ix_num.proofs.BitsWithinBounds.{and_is_int, or_is_int, xor_is_int, and_left_bounds, and_right_bounds, or_bounds, xor_bounds, shr_up, shr_bounds, ushr_natural, ushr_is_int, ushr_bounds, remainder_bounds}

-- a number between two members is a member
pub between_two : (i : Interval) (p q n : ℤ) → Includes i p → Includes i q → Includes (hull_of_two p q) n → Includes i n
between_two i p q n h k m = record { from = omega (arith, ints, clamps, h.from, k.from, m.from); to = omega (arith, ints, clamps, h.to, k.to, m.to) }

pub first_of_two : (p q : ℤ) → Includes (hull_of_two p q) p
first_of_two p q = record { from = omega (arith, ints, clamps); to = omega (arith, ints, clamps) }

pub second_of_two : (p q : ℤ) → Includes (hull_of_two p q) q
second_of_two p q = record { from = omega (arith, ints, clamps); to = omega (arith, ints, clamps) }

-- ---- `*`

pub mul_includes : (x y : Interval) (m n : ℤ) → Includes x m → Includes y n → Includes (mul_range x y) (m *ℤ n)
mul_includes x y m n p q =
    let low = (hull_left (hull_of_two (x.lo *ℤ y.lo) (x.lo *ℤ y.hi)) (hull_of_two (x.hi *ℤ y.lo) (x.hi *ℤ y.hi))).each (x.lo *ℤ n) (product_between_right y.lo y.hi x.lo n q.from q.to) in
    let high = (hull_right (hull_of_two (x.lo *ℤ y.lo) (x.lo *ℤ y.hi)) (hull_of_two (x.hi *ℤ y.lo) (x.hi *ℤ y.hi))).each (x.hi *ℤ n) (product_between_right y.lo y.hi x.hi n q.from q.to) in
    between_two (mul_range x y) (x.lo *ℤ n) (x.hi *ℤ n) (m *ℤ n) low high (product_between_left x.lo x.hi m n p.from p.to)

-- ---- `/`

pub test_true : (a b : ℤ) → a ≤ℤ b → int_le a b ≡ true
test_true a b h = grind (arith, ints)

pub test_false : (a b : ℤ) → b ≤ℤ a → int_lt a b ≡ false
test_false a b h = grind (arith, ints)

pub has_divisor_from : (y : Interval) (d : ℤ) → Includes y d → (d ≡ pos 0 → ⊥) → has_divisor y d ≡ true
has_divisor_from y d p divides =
    let low : int_le y.lo d ≡ true = grind (arith, ints, p.from) in
    let high : int_le d y.hi ≡ true = grind (arith, ints, p.to) in
    let other : int_eq d (pos 0) ≡ false = false_from_ne_true _ (λ e. divides ((Decides-int_eq d (pos 0)).0 e)) in
    and_from _ _ (and_from _ _ low high) (not_from_false _ other)

-- the quotients of both ends of x by one divisor lie in an interval
pub record TakesQuotients (h x : Interval) (d : ℤ) : Type 0 where
  pub low : Includes h (int_div x.lo d)
  pub high : Includes h (int_div x.hi d)

by_divisor : (h x y : Interval) (d : ℤ) → IsWithin (quotients_by x y d) h → has_divisor y d ≡ true → TakesQuotients h x d
by_divisor h x y d within has =
    let is : quotients_by x y d ≡ hull_of_two (int_div x.lo d) (int_div x.hi d) = cond-true (has_divisor y d) _ _ has in
    let parts : IsWithin (hull_of_two (int_div x.lo d) (int_div x.hi d)) h = rw is at within in
    record { low = parts.each _ (first_of_two _ _); high = parts.each _ (second_of_two _ _) }

within_hulls_1 : (a b c d : Interval) → IsWithin a (hull_of (hull_of a b) (hull_of c d))
within_hulls_1 a b c d = record { each = λ n m. (hull_left (hull_of a b) (hull_of c d)).each n ((hull_left a b).each n m) }

within_hulls_2 : (a b c d : Interval) → IsWithin b (hull_of (hull_of a b) (hull_of c d))
within_hulls_2 a b c d = record { each = λ n m. (hull_left (hull_of a b) (hull_of c d)).each n ((hull_right a b).each n m) }

within_hulls_3 : (a b c d : Interval) → IsWithin c (hull_of (hull_of a b) (hull_of c d))
within_hulls_3 a b c d = record { each = λ n m. (hull_right (hull_of a b) (hull_of c d)).each n ((hull_left c d).each n m) }

within_hulls_4 : (a b c d : Interval) → IsWithin d (hull_of (hull_of a b) (hull_of c d))
within_hulls_4 a b c d = record { each = λ n m. (hull_right (hull_of a b) (hull_of c d)).each n ((hull_right c d).each n m) }

module _ (x y : Interval) where
  low_divisor : has_divisor y y.lo ≡ true → TakesQuotients (div_range x y) x y.lo
  low_divisor = by_divisor (div_range x y) x y y.lo (within_hulls_1 (quotients_by x y y.lo) (quotients_by x y y.hi) (quotients_by x y (negsuc 0)) (quotients_by x y (pos 1)))

  high_divisor : has_divisor y y.hi ≡ true → TakesQuotients (div_range x y) x y.hi
  high_divisor = by_divisor (div_range x y) x y y.hi (within_hulls_2 (quotients_by x y y.lo) (quotients_by x y y.hi) (quotients_by x y (negsuc 0)) (quotients_by x y (pos 1)))

  minus_one_divisor : has_divisor y (negsuc 0) ≡ true → TakesQuotients (div_range x y) x (negsuc 0)
  minus_one_divisor = by_divisor (div_range x y) x y (negsuc 0) (within_hulls_3 (quotients_by x y y.lo) (quotients_by x y y.hi) (quotients_by x y (negsuc 0)) (quotients_by x y (pos 1)))

  one_divisor : has_divisor y (pos 1) ≡ true → TakesQuotients (div_range x y) x (pos 1)
  one_divisor = by_divisor (div_range x y) x y (pos 1) (within_hulls_4 (quotients_by x y y.lo) (quotients_by x y y.hi) (quotients_by x y (negsuc 0)) (quotients_by x y (pos 1)))

-- two divisors of one sign with quotients in h: a divisor between them has quotients in h
between_divisors_positive : (h x : Interval) (n k m : ℕ) → 0 < n → n ≤ k → k ≤ m → TakesQuotients h x (pos n) → TakesQuotients h x (pos m) → TakesQuotients h x (pos k)
between_divisors_positive h x n k m some from to p q = record {
  low = between_two h _ _ _ p.low q.low (quotient_between_positive x.lo n k m some from to);
  high = between_two h _ _ _ p.high q.high (quotient_between_positive x.hi n k m some from to);
}

between_divisors_negative : (h x : Interval) (n k m : ℕ) → n ≤ k → k ≤ m → TakesQuotients h x (negsuc n) → TakesQuotients h x (negsuc m) → TakesQuotients h x (negsuc k)
between_divisors_negative h x n k m from to p q = record {
  low = between_two h _ _ _ p.low q.low (quotient_between_negative x.lo n k m from to);
  high = between_two h _ _ _ p.high q.high (quotient_between_negative x.hi n k m from to);
}

-- the number of a natural, and of a negative number
as_natural : (z : ℤ) → pos 0 ≤ℤ z → z ≡ pos (unsigned_abs z)
as_natural z h = omega (arith, ints)

as_negative : (z : ℤ) → z <ℤ pos 0 → z ≡ negsuc (unsigned_abs z - 1)
as_negative z h = omega (arith, ints)

positive_covered : (x y : Interval) (k : ℕ) → Includes y (pos (suc k)) → TakesQuotients (div_range x y) x (pos (suc k))
positive_covered x y k p =
    let h = div_range x y in
    let top = as_natural y.hi (omega (arith, ints, p.to)) in
    let by_top : TakesQuotients h x (pos (unsigned_abs y.hi)) =
    subst (λ d. TakesQuotients h x d) top (high_divisor x y (has_divisor_from y y.hi (record { from = omega (arith, ints, p.from, p.to); to = omega (arith, ints) }) (λ e. absurd (omega (arith, ints, p.to, e))))) in
    let below_top : suc k ≤ unsigned_abs y.hi = omega (arith, ints, p.to) in
    by_lt_z (pos 0) y.lo
    (λ positive.
    let bottom = as_natural y.lo (omega (arith, ints)) in
    let by_bottom : TakesQuotients h x (pos (unsigned_abs y.lo)) =
    subst (λ d. TakesQuotients h x d) bottom (low_divisor x y (has_divisor_from y y.lo (record { from = omega (arith, ints); to = omega (arith, ints, p.from, p.to) }) (λ e. absurd (omega (arith, ints, e))))) in
    between_divisors_positive h x (unsigned_abs y.lo) (suc k) (unsigned_abs y.hi) (omega (arith, ints)) (omega (arith, ints, p.from)) below_top by_bottom by_top)
    (λ not_positive.
    let by_one = one_divisor x y (has_divisor_from y (pos 1) (record { from = omega (arith, ints); to = omega (arith, ints, p.to) }) (λ e. absurd (omega (arith, ints, e)))) in
    between_divisors_positive h x 1 (suc k) (unsigned_abs y.hi) (omega arith) (omega arith) below_top by_one by_top)

negative_covered : (x y : Interval) (k : ℕ) → Includes y (negsuc k) → TakesQuotients (div_range x y) x (negsuc k)
negative_covered x y k p =
    let h = div_range x y in
    let bottom = as_negative y.lo (omega (arith, ints, p.from)) in
    let by_bottom : TakesQuotients h x (negsuc (unsigned_abs y.lo - 1)) =
    subst (λ d. TakesQuotients h x d) bottom (low_divisor x y (has_divisor_from y y.lo (record { from = omega (arith, ints); to = omega (arith, ints, p.from, p.to) }) (λ e. absurd (omega (arith, ints, p.from, e))))) in
    let above_bottom : k ≤ unsigned_abs y.lo - 1 = omega (arith, ints, p.from) in
    by_lt_z y.hi (pos 0)
    (λ negative.
    let top = as_negative y.hi negative in
    let by_top : TakesQuotients h x (negsuc (unsigned_abs y.hi - 1)) =
    subst (λ d. TakesQuotients h x d) top (high_divisor x y (has_divisor_from y y.hi (record { from = omega (arith, ints, p.from, p.to); to = omega (arith, ints) }) (λ e. absurd (omega (arith, ints, e))))) in
    between_divisors_negative h x (unsigned_abs y.hi - 1) k (unsigned_abs y.lo - 1) (omega (arith, ints, p.to)) above_bottom by_top by_bottom)
    (λ not_negative.
    let by_minus_one = minus_one_divisor x y (has_divisor_from y (negsuc 0) (record { from = omega (arith, ints, p.from); to = omega (arith, ints) }) (λ e. absurd (omega (arith, ints, e)))) in
    between_divisors_negative h x 0 k (unsigned_abs y.lo - 1) (omega arith) above_bottom by_minus_one by_bottom)

pub div_includes : (x y : Interval) (m n : ℤ) → Includes x m → Includes y n → IfSome (exact_of Div m n) (Includes (div_range x y))
div_includes x y m (pos zero) p q = tt
div_includes x y m (pos (suc k)) p q =
    let t = positive_covered x y k q in
    between_two (div_range x y) _ _ _ t.low t.high (quotient_between_left x.lo x.hi m (pos (suc k)) (λ e. absurd (omega (arith, ints, e))) p.from p.to)
div_includes x y m (negsuc k) p q =
    let t = negative_covered x y k q in
    between_two (div_range x y) _ _ _ t.low t.high (quotient_between_left x.lo x.hi m (negsuc k) (λ e. absurd (omega (arith, ints, e))) p.from p.to)

-- ---- `%`

remainder_in : (x y : Interval) (m n : ℤ) → Includes x m → Includes y n → (n ≡ pos 0 → ⊥) → Includes (rem_range x y) (int_rem m n)
remainder_in x y m n p q divides =
    let limit = remainder_limit y in
    let some : pos 1 ≤ℤ pos (unsigned_abs n) = omega (arith, ints, divides) in
    let size : pos (unsigned_abs n) ≤ℤ (limit +ℤ pos 1) = omega (arith, ints, clamps, q.from, q.to) in
    let no : int_lt limit (pos 0) ≡ false = test_false limit (pos 0) (omega (arith, ints, size, some)) in
    let r = remainder_bounds m n limit divides size in
    rw no (record { from = omega (arith, ints, clamps, p.from, r.from); to = omega (arith, ints, clamps, p.to, r.to) })

pub rem_includes : (x y : Interval) (m n : ℤ) → Includes x m → Includes y n → IfSome (exact_of Rem m n) (Includes (rem_range x y))
rem_includes x y m (pos zero) p q = tt
rem_includes x y m (pos (suc k)) p q = remainder_in x y m (pos (suc k)) p q (λ e. absurd (omega (arith, ints, e)))
rem_includes x y m (negsuc k) p q = remainder_in x y m (negsuc k) p q (λ e. absurd (omega (arith, ints, e)))

-- ---- `& | ^`

-- a member of a range of ints is an int
pub member_is_int : (x : Interval) (m : ℤ) → IsIntRange x → Includes x m → IsInt m
member_is_int x m r p = record { from = omega (arith, ints, r.from, p.from); to = omega (arith, ints, r.to, p.to) }

pub cases_natural : (x : Interval) → ((is_natural x ≡ true) × (pos 0 ≤ℤ x.lo)) ⊎ ((is_natural x ≡ false) × (x.lo <ℤ pos 0))
cases_natural x = by_lt_z x.lo (pos 0) (λ h. inr (grind (arith, ints), h)) (λ h. inl (grind (arith, ints), h))

pub and_includes : (x y : Interval) (m n : ℤ) → IsIntRange x → IsIntRange y → Includes x m → Includes y n → Includes (and_range x y) (int_bit_and w32 m n)
and_includes x y m n r s p q =
    let left = member_is_int x m r p in
    let right = member_is_int y n s q in
    elim (cases_natural x) [
      | inl e ↦
          let a = and_left_bounds m n (omega (arith, ints, e.1, p.from)) left.to in
          elim (cases_natural y) [
            | inl f ↦
                let b = and_right_bounds m n (omega (arith, ints, f.1, q.from)) right.to in
                rw (e.0, f.0) (record { from = a.from; to = omega (arith, ints, clamps, a.to, b.to, p.to, q.to) })
            | inr f ↦ rw (e.0, f.0) (record { from = a.from; to = omega (arith, ints, a.to, p.to) })
          ]
      | inr e ↦ elim (cases_natural y) [
        | inl f ↦
            let b = and_right_bounds m n (omega (arith, ints, f.1, q.from)) right.to in
            rw (e.0, f.0) (record { from = b.from; to = omega (arith, ints, b.to, q.to) })
        | inr f ↦ let int = and_is_int m n left right in rw (e.0, f.0) (record { from = int.from; to = int.to })
      ]
    ]

pub or_includes : (x y : Interval) (m n : ℤ) → IsIntRange x → IsIntRange y → Includes x m → Includes y n → Includes (or_range x y) (int_bit_or w32 m n)
or_includes x y m n r s p q =
    let left = member_is_int x m r p in
    let right = member_is_int y n s q in
    let int = or_is_int m n left right in
    elim (cases_natural x) [
      | inl e ↦ elim (cases_natural y) [
        | inl f ↦
            let a = or_bounds m n (omega (arith, ints, e.1, p.from)) left.to (omega (arith, ints, f.1, q.from)) right.to in
            rw (e.0, f.0) (record { from = omega (arith, ints, clamps, a.from, p.from, q.from); to = a.to })
        | inr f ↦ rw (e.0, f.0) (record { from = int.from; to = int.to })
      ]
      | inr e ↦ rw (e.0) (record { from = int.from; to = int.to })
    ]

pub xor_includes : (x y : Interval) (m n : ℤ) → IsIntRange x → IsIntRange y → Includes x m → Includes y n → Includes (xor_range x y) (int_bit_xor w32 m n)
xor_includes x y m n r s p q =
    let left = member_is_int x m r p in
    let right = member_is_int y n s q in
    let int = xor_is_int m n left right in
    elim (cases_natural x) [
      | inl e ↦ elim (cases_natural y) [
        | inl f ↦ rw (e.0, f.0) (xor_bounds m n (omega (arith, ints, e.1, p.from)) left.to (omega (arith, ints, f.1, q.from)) right.to)
        | inr f ↦ rw (e.0, f.0) (record { from = int.from; to = int.to })
      ]
      | inr e ↦ rw (e.0) (record { from = int.from; to = int.to })
    ]

-- ---- `<< >> >>>`

pub cases_single : (y : Interval) → ((is_single y ≡ true) × (y.lo ≡ y.hi)) ⊎ ((is_single y ≡ false) × (y.lo ≡ y.hi → ⊥))
cases_single y =
    elim (cases_Bool (is_single y)) [
      | inl e ↦ inl (e, (Decides-int_eq y.lo y.hi).0 e)
      | inr e ↦ inr (e, λ same. both_ways (is_single y) e ((Decides-int_eq y.lo y.hi).1 same))
    ]

pub shr_includes : (x y : Interval) (m n : ℤ) → Includes x m → Includes y n → Includes (shr_range x y) (int_shr m (shift_distance n))
shr_includes x y m n p q =
    elim (cases_single y) [
      | inl e ↦
          let is : n ≡ y.lo = omega (arith, ints, e.1, q.from, q.to) in
          rw (e.0, is) (record { from = shr_up x.lo m (shift_distance y.lo) p.from; to = shr_up m x.hi (shift_distance y.lo) p.to })
      | inr e ↦
          let a = shr_bounds m (shift_distance n) in
          rw (e.0) (record { from = omega (arith, ints, clamps, a.from, p.from); to = omega (arith, ints, clamps, a.to, p.to) })
    ]

pub distance_below : (n : ℤ) → shift_distance n < 32
distance_below n = omega arith

pub ushr_includes : (x y : Interval) (m n : ℤ) → IsIntRange x → Includes x m → Includes y n → Includes (ushr_range x y) (to_z w32 (of_z w32 m / 2 ^ shift_distance n))
ushr_includes x y m n r p q =
    let left = member_is_int x m r p in
    let int = ushr_is_int m (shift_distance n) left in
    elim (cases_natural x) [
      | inl e ↦
          let is = ushr_natural m (shift_distance n) (omega (arith, ints, e.1, p.from)) left.to in
          rw (e.0, is) (shr_includes x y m n p q)
      | inr e ↦ elim (cases_single y) [
        | inl f ↦
            let is : n ≡ y.lo = omega (arith, ints, f.1, q.from, q.to) in
            elim (cases_Bool (nat_lt 0 (shift_distance y.lo))) [
              | inl g ↦ rw (e.0, f.0, g, is) (ushr_bounds m (shift_distance y.lo) left (ltb-true 0 (shift_distance y.lo) g) (distance_below y.lo))
              | inr g ↦ rw (e.0, f.0, g) (record { from = int.from; to = int.to })
            ]
        | inr f ↦ rw (e.0, f.0) (record { from = int.from; to = int.to })
      ]
    ]

-- ---- all rows

pub wrap_is_int : (n : ℤ) → IsInt (wrap_of n)
wrap_is_int n = let fits = SFits-int_wrap w32 n in record { from = omega (arith, ints); to = omega (arith, ints) }

pub row_includes : (op : Arith) (x y : Interval) (m n : ℤ) → IsIntRange x → IsIntRange y → Includes x m → Includes y n → IfSome (exact_of op m n) (Includes (row_of op x y))
row_includes Add x y m n r s p q = record { from = omega (arith, ints, p.from, q.from); to = omega (arith, ints, p.to, q.to) }
row_includes Sub x y m n r s p q = record { from = omega (arith, ints, p.from, q.to); to = omega (arith, ints, p.to, q.from) }
row_includes Mul x y m n r s p q = mul_includes x y m n p q
row_includes Div x y m n r s p q = div_includes x y m n p q
row_includes Rem x y m n r s p q = rem_includes x y m n p q
row_includes And x y m n r s p q = and_includes x y m n r s p q
row_includes Or x y m n r s p q = or_includes x y m n r s p q
row_includes Xor x y m n r s p q = xor_includes x y m n r s p q
row_includes Shl x y m n r s p q = let int = wrap_is_int (m *ℤ pos (2 ^ shift_distance n)) in record { from = int.from; to = int.to }
row_includes Shr x y m n r s p q = shr_includes x y m n p q
row_includes Ushr x y m n r s p q = ushr_includes x y m n r p q
