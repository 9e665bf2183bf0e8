-- A product and a quotient of ints fit 64 bits, so that the code's number is the whole number.
use Rattle.std.proofs.Common.{◌≡◌, ◌∙◌, ap, true, refl, zero, suc, ℤ, pos, negsuc, ◌*ℤ◌, ◌-ℤ◌, ◌≤ℤ◌, ◌^◌, ◌≤◌, ◌<◌, int_div, unsigned_abs, arith, FitsSigned, lit<, to_z, of_z}
use Rattle.std.specs.Int.{w64, int_max}
use Rattle.std.proofs.lemmas.Int.{ints, clamps, to_z-of_z, fits_signed_mul, fits_signed_from_abs, quot_is}
use Rattle.std.proofs.lemmas.Bool.{both_ways, and_right}
use Rattle.std.proofs.Math.Nat.{div-le_self}
use Rattle.ix_num.specs.declared.interval.Interval.{Interval}
use Rattle.ix_num.specs.Ints.{IsInt, greatest_int}
use Rattle.ix_num.specs.Intervals.{IsIntRange, includes}
use Rattle.ix_num.specs.OpRanges.{remainder_limit, has_divisor}

fits_word : (x : ℤ) → IsInt x → FitsSigned w64 x
fits_word x int = omega (arith, ints, int.from, int.to)

-- both ends of a range of ints are ints
pub low_int : (i : Interval) → IsIntRange i → IsInt i.lo
low_int i p = record { from = p.from; to = omega (arith, ints, p.some, p.to) }

pub high_int : (i : Interval) → IsIntRange i → IsInt i.hi
high_int i p = record { from = omega (arith, ints, p.some, p.from); to = p.to }

product_of_ints : (x y : ℤ) → IsInt x → IsInt y → FitsSigned w64 (x *ℤ y)
product_of_ints x y p q = fits_signed_mul w64 x y (2 ^ 31) (2 ^ 31) (omega (arith, ints, p.from, p.to)) (omega (arith, ints, q.from, q.to)) (lit< tt)

pub product_fits : (x y : ℤ) → IsInt x → IsInt y → FitsSigned w64 (to_z w64 (of_z w64 x) *ℤ to_z w64 (of_z w64 y))
product_fits x y p q = rw (to_z-of_z w64 x (fits_word x p), to_z-of_z w64 y (fits_word y q)) (product_of_ints x y p q)

pub product_is : (x y : ℤ) → IsInt x → IsInt y → to_z w64 (of_z w64 (to_z w64 (of_z w64 x) *ℤ to_z w64 (of_z w64 y))) ≡ x *ℤ y
product_is x y p q =
    let left = to_z-of_z w64 x (fits_word x p) in
    let right = to_z-of_z w64 y (fits_word y q) in
    (λ i. to_z w64 (of_z w64 (left i *ℤ right i))) ∙ to_z-of_z w64 (x *ℤ y) (product_of_ints x y p q)

size_of_int : (x : ℤ) → IsInt x → unsigned_abs x ≤ 2 ^ 31
size_of_int x p = omega (arith, ints, p.from, p.to)

size_is : (x : ℤ) → IsInt x → to_z w64 (of_z w64 (pos (unsigned_abs (to_z w64 (of_z w64 x))))) ≡ pos (unsigned_abs x)
size_is x p =
    rw (to_z-of_z w64 x (fits_word x p)) (to_z-of_z w64 (pos (unsigned_abs x)) (omega (arith, ints, size_of_int x p)))

-- the limit that the code computes by `abs`, `max` and `- 1`
pub remainder_limit_is : (i : Interval) (a b m : ℤ) → IsIntRange i → a ≡ pos (unsigned_abs (to_z w64 (of_z w64 i.lo))) → b ≡ pos (unsigned_abs (to_z w64 (of_z w64 i.hi))) → m ≡ int_max (to_z w64 (of_z w64 a)) (to_z w64 (of_z w64 b)) → (to_z w64 (of_z w64 (to_z w64 (of_z w64 m) -ℤ pos 1)) ≡ remainder_limit i) × (remainder_limit i ≤ℤ greatest_int)
remainder_limit_is i a b m p low high is =
    let greatest = int_max (pos (unsigned_abs i.lo)) (pos (unsigned_abs i.hi)) in
    let size_low = size_of_int i.lo (low_int i p) in
    let size_high = size_of_int i.hi (high_int i p) in
    let from : pos 0 ≤ℤ greatest = omega (arith, ints, clamps) in
    let to : greatest ≤ℤ pos (2 ^ 31) = omega (arith, ints, clamps, size_low, size_high) in
    let max_is : m ≡ greatest = is ∙ (λ k. int_max ((ap (λ n. to_z w64 (of_z w64 n)) low ∙ size_is i.lo (low_int i p)) k) ((ap (λ n. to_z w64 (of_z w64 n)) high ∙ size_is i.hi (high_int i p)) k)) in (
      rw (max_is, to_z-of_z w64 greatest (omega (arith, ints, from, to))) (to_z-of_z w64 (greatest -ℤ pos 1) (omega (arith, ints, from, to))),
      omega (arith, ints, to),
    )

-- a quotient is no larger than the dividend
pub quotient_size : (x d : ℤ) → unsigned_abs (int_div x d) ≤ unsigned_abs x
quotient_size (pos a) (pos b) = div-le_self a b
quotient_size (pos a) (negsuc b) = omega (arith, ints, div-le_self a (suc b))
quotient_size (negsuc a) (pos b) = omega (arith, ints, div-le_self (suc a) b)
quotient_size (negsuc a) (negsuc b) = div-le_self (suc a) (suc b)

-- a divisor in an interval is not 0
pub divisor_some : (y : Interval) (d : ℤ) → FitsSigned w64 d → has_divisor y d ≡ true → 0 < of_z w64 d
divisor_some y (pos zero) fits has = absurd (both_ways _ (and_right (includes y (pos 0)) _ refl) has)
divisor_some y (pos (suc k)) fits has = omega arith
divisor_some y (negsuc k) fits has = omega (arith, ints)

quotient_of_int : (x d : ℤ) → IsInt x → FitsSigned w64 (int_div x d)
quotient_of_int x d p =
    let small = size_of_int x p in
    fits_signed_from_abs w64 (int_div x d) (omega (arith, quotient_size x d))

pub quotient_fits : (x d : ℤ) → IsInt x → FitsSigned w64 d → FitsSigned w64 (int_div (to_z w64 (of_z w64 x)) (to_z w64 (of_z w64 d)))
quotient_fits x d p fits = rw (to_z-of_z w64 x (fits_word x p), to_z-of_z w64 d fits) (quotient_of_int x d p)

pub quotient_is : (x d : ℤ) → IsInt x → FitsSigned w64 d → to_z w64 (of_z w64 (int_div (to_z w64 (of_z w64 x)) (to_z w64 (of_z w64 d)))) ≡ int_div x d
quotient_is x d p fits = quot_is w64 x d (fits_word x p) fits (quotient_of_int x d p)
