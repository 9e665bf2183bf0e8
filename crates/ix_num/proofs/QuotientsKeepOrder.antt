-- The order of whole numbers under `/`: a quotient lies between the quotients of and by the ends.
use Rattle.std.proofs.Common.{◌≡◌, refl, ℕ, suc, ℤ, pos, negsuc, neg_ℤ, ◌/◌, ◌≤◌, ◌<◌, ◌≤ℤ◌, int_div, arith}
use Rattle.std.proofs.Math.Nat.{div-mul-le_self, mul-le-mul_left}
use Rattle.std.proofs.lemmas.Nat.{le-div}
use Rattle.std.proofs.lemmas.Int.{ints, clamps}
use Rattle.ix_num.specs.Intervals.{Includes}
use Rattle.ix_num.specs.OpRanges.{hull_of_two}

pub div_dividend : (a b n : ℕ) → 0 < n → a ≤ b → a / n ≤ b / n
div_dividend a b n p h = le-div (a / n) b n p (omega (arith, div-mul-le_self a n))

pub div_divisor : (a n m : ℕ) → 0 < n → n ≤ m → a / m ≤ a / n
div_divisor a n m p h = le-div (a / m) a n p (omega (arith, div-mul-le_self a m, mul-le-mul_left (a / m) h))

-- a quotient by a positive number rises with the dividend
pub quotient_up : (a x : ℤ) (n : ℕ) → 0 < n → a ≤ℤ x → int_div a (pos n) ≤ℤ int_div x (pos n)
quotient_up (pos a) (pos x) n p h = omega (arith, ints, div_dividend a x n p (omega (arith, ints)))
quotient_up (pos a) (negsuc x) n p h = absurd (omega (arith, ints))
quotient_up (negsuc a) (pos x) n p h = omega (arith, ints)
quotient_up (negsuc a) (negsuc x) n p h = omega (arith, ints, div_dividend (suc x) (suc a) n p (omega (arith, ints)))

pub quotient_by_negative : (x : ℤ) (n : ℕ) → int_div x (negsuc n) ≡ neg_ℤ (int_div x (pos (suc n)))
quotient_by_negative (pos x) n = refl
quotient_by_negative (negsuc x) n = omega (arith, ints)

pub quotient_down : (a x : ℤ) (n : ℕ) → a ≤ℤ x → int_div x (negsuc n) ≤ℤ int_div a (negsuc n)
quotient_down a x n h =
    let up = quotient_up a x (suc n) (omega arith) h in
    let p = quotient_by_negative x n in
    let q = quotient_by_negative a n in
    omega (arith, ints)

pub quotient_between_left : (a b x d : ℤ) → (d ≡ pos 0 → ⊥) → a ≤ℤ x → x ≤ℤ b → Includes (hull_of_two (int_div a d) (int_div b d)) (int_div x d)
quotient_between_left a b x (pos n) divides from to =
    let some : 0 < n = omega (arith, ints, divides) in
    let p = quotient_up a x n some from in
    let q = quotient_up x b n some to in
    record { from = omega (arith, ints, clamps); to = omega (arith, ints, clamps) }
quotient_between_left a b x (negsuc n) divides from to =
    let p = quotient_down a x n from in
    let q = quotient_down x b n to in
    record { from = omega (arith, ints, clamps); to = omega (arith, ints, clamps) }

-- of one dividend by positive divisors
pub quotient_between_positive : (x : ℤ) (n k m : ℕ) → 0 < n → n ≤ k → k ≤ m → Includes (hull_of_two (int_div x (pos n)) (int_div x (pos m))) (int_div x (pos k))
quotient_between_positive (pos a) n k m some from to =
    let p = div_divisor a n k some from in
    let q = div_divisor a k m (omega arith) to in
    record { from = omega (arith, ints, clamps); to = omega (arith, ints, clamps) }
quotient_between_positive (negsuc a) n k m some from to =
    let p = div_divisor (suc a) n k some from in
    let q = div_divisor (suc a) k m (omega arith) to in
    record { from = omega (arith, ints, clamps); to = omega (arith, ints, clamps) }

-- of one dividend by negative divisors
pub quotient_between_negative : (x : ℤ) (n k m : ℕ) → n ≤ k → k ≤ m → Includes (hull_of_two (int_div x (negsuc n)) (int_div x (negsuc m))) (int_div x (negsuc k))
quotient_between_negative x n k m from to =
    let up = quotient_between_positive x (suc n) (suc k) (suc m) (omega arith) (omega arith) (omega arith) in
    let p = quotient_by_negative x n in
    let q = quotient_by_negative x k in
    let r = quotient_by_negative x m in
    record { from = omega (arith, ints, clamps, up.from, up.to); to = omega (arith, ints, clamps, up.from, up.to) }
