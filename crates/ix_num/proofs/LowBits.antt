-- What is left of a number in 32 bits.
use Rattle.std.proofs.Common.{◌≡◌, ℕ, false, ◌-◌, ◌*◌, ◌%◌, ◌^◌, FitsSigned, bit_and, of_z, ◌*ℤ◌, ◌<◌, ◌≤◌, ℤ, pos, negsuc, ◌-ℤ◌, ◌≤ℤ◌, ◌<ℤ◌, suc, arith, sym, ap, ◌∙◌, unsigned_abs, to_z}
use Rattle.std.specs.Int.{w32, int_wrap, int_rem_euclid, IsNonNegative}
use lib.Dec.{ltb}
use mir.Val.{sel}
use Rattle.std.proofs.lemmas.Bool.Decides.{nat_tests}
use Rattle.std.proofs.lemmas.Nat.{and_mask, pow_below}
use Rattle.std.proofs.Math.Nat.{mod-eq_of_lt}
use Rattle.std.proofs.lemmas.Int.{ints, to_z_pos, to_z-of_z, wrapping_mul-bits, int_wrap-mul_right}
use Rattle.ix_num.specs.Arithmetic.{wrap_of}

-- bits from 2 ^ 31 on are a negative number's
pub signed_high : (m : ℕ) → 2 ^ 31 ≤ m → m < 2 ^ 32 → to_z w32 m ≡ pos m -ℤ pos (2 ^ 32)
signed_high m from below =
    let no : ltb m (2 ^ 31) ≡ false = grind (arith, nat_tests) in
    let is : negsuc (2 ^ 32 - suc m) ≡ pos m -ℤ pos (2 ^ 32) = omega (arith, ints) in
    ap (λ t. sel t (pos m) (negsuc (2 ^ 32 - suc m))) no ∙ is

wrap_low_nat : (n : ℤ) (m : ℕ) → pos m ≡ int_rem_euclid n (pos (2 ^ 32)) → m < 2 ^ 31 → pos m ≡ wrap_of n
unfolding int_wrap
wrap_low_nat n m is below = sym (ap (λ z. to_z w32 (unsigned_abs z)) (sym is) ∙ to_z_pos w32 m below)

wrap_high_nat : (n : ℤ) (m : ℕ) → pos m ≡ int_rem_euclid n (pos (2 ^ 32)) → 2 ^ 31 ≤ m → m < 2 ^ 32 → pos m -ℤ pos (2 ^ 32) ≡ wrap_of n
unfolding int_wrap
wrap_high_nat n m is from below = sym (ap (λ z. to_z w32 (unsigned_abs z)) (sym is) ∙ signed_high m from below)

-- the remainder by 2 ^ 32 is the int where it is below 2 ^ 31
pub wrap_low : (n low : ℤ) → low ≡ int_rem_euclid n (pos (2 ^ 32)) → IsNonNegative low → low <ℤ pos (2 ^ 31) → low ≡ wrap_of n
wrap_low n (pos m) is sign below = wrap_low_nat n m is (omega (arith, ints))
wrap_low n (negsuc m) is sign below = absurd sign

-- and 2 ^ 32 above the int elsewhere
pub wrap_high : (n low : ℤ) → low ≡ int_rem_euclid n (pos (2 ^ 32)) → IsNonNegative low → unsigned_abs low < 2 ^ 32 → pos (2 ^ 31) ≤ℤ low → low -ℤ pos (2 ^ 32) ≡ wrap_of n
wrap_high n (pos m) is sign below from = wrap_high_nat n m is (omega (arith, ints)) below
wrap_high n (negsuc m) is sign below from = absurd sign

-- `y & 31` is the low five bits
pub low_five : (n : ℕ) → bit_and n 31 ≡ n % 32
low_five n = and_mask n 5

wrap_nat : (m : ℕ) → m < 2 ^ 32 → wrap_of (pos m) ≡ to_z w32 m
unfolding int_wrap
wrap_nat m below = ap (to_z w32) (mod-eq_of_lt below)

-- a shift to the left is a product by a power of two, wrapped
pub shift_left_is : (x : ℤ) (n : ℕ) → FitsSigned w32 x → to_z w32 (of_z w32 x * 2 ^ bit_and n 31 % 2 ^ 32) ≡ wrap_of (x *ℤ pos (2 ^ (n % 32)))
shift_left_is x n fits =
    let k = n % 32 in
    let small : k < 32 = omega arith in
    let power = pow_below k 32 small in
    let bits : of_z w32 x < 2 ^ 32 = omega (arith, ints) in
    ap (λ j. to_z w32 (of_z w32 x * 2 ^ j % 2 ^ 32)) (low_five n)
    ∙ wrapping_mul-bits w32 (of_z w32 x) (2 ^ k) bits power
    ∙ ap (λ z. wrap_of (z *ℤ to_z w32 (2 ^ k))) (to_z-of_z w32 x fits)
    ∙ ap (λ z. wrap_of (x *ℤ z)) (sym (wrap_nat (2 ^ k) power))
    ∙ int_wrap-mul_right w32 x (pos (2 ^ k))
