-- What the bit operations, the shifts and the remainder give lies within bounds.
use Rattle.std.proofs.Common.{◌≡◌, ℕ, suc, ℤ, pos, negsuc, neg_ℤ, ◌+◌, ◌-◌, ◌/◌, ◌^◌, ◌≤◌, ◌<◌, ◌≤ℤ◌, int_rem, unsigned_abs, bit_and, bit_or, bit_xor, arith, to_z, of_z, ◌+ℤ◌, ⊎_elim, subst}
use Rattle.std.specs.Int.{w32, int_min, int_max, int_shr, int_bit_and, int_bit_or, int_bit_xor}
use Rattle.std.proofs.lemmas.Nat.{mod_below, and_le_l, and_le_r, or_of_32, xor_of_32, or_lt, xor_lt, le_or_l, le_or_r, shr_le, pow_pos, shr_below}
use Rattle.std.proofs.lemmas.Bool.{cases_lt}
use Rattle.std.proofs.Math.Nat.{pow-le-pow_right, mod-le}
use Rattle.ix_num.specs.OpRanges.{greatest_after}
use Rattle.std.proofs.lemmas.Int.{ints, clamps, to_z_pos}
use Rattle.ix_num.specs.Ints.{IsInt, greatest_int}
use Rattle.ix_num.specs.Intervals.{Includes, interval}
use Rattle.ix_num.proofs.LowBits.{signed_high}
use Rattle.ix_num.proofs.QuotientsKeepOrder.{div_dividend}

-- 32 bits read as a signed number are an int
pub signed_is_int : (n : ℕ) → n < 2 ^ 32 → IsInt (to_z w32 n)
signed_is_int n below =
    ⊎_elim
    (λ low. let is = to_z_pos w32 n low in record { from = omega (arith, ints); to = omega (arith, ints) })
    (λ high. let is = signed_high n high below in record { from = omega (arith, ints); to = omega (arith, ints) })
    (cases_lt n (2 ^ 31))

bits_below : (x : ℤ) → IsInt x → of_z w32 x < 2 ^ 32
bits_below x int = omega (arith, ints, int.from, int.to)

-- ---- `& | ^`

pub and_is_int : (m n : ℤ) → IsInt m → IsInt n → IsInt (int_bit_and w32 m n)
and_is_int m n p q = signed_is_int _ (omega (arith, and_le_l (of_z w32 m) (of_z w32 n), bits_below m p))

pub or_is_int : (m n : ℤ) → IsInt m → IsInt n → IsInt (int_bit_or w32 m n)
or_is_int m n p q = signed_is_int _ (or_of_32 (of_z w32 m) (of_z w32 n) (bits_below m p) (bits_below n q))

pub xor_is_int : (m n : ℤ) → IsInt m → IsInt n → IsInt (int_bit_xor w32 m n)
xor_is_int m n p q = signed_is_int _ (xor_of_32 (of_z w32 m) (of_z w32 n) (bits_below m p) (bits_below n q))

-- `&` with a number that is not negative is from 0 to it
pub and_left_bounds : (m n : ℤ) → pos 0 ≤ℤ m → m ≤ℤ greatest_int → Includes (interval (pos 0) m) (int_bit_and w32 m n)
and_left_bounds (pos a) n from to =
    let below = and_le_l a (of_z w32 n) in
    let is = to_z_pos w32 (bit_and a (of_z w32 n)) (omega (arith, ints)) in
    record { from = omega (arith, ints); to = omega (arith, ints) }
and_left_bounds (negsuc a) n from to = absurd (omega (arith, ints))

pub and_right_bounds : (m n : ℤ) → pos 0 ≤ℤ n → n ≤ℤ greatest_int → Includes (interval (pos 0) n) (int_bit_and w32 m n)
and_right_bounds m (pos b) from to =
    let below = and_le_r (of_z w32 m) b in
    let is = to_z_pos w32 (bit_and (of_z w32 m) b) (omega (arith, ints)) in
    record { from = omega (arith, ints); to = omega (arith, ints) }
and_right_bounds m (negsuc b) from to = absurd (omega (arith, ints))

-- `|` of numbers that are not negative is at least each of them
pub or_bounds : (m n : ℤ) → pos 0 ≤ℤ m → m ≤ℤ greatest_int → pos 0 ≤ℤ n → n ≤ℤ greatest_int → Includes (interval (int_max m n) greatest_int) (int_bit_or w32 m n)
or_bounds (pos a) (pos b) p q r s =
    let left = le_or_l a b in
    let right = le_or_r a b in
    let below = or_lt 31 a b (omega (arith, ints)) (omega (arith, ints)) in
    let is = to_z_pos w32 (bit_or a b) below in
    record { from = omega (arith, ints, clamps); to = omega (arith, ints) }
or_bounds (pos a) (negsuc b) p q r s = absurd (omega (arith, ints))
or_bounds (negsuc a) n p q r s = absurd (omega (arith, ints))

pub xor_bounds : (m n : ℤ) → pos 0 ≤ℤ m → m ≤ℤ greatest_int → pos 0 ≤ℤ n → n ≤ℤ greatest_int → Includes (interval (pos 0) greatest_int) (int_bit_xor w32 m n)
xor_bounds (pos a) (pos b) p q r s =
    let below = xor_lt 31 a b (omega (arith, ints)) (omega (arith, ints)) in
    let is = to_z_pos w32 (bit_xor a b) below in
    record { from = omega (arith, ints); to = omega (arith, ints) }
xor_bounds (pos a) (negsuc b) p q r s = absurd (omega (arith, ints))
xor_bounds (negsuc a) n p q r s = absurd (omega (arith, ints))

-- ---- `>> >>>`

-- `>>` keeps the order
pub shr_up : (a x : ℤ) (s : ℕ) → a ≤ℤ x → int_shr a s ≤ℤ int_shr x s
shr_up (pos a) (pos x) s h = omega (arith, ints, div_dividend a x (2 ^ s) (pow_pos s) (omega (arith, ints)))
shr_up (pos a) (negsuc x) s h = absurd (omega (arith, ints))
shr_up (negsuc a) (pos x) s h = omega (arith, ints)
shr_up (negsuc a) (negsuc x) s h = omega (arith, ints, div_dividend x a (2 ^ s) (pow_pos s) (omega (arith, ints)))

-- it goes towards 0 or -1
pub shr_bounds : (x : ℤ) (s : ℕ) → Includes (interval (int_min x (pos 0)) (int_max x (negsuc 0))) (int_shr x s)
shr_bounds (pos a) s = let less = shr_le a s in record { from = omega (arith, ints, clamps); to = omega (arith, ints, clamps) }
shr_bounds (negsuc a) s = let less = shr_le a s in record { from = omega (arith, ints, clamps); to = omega (arith, ints, clamps) }

pub shr_is_int : (m : ℤ) (s : ℕ) → IsInt m → IsInt (int_shr m s)
shr_is_int m s p =
    let b = shr_bounds m s in
    record { from = omega (arith, ints, clamps, b.from, p.from); to = omega (arith, ints, clamps, b.to, p.to) }

-- on a number that is not negative `>>>` is `>>`
pub ushr_natural : (x : ℤ) (s : ℕ) → pos 0 ≤ℤ x → x ≤ℤ greatest_int → to_z w32 (of_z w32 x / 2 ^ s) ≡ int_shr x s
ushr_natural (pos a) s from to = let less = shr_le a s in to_z_pos w32 (a / 2 ^ s) (omega (arith, ints))
ushr_natural (negsuc a) s from to = absurd (omega (arith, ints))

pub ushr_is_int : (x : ℤ) (s : ℕ) → IsInt x → IsInt (to_z w32 (of_z w32 x / 2 ^ s))
ushr_is_int x s p = signed_is_int _ (omega (arith, shr_le (of_z w32 x) s, bits_below x p))

-- `>>>` by s leaves 32 - s bits
pub ushr_bounds : (x : ℤ) (s : ℕ) → IsInt x → 0 < s → s < 32 → Includes (interval (pos 0) (greatest_after s)) (to_z w32 (of_z w32 x / 2 ^ s))
ushr_bounds x s p some within =
    let n = of_z w32 x in
    let width : 32 ≡ (32 - s) + s = omega arith in
    let all : n < 2 ^ ((32 - s) + s) = subst (λ k. n < 2 ^ k) width (bits_below x p) in
    let left : n / 2 ^ s < 2 ^ (32 - s) = shr_below n (32 - s) s all in
    let half : 2 ^ (32 - s) ≤ 2 ^ 31 = pow-le-pow_right {n = 2} (omega arith) {i = 32 - s} {j = 31} (omega arith) in
    let is = to_z_pos w32 (n / 2 ^ s) (omega (arith, left, half)) in
    record { from = omega (arith, ints); to = omega (arith, ints) }

-- ---- `%`

-- a remainder is on the dividend's side of 0, no further from it than the dividend, and smaller than the divisor
pub remainder_bounds : (m n limit : ℤ) → (n ≡ pos 0 → ⊥) → pos (unsigned_abs n) ≤ℤ (limit +ℤ pos 1) → Includes (interval (int_max (int_min m (pos 0)) (neg_ℤ limit)) (int_min (int_max m (pos 0)) limit)) (int_rem m n)
remainder_bounds (pos a) n limit divides size =
    let some : 0 < unsigned_abs n = omega (arith, ints, divides) in
    let less = mod-le a (unsigned_abs n) in
    let below = mod_below a (unsigned_abs n) some in
    record { from = omega (arith, ints, clamps); to = omega (arith, ints, clamps) }
remainder_bounds (negsuc a) n limit divides size =
    let some : 0 < unsigned_abs n = omega (arith, ints, divides) in
    let less = mod-le (suc a) (unsigned_abs n) in
    let below = mod_below (suc a) (unsigned_abs n) some in
    record { from = omega (arith, ints, clamps); to = omega (arith, ints, clamps) }
