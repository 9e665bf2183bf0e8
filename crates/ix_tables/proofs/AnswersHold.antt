-- Each answer of the low table holds of all numbers of the two classes.
use Rattle.std.proofs.Common.{◌≡◌, ℕ, suc, zero, ℤ, pos, negsuc, ◌+ℤ◌, ◌-ℤ◌, ◌*ℤ◌, ◌≤ℤ◌, ◌-◌, ◌/◌, ◌^◌, ◌<◌, ◌≤◌, int_div, int_rem, unsigned_abs, IfSome, arith, to_z, of_z}
use Rattle.std.specs.Int.{w32, int_min, int_shr, int_bit_and, int_bit_or, int_bit_xor}
use Rattle.std.proofs.lemmas.Int.{ints, clamps}
use Rattle.std.proofs.lemmas.Nat.{le_or_l, le_or_r, or_of_32}
use Rattle.ix_num.specs.declared.arith.Arith.{Arith}
use Rattle.ix_num.specs.declared.arith.Arith.TheVariants.{Add, Sub, Mul, Div, Rem, And, Or, Xor, Shl, Shr, Ushr}
use Rattle.ix_num.specs.Ints.{IsInt, greatest_int}
use Rattle.ix_num.specs.Arithmetic.{exact_of, shift_distance}
use Rattle.ix_num.proofs.LowBits.{signed_high}
use Rattle.ix_num.proofs.ProductsKeepOrder.{product_up}
use Rattle.ix_num.proofs.QuotientsKeepOrder.{quotient_up}
use Rattle.ix_num.proofs.BitsWithinBounds.{and_left_bounds, and_right_bounds, or_bounds, xor_bounds, shr_bounds, ushr_natural, ushr_bounds, remainder_bounds}
use Rattle.ix_tables.specs.declared.low.Low.{Low}
use Rattle.ix_tables.specs.declared.low.Low.TheVariants.{Unknown, MinusOne, Zero, One}
use Rattle.ix_tables.specs.LowClasses.{AtLeast}
use Rattle.ix_tables.specs.LowTable.{sum_low, product_low, towards_zero, quotient_low, and_low, or_low, xor_low, low_of}
use Rattle.ix_tables.specs.TableLaws.{IsSound, IsOperand}

-- ---- `+ *`

sum_sound : (x y : Low) (m n : ℤ) → AtLeast x m → AtLeast y n → AtLeast (sum_low x y) (m +ℤ n)
sum_sound Unknown Unknown m n p q = tt
sum_sound Unknown MinusOne m n p q = tt
sum_sound Unknown Zero m n p q = tt
sum_sound Unknown One m n p q = tt
sum_sound MinusOne Unknown m n p q = tt
sum_sound MinusOne MinusOne m n p q = tt
sum_sound MinusOne Zero m n p q = omega (arith, ints)
sum_sound MinusOne One m n p q = omega (arith, ints)
sum_sound Zero Unknown m n p q = tt
sum_sound Zero MinusOne m n p q = omega (arith, ints)
sum_sound Zero Zero m n p q = omega (arith, ints)
sum_sound Zero One m n p q = omega (arith, ints)
sum_sound One Unknown m n p q = tt
sum_sound One MinusOne m n p q = omega (arith, ints)
sum_sound One Zero m n p q = omega (arith, ints)
sum_sound One One m n p q = omega (arith, ints)

-- a product of numbers that are not negative is at least the one, where the other is at least 1
product_natural : (m n : ℤ) → pos 0 ≤ℤ m → pos 0 ≤ℤ n → pos 0 ≤ℤ (m *ℤ n)
product_natural m (pos b) p q = let up = product_up (pos 0) m b p in omega (arith, ints)
product_natural m (negsuc b) p q = absurd (omega (arith, ints))

product_positive : (m n : ℤ) → pos 1 ≤ℤ m → pos 1 ≤ℤ n → pos 1 ≤ℤ (m *ℤ n)
product_positive m (pos b) p q = let up = product_up (pos 1) m b p in omega (arith, ints)
product_positive m (negsuc b) p q = absurd (omega (arith, ints))

product_sound : (x y : Low) (m n : ℤ) → AtLeast x m → AtLeast y n → AtLeast (product_low x y) (m *ℤ n)
product_sound Unknown Unknown m n p q = tt
product_sound Unknown MinusOne m n p q = tt
product_sound Unknown Zero m n p q = tt
product_sound Unknown One m n p q = tt
product_sound MinusOne Unknown m n p q = tt
product_sound MinusOne MinusOne m n p q = tt
product_sound MinusOne Zero m n p q = tt
product_sound MinusOne One m n p q = tt
product_sound Zero Unknown m n p q = tt
product_sound Zero MinusOne m n p q = tt
product_sound Zero Zero m n p q = product_natural m n (omega (arith, ints)) (omega (arith, ints))
product_sound Zero One m n p q = product_natural m n (omega (arith, ints)) (omega (arith, ints))
product_sound One Unknown m n p q = tt
product_sound One MinusOne m n p q = tt
product_sound One Zero m n p q = product_natural m n (omega (arith, ints)) (omega (arith, ints))
product_sound One One m n p q = product_positive m n p q

-- ---- `/ %`

quotient_keeps : (x : Low) (m : ℤ) (k : ℕ) → AtLeast x m → AtLeast (towards_zero x) (int_div m (pos (suc k)))
quotient_keeps Unknown m k p = tt
quotient_keeps MinusOne m k p = let up = quotient_up (negsuc 0) m (suc k) (omega arith) p in let least : 1 / suc k ≤ 1 = omega arith in omega (arith, ints)
quotient_keeps Zero m k p = let up = quotient_up (pos 0) m (suc k) (omega arith) p in omega (arith, ints)
quotient_keeps One m k p = let up = quotient_up (pos 0) m (suc k) (omega arith) (omega (arith, ints)) in omega (arith, ints)

quotient_sound : (x y : Low) (m n : ℤ) → AtLeast x m → AtLeast y n → IfSome (exact_of Div m n) (AtLeast (quotient_low x y))
quotient_sound x y m (pos zero) p q = tt
quotient_sound x Zero m (pos (suc k)) p q = quotient_keeps x m k p
quotient_sound x One m (pos (suc k)) p q = quotient_keeps x m k p
quotient_sound x Unknown m (pos (suc k)) p q = tt
quotient_sound x MinusOne m (pos (suc k)) p q = tt
quotient_sound x Zero m (negsuc k) p q = absurd (omega (arith, ints))
quotient_sound x One m (negsuc k) p q = absurd (omega (arith, ints))
quotient_sound x Unknown m (negsuc k) p q = tt
quotient_sound x MinusOne m (negsuc k) p q = tt

-- what lies no further below 0 than a number of the class
towards_zero_holds : (x : Low) (m e : ℤ) → AtLeast x m → int_min m (pos 0) ≤ℤ e → AtLeast (towards_zero x) e
towards_zero_holds Unknown m e p h = tt
towards_zero_holds MinusOne m e p h = omega (arith, ints, clamps)
towards_zero_holds Zero m e p h = omega (arith, ints, clamps)
towards_zero_holds One m e p h = omega (arith, ints, clamps)

remainder_keeps : (x : Low) (m n : ℤ) → (n ≡ pos 0 → ⊥) → AtLeast x m → AtLeast (towards_zero x) (int_rem m n)
remainder_keeps x m n divides p =
    let r = remainder_bounds m n (pos (unsigned_abs n) -ℤ pos 1) divides (omega (arith, ints)) in
    towards_zero_holds x m (int_rem m n) p (omega (arith, ints, clamps, r.from))

remainder_sound : (x : Low) (m n : ℤ) → AtLeast x m → IfSome (exact_of Rem m n) (AtLeast (towards_zero x))
remainder_sound x m (pos zero) p = tt
remainder_sound x m (pos (suc k)) p = remainder_keeps x m (pos (suc k)) (λ e. absurd (omega (arith, ints, e))) p
remainder_sound x m (negsuc k) p = remainder_keeps x m (negsuc k) (λ e. absurd (omega (arith, ints, e))) p

-- ---- `& | ^`

-- -1 has every bit
and_minus_one : (m n : ℤ) → IsInt m → IsInt n → negsuc 0 ≤ℤ m → negsuc 0 ≤ℤ n → negsuc 0 ≤ℤ int_bit_and w32 m n
and_minus_one (pos a) n r s p q = let e = and_left_bounds (pos a) n (omega (arith, ints)) r.to in omega (arith, ints, e.from)
and_minus_one (negsuc a) (pos b) r s p q = let e = and_right_bounds (negsuc a) (pos b) (omega (arith, ints)) s.to in omega (arith, ints, e.from)
and_minus_one (negsuc zero) (negsuc zero) r s p q = record { le = tt }
and_minus_one (negsuc (suc a)) (negsuc b) r s p q = absurd (omega (arith, ints, p))
and_minus_one (negsuc zero) (negsuc (suc b)) r s p q = absurd (omega (arith, ints, q))

all_bits : (n : ℕ) → 2 ^ 32 - 1 ≤ n → n < 2 ^ 32 → negsuc 0 ≤ℤ to_z w32 n
all_bits n from below = let is = signed_high n (omega arith) below in omega (arith, ints)

or_minus_one : (m n : ℤ) → IsInt m → IsInt n → negsuc 0 ≤ℤ m → negsuc 0 ≤ℤ n → negsuc 0 ≤ℤ int_bit_or w32 m n
or_minus_one (pos a) (pos b) r s p q = let e = or_bounds (pos a) (pos b) (omega (arith, ints)) r.to (omega (arith, ints)) s.to in omega (arith, ints, clamps, e.from)
or_minus_one (pos a) (negsuc b) r s p q =
    let high : 2 ^ 32 - 1 ≤ of_z w32 (negsuc b) = omega (arith, ints, q) in
    all_bits _ (omega (arith, high, le_or_r a (of_z w32 (negsuc b)))) (or_of_32 a (of_z w32 (negsuc b)) (omega (arith, ints, r.to)) (omega (arith, ints)))
or_minus_one (negsuc a) n r s p q =
    let high : 2 ^ 32 - 1 ≤ of_z w32 (negsuc a) = omega (arith, ints, p) in
    all_bits _ (omega (arith, high, le_or_l (of_z w32 (negsuc a)) (of_z w32 n))) (or_of_32 (of_z w32 (negsuc a)) (of_z w32 n) (omega (arith, ints)) (omega (arith, ints, s.from, s.to)))

and_sound : (x y : Low) (m n : ℤ) → IsInt m → IsInt n → AtLeast x m → AtLeast y n → AtLeast (and_low x y) (int_bit_and w32 m n)
and_sound Unknown Unknown m n r s p q = tt
and_sound Unknown MinusOne m n r s p q = tt
and_sound Unknown Zero m n r s p q = let e = and_right_bounds m n (omega (arith, ints)) s.to in omega (arith, ints, e.from)
and_sound Unknown One m n r s p q = let e = and_right_bounds m n (omega (arith, ints)) s.to in omega (arith, ints, e.from)
and_sound MinusOne Unknown m n r s p q = tt
and_sound MinusOne MinusOne m n r s p q = and_minus_one m n r s p q
and_sound MinusOne Zero m n r s p q = let e = and_right_bounds m n (omega (arith, ints)) s.to in omega (arith, ints, e.from)
and_sound MinusOne One m n r s p q = let e = and_right_bounds m n (omega (arith, ints)) s.to in omega (arith, ints, e.from)
and_sound Zero Unknown m n r s p q = let e = and_left_bounds m n (omega (arith, ints)) r.to in omega (arith, ints, e.from)
and_sound Zero MinusOne m n r s p q = let e = and_left_bounds m n (omega (arith, ints)) r.to in omega (arith, ints, e.from)
and_sound Zero Zero m n r s p q = let e = and_left_bounds m n (omega (arith, ints)) r.to in omega (arith, ints, e.from)
and_sound Zero One m n r s p q = let e = and_left_bounds m n (omega (arith, ints)) r.to in omega (arith, ints, e.from)
and_sound One Unknown m n r s p q = let e = and_left_bounds m n (omega (arith, ints)) r.to in omega (arith, ints, e.from)
and_sound One MinusOne m n r s p q = let e = and_left_bounds m n (omega (arith, ints)) r.to in omega (arith, ints, e.from)
and_sound One Zero m n r s p q = let e = and_left_bounds m n (omega (arith, ints)) r.to in omega (arith, ints, e.from)
and_sound One One m n r s p q = let e = and_left_bounds m n (omega (arith, ints)) r.to in omega (arith, ints, e.from)

or_sound : (x y : Low) (m n : ℤ) → IsInt m → IsInt n → AtLeast x m → AtLeast y n → AtLeast (or_low x y) (int_bit_or w32 m n)
or_sound Unknown Unknown m n r s p q = tt
or_sound Unknown MinusOne m n r s p q = tt
or_sound Unknown Zero m n r s p q = tt
or_sound Unknown One m n r s p q = tt
or_sound MinusOne Unknown m n r s p q = tt
or_sound MinusOne MinusOne m n r s p q = or_minus_one m n r s (omega (arith, ints)) (omega (arith, ints))
or_sound MinusOne Zero m n r s p q = or_minus_one m n r s (omega (arith, ints)) (omega (arith, ints))
or_sound MinusOne One m n r s p q = or_minus_one m n r s (omega (arith, ints)) (omega (arith, ints))
or_sound Zero Unknown m n r s p q = tt
or_sound Zero MinusOne m n r s p q = or_minus_one m n r s (omega (arith, ints)) (omega (arith, ints))
or_sound Zero Zero m n r s p q = let e = or_bounds m n (omega (arith, ints)) r.to (omega (arith, ints)) s.to in omega (arith, ints, clamps, e.from)
or_sound Zero One m n r s p q = let e = or_bounds m n (omega (arith, ints)) r.to (omega (arith, ints)) s.to in omega (arith, ints, clamps, e.from)
or_sound One Unknown m n r s p q = tt
or_sound One MinusOne m n r s p q = or_minus_one m n r s (omega (arith, ints)) (omega (arith, ints))
or_sound One Zero m n r s p q = let e = or_bounds m n (omega (arith, ints)) r.to (omega (arith, ints)) s.to in omega (arith, ints, clamps, e.from)
or_sound One One m n r s p q = let e = or_bounds m n (omega (arith, ints)) r.to (omega (arith, ints)) s.to in omega (arith, ints, clamps, e.from)

xor_sound : (x y : Low) (m n : ℤ) → IsInt m → IsInt n → AtLeast x m → AtLeast y n → AtLeast (xor_low x y) (int_bit_xor w32 m n)
xor_sound Unknown Unknown m n r s p q = tt
xor_sound Unknown MinusOne m n r s p q = tt
xor_sound Unknown Zero m n r s p q = tt
xor_sound Unknown One m n r s p q = tt
xor_sound MinusOne Unknown m n r s p q = tt
xor_sound MinusOne MinusOne m n r s p q = tt
xor_sound MinusOne Zero m n r s p q = tt
xor_sound MinusOne One m n r s p q = tt
xor_sound Zero Unknown m n r s p q = tt
xor_sound Zero MinusOne m n r s p q = tt
xor_sound Zero Zero m n r s p q = let e = xor_bounds m n (omega (arith, ints)) r.to (omega (arith, ints)) s.to in e.from
xor_sound Zero One m n r s p q = let e = xor_bounds m n (omega (arith, ints)) r.to (omega (arith, ints)) s.to in e.from
xor_sound One Unknown m n r s p q = tt
xor_sound One MinusOne m n r s p q = tt
xor_sound One Zero m n r s p q = let e = xor_bounds m n (omega (arith, ints)) r.to (omega (arith, ints)) s.to in e.from
xor_sound One One m n r s p q = let e = xor_bounds m n (omega (arith, ints)) r.to (omega (arith, ints)) s.to in e.from

-- ---- `>> >>>`

shr_sound : (x : Low) (m : ℤ) (s : ℕ) → AtLeast x m → AtLeast (towards_zero x) (int_shr m s)
shr_sound x m s p = let e = shr_bounds m s in towards_zero_holds x m (int_shr m s) p e.from

ushr_of_natural : (m : ℤ) (s : ℕ) → pos 0 ≤ℤ m → m ≤ℤ greatest_int → pos 0 ≤ℤ to_z w32 (of_z w32 m / 2 ^ s)
ushr_of_natural m s p q = let e = shr_bounds m s in rw (ushr_natural m s p q) (omega (arith, ints, clamps, e.from))

ushr_of_minus_one : (s : ℕ) → s < 32 → negsuc 0 ≤ℤ to_z w32 (of_z w32 (negsuc 0) / 2 ^ s)
ushr_of_minus_one zero below = record { le = tt }
ushr_of_minus_one (suc s) below =
    let e = ushr_bounds (negsuc 0) (suc s) (record { from = omega (arith, ints); to = omega (arith, ints) }) (omega arith) below in
    omega (arith, ints, e.from)

ushr_sound : (x : Low) (m : ℤ) (s : ℕ) → s < 32 → IsInt m → AtLeast x m → AtLeast (towards_zero x) (to_z w32 (of_z w32 m / 2 ^ s))
ushr_sound Unknown m s below r p = tt
ushr_sound MinusOne (pos a) s below r p = let e = ushr_of_natural (pos a) s (omega (arith, ints)) r.to in omega (arith, ints, e)
ushr_sound MinusOne (negsuc zero) s below r p = ushr_of_minus_one s below
ushr_sound MinusOne (negsuc (suc a)) s below r p = absurd (omega (arith, ints, p))
ushr_sound Zero m s below r p = ushr_of_natural m s p r.to
ushr_sound One m s below r p = ushr_of_natural m s (omega (arith, ints)) r.to

-- ---- all operators

distance_below : (n : ℤ) → shift_distance n < 32
distance_below n = omega arith

answer_holds : (op : Arith) (x y : Low) (m n : ℤ) → IsOperand op m → IsOperand op n → AtLeast x m → AtLeast y n → IfSome (exact_of op m n) (AtLeast (low_of op x y))
answer_holds Add x y m n r s p q = sum_sound x y m n p q
answer_holds Sub x y m n r s p q = tt
answer_holds Mul x y m n r s p q = product_sound x y m n p q
answer_holds Div x y m n r s p q = quotient_sound x y m n p q
answer_holds Rem x y m n r s p q = remainder_sound x m n p
answer_holds And x y m n r s p q = and_sound x y m n r s p q
answer_holds Or x y m n r s p q = or_sound x y m n r s p q
answer_holds Xor x y m n r s p q = xor_sound x y m n r s p q
answer_holds Shl x y m n r s p q = tt
answer_holds Shr x y m n r s p q = shr_sound x m (shift_distance n) p
answer_holds Ushr x y m n r s p q = ushr_sound x m (shift_distance n) (distance_below n) r p

pub low_of_sound : (op : Arith) (x y : Low) → IsSound op x y (low_of op x y)
low_of_sound op x y = record { each = answer_holds op x y }
