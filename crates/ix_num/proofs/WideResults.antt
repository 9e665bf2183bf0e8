-- What the code computes of two ints in 128 bits, or of their 32 bits, is the exact result.
use Rattle.std.proofs.Common.{◌≡◌, ◌↔◌, ◌∙◌, ap, refl, inl, inr, true, zero, suc, ℤ, pos, negsuc, ◌+ℤ◌, ◌-ℤ◌, ◌*ℤ◌, ◌^◌, ◌/◌, ◌*◌, ◌%◌, ℕ, ◌≤◌, ◌<◌, Some, int_div, int_rem, unsigned_abs, bit_and, arith, FitsSigned, lit<, to_z, of_z}
use Rattle.std.specs.Prelude.{IsNone}
use Rattle.std.specs.Int.{w32, w128, int_shr}
use Rattle.std.proofs.lemmas.Bool.{both_ways}
use Rattle.std.proofs.lemmas.Int.{ints, to_z_pos, to_z-of_z, fits_signed_mul, fits_signed_from_abs, rem_is}
use Rattle.ix_num.specs.declared.arith.Arith.{Arith}
use Rattle.ix_num.specs.declared.arith.Arith.TheVariants.{Add, Sub, Mul, Div, Rem, And, Or, Xor, Shl, Shr, Ushr}
use Rattle.ix_num.specs.Ints.{IsInt}
use Rattle.ix_num.specs.Arithmetic.{wrap_of, exact_of, unless_zero, shift_distance, DividesByZero}
use Rattle.ix_num.proofs.LowBits.{low_five, shift_left_is}
use Rattle.ix_num.proofs.RowsInclude.{wrap_is_int}
use Rattle.ix_num.proofs.BitsWithinBounds.{shr_is_int, ushr_is_int}
use Rattle.ix_num.proofs.Casts.{quotient_size}

abbrev pub wide : ℤ → ℤ
wide x = to_z w128 (of_z w128 (to_z w32 (of_z w32 x)))

pub int_of : (x : ℤ) → FitsSigned w32 x → IsInt x
int_of x p = record { from = omega (arith, ints); to = omega (arith, ints) }

pub fits_of : (x : ℤ) → IsInt x → FitsSigned w32 x
fits_of x p = omega (arith, ints, p.from, p.to)

fits_wide : (x : ℤ) → FitsSigned w32 x → FitsSigned w128 x
fits_wide x p = omega (arith, ints)

pub wide_is : (x : ℤ) → FitsSigned w32 x → wide x ≡ x
wide_is x p = ap (λ n. to_z w128 (of_z w128 n)) (to_z-of_z w32 x p) ∙ to_z-of_z w128 x (fits_wide x p)

pub sum_is : (x y : ℤ) → FitsSigned w32 x → FitsSigned w32 y → to_z w128 (of_z w128 (wide x +ℤ wide y)) ≡ x +ℤ y
sum_is x y p q = rw (wide_is x p, wide_is y q) (to_z-of_z w128 (x +ℤ y) (omega (arith, ints)))

pub difference_is : (x y : ℤ) → FitsSigned w32 x → FitsSigned w32 y → to_z w128 (of_z w128 (wide x -ℤ wide y)) ≡ x -ℤ y
difference_is x y p q = rw (wide_is x p, wide_is y q) (to_z-of_z w128 (x -ℤ y) (omega (arith, ints)))

pub wide_product_fits : (x y : ℤ) → FitsSigned w32 x → FitsSigned w32 y → FitsSigned w128 (wide x *ℤ wide y)
wide_product_fits x y p q = rw (wide_is x p, wide_is y q) (fits_signed_mul w128 x y (2 ^ 31) (2 ^ 31) (omega (arith, ints)) (omega (arith, ints)) (lit< tt))

pub wide_product_is : (x y : ℤ) → FitsSigned w32 x → FitsSigned w32 y → to_z w128 (of_z w128 (wide x *ℤ wide y)) ≡ x *ℤ y
wide_product_is x y p q = to_z-of_z w128 _ (wide_product_fits x y p q) ∙ (λ i. wide_is x p i *ℤ wide_is y q i)

unless_not_zero : (y n : ℤ) → (of_z w32 y ≡ 0 → ⊥) → Some n ≡ unless_zero y n
unless_not_zero (pos zero) n some = absurd (some refl)
unless_not_zero (pos (suc d)) n some = refl
unless_not_zero (negsuc d) n some = refl

pub wide_quotient_fits : (x y : ℤ) → FitsSigned w32 x → FitsSigned w128 (int_div x y)
wide_quotient_fits x y p = fits_signed_from_abs w128 (int_div x y) (let small : unsigned_abs x ≤ 2 ^ 31 = omega (arith, ints) in omega (arith, small, quotient_size x y))

pub wide_quotient_is : (x y : ℤ) → FitsSigned w32 x → FitsSigned w32 y → (of_z w32 y ≡ 0 → ⊥) → Some (to_z w128 (of_z w128 (int_div (wide x) (wide y)))) ≡ unless_zero y (int_div x y)
wide_quotient_is x y p q some =
    rw (wide_is x p, wide_is y q, to_z-of_z w128 (int_div x y) (wide_quotient_fits x y p)) (unless_not_zero y (int_div x y) some)

pub wide_remainder_is : (x y : ℤ) → FitsSigned w32 x → FitsSigned w32 y → (of_z w32 y ≡ 0 → ⊥) → Some (to_z w128 (of_z w128 (int_rem (wide x) (wide y)))) ≡ unless_zero y (int_rem x y)
wide_remainder_is x y p q some =
    let left = to_z-of_z w32 x p in
    let right = to_z-of_z w32 y q in
    (λ i. Some (to_z w128 (of_z w128 (int_rem (to_z w128 (of_z w128 (left i))) (to_z w128 (of_z w128 (right i))))))) ∙ ap Some (rem_is w128 x y (fits_wide x p) (fits_wide y q)) ∙ unless_not_zero y (int_rem x y) some

pub wide_shift_left_is : (x y : ℤ) → FitsSigned w32 x → to_z w128 (of_z w128 (to_z w32 (of_z w32 x * 2 ^ bit_and (of_z w32 y) 31 % 2 ^ 32))) ≡ wrap_of (x *ℤ pos (2 ^ shift_distance y))
wide_shift_left_is x y p =
    let is = shift_left_is x (of_z w32 y) p in
    ap (λ n. to_z w128 (of_z w128 n)) is ∙ to_z-of_z w128 _ (fits_wide _ (fits_of _ (wrap_is_int (x *ℤ pos (2 ^ shift_distance y)))))

pub shift_right_is : (x y : ℤ) → FitsSigned w32 x → wide (int_shr (to_z w32 (of_z w32 x)) (bit_and (of_z w32 y) 31)) ≡ int_shr x (shift_distance y)
shift_right_is x y p =
    rw (to_z-of_z w32 x p, low_five (of_z w32 y)) (wide_is (int_shr x (shift_distance y)) (fits_of _ (shr_is_int x (shift_distance y) (int_of x p))))

-- without a sign, as `cast_unsigned`, `>>` and `cast_signed` do it
pub shift_unsigned_is : (x y : ℤ) (u : ℕ) (z : ℤ) → FitsSigned w32 x → u ≡ of_z w32 (to_z w32 (of_z w32 x)) → z ≡ to_z w32 (u / 2 ^ unsigned_abs (to_z w32 (bit_and (of_z w32 y) 31))) → wide z ≡ to_z w32 (of_z w32 x / 2 ^ shift_distance y)
shift_unsigned_is x y u z p bits is =
    let s = shift_distance y in
    let small : s < 2 ^ 31 = omega arith in
    let distance : unsigned_abs (to_z w32 (bit_and (of_z w32 y) 31)) ≡ s = ap (λ n. unsigned_abs (to_z w32 n)) (low_five (of_z w32 y)) ∙ ap unsigned_abs (to_z_pos w32 s small) in
    let value : z ≡ to_z w32 (of_z w32 x / 2 ^ s) = is ∙ (λ i. to_z w32 ((bits ∙ ap (of_z w32) (to_z-of_z w32 x p)) i / 2 ^ distance i)) in
    rw value (wide_is _ (fits_of _ (ushr_is_int x s (int_of x p))))

unless_none : (y n : ℤ) → IsNone (unless_zero y n) → y ≡ pos 0
unless_none (pos zero) n h = refl
unless_none (pos (suc d)) n h = absurd (both_ways true h refl)
unless_none (negsuc d) n h = absurd (both_ways true h refl)

zero_none : (y n : ℤ) → y ≡ pos 0 → IsNone (unless_zero y n)
zero_none y n is = rw is

some_result : (op : Arith) (y : ℤ) → (op ≡ Div → ⊥) → (op ≡ Rem → ⊥) → IsNone (Some (pos 0)) ↔ DividesByZero op y
some_result op y no_quotient no_remainder =
    (λ h. absurd (both_ways true h refl), λ d. elim d.operator [ inl e ↦ absurd (no_quotient e) | inr e ↦ absurd (no_remainder e) ])

-- no result exactly where `/` or `%` has a divisor of 0
pub exact_none : (op : Arith) (x y : ℤ) → IsNone (exact_of op x y) ↔ DividesByZero op y
exact_none Add x y = some_result Add y (λ e. cc) (λ e. cc)
exact_none Sub x y = some_result Sub y (λ e. cc) (λ e. cc)
exact_none Mul x y = some_result Mul y (λ e. cc) (λ e. cc)
exact_none Div x y = (λ h. record { operator = inl refl; divisor = unless_none y _ h }, λ d. zero_none y _ d.divisor)
exact_none Rem x y = (λ h. record { operator = inr refl; divisor = unless_none y _ h }, λ d. zero_none y _ d.divisor)
exact_none And x y = some_result And y (λ e. cc) (λ e. cc)
exact_none Or x y = some_result Or y (λ e. cc) (λ e. cc)
exact_none Xor x y = some_result Xor y (λ e. cc) (λ e. cc)
exact_none Shl x y = some_result Shl y (λ e. cc) (λ e. cc)
exact_none Shr x y = some_result Shr y (λ e. cc) (λ e. cc)
exact_none Ushr x y = some_result Ushr y (λ e. cc) (λ e. cc)
