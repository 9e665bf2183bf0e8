-- Every operator but `+ - * /` gives an int of ints, so that Java's result is the exact one.
use Rattle.std.proofs.Common.{◌≡◌, suc, zero, ℤ, pos, negsuc, ◌-ℤ◌, ◌*ℤ◌, ◌^◌, false, refl, int_rem, unsigned_abs, IfSome, arith}
use Rattle.std.specs.Prelude.{IsTrue}
use Rattle.std.proofs.lemmas.Int.{ints, clamps}
use Rattle.std.proofs.lemmas.Bool.{both_ways}
use Rattle.ix_num.specs.declared.arith.Arith.{Arith}
use Rattle.ix_num.specs.declared.arith.Arith.TheVariants.{Add, Sub, Mul, Div, Rem, And, Or, Xor, Shl, Shr, Ushr}
use Rattle.ix_num.specs.Ints.{IsInt}
use Rattle.ix_num.specs.Arithmetic.{exact_of, shift_distance, gives_ints}
use Rattle.ix_num.proofs.BitsWithinBounds.{and_is_int, or_is_int, xor_is_int, shr_is_int, ushr_is_int, remainder_bounds}
use Rattle.ix_num.proofs.RowsInclude.{wrap_is_int}

remainder_is_int : (m n : ℤ) → (n ≡ pos 0 → ⊥) → IsInt m → IsInt (int_rem m n)
remainder_is_int m n divides p =
    let r = remainder_bounds m n (pos (unsigned_abs n) -ℤ pos 1) divides (omega (arith, ints)) in
    record { from = omega (arith, ints, clamps, r.from, p.from); to = omega (arith, ints, clamps, r.to, p.to) }

pub exact_is_int : (op : Arith) (m n : ℤ) → IsTrue (gives_ints op) → IsInt m → IsInt n → IfSome (exact_of op m n) IsInt
exact_is_int Add m n h p q = absurd (both_ways false refl h)
exact_is_int Sub m n h p q = absurd (both_ways false refl h)
exact_is_int Mul m n h p q = absurd (both_ways false refl h)
exact_is_int Div m n h p q = absurd (both_ways false refl h)
exact_is_int Rem m (pos zero) h p q = tt
exact_is_int Rem m (pos (suc k)) h p q = remainder_is_int m (pos (suc k)) (λ e. absurd (omega (arith, ints, e))) p
exact_is_int Rem m (negsuc k) h p q = remainder_is_int m (negsuc k) (λ e. absurd (omega (arith, ints, e))) p
exact_is_int And m n h p q = and_is_int m n p q
exact_is_int Or m n h p q = or_is_int m n p q
exact_is_int Xor m n h p q = xor_is_int m n p q
exact_is_int Shl m n h p q = wrap_is_int (m *ℤ pos (2 ^ shift_distance n))
exact_is_int Shr m n h p q = shr_is_int m (shift_distance n) p
exact_is_int Ushr m n h p q = ushr_is_int m (shift_distance n) p
