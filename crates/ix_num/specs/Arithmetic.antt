-- Java's arithmetic on ints, on whole numbers without a width: what an operator gives exactly, and what Java keeps of it.
use Rattle.std.specs.Prelude.{◌≡◌, ◌⊎◌, Bool, true, false, ℕ, suc, zero, ◌^◌, ◌%◌, ◌/◌, ℤ, pos, negsuc, ◌+ℤ◌, ◌*ℤ◌, ◌-ℤ◌, neg_ℤ, Option, Some, None, int_div, int_rem, option_map}
use Rattle.std.specs.Int.{w32, int_wrap, cast_unsigned, cast_signed, int_bit_and, int_bit_or, int_bit_xor, int_shr}
use Rattle.ix_num.specs.declared.arith.Arith.{Arith}
use Rattle.ix_num.specs.declared.arith.Arith.TheVariants.{Add, Sub, Mul, Div, Rem, And, Or, Xor, Shl, Shr, Ushr}

-- The int with the same low 32 bits. JLS 4.2.2: "the integer operators do not indicate overflow or underflow in any way"; 15.18.2:
-- where a sum overflows "the result is the low-order bits of the mathematical sum".
abbrev pub wrap_of : ℤ → ℤ
wrap_of n = int_wrap w32 n

-- `~x`. JLS 15.15.5: "in all cases, ~x equals (-x)-1".
abbrev pub flip_of : ℤ → ℤ
flip_of x = neg_ℤ x -ℤ pos 1

-- How far a shift goes. JLS 15.19: "only the five lowest-order bits of the right-hand operand are used as the shift distance".
abbrev pub shift_distance : ℤ → ℕ
shift_distance y = cast_unsigned w32 y % 32

-- a value, but none at a divisor of 0. JLS 15.17.2, 15.17.3: "an ArithmeticException is thrown".
abbrev pub unless_zero : ℤ → ℤ → Option ℤ
unless_zero (pos zero) n = None
unless_zero (pos (suc d)) n = Some n
unless_zero (negsuc d) n = Some n

-- The exact result of `+ - * /`, and Java's result of the other operators, which is an int.
-- `+ - *`: JLS 15.18.2, 15.17.1. `/`: 15.17.2, "integer division rounds toward 0".
-- `%`: 15.17.3, (a/b)*b+(a%b) is a, so the result has the sign of the dividend or is 0.
-- `& | ^`: 15.22.1, bit by bit in two's complement.
-- `<<`: 15.19, "equivalent (even if overflow occurs) to multiplication by two to the power s".
-- `>>`: 15.19, "with sign-extension": the quotient by two to the power s, rounded down. `>>>`: "with zero-extension".
abbrev pub exact_of : Arith → ℤ → ℤ → Option ℤ
exact_of Add x y = Some (x +ℤ y)
exact_of Sub x y = Some (x -ℤ y)
exact_of Mul x y = Some (x *ℤ y)
exact_of Div x y = unless_zero y (int_div x y)
exact_of Rem x y = unless_zero y (int_rem x y)
exact_of And x y = Some (int_bit_and w32 x y)
exact_of Or x y = Some (int_bit_or w32 x y)
exact_of Xor x y = Some (int_bit_xor w32 x y)
exact_of Shl x y = Some (wrap_of (x *ℤ pos (2 ^ shift_distance y)))
exact_of Shr x y = Some (int_shr x (shift_distance y))
exact_of Ushr x y = Some (cast_signed w32 (cast_unsigned w32 x / 2 ^ shift_distance y))

-- Java's result: what is left of the exact one in 32 bits. So the least int by -1 is the least int (JLS 15.17.2).
abbrev pub java_of : Arith → ℤ → ℤ → Option ℤ
java_of op x y = option_map wrap_of (exact_of op x y)

-- `/` or `%` with a divisor of 0: the one case without a result
pub record DividesByZero (op : Arith) (y : ℤ) : Type 0 where
  pub operator : (op ≡ Div) ⊎ (op ≡ Rem)
  pub divisor : y ≡ pos 0

-- the operators whose result is an int without more: all but `+ - * /`
abbrev pub gives_ints : Arith → Bool
gives_ints Add = false
gives_ints Sub = false
gives_ints Mul = false
gives_ints Div = false
gives_ints _ = true
