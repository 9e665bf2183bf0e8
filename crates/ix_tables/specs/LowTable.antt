-- The low table: the class of a result, from the classes of the operands.
-- Checker Framework manual, Index Checker, "Lower bounds", names the classes; which results have which class is this project's table.
use Rattle.std.specs.Prelude.{Bool, true, false}
use Rattle.ix_num.specs.declared.arith.Arith.{Arith}
use Rattle.ix_num.specs.declared.arith.Arith.TheVariants.{Add, Sub, Mul, Div, Rem, And, Or, Xor, Shl, Shr, Ushr}
use Rattle.ix_tables.specs.declared.low.Low.{Low}
use Rattle.ix_tables.specs.declared.low.Low.TheVariants.{Unknown, MinusOne, Zero, One}

-- the sum of the two bounds, and 1 where it is 2; nothing is known of -1 and -1
abbrev pub sum_low : Low → Low → Low
sum_low MinusOne Zero = MinusOne
sum_low MinusOne One = Zero
sum_low Zero MinusOne = MinusOne
sum_low Zero Zero = Zero
sum_low Zero One = One
sum_low One MinusOne = Zero
sum_low One Zero = One
sum_low One One = One
sum_low _ _ = Unknown

-- of numbers that are not negative; positive where both are
abbrev pub product_low : Low → Low → Low
product_low Zero Zero = Zero
product_low Zero One = Zero
product_low One Zero = Zero
product_low One One = One
product_low _ _ = Unknown

-- what a quotient, a remainder or a number shifted to the right keeps of the left operand: it may reach 0
abbrev pub towards_zero : Low → Low
towards_zero Unknown = Unknown
towards_zero MinusOne = MinusOne
towards_zero Zero = Zero
towards_zero One = Zero

-- by a divisor that is not negative
abbrev pub quotient_low : Low → Low → Low
quotient_low x Zero = towards_zero x
quotient_low x One = towards_zero x
quotient_low _ _ = Unknown

-- not negative where one of the two is not
abbrev pub and_low : Low → Low → Low
and_low MinusOne MinusOne = MinusOne
and_low Zero _ = Zero
and_low One _ = Zero
and_low _ Zero = Zero
and_low _ One = Zero
and_low _ _ = Unknown

-- of two known operands: -1 where one is -1, else 1 where one is 1, else 0
abbrev pub or_low : Low → Low → Low
or_low Unknown _ = Unknown
or_low _ Unknown = Unknown
or_low MinusOne _ = MinusOne
or_low _ MinusOne = MinusOne
or_low One _ = One
or_low _ One = One
or_low Zero Zero = Zero

-- of numbers that are not negative
abbrev pub xor_low : Low → Low → Low
xor_low Zero Zero = Zero
xor_low Zero One = Zero
xor_low One Zero = Zero
xor_low One One = Zero
xor_low _ _ = Unknown

abbrev pub low_of : Arith → Low → Low → Low
low_of Add x y = sum_low x y
low_of Sub x y = Unknown
low_of Mul x y = product_low x y
low_of Div x y = quotient_low x y
low_of Rem x y = towards_zero x
low_of And x y = and_low x y
low_of Or x y = or_low x y
low_of Xor x y = xor_low x y
low_of Shl x y = Unknown
low_of Shr x y = towards_zero x
low_of Ushr x y = towards_zero x

abbrev pub is_known : Low → Bool
is_known Unknown = false
is_known _ = true

-- whether the answer counts only where the exact result is an int: a sum or a product may wrap
abbrev pub needs_fits_of : Arith → Low → Low → Bool
needs_fits_of Add x y = is_known (sum_low x y)
needs_fits_of Mul x y = is_known (product_low x y)
needs_fits_of _ x y = false
