-- The interval of what an operator gives, from the intervals of its operands: one row for each operator.
-- Intervals as what is known of a number: Cousot and Cousot, "Static determination of dynamic properties of programs" (1976). The
-- rows are this project's own.
use Rattle.std.specs.Prelude.{Bool, ◌&&◌, ◌||◌, not, if◌then◌else◌, ℕ, ◌-◌, ◌^◌, nat_lt, ℤ, pos, negsuc, ◌+ℤ◌, ◌*ℤ◌, ◌-ℤ◌, neg_ℤ, int_lt, int_le, int_div, unsigned_abs}
use Rattle.std.specs.Int.{int_min, int_max, int_shr}
use Rattle.std.specs.Ordering.{int_eq}
use Rattle.ix_num.specs.declared.arith.Arith.{Arith}
use Rattle.ix_num.specs.declared.arith.Arith.TheVariants.{Add, Sub, Mul, Div, Rem, And, Or, Xor, Shl, Shr, Ushr}
use Rattle.ix_num.specs.declared.interval.Interval.{Interval}
use Rattle.ix_num.specs.Ints.{greatest_int}
use Rattle.ix_num.specs.Arithmetic.{shift_distance}
use Rattle.ix_num.specs.Intervals.{interval, no_numbers, all_ints, is_empty, includes, hull_of}

-- from the lesser of two numbers to the greater
abbrev pub hull_of_two : ℤ → ℤ → Interval
hull_of_two p q = interval (int_min p q) (int_max p q)

-- no number of the interval is negative, if it has any
abbrev pub is_natural : Interval → Bool
is_natural x = int_le (pos 0) x.lo

-- both ends are one number
abbrev pub is_single : Interval → Bool
is_single x = int_eq x.lo x.hi

abbrev pub add_range : Interval → Interval → Interval
add_range x y = interval (x.lo +ℤ y.lo) (x.hi +ℤ y.hi)

abbrev pub sub_range : Interval → Interval → Interval
sub_range x y = interval (x.lo -ℤ y.hi) (x.hi -ℤ y.lo)

-- the hull of the four products of ends
abbrev pub mul_range : Interval → Interval → Interval
mul_range x y = hull_of (hull_of_two (x.lo *ℤ y.lo) (x.lo *ℤ y.hi)) (hull_of_two (x.hi *ℤ y.lo) (x.hi *ℤ y.hi))

-- d is in y and is not 0
abbrev pub has_divisor : Interval → ℤ → Bool
has_divisor y d = includes y d && not (int_eq d (pos 0))

-- the hull of the quotients of the ends of x by d, where d is a divisor in y
abbrev pub quotients_by : Interval → Interval → ℤ → Interval
quotients_by x y d = if has_divisor y d then hull_of_two (int_div x.lo d) (int_div x.hi d) else no_numbers

-- the hull of the quotients by the ends of y, by -1 and by 1: with one sign of the divisor a quotient is greatest and least there
abbrev pub div_range : Interval → Interval → Interval
div_range x y = hull_of (hull_of (quotients_by x y y.lo) (quotients_by x y y.hi)) (hull_of (quotients_by x y (negsuc 0)) (quotients_by x y (pos 1)))

-- the greatest size of a remainder, one less than that of a divisor; below 0 where 0 is the only divisor
abbrev pub remainder_limit : Interval → ℤ
remainder_limit y = int_max (pos (unsigned_abs y.lo)) (pos (unsigned_abs y.hi)) -ℤ pos 1

-- a remainder is on the dividend's side of 0, no further from it than the dividend, and its size is at most m
abbrev pub remainders_within : Interval → ℤ → Interval
remainders_within x m = if int_lt m (pos 0) then no_numbers else interval (int_max (int_min x.lo (pos 0)) (neg_ℤ m)) (int_min (int_max x.hi (pos 0)) m)

abbrev pub rem_range : Interval → Interval → Interval
rem_range x y = remainders_within x (remainder_limit y)

-- `&` with a number that is not negative is from 0 to that number
abbrev pub and_range : Interval → Interval → Interval
and_range x y =
    if is_natural x && is_natural y then interval (pos 0) (int_min x.hi y.hi)
    else if is_natural x then interval (pos 0) x.hi
    else if is_natural y then interval (pos 0) y.hi
    else all_ints

-- `|` of numbers that are not negative is at least each of them
abbrev pub or_range : Interval → Interval → Interval
or_range x y = if is_natural x && is_natural y then interval (int_max x.lo y.lo) greatest_int else all_ints

abbrev pub xor_range : Interval → Interval → Interval
xor_range x y = if is_natural x && is_natural y then interval (pos 0) greatest_int else all_ints

-- both ends shifted to the right
abbrev pub shifted_by : Interval → ℕ → Interval
shifted_by x distance = interval (int_shr x.lo distance) (int_shr x.hi distance)

-- by a known distance both ends are shifted; by any distance a number goes towards 0 or -1
abbrev pub shr_range : Interval → Interval → Interval
shr_range x y =
    if is_single y then shifted_by x (shift_distance y.lo)
    else interval (int_min x.lo (pos 0)) (int_max x.hi (negsuc 0))

-- the greatest number of 32 - s bits
abbrev pub greatest_after : ℕ → ℤ
greatest_after s = pos (2 ^ (32 - s)) -ℤ pos 1

-- on numbers that are not negative as `>>`; by a known distance of 1 or more a number of 32 - distance bits is left
abbrev pub ushr_range : Interval → Interval → Interval
ushr_range x y =
    if is_natural x then shr_range x y
    else if is_single y && nat_lt 0 (shift_distance y.lo) then interval (pos 0) (greatest_after (shift_distance y.lo))
    else all_ints

-- the row of an operator, at operands that are not empty
abbrev pub row_of : Arith → Interval → Interval → Interval
row_of Add x y = add_range x y
row_of Sub x y = sub_range x y
row_of Mul x y = mul_range x y
row_of Div x y = div_range x y
row_of Rem x y = rem_range x y
row_of And x y = and_range x y
row_of Or x y = or_range x y
row_of Xor x y = xor_range x y
row_of Shl x y = all_ints
row_of Shr x y = shr_range x y
row_of Ushr x y = ushr_range x y

-- the interval of what the operator gives: empty where an operand is
abbrev pub op_range : Arith → Interval → Interval → Interval
op_range op x y = if is_empty x || is_empty y then no_numbers else row_of op x y
