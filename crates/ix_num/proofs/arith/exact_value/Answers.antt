use Rattle.std.proofs.Common.{ap, Some}
use Rattle.ix_num.proofs.WideResults.{sum_is, difference_is, wide_product_fits, wide_product_is, wide_quotient_is, wide_remainder_is, wide_shift_left_is, shift_right_is, shift_unsigned_is}
use Rattle.ix_num.proofs.arith.exact_value.Goals as goal

pub returns-in-Add : goal.returns-in-Add
returns-in-Add c = rw (c.in-Add.is) (ap Some (sum_is c.args.x c.args.y c.ranges.x c.ranges.y))

pub returns-in-Sub : goal.returns-in-Sub
returns-in-Sub c = rw (c.in-Sub.is) (ap Some (difference_is c.args.x c.args.y c.ranges.x c.ranges.y))

pub overflow_mul-result : goal.overflow_mul-result
overflow_mul-result c = wide_product_fits c.args.x c.args.y c.ranges.x c.ranges.y

pub returns-in-Mul : goal.returns-in-Mul
returns-in-Mul c = rw (c.in-Mul.is) (ap Some (wide_product_is c.args.x c.args.y c.ranges.x c.ranges.y))

pub returns-in-Div-2 : goal.returns-in-Div-2
returns-in-Div-2 c = rw (c.in-Div-2.is) (wide_quotient_is c.args.x c.args.y c.ranges.x c.ranges.y c.if-y-eq0.false)

pub returns-in-Rem-2 : goal.returns-in-Rem-2
returns-in-Rem-2 c = rw (c.in-Rem-2.is) (wide_remainder_is c.args.x c.args.y c.ranges.x c.ranges.y c.if-y-eq0-2.false)

pub returns-in-Shl : goal.returns-in-Shl
returns-in-Shl c = rw (c.in-Shl.is) (ap Some (wide_shift_left_is c.args.x c.args.y c.ranges.x))

pub returns-in-Shr : goal.returns-in-Shr
returns-in-Shr c = rw (c.in-Shr.is) (ap Some (shift_right_is c.args.x c.args.y c.ranges.x))

pub returns-in-Ushr : goal.returns-in-Ushr
returns-in-Ushr c = rw (c.in-Ushr.is) (ap Some (shift_unsigned_is c.args.x c.args.y _ _ c.ranges.x c.cast_unsigned.ensures c.cast_signed.ensures))
