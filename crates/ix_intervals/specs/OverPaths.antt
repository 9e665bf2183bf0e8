-- The exact interval of an operation, with the facts and the arrays that its rules go over as lists of their own: the facts on the left operand
-- and each named array once give the same interval as all facts and all arrays.
use Rattle.std.specs.Prelude.{ℤ, pos, ◌-ℤ◌, List, Option, None}
use Rattle.std.specs.Option.{option_map}
use Rattle.std.specs.Int.{int_min}
use Rattle.ix_num.specs.declared.arith.Arith.{Arith}
use Rattle.ix_num.specs.declared.arith.Arith.TheVariants.{Add, Sub}
use Rattle.ix_num.specs.declared.interval.Interval.{Interval}
use Rattle.ix_num.specs.Intervals.{normal}
use Rattle.ix_num.specs.OpRanges.{op_range}
use Rattle.ix_facts.specs.Path.{Path}
use Rattle.ix_facts.specs.Fact.{Fact}
use Rattle.ix_facts.specs.Bounds
use Rattle.ix_facts.specs.Bounds.{best, least}
use Rattle.ix_facts.specs.Exact as exact
use Rattle.ix_facts.specs.Exact.{least_at, met_with}

module _ (facts on_left : List Fact) (arrays : List Path) where
  abbrev pub sum_limit : Path → Path → Option ℤ
  sum_limit y z = least_at (exact.sum_limit_at facts y z) arrays

  abbrev pub difference_limit : Path → Path → Option ℤ
  difference_limit y z = best int_min (option_map (λ c. c -ℤ pos 1) (Bounds.fact_less facts y z)) (least (exact.difference_limit_by facts y z) on_left)

  abbrev pub exact_ends : Arith → Path → Path → Interval
  exact_ends Add y z = met_with (op_range Add (exact.operand facts y) (exact.operand facts z)) None (sum_limit y z)
  exact_ends Sub y z = met_with (op_range Sub (exact.operand facts y) (exact.operand facts z)) (exact.difference_low facts y z) (difference_limit y z)
  exact_ends arith y z = op_range arith (exact.operand facts y) (exact.operand facts z)

  abbrev pub exact_range : Arith → Path → Path → Interval
  exact_range arith y z = normal (exact_ends arith y z)
