-- The exact interval of an operation, and where its bounds may be used although a result may wrap.
use Rattle.std.specs.Prelude.{Bool, true, false, ◌&&◌, ℤ, pos, negsuc, ◌-ℤ◌, int_le, List, [], ◌∷◌, ◌++◌, Option, Some, None}
use Rattle.std.specs.Option.{option_map}
use Rattle.std.specs.Int.{int_min}
use Rattle.ix_num.specs.declared.arith.Arith.{Arith}
use Rattle.ix_num.specs.declared.arith.Arith.TheVariants.{Add, Sub}
use Rattle.ix_num.specs.declared.interval.Interval.{Interval}
use Rattle.ix_num.specs.Ints.{least_int, greatest_int}
use Rattle.ix_num.specs.Intervals.{interval, normal, neg_of, not_of}
use Rattle.ix_num.specs.OpRanges.{op_range}
use Rattle.ix_tables.specs.declared.low.Low.{Low as Class}
use Rattle.ix_tables.specs.declared.low.Low.TheVariants as class
use Rattle.ix_tables.specs.LowClasses.{class_of}
use Rattle.ix_tables.specs.LowTable.{low_of}
use Rattle.ix_core.specs.declared.fact.Path.{Path}
use Rattle.ix_core.specs.declared.fact.PathOff.{PathOff}
use Rattle.ix_core.specs.declared.fact.PathOff.TheVariants.{Nothing, Plus, Minus}
use Rattle.ix_core.specs.declared.fact.Fact.{Fact}
use Rattle.ix_core.specs.declared.fact.Fact.TheVariants.{Rng, LenRng, Low, Same, IsLen, Less, Sum, Search, Neg, Upper}
use Rattle.ix_core.specs.declared.fact.Profile.{Profile}
use Rattle.ix_core.specs.declared.fact.Profile.TheVariants.{Ideal, Int32}
use Rattle.ix_core.specs.declared.op.UnaryNum.{UnaryNum}
use Rattle.ix_core.specs.declared.op.UnaryNum.TheVariants.{Neg as Negated, Flip}
use Rattle.ix_facts.specs.Bounds
use Rattle.ix_facts.specs.Bounds.{is_path, when, best, least, at_least, at_most}

-- ---- forms of rules

-- the facts, where the test is true
abbrev pub if_so : Bool → List Fact → List Fact
if_so true facts = facts
if_so false facts = []

-- the facts that a rule gives for each fact of a list
abbrev pub each : (Fact → List Fact) → List Fact → List Fact
each rule [] = []
each rule (fact ∷ facts) = rule fact ++ each rule facts

-- and for each path of a list
abbrev pub each_path : (Path → List Fact) → List Path → List Fact
each_path rule [] = []
each_path rule (p ∷ paths) = rule p ++ each_path rule paths

-- the fact with a bound as its constant, where there is one
abbrev pub if_some : (ℤ → Fact) → Option ℤ → List Fact
if_some make None = []
if_some make (Some c) = make c ∷ []

-- the least of what the paths of a list give
abbrev pub least_at : (Path → Option ℤ) → List Path → Option ℤ
least_at by [] = None
least_at by (p ∷ paths) = best int_min (by p) (least_at by paths)

-- ---- the paths that facts name

abbrev pub offset_paths : PathOff → List Path
offset_paths Nothing = []
offset_paths (Plus q) = q ∷ []
offset_paths (Minus q) = q ∷ []

abbrev pub ints_of : Fact → List Path
ints_of (Rng p l h) = p ∷ []
ints_of (LenRng a l h) = []
ints_of (Low p c) = p ∷ []
ints_of (Same a b) = []
ints_of (IsLen p a) = p ∷ []
ints_of (Less p q c) = p ∷ q ∷ []
ints_of (Sum t y z) = t ∷ y ∷ z ∷ []
ints_of (Search p a) = p ∷ []
ints_of (Neg p a) = p ∷ []
ints_of (Upper p a o c) = p ∷ offset_paths o

abbrev pub arrays_of : Fact → List Path
arrays_of (LenRng a l h) = a ∷ []
arrays_of (Same a b) = a ∷ b ∷ []
arrays_of (IsLen p a) = a ∷ []
arrays_of (Search p a) = a ∷ []
arrays_of (Neg p a) = a ∷ []
arrays_of (Upper p a o c) = a ∷ []
arrays_of _ = []

abbrev pub paths_of : (Fact → List Path) → List Fact → List Path
paths_of of [] = []
paths_of of (fact ∷ facts) = of fact ++ paths_of of facts

abbrev pub named_ints : List Fact → List Path
named_ints facts = paths_of ints_of facts

abbrev pub named_arrays : List Fact → List Path
named_arrays facts = paths_of arrays_of facts

-- ---- the exact interval

-- the interval, met with what is at least the one number and at most the other
abbrev pub met_with : Interval → Option ℤ → Option ℤ → Interval
met_with i low high = interval (at_least i.lo low) (at_most i.hi high)

module _ (facts : List Fact) where
  -- from an int's lower bound to its upper limit
  abbrev pub operand : Path → Interval
  operand p = interval (Bounds.lower_bound facts p) (Bounds.upper_limit facts p)

  -- A sum `y + z` that is below an array's length by a bound of y at the offset z is at most the length's high end less 1 and that bound.
  abbrev pub sum_limit_at : Path → Path → Path → Option ℤ
  sum_limit_at y z a = option_map (λ c. Bounds.length_high facts a -ℤ pos 1 -ℤ c) (Bounds.upper_bound facts y a (Plus z))

  abbrev pub sum_limit : Path → Path → Option ℤ
  sum_limit y z = least_at (sum_limit_at y z) (named_arrays facts)

  -- `z < y + c` makes `y - z` at least 1 - c.
  abbrev pub difference_low : Path → Path → Option ℤ
  difference_low y z = option_map (λ c. pos 1 -ℤ c) (Bounds.fact_less facts z y)

  -- `y < z + c` makes `y - z` at most c - 1, and `y - z + c < a.length` makes it at most the length's high end less 1 and c.
  abbrev pub difference_limit_by : Path → Path → Fact → Option ℤ
  difference_limit_by y z (Upper p a (Minus q) c) = when (is_path p y && is_path q z) (Some (Bounds.length_high facts a -ℤ pos 1 -ℤ c))
  difference_limit_by y z _ = None

  abbrev pub difference_limit : Path → Path → Option ℤ
  difference_limit y z = best int_min (option_map (λ c. c -ℤ pos 1) (Bounds.fact_less facts y z)) (least (difference_limit_by y z) facts)

  -- Of `y op z` by the intervals of the operands; of a sum and a difference met with what is known of it besides. The one empty interval is
  -- 1 to 0. Constant Value Checker, "Value range"; Index Checker, "Upper bounds"; the meets are this project's own.
  abbrev pub exact_ends : Arith → Path → Path → Interval
  exact_ends Add y z = met_with (op_range Add (operand y) (operand z)) None (sum_limit y z)
  exact_ends Sub y z = met_with (op_range Sub (operand y) (operand z)) (difference_low y z) (difference_limit y z)
  exact_ends arith y z = op_range arith (operand y) (operand z)

  abbrev pub exact_range : Arith → Path → Path → Interval
  exact_range arith y z = normal (exact_ends arith y z)

  abbrev pub exact_unary : UnaryNum → Path → Interval
  exact_unary Negated y = neg_of (operand y)
  exact_unary Flip y = not_of (operand y)

-- both ends are ints
abbrev pub lies_in_int : Interval → Bool
lies_in_int i = int_le least_int i.lo && int_le i.hi greatest_int

-- Whether bounds may count the exact result as the result. In the profile `ideal` always, as in the Checker Framework, whose bounds take no
-- account of sums that wrap; in `int32` where the exact interval lies within the ints. This is the project's own.
abbrev pub fits : Profile → Interval → Bool
fits Ideal exact = true
fits Int32 exact = lies_in_int exact

-- ---- what is known of every result

-- the least number of a class
abbrev pub class_number : Class → Option ℤ
class_number class.Unknown = None
class_number class.MinusOne = Some (negsuc 0)
class_number class.Zero = Some (pos 0)
class_number class.One = Some (pos 1)

-- A result is in its exact interval, where that lies within the ints.
abbrev pub range_facts : Path → Interval → List Fact
range_facts t exact = if_so (lies_in_int exact) (Rng t exact.lo exact.hi ∷ [])

abbrev pub class_facts : Path → Class → List Fact
class_facts t known = if_some (Low t) (class_number known)

-- Where the exact result counts, it is in the class of its interval's low end and in the class that the low table gives for the classes of the
-- operands. Index Checker, "Lower bounds".
abbrev pub low_facts : Profile → Path → Interval → Class → List Fact
low_facts profile t exact table = if_so (fits profile exact) (class_facts t (class_of exact.lo) ++ class_facts t table)

-- the low table's answer for two operands
abbrev pub table_class : List Fact → Arith → Path → Path → Class
table_class facts arith y z = low_of arith (class_of (Bounds.lower_bound facts y)) (class_of (Bounds.lower_bound facts z))
