-- Intervals of whole numbers: the numbers that one includes, and the intervals of all common, all enclosed, all negated and all
-- flipped numbers.
use Rattle.std.specs.Prelude.{Bool, ◌&&◌, if◌then◌else◌, ℤ, pos, neg_ℤ, ◌≤ℤ◌, ◌<ℤ◌, int_lt, int_le}
use Rattle.std.specs.Int.{int_min, int_max}
use Rattle.ix_num.specs.declared.interval.Interval.{Interval}
use Rattle.ix_num.specs.Ints.{least_int, greatest_int}
use Rattle.ix_num.specs.Arithmetic.{flip_of}

-- the number lies between the ends
pub record Includes (i : Interval) (n : ℤ) : Type 0 where
  pub from : i.lo ≤ℤ n
  pub to : n ≤ℤ i.hi

-- each number of the first interval is in the second
pub record IsWithin (i j : Interval) : Type 0 where
  pub each : (n : ℤ) → Includes i n → Includes j n

abbrev pub IsEmpty : Interval → Type 0
IsEmpty i = i.hi <ℤ i.lo

-- not empty, and both ends are ints
pub record IsIntRange (i : Interval) : Type 0 where
  pub some : i.lo ≤ℤ i.hi
  pub from : least_int ≤ℤ i.lo
  pub to : i.hi ≤ℤ greatest_int

abbrev pub interval : ℤ → ℤ → Interval
interval from to = record { lo = from; hi = to }

abbrev pub all_ints : Interval
all_ints = interval least_int greatest_int

-- the one empty interval that operations give
abbrev pub no_numbers : Interval
no_numbers = interval (pos 1) (pos 0)

abbrev pub is_empty : Interval → Bool
is_empty i = int_lt i.hi i.lo

abbrev pub includes : Interval → ℤ → Bool
includes i n = int_le i.lo n && int_le n i.hi

-- the same numbers; where there are none, `no_numbers`
abbrev pub normal : Interval → Interval
normal i = if is_empty i then no_numbers else i

-- all common numbers
abbrev pub meet_of : Interval → Interval → Interval
meet_of i j = normal (interval (int_max i.lo j.lo) (int_min i.hi j.hi))

-- all enclosed numbers: those from the least number of the two to the greatest
abbrev pub hull_of : Interval → Interval → Interval
hull_of i j = if is_empty i then normal j else if is_empty j then i else interval (int_min i.lo j.lo) (int_max i.hi j.hi)

-- all negated numbers
abbrev pub neg_of : Interval → Interval
neg_of i = normal (interval (neg_ℤ i.hi) (neg_ℤ i.lo))

-- all flipped numbers: `~n` of each n
abbrev pub not_of : Interval → Interval
not_of i = normal (interval (flip_of i.hi) (flip_of i.lo))
