-- The classes of lower bounds: what is known of an int from below.
-- Checker Framework manual, Index Checker, "Lower bounds": @Positive, @NonNegative, @GTENegativeOne and @LowerBoundUnknown.
use Rattle.std.specs.Prelude.{ℤ, pos, negsuc, ◌≤ℤ◌, int_le, if◌then◌else◌, ⊤, Option, Some, None}
use Rattle.ix_tables.specs.declared.low.Low.{Low}
use Rattle.ix_tables.specs.declared.low.Low.TheVariants.{Unknown, MinusOne, Zero, One}

-- the number is at least -1, 0 or 1; of `Unknown` every number is
abbrev pub AtLeast : Low → ℤ → Type 0
AtLeast Unknown n = ⊤
AtLeast MinusOne n = negsuc 0 ≤ℤ n
AtLeast Zero n = pos 0 ≤ℤ n
AtLeast One n = pos 1 ≤ℤ n

-- the order: a class is below another where each number of the first is of the second
abbrev pub LowBelow : Low → Low → Type 0
LowBelow x y = (n : ℤ) → AtLeast x n → AtLeast y n

-- the strongest class that the number is of
abbrev pub class_of : ℤ → Low
class_of n = if int_le (pos 1) n then One else if int_le (pos 0) n then Zero else if int_le (negsuc 0) n then MinusOne else Unknown

-- the next stronger class: none above `One`
abbrev pub next_stronger : Low → Option Low
next_stronger Unknown = Some MinusOne
next_stronger MinusOne = Some Zero
next_stronger Zero = Some One
next_stronger One = None
