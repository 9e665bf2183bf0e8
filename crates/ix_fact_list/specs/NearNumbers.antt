-- Numbers of near paths, each at the path's place; where no number stands there, it is a default.
use Rattle.std.specs.Prelude.{◌≡◌, ℕ, ℤ, true, pos, Option, Some, None, List, get_or}
use Rattle.ix_num.specs.Ints.{least_int, greatest_int}
use Rattle.ix_core.specs.declared.fact.Path.{Path}
use Rattle.ix_core.specs.declared.fact.Fact.{Fact}
use Rattle.ix_facts.specs.Bounds.{is_path, when, at_least, at_most, range_low, range_high, length_low, length_high, lower_bound, upper_limit}
use Rattle.ix_facts.specs.Small.{IsLimit}
use Rattle.ix_fact_paths.specs.ByPath.{is_near, near_place}
use Rattle.ix_fact_list.specs.declared.limits.NearEnds.{NearEnds}
use Rattle.ix_fact_list.specs.declared.limits.Limits.{Limits}

abbrev pub number_at : List ℤ → ℤ → Path → ℤ
number_at numbers default p = get_or numbers (near_place p) default

-- a path with a number: what is told of each path
abbrev pub told : Option (Path × ℤ) → Path → Option ℤ
told None p = None
told (Some number) p = when (is_path number.0 p) (Some number.1)

-- Of each near path the new number is the old one, raised to what is given of the path.
abbrev pub Raises : List ℤ → List ℤ → ℤ → (Path → Option ℤ) → Type 0
Raises old new default by = (p : Path) → is_near p ≡ true → number_at new default p ≡ at_least (number_at old default p) (by p)

abbrev pub Lowers : List ℤ → List ℤ → ℤ → (Path → Option ℤ) → Type 0
Lowers old new default by = (p : Path) → is_near p ≡ true → number_at new default p ≡ at_most (number_at old default p) (by p)

abbrev pub AreLimits : List ℤ → ℤ → Type 0
AreLimits numbers default = (at : ℕ) → IsLimit (get_or numbers at default)

-- Of each near path the number is the one that is told.
abbrev pub AreNumbers : List ℤ → ℤ → (Path → ℤ) → Type 0
AreNumbers numbers default of = (p : Path) → is_near p ≡ true → number_at numbers default p ≡ of p

-- the ends of the ranges of near paths
pub record HasEnds (facts : List Fact) (ends : NearEnds) : Type 0 where
  pub lows : AreNumbers ends.lows.items least_int (range_low facts)
  pub highs : AreNumbers ends.highs.items greatest_int (range_high facts)
  pub length_lows : AreNumbers ends.length_lows.items (pos 0) (length_low facts)
  pub length_highs : AreNumbers ends.length_highs.items greatest_int (length_high facts)

-- what near ints are at least and at most
pub record HasLimits (facts : List Fact) (limits : Limits) : Type 0 where
  pub lows : AreNumbers limits.lows.items least_int (lower_bound facts)
  pub highs : AreNumbers limits.highs.items greatest_int (upper_limit facts)
  pub small_lows : AreLimits limits.lows.items least_int
  pub small_highs : AreLimits limits.highs.items greatest_int
