-- The values of options: numbers, the limits of a run, and how sums count. A number is decimal digits without a sign, and without a leading zero other than
-- `0` itself.
use Rattle.std.specs.Prelude.{ℕ, ◌<◌, ◌≤◌, ◌+◌, ◌-◌, ◌*◌, ◌==◌, ◌&&◌, nat_le, Bool, List, [], ◌∷◌, Option, Some, None, if◌then◌else◌, option_and_then, option_map, codes}
use Rattle.std.specs.Str.{bytes_eq}
use Rattle.ix_words.specs.declared.values.Limits.{Limits}
use Rattle.ix_words.specs.declared.values.Sums.{Sums}
use Rattle.ix_words.specs.declared.values.Sums.TheVariants.{Ideal, Int32}

abbrev pub is_digit : ℕ → Bool
is_digit byte = nat_le 48 byte && nat_le byte 57

-- the number of the digits after those that make n, where it is at most `most`
abbrev pub digits_from : ℕ → ℕ → List ℕ → Option ℕ
digits_from most n [] = Some n
digits_from most n (byte ∷ bytes) = if is_digit byte && nat_le (n * 10 + (byte - 48)) most then digits_from most (n * 10 + (byte - 48)) bytes else None

abbrev pub at_least : ℕ → ℕ → Option ℕ
at_least least n = if nat_le least n then Some n else None

-- the number that the word is, where it lies in the range
abbrev pub number_in : ℕ → ℕ → List ℕ → Option ℕ
number_in least most [] = None
number_in least most (byte ∷ []) = option_and_then (at_least least) (digits_from most 0 (byte ∷ []))
number_in least most (byte ∷ next ∷ bytes) = if byte == 48 then None else option_and_then (at_least least) (digits_from most 0 (byte ∷ next ∷ bytes))

-- the number of an option that may be left out
abbrev pub number_or : ℕ → ℕ → ℕ → Option (List ℕ) → Option ℕ
number_or least most default None = Some default
number_or least most default (Some word) = number_in least most word

-- the limits of a run: steps, cells, frames, each with its range and what is meant where nothing is said
abbrev pub limits_of : Option (List ℕ) → Option (List ℕ) → Option (List ℕ) → Option Limits
limits_of steps cells frames = option_and_then
    (λ s. option_and_then (λ c. option_map (λ f. let limits : Limits = record { steps = s; cells = c; frames = f } in limits) (number_or 1 10000 1000 frames)) (number_or 1 16777216 1000000 cells))
    (number_or 1 1000000000 1000000 steps)

-- The limits lie in their ranges.
abbrev pub AreInRange : Limits → Type 0
AreInRange limits = (0 < limits.steps) × (limits.steps ≤ 1000000000) × (0 < limits.cells) × (limits.cells ≤ 16777216) × (0 < limits.frames) × (limits.frames ≤ 10000)

-- how sums count; `int32` is meant where nothing is said
abbrev pub sums_of : Option (List ℕ) → Option Sums
sums_of None = Some Int32
sums_of (Some word) = if bytes_eq word (codes "ideal") then Some Ideal else if bytes_eq word (codes "int32") then Some Int32 else None
