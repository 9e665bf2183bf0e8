-- How errors stand that are told in the order of their starts.
use Rattle.std.specs.Prelude.{ℕ, ◌<◌, ◌≤◌, List, length, take}
use Rattle.std.specs.List.{All}

-- The first so many of what was told start before `last`, and none behind it.
pub record Earlier {A : Type 0} (start : A → ℕ) (told : List A) (earlier last : ℕ) : Type 0 where
  pub within : earlier ≤ length told
  pub before : All (λ (error : A). start error < last) (take earlier told)
  pub all : All (λ (error : A). start error ≤ last) told
