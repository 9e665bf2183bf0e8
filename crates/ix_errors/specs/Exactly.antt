-- A list of errors that has exactly those that are derived.
use Rattle.std.specs.Prelude.{◌≡◌, ◌⊎◌, ℕ, List, [], ◌∷◌, ◌++◌}
use Rattle.ix_core.specs.declared.error.Error.{Error}
use Rattle.ix_errors.specs.declared.ranked.Ranked.{Ranked}

abbrev pub IsListed : Ranked → List Ranked → Type 0
IsListed found [] = ⊥
IsListed found (first ∷ rest) = (found ≡ first) ⊎ IsListed found rest

-- Each error that is derived stands in the list with its rank, and no other does.
pub record AreExactly (Derived : Error → ℕ → Type 0) (errors : List Ranked) : Type 0 where
  pub all : (error : Error) (rank : ℕ) → Derived error rank → IsListed (record { error = error; rank = rank }) errors
  pub only : (found : Ranked) → IsListed found errors → Derived found.error found.rank

-- Behind those that were there the list has exactly those that are derived.
abbrev pub AddsExactly : (Error → ℕ → Type 0) → List Ranked → List Ranked → Type 0
AddsExactly Derived old new = (more : List Ranked) × (new ≡ old ++ more) × AreExactly Derived more
