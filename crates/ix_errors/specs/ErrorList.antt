-- The list of errors: all that are derived, nothing else, in their order, each once.
use Rattle.std.specs.Prelude.{◌≡◌, ℕ, suc, ◌≤◌, true, List, slice_get, Some}
use Rattle.ix_core.specs.declared.error.Error.{Error}
use Rattle.ix_errors.specs.declared.ranked.Ranked.{Ranked}
use Rattle.ix_errors.specs.Exactly.{IsListed}
use Rattle.ix_errors.specs.Order.{error_key, is_before}

-- `Derived` says which errors are derived, each with the place of its claim in its declaration, its rank. One error may be derived with several ranks, of which the
-- least decides where it is listed.
pub record HasRank (Derived : Error → ℕ → Type 0) (error : Error) (rank : ℕ) : Type 0 where
  pub is : Derived error rank
  pub least : (other : ℕ) → Derived error other → rank ≤ other

pub record IsErrorList (Derived : Error → ℕ → Type 0) (errors : List Error) : Type 0 where
  pub all : (error : Error) (rank : ℕ) → Derived error rank → (at : ℕ) × (slice_get errors at ≡ Some error)
  pub only : (at : ℕ) (error : Error) → slice_get errors at ≡ Some error → (rank : ℕ) × HasRank Derived error rank
  pub ordered : (at : ℕ) (error next : Error) (rank after : ℕ) → slice_get errors at ≡ Some error → slice_get errors (suc at) ≡ Some next
      → HasRank Derived error rank → HasRank Derived next after → is_before (error_key error rank) (error_key next after) ≡ true

-- the errors of a list, with their ranks
abbrev pub In : List Ranked → Error → ℕ → Type 0
In found error rank = IsListed (record { error = error; rank = rank }) found
