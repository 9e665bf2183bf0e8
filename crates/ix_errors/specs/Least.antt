-- What the sorts leave of errors with their ranks.
use Rattle.std.specs.Prelude.{◌≡◌, ◌≢◌, ℕ, suc, true, List, slice_get, Some}
use Rattle.std.specs.List.{AllPairs}
use Rattle.ix_core.specs.declared.error.Error.{Error}
use Rattle.ix_errors.specs.declared.ranked.Ranked.{Ranked}
use Rattle.ix_errors.specs.Exactly.{IsListed}
use Rattle.ix_errors.specs.ErrorList.{In, HasRank}
use Rattle.ix_errors.specs.Order.{error_key, is_before}

-- the errors that are found, each at its least rank
pub record AreLeast (found kept : List Ranked) : Type 0 where
  pub all : (error : Error) (rank : ℕ) → In found error rank → (least : ℕ) × In kept error least
  pub only : (one : Ranked) → IsListed one kept → HasRank (In found) one.error one.rank

-- no error stands twice
abbrev pub AreOnce : List Ranked → Type 0
AreOnce = AllPairs (λ one later. one.error ≢ later.error)

-- each comes before the next
abbrev pub AreOrdered : List Ranked → Type 0
AreOrdered kept = (at : ℕ) (one next : Ranked) → slice_get kept at ≡ Some one → slice_get kept (suc at) ≡ Some next
    → is_before (error_key one.error one.rank) (error_key next.error next.rank) ≡ true
