-- Many steps that print nothing.
use Rattle.std.specs.Prelude.{◌≡◌, ℕ, []}
use Rattle.ix_core.specs.Machine.{Limits, State, run, printed}
use Rattle.ix_core.specs.Tables.{Tables}

-- So many steps lead from a state to another, and print nothing.
pub record LeadsTo (limits : Limits) (tables : Tables) (steps : ℕ) (from to : State) : Type 0 where
  pub state : run limits tables steps from ≡ to
  pub quiet : printed limits tables steps from ≡ []
