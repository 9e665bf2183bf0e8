use Rattle.ix_soundness.proofs.laws.soundness.Goals as goal
use Rattle.ix_soundness.proofs.NoErrorsAreSafe.{safe_where_apart}

pub returns : goal.returns
returns c = record { sound = λ program locals profile formed apart none. safe_where_apart program locals formed apart profile none }
