use Rattle.ix_formed.proofs.LoweredPrograms.{lowered_apart}
use Rattle.ix_formed.proofs.laws.lowered_locals_are_apart.Goals as goal

-- src/laws.rt
pub returns : goal.returns
returns c = record { apart = λ source made accepts parsed is. lowered_apart source made accepts parsed is }
