use Rattle.ix_formed.proofs.LoweredPrograms.{lowered_methods_few, lowered_few}
use Rattle.ix_formed.proofs.laws.lowered_is_few.Goals as goal

-- src/laws.rt
pub returns : goal.returns
returns c = record { methods = λ source made accepts parsed is. lowered_methods_few source made accepts parsed is; few = λ source made accepts parsed is. lowered_few source made accepts parsed is }
