use Rattle.ix_soundness.proofs.Ready.{ready}
use Rattle.ix_soundness.proofs.judged.names_are_small.Goals as goal

-- src/laws.rt
pub returns : goal.returns
returns c = record { small = λ program formed few. ready program formed few }
