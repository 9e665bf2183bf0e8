use Rattle.ix_soundness.proofs.Ready.{upper_in_range}
use Rattle.ix_soundness.proofs.judged.overridden_is_there.Goals as goal

-- src/laws.rt
pub returns : goal.returns
returns c = record { there = λ program formed number within. upper_in_range program formed number within }
