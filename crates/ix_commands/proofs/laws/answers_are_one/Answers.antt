use Rattle.ix_commands.proofs.Answered.{one_answer}
use Rattle.ix_commands.proofs.laws.answers_are_one.Goals as goal

-- src/laws.rt
pub returns : goal.returns
returns c = record { one = λ command bytes cert first second a b. one_answer command bytes cert first second a b }
