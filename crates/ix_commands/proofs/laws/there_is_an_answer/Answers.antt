use Rattle.ix_front.proofs.SomeFinding.{some_finding}
use Rattle.ix_commands.proofs.SomeAnswer.{some_answer}
use Rattle.ix_commands.proofs.laws.there_is_an_answer.Goals as goal

-- src/laws.rt
pub returns : goal.returns
returns c = record { found = λ bytes. some_finding bytes; answered = λ command bytes cert listed unanswered. some_answer command bytes cert listed unanswered }
