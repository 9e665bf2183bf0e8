use Rattle.std.proofs.Common.{Bool, List, ℕ, Option, sym, subst}
use Rattle.std.specs.Prelude.{IfOk}
use Rattle.ix_words.specs.Commands.{Check}
use Rattle.ix_replies.specs.Replies.{shown}
use Rattle.ix_commands.specs.Answers.{AnswersWhole}
use Rattle.ix_commands.proofs.answering.asked_reply.Goals as goal

pub returns-then-certificate-clause-answers : goal.returns-then-certificate-clause-answers
returns-then-certificate-clause-answers c =
    subst (λ (b : Bool). IfOk c.certificate_reply.result
    (λ reply. (library : Bool) (cert : Option (List ℕ)) → AnswersWhole (Check c.args.sums b library c.args.name.now) c.args.bytes.now cert c.args.program.now (shown reply)))
    (sym c.if-certificate.true) c.certificate_reply.ensures.answers

pub returns-else-certificate-clause-answers : goal.returns-else-certificate-clause-answers
returns-else-certificate-clause-answers c =
    subst (λ (b : Bool). IfOk c.check_reply.result
    (λ reply. (library : Bool) (cert : Option (List ℕ)) → AnswersWhole (Check c.args.sums b library c.args.name.now) c.args.bytes.now cert c.args.program.now (shown reply)))
    (sym c.if-certificate.false) c.check_reply.ensures.answers
