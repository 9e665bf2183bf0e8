use Rattle.std.proofs.Common.{option_map}
use Rattle.ix_words.specs.Shown.{shown as command_of}
use Rattle.ix_front.specs.Findings.{seen}
use Rattle.ix_commands.specs.Answers.{AnswersOn, IsVerdict}
use Rattle.ix_commands.specs.Promises.{PromisesOn, Promises}
use Rattle.ix_replies.specs.Delivery.{IsOnly}
use Rattle.ix_replies.proofs.Deliveries.{delivers_weaker}
use Rattle.ix_commands.proofs.Answered.{only_verdict, promised}
use Rattle.ix_commands.proofs.answering.answer.Goals as goal

pub returns-in-Ok : goal.returns-in-Ok
returns-in-Ok g c =
    let command = command_of c.args.command.now in
    let inputs = c.args.inputs.now in
    let bytes = inputs.bytes.items in
    let cert = option_map (λ text. text.items) inputs.cert in
    let finding = seen inputs.finding in
    delivers_weaker (λ a. AnswersOn command bytes cert finding a × PromisesOn command cert finding a) (λ a. IsOnly (IsVerdict command bytes cert) a × Promises command bytes cert a) _ _ _
    (λ a right. (only_verdict command bytes cert finding c.requires.right c.requires.only a right.0, promised command bytes cert finding a c.requires.right right.0 right.1))
    c.answer_found.ensures
