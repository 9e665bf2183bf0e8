use Rattle.std.proofs.Common.{ap, refl, subst, List, ℕ, Option, option_map}
use Rattle.ix_replies.specs.Answer.{Answer}
use Rattle.ix_replies.specs.Replies.{Says}
use Rattle.ix_replies.proofs.Deliveries.{delivers_weaker}
use Rattle.ix_words.specs.Shown.{shown as command_of}
use Rattle.ix_front.specs.Found.{Finding, TooLong, Broken, Past, Misnamed, Whole}
use Rattle.ix_front.specs.Findings.{seen}
use Rattle.ix_commands.specs.Answers.{AnswersFound, AnswersOn, AnswersWhole}
use Rattle.ix_commands.specs.Promises.{PromisesOn, PromisesWhole}
use Rattle.ix_commands.proofs.Answered.{said_right, found_given}
use Rattle.ix_commands.proofs.answering.answer_found.Goals as goal

pub returns-in-TooLong : goal.returns-in-TooLong
returns-in-TooLong g c =
    let command = command_of c.args.command.now in
    let bytes = c.args.inputs.now.bytes.items in
    let cert : Option (List ℕ) = option_map (λ text. text.items) c.args.inputs.now.cert in
    let finding = seen c.args.inputs.now.finding in
    let made : Finding = TooLong in
    delivers_weaker (Says c.too_long_reply.result) (λ a. AnswersOn command bytes cert finding a × PromisesOn command cert finding a) _ _ _
    (λ (a : Answer) says.
    found_given command c.args.name.now bytes bytes cert finding made a (ap seen c.in-TooLong.is) c.requires.name refl
    (said_right (λ b. AnswersFound c.args.name.now bytes (AnswersWhole command bytes cert) made b) c.too_long_reply.result a c.too_long_reply.ensures says) tt)
    c.say.ensures

pub returns-in-Broken : goal.returns-in-Broken
returns-in-Broken g c =
    let command = command_of c.args.command.now in
    let bytes = c.args.inputs.now.bytes.items in
    let cert : Option (List ℕ) = option_map (λ text. text.items) c.args.inputs.now.cert in
    let finding = seen c.args.inputs.now.finding in
    let made : Finding = Broken c.in-Broken.at c.in-Broken.key.now in
    delivers_weaker (Says c.broken_reply.result) (λ a. AnswersOn command bytes cert finding a × PromisesOn command cert finding a) _ _ _
    (λ (a : Answer) says.
    found_given command c.args.name.now c.as_slice-bytes.result.now bytes cert finding made a (ap seen c.in-Broken.is) c.requires.name c.as_slice-bytes.ensures.value
    (said_right (λ b. AnswersFound c.args.name.now c.as_slice-bytes.result.now (AnswersWhole command bytes cert) made b) c.broken_reply.result a c.broken_reply.ensures says) tt)
    c.say-in-Broken.ensures

pub returns-in-Past : goal.returns-in-Past
returns-in-Past g c =
    let command = command_of c.args.command.now in
    let bytes = c.args.inputs.now.bytes.items in
    let cert : Option (List ℕ) = option_map (λ text. text.items) c.args.inputs.now.cert in
    let finding = seen c.args.inputs.now.finding in
    let made : Finding = Past c.in-Past.at c.in-Past.limit.now in
    delivers_weaker (Says c.past_reply.result) (λ a. AnswersOn command bytes cert finding a × PromisesOn command cert finding a) _ _ _
    (λ (a : Answer) says.
    found_given command c.args.name.now c.as_slice-bytes.result.now bytes cert finding made a (ap seen c.in-Past.is) c.requires.name c.as_slice-bytes.ensures.value
    (said_right (λ b. AnswersFound c.args.name.now c.as_slice-bytes.result.now (AnswersWhole command bytes cert) made b) c.past_reply.result a c.past_reply.ensures says) tt)
    c.say-in-Past.ensures

pub returns-in-Whole : goal.returns-in-Whole
returns-in-Whole g c =
    let command = command_of c.args.command.now in
    let bytes = c.args.inputs.now.bytes.items in
    let cert : Option (List ℕ) = option_map (λ text. text.items) c.args.inputs.now.cert in
    let program = c.in-Whole.program in
    delivers_weaker (λ a. AnswersWhole command c.as_slice-bytes.result.now cert program a × PromisesWhole command cert program a)
    (λ a. AnswersOn command bytes cert (seen c.args.inputs.now.finding) a × PromisesOn command cert (seen c.args.inputs.now.finding) a) _ _ _
    (λ (a : Answer) right.
    found_given command c.args.name.now bytes bytes cert (seen c.args.inputs.now.finding) (Whole program) a (ap seen c.in-Whole.is) c.requires.name refl
    (subst (λ (s : List ℕ). AnswersWhole command s cert program a) c.as_slice-bytes.ensures.value right.0) right.1)
    c.answer_whole.ensures

pub returns-in-Misnamed : goal.returns-in-Misnamed
returns-in-Misnamed g c =
    let command = command_of c.args.command.now in
    let bytes = c.args.inputs.now.bytes.items in
    let cert : Option (List ℕ) = option_map (λ text. text.items) c.args.inputs.now.cert in
    let finding = seen c.args.inputs.now.finding in
    let made : Finding = Misnamed c.as_slice.result.now in
    delivers_weaker (Says c.misnamed_reply.result) (λ a. AnswersOn command bytes cert finding a × PromisesOn command cert finding a) _ _ _
    (λ (a : Answer) says.
    found_given command c.args.name.now c.as_slice-bytes.result.now bytes cert finding made a (rw c.as_slice.ensures (ap seen c.in-Misnamed.is)) c.requires.name c.as_slice-bytes.ensures.value
    (said_right (λ b. AnswersFound c.args.name.now c.as_slice-bytes.result.now (AnswersWhole command bytes cert) made b) c.misnamed_reply.result a c.misnamed_reply.ensures says) tt)
    c.say-in-Misnamed.ensures
