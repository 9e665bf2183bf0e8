use Rattle.std.proofs.Common.{◌≡◌, Bool, ap, sym, subst, option_map, List, ℕ, Option, Some}
use Rattle.ix_replies.specs.Answer.{Answer}
use Rattle.ix_replies.specs.Replies.{Says}
use Rattle.ix_replies.proofs.Deliveries.{delivers_weaker}
use Rattle.ix_words.specs.Commands.{Command, Check, Bench, Guard}
use Rattle.ix_words.specs.Shown.{shown}
use Rattle.ix_replies.specs.declared.status.Status.TheVariants.{Done}
use Rattle.ix_commands.specs.Answers.{AnswersWhole, Verifies}
use Rattle.ix_commands.specs.Judgements.{profile_of}
use Rattle.ix_commands.specs.Promises.{PromisesWhole, SafeProgram, SafeText}
use Rattle.ix_commands.proofs.Answered.{said_right, bench_given, verify_given, guard_given}
use Rattle.ix_commands.proofs.answering.answer_whole.Goals as goal

pub returns-in-Check : goal.returns-in-Check
returns-in-Check g c =
    let library = c.in-Check.library in
    let made : Command = Check c.in-Check.sums c.in-Check.certificate library c.in-Check.file.now in
    let is : shown c.args.command.now ≡ made = ap shown c.in-Check.is in
    let bytes = c.args.bytes.now in
    let program = c.args.program.now in
    let cert = option_map (λ text. text.items) c.args.cert.now in
    delivers_weaker (Says c.asked_reply.result) (λ a. AnswersWhole (shown c.args.command.now) bytes cert program a × PromisesWhole (shown c.args.command.now) cert program a) _ _ _
    (λ (a : Answer) says.
    subst (λ (command : Command). AnswersWhole command bytes cert program a × PromisesWhole command cert program a) (sym is) (
      said_right (λ b. (joined : Bool) (text : Option (List ℕ)) → AnswersWhole (Check c.in-Check.sums c.in-Check.certificate joined c.in-Check.file.now) bytes text program b) c.asked_reply.result a c.asked_reply.ensures.answers says library cert,
      said_right (λ b. (joined : Bool) (text : Option (List ℕ)) → PromisesWhole (Check c.in-Check.sums c.in-Check.certificate joined c.in-Check.file.now) text program b) c.asked_reply.result a c.asked_reply.ensures.safe says library cert,
    ))
    c.say.ensures

pub returns-in-Bench : goal.returns-in-Bench
returns-in-Bench g c =
    let command = shown c.args.command.now in
    let bytes = c.args.bytes.now in
    let program = c.args.program.now in
    let cert : Option (List ℕ) = option_map (λ text. text.items) c.args.cert.now in
    delivers_weaker (Says c.workload_reply.result) (λ a. AnswersWhole command bytes cert program a × PromisesWhole command cert program a) _ _ _
    (λ (a : Answer) says.
    bench_given command c.in-Bench.count bytes cert program a (ap shown c.in-Bench.is)
    (said_right (λ b. (text : Option (List ℕ)) → AnswersWhole (Bench c.in-Bench.count) bytes text program b) c.workload_reply.result a c.workload_reply.ensures says cert))
    c.say-in-Bench.ensures

pub returns-in-Some : goal.returns-in-Some
returns-in-Some g c =
    let command = shown c.args.command.now in
    let bytes = c.args.bytes.now in
    let program = c.args.program.now in
    let cert : Option (List ℕ) = option_map (λ text. text.items) c.args.cert.now in
    let name = c.in-Verify.name.now in
    let text = c.in-Some.text.items in
    let given : cert ≡ Some text = ap (option_map (λ text. text.items)) c.in-Some.is in
    delivers_weaker (Says c.verify_reply.result) (λ a. AnswersWhole command bytes cert program a × PromisesWhole command cert program a) _ _ _
    (λ (a : Answer) says.
    verify_given command c.in-Verify.library c.in-Verify.file.now name bytes cert program text a (ap shown c.in-Verify.is) given
    (subst (λ (t : List ℕ). Verifies name bytes program t a) c.deref.ensures.value (said_right (λ b. Verifies name bytes program c.deref.result.now b) c.verify_reply.result a c.verify_reply.ensures.answers says))
    (subst (λ (t : List ℕ). a.status ≡ Done → SafeProgram program (Some t)) c.deref.ensures.value
    (said_right (λ b. b.status ≡ Done → SafeProgram program (Some c.deref.result.now)) c.verify_reply.result a c.verify_reply.ensures.safe says)))
    c.say-in-Some.ensures

pub returns-in-Guard : goal.returns-in-Guard
returns-in-Guard g c =
    let command = shown c.args.command.now in
    let made : Command = Guard c.in-Guard.sums c.in-Guard.file.now in
    let bytes = c.args.bytes.now in
    let program = c.args.program.now in
    let cert : Option (List ℕ) = option_map (λ text. text.items) c.args.cert.now in
    delivers_weaker (Says c.guard_reply.result) (λ a. AnswersWhole command bytes cert program a × PromisesWhole command cert program a) _ _ _
    (λ (a : Answer) says.
    guard_given command made bytes cert program a (ap shown c.in-Guard.is)
    (said_right (λ b. b.status ≡ Done → SafeText (profile_of c.in-Guard.sums) b.out) c.guard_reply.result a c.guard_reply.ensures.safe says)
    (said_right (λ b. (text : Option (List ℕ)) → AnswersWhole made bytes text program b) c.guard_reply.result a c.guard_reply.ensures.answers says cert))
    c.say-in-Guard.ensures
