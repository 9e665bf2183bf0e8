use Rattle.std.proofs.Common.{◌∙◌, ap, sym, subst, length}
use Rattle.std.proofs.lemmas.Result.{IfOk-weaker}
use Rattle.ix_core.specs.Safe.{Safe}
use Rattle.ix_certify.specs.MethodErrors.{IsError}
use Rattle.ix_certify.specs.ErrorList.{IsErrorList}
use Rattle.ix_replies.specs.Said.{verdict}
use Rattle.ix_replies.proofs.Verdicts.{verdict_done}
use Rattle.ix_commands.proofs.Answered.{status_is}
use Rattle.ix_commands.proofs.answering.check_reply.Goals as goal

pub returns-clause-answers : goal.returns-clause-answers
returns-clause-answers c =
    let errors = c.in_ok-errors.errors.items in
    IfOk-weaker c.judged_reply.result _ _
    (λ reply is library cert. (
      errors,
      subst (λ p. IsErrorList (IsError c.args.program.now p) errors) c.profile_of.ensures c.in_ok-errors.ensures.errors,
      is ∙ ap (verdict c.args.name.now c.args.bytes.now c.args.program.now) c.deref.ensures.value,
    )) c.judged_reply.ensures

pub returns-clause-safe : goal.returns-clause-safe
returns-clause-safe c =
    let errors = c.in_ok-errors.errors.items in
    IfOk-weaker c.judged_reply.result _ _
    (λ reply is library cert done.
    let all = is ∙ ap (verdict c.args.name.now c.args.bytes.now c.args.program.now) c.deref.ensures.value in
    subst (Safe c.args.program.now) c.profile_of.ensures
    (c.in_ok-errors.ensures.safe (verdict_done c.args.name.now c.args.bytes.now c.args.program.now errors (sym (status_is _ _ all) ∙ done)))) c.judged_reply.ensures

pub judged_reply-requires-clause-within : goal.judged_reply-requires-clause-within
judged_reply-requires-clause-within c = rw c.deref.ensures.value (c.in_ok-errors.ensures.within (length c.args.bytes.now) c.requires.within)
