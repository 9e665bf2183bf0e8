use Rattle.std.proofs.Common.{ℕ, List, subst}
use Rattle.std.proofs.lemmas.Result.{IfOk-weaker}
use Rattle.ix_core.specs.declared.error.Error.{Error}
use Rattle.ix_core.specs.declared.fact.Profile.{Profile}
use Rattle.ix_replies.specs.Replies.{shown}
use Rattle.ix_front.specs.Findings.{seen}
use Rattle.ix_front.specs.Found.{Found}
use Rattle.ix_certify.specs.MethodErrors.{IsError}
use Rattle.ix_guard_text.specs.Guarding.{IsGuarded}
use Rattle.ix_certify.specs.ErrorList.{IsErrorList}
use Rattle.ix_commands.specs.Answers.{AnswersFound, AnswersGuarded}
use Rattle.ix_commands.specs.Promises.{SafeText}
use Rattle.ix_commands.proofs.GuardsAnswered.{found_short}
use Rattle.ix_commands.proofs.WholeSources.{named_bytes}
use Rattle.ix_commands.proofs.guarding.guard_reply.Goals as goal

pub returns-clause-answers : goal.returns-clause-answers
returns-clause-answers c =
    let errors = c.in_ok-errors.errors.items in
    let text = c.in_ok-text.text.items in
    let name = c.args.name.now in
    let finding = seen c.in_ok-finding.finding in
    IfOk-weaker c.guarded_reply.result _ _
    (λ reply on cert. (
      errors,
      subst (λ (p : Profile). IsErrorList (IsError c.args.program.now p) errors) c.profile_of-profile.ensures c.in_ok-errors.ensures.errors,
      (
        text,
        subst (λ (es : List Error). IsGuarded c.args.bytes.now es text) c.deref.ensures.value c.in_ok-text.ensures.text,
        finding,
        subst (λ (bytes : List ℕ). Found bytes finding) c.deref-2.ensures.value c.in_ok-finding.ensures.right,
        subst (λ (p : Profile). AnswersFound name text (AnswersGuarded p text) finding (shown reply)) c.profile_of-profile.ensures on,
      ),
    )) c.guarded_reply.ensures.answers

pub returns-clause-safe : goal.returns-clause-safe
returns-clause-safe c =
    IfOk-weaker c.guarded_reply.result _ _ (λ reply safe done. subst (λ (p : Profile). SafeText p (shown reply).out) c.profile_of-profile.ensures (safe done)) c.guarded_reply.ensures.safe

pub guarded_reply-requires-clause-found : goal.guarded_reply-requires-clause-found
guarded_reply-requires-clause-found c =
    let finding = seen c.in_ok-finding.finding in
    subst (λ (bytes : List ℕ). Found bytes finding) c.deref-2.ensures.value c.in_ok-finding.ensures.right

pub guarded-requires-clause-named : goal.guarded-requires-clause-named
guarded-requires-clause-named c = named_bytes c.args.bytes.now c.args.program.now c.requires.found

pub guarded_reply-requires-clause-short : goal.guarded_reply-requires-clause-short
guarded_reply-requires-clause-short c =
    let text = c.in_ok-text.text.items in
    let finding = seen c.in_ok-finding.finding in
    found_short text finding (subst (λ (bytes : List ℕ). Found bytes finding) c.deref-2.ensures.value c.in_ok-finding.ensures.right)
