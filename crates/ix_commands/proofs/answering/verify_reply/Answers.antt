use Rattle.std.proofs.Common.{rules, ◌≡◌, ◌≢◌, ◌≤◌, ◌∙◌, length, sym, subst}
use Rattle.std.proofs.lemmas.Result.{IfOk-weaker}
use Rattle.ix_replies.specs.declared.status.Status.TheVariants.{Done, Rejected}
use Rattle.ix_outside.specs.Reading.{most_certificate}
use Rattle.ix_certify.specs.CertError.TheVariants as refusal
use Rattle.ix_commands.specs.Answers.{Verifies, too_long, verified, refused}
use Rattle.ix_commands.proofs.Answered.{status_is}
use Rattle.ix_commands.proofs.answering.verify_reply.Goals as goal

pub returns-then-text-gt-MOST_CERTIFICATE-clause-answers : goal.returns-then-text-gt-MOST_CERTIFICATE-clause-answers
returns-then-text-gt-MOST_CERTIFICATE-clause-answers c =
    IfOk-weaker c.past_certificate_reply.result _ _
    (λ reply is. subst (Verifies c.args.cert.now c.args.bytes.now c.args.program.now c.args.text.now) (sym is) (too_long (search rules))) c.past_certificate_reply.ensures

pub returns-in-Ok-clause-answers : goal.returns-in-Ok-clause-answers
returns-in-Ok-clause-answers c =
    let short : length c.args.text.now ≤ most_certificate = search rules in
    IfOk-weaker c.verified_reply.result _ _
    (λ reply is. subst (Verifies c.args.cert.now c.args.bytes.now c.args.program.now c.args.text.now) (sym is) (verified c.in-Ok.verified short c.in-Ok.ensures.verified)) c.verified_reply.ensures

pub returns-in-Err : goal.returns-in-Err
returns-in-Err c =
    let short : length c.args.text.now ≤ most_certificate = search rules in
    let some : c.in-Err.why ≢ refusal.Memory = search rules in
    record {
      answers = IfOk-weaker c.refusal_reply.result _ _
          (λ reply is. subst (Verifies c.args.cert.now c.args.bytes.now c.args.program.now c.args.text.now) (sym is) (refused c.in-Err.why short some c.in-Err.ensures.refused)) c.refusal_reply.ensures;
      safe = IfOk-weaker c.refusal_reply.result _ _ (λ reply is done. absurd (let never : Rejected ≡ Done = sym (status_is _ _ is) ∙ done in cc)) c.refusal_reply.ensures;
    }
