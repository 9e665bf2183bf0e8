use Rattle.std.proofs.Common.{rules, map}
use Rattle.std.proofs.lemmas.Result.{IfOk-weaker, IfErr-weaker}
use Rattle.ix_store.specs.StoredFacts.{stored}
use Rattle.ix_cert.specs.Labellings.{IsLabelling}
use Rattle.ix_verify.specs.declared.answer.CertError.TheVariants.{Form}
use Rattle.ix_verify.proofs.Counted.{given}
use Rattle.ix_verify.proofs.Judged.{safe, refusal, accepts}
use Rattle.ix_verify.proofs.verifying.verify.Goals as goal

pub judge-requires-clause-each : goal.judge-requires-clause-each
judge-requires-clause-each c =
    let gives : IsLabelling c.args.program.now c.in-Some.profile (map (map stored) c.as_slice.result.now) c.args.text.now = search rules in
    given c.args.program.now c.in-Some.profile c.as_slice.result.now c.args.text.now gives

pub returns-in-None-clause-accepts : goal.returns-in-None-clause-accepts
returns-in-None-clause-accepts c =
    λ profile labels is flawless. refusal c.args.program.now c.args.text.now c.requires.formed c.requires.can profile labels is flawless Form (search rules)

pub returns-in-Some-clause-safe : goal.returns-in-Some-clause-safe
returns-in-Some-clause-safe c =
    let gives : IsLabelling c.args.program.now c.in-Some.profile (map (map stored) c.as_slice.result.now) c.args.text.now = search rules in
    IfOk-weaker c.judge.result _ _ (λ verified own. safe c.args.program.now c.args.text.now c.requires.formed c.requires.can c.soundness.ensures.sound verified (own c.args.text.now gives)) c.judge.ensures.verified

pub returns-in-Some-clause-accepts : goal.returns-in-Some-clause-accepts
returns-in-Some-clause-accepts c =
    let gives : IsLabelling c.args.program.now c.in-Some.profile (map (map stored) c.as_slice.result.now) c.args.text.now = search rules in
    accepts c.args.program.now c.args.text.now c.requires.formed c.requires.can c.judge.result
    (IfOk-weaker c.judge.result _ _ (λ verified own. own c.args.text.now gives) c.judge.ensures.verified)
    (IfErr-weaker c.judge.result _ _ (λ error own. own c.args.text.now gives) c.judge.ensures.refused)
