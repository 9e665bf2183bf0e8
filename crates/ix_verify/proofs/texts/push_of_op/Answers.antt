use Rattle.std.proofs.lemmas.Result.{on_ok_weaker}
use Rattle.ix_sign.specs.RuleErrors.{AssignsNamed, OpEscapes}
use Rattle.ix_signatures.specs.SignErrors.{EffectWrite}
use Rattle.ix_errors.proofs.Refused.{adds_both}
use Rattle.ix_verify.proofs.Lists.{exactly_to}
use Rattle.ix_verify.proofs.texts.push_of_op.Goals as goal

pub returns : goal.returns
returns c =
    let method = c.args.within.now in
    let done = c.args.done.now in
    on_ok_weaker c.push_escapes_of.result
    (λ last. exactly_to _ _ _ (adds_both (EffectWrite c.args.program.now method done) _ _ _ _ c.in_ok-push_effect_error.ensures.errors
    (adds_both (AssignsNamed method done) (OpEscapes method done) _ _ _ c.in_ok-push_assigned_parameter.ensures.errors last)))
    c.push_escapes_of.ensures.errors
