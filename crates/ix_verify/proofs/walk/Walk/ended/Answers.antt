use Rattle.std.proofs.lemmas.Result.{on_ok_weaker}
use Rattle.ix_errors.proofs.Refused.{adds_both}
use Rattle.ix_verify.proofs.Lists.{exactly_to}
use Rattle.ix_verify.proofs.walk.Walk.ended.Goals as goal

pub returns : goal.returns
returns c =
    on_ok_weaker c.push_post_errors.result (λ last. exactly_to _ _ _ (adds_both _ _ _ _ _ c.in_ok-push_constructor_errors.ensures.errors (adds_both _ _ _ _ _ c.in_ok-push_missing_return.ensures.errors last))) c.push_post_errors.ensures.errors
