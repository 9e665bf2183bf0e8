use Rattle.std.proofs.Common.{refl}
use Rattle.ix_facts.specs.MethodLandmarks.{variables_numbers}
use Rattle.ix_text.proofs.Walked.{next}
use Rattle.ix_landmarks.proofs.numbers.push_params.Goals as goal

pub loop-param-preserved : goal.loop-param-preserved
loop-param-preserved c =
    next (λ _. variables_numbers) c.args.params.now c.loop-param.param-index c.param-item.result _ _ _ _ c.loop-param-test.true c.param-item.is (λ rest. refl) (rw c.as_slice.ensures at c.in_ok-push_claims.ensures) c.loop-param.invariant
