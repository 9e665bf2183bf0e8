use Rattle.std.proofs.Common.{refl}
use Rattle.ix_facts.specs.MethodLandmarks.{variables_numbers, locals_of}
use Rattle.ix_text.proofs.Walked.{next}
use Rattle.ix_landmarks.proofs.numbers.push_locals.Goals as goal

pub loop-local-preserved : goal.loop-local-preserved
loop-local-preserved c =
    next (λ _ locals. variables_numbers (locals_of locals)) c.args.locals.now c.loop-local.local-index c.local-item.result _ _ _ _ c.loop-local-test.true c.local-item.is (λ rest. refl) (rw c.as_slice.ensures at c.in_ok-push_claims.ensures) c.loop-local.invariant
