use Rattle.std.proofs.Common.{refl}
use Rattle.ix_facts.specs.MethodLandmarks.{claims_numbers}
use Rattle.ix_text.proofs.Walked.{next_or}
use Rattle.ix_landmarks.proofs.numbers.push_claims.Goals as goal

pub loop-claim-preserved : goal.loop-claim-preserved
loop-claim-preserved c =
    next_or (λ _. claims_numbers) c.args.claims.now c.loop-claim.claim-index _ _ _ _ _ c.loop-claim-test.true (λ rest. refl) c.in_ok-push_claim.ensures c.loop-claim.invariant
