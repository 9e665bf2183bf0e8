use Rattle.std.proofs.Common.{refl}
use Rattle.ix_facts.specs.MethodLandmarks.{types_numbers}
use Rattle.ix_text.proofs.Walked.{next}
use Rattle.ix_landmarks.proofs.numbers.push_types.Goals as goal

pub loop-ty-preserved : goal.loop-ty-preserved
loop-ty-preserved c =
    next (λ _. types_numbers) c.args.types.now c.loop-ty.ty-index c.ty-item.result _ _ _ _ c.loop-ty-test.true c.ty-item.is (λ rest. refl) c.in_ok-push_type.ensures c.loop-ty.invariant
