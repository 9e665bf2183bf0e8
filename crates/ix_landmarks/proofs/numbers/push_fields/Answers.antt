use Rattle.std.proofs.Common.{refl}
use Rattle.ix_facts.specs.MethodLandmarks.{fields_numbers}
use Rattle.ix_text.proofs.Walked.{next_or}
use Rattle.ix_landmarks.proofs.numbers.push_fields.Goals as goal

pub loop-number-preserved : goal.loop-number-preserved
loop-number-preserved c =
    next_or (λ _. fields_numbers c.args.program.now) c.args.fields.now c.loop-number.number-index 0 _ _ _ _ c.loop-number-test.true (λ rest. refl) c.in_ok-push_field_at.ensures c.loop-number.invariant
