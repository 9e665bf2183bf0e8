use Rattle.std.proofs.Common.{refl}
use Rattle.ix_text.proofs.Walked.{next, none_left}
use Rattle.ix_signatures.specs.Signs.{dependent_facts}
use Rattle.ix_signatures.proofs.dependent.push_dependents.Goals as goal

pub loop-number-preserved : goal.loop-number-preserved
loop-number-preserved c =
    next (dependent_facts c.args.object c.args.field) c.as_slice-fields.result.now c.loop-number.number c.index-fields-number.result _ _ _ _
    c.loop-number-test.true c.index-fields-number.is (λ rest. refl) c.in_ok-push_dependent.ensures c.loop-number.invariant

pub returns : goal.returns
returns c = none_left (dependent_facts c.args.object c.args.field) c.as_slice-fields.result.now c.loop-number.number _ _ c.loop-number-test.false refl c.loop-number.invariant
