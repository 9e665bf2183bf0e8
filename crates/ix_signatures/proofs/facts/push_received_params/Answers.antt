use Rattle.std.proofs.Common.{refl}
use Rattle.ix_text.proofs.Walked.{next, none_left}
use Rattle.ix_signatures.specs.Signs.{received_params}
use Rattle.ix_signatures.proofs.facts.push_received_params.Goals as goal

pub loop-number-preserved : goal.loop-number-preserved
loop-number-preserved c =
    next (received_params c.args.method.now) c.as_slice-types.result.now c.loop-number.number c.index-types-number.result _ _ _ _
    c.loop-number-test.true c.index-types-number.is (λ rest. refl) (rw c.param_slot.ensures at c.in_ok-push_received.ensures) c.loop-number.invariant

pub returns : goal.returns
returns c = none_left (received_params c.args.method.now) c.as_slice-types.result.now c.loop-number.number _ _ c.loop-number-test.false refl c.loop-number.invariant
