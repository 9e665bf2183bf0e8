use Rattle.std.proofs.Common.{◌≡◌, ◌++◌, refl, ap, subst, length}
use Rattle.std.specs.Prelude.{slice_get, Some}
use Rattle.std.proofs.lemmas.Option.{slice_get_read}
use Rattle.ix_store.specs.StoredFacts.{stored}
use Rattle.ix_errors.specs.Refusals.{param_refusals}
use Rattle.ix_text.proofs.Walked.{next, none_left}
use Rattle.ix_errors.proofs.overriding.push_params_of.Goals as goal

pub push_param-requires-clause-small : goal.push_param-requires-clause-small
push_param-requires-clause-small c =
    let param = c.index-params-number.result in
    let params = c.as_slice-params.result.now in
    c.requires.small.params c.loop-number.number param
    (subst (λ l. slice_get l c.loop-number.number ≡ Some param) c.as_slice-params.ensures (slice_get_read params (length params) c.loop-number.number param refl c.loop-number-test.true c.index-params-number.is))

pub loop-number-preserved : goal.loop-number-preserved
loop-number-preserved c =
    next (param_refusals (stored c.args.store.now) c.args.method.now c.args.own) c.as_slice-params.result.now c.loop-number.number c.index-params-number.result _ _ _ _
    c.loop-number-test.true c.index-params-number.is (λ rest. refl) c.in_ok-push_param.ensures c.loop-number.invariant

pub returns : goal.returns
returns c =
    none_left (param_refusals (stored c.args.store.now) c.args.method.now c.args.own) c.as_slice-params.result.now c.loop-number.number _ _
    c.loop-number-test.false refl c.loop-number.invariant

pub loop-number-init : goal.loop-number-init
loop-number-init c = ap (λ l. c.args.out.now.items ++ param_refusals (stored c.args.store.now) c.args.method.now c.args.own 0 l) c.as_slice-params.ensures
