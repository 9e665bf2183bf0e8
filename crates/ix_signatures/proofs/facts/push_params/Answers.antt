use Rattle.std.proofs.Common.{◌≡◌, refl, subst, length}
use Rattle.std.specs.Prelude.{slice_get, Some}
use Rattle.std.proofs.lemmas.Option.{slice_get_read}
use Rattle.ix_text.proofs.Walked.{next, none_left}
use Rattle.ix_signatures.specs.Signs.{params_facts}
use Rattle.ix_signatures.proofs.facts.push_params.Goals as goal

pub push_param-requires-clause-small : goal.push_param-requires-clause-small
push_param-requires-clause-small c =
    let param = c.index-params-number.result in
    let params = c.as_slice-params.result.now in
    c.requires.small.params c.loop-number.number param
    (subst (λ l. slice_get l c.loop-number.number ≡ Some param) c.as_slice-params.ensures (slice_get_read params (length params) c.loop-number.number param refl c.loop-number-test.true c.index-params-number.is))

pub loop-number-preserved : goal.loop-number-preserved
loop-number-preserved c =
    next (params_facts c.args.method.now) c.as_slice-params.result.now c.loop-number.number c.index-params-number.result _ _ _ _
    c.loop-number-test.true c.index-params-number.is (λ rest. refl) c.in_ok-push_param.ensures c.loop-number.invariant

pub returns : goal.returns
returns c = none_left (params_facts c.args.method.now) c.as_slice-params.result.now c.loop-number.number _ _ c.loop-number-test.false refl c.loop-number.invariant
