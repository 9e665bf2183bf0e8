use Rattle.std.proofs.Common.{arith, sym, ◌∙◌, map, refl}
use Rattle.std.proofs.lemmas.Option.{slice_get_read, slice_get_past}
use Rattle.ix_core.specs.Safe.{input_names}
use Rattle.ix_machine_inputs.specs.Shown.{input_of, unmet_of}
use Rattle.std.proofs.lemmas.List.{length-map}
use Rattle.ix_machine_inputs.proofs.Numbered.{is_within}
use Rattle.ix_machine_inputs.proofs.Parameters.{stops, goes_on, without_params, without_types, shown_at}
use Rattle.ix_machine_inputs.proofs.claims.first_unmet.Goals as goal

pub returns-in_default-clause-first : goal.returns-in_default-clause-first
returns-in_default-clause-first c = sym (without_params c.loop-number.number c.loop-number.number (map input_of c.args.inputs.now) c.as_slice-params.result.now c.as_slice-types.result.now (input_names (map input_of c.args.inputs.now)) (slice_get_past c.as_slice-params.result.now c.loop-number.number (omega (arith, c.in_default.ensures.lookup)))) ∙ c.loop-number.invariant

pub returns-in_default-get-clause-first : goal.returns-in_default-get-clause-first
returns-in_default-get-clause-first c = sym (without_types c.loop-number.number c.loop-number.number (map input_of c.args.inputs.now) c.as_slice-params.result.now c.as_slice-types.result.now (input_names (map input_of c.args.inputs.now)) (slice_get_past c.as_slice-types.result.now c.loop-number.number (omega (arith, c.in_default-get.ensures.lookup)))) ∙ c.loop-number.invariant

pub returns-in-Some-first_of-clause-first : goal.returns-in-Some-first_of-clause-first
returns-in-Some-first_of-clause-first c =
    let input = shown_at input_of c.args.inputs.now c.loop-number.number c.index-inputs-number.result (slice_get_read c.args.inputs.now _ c.loop-number.number c.index-inputs-number.result refl c.loop-number-test.true c.index-inputs-number.is) in
    let told = c.in-Some-first_of.ensures in let first = rw c.as_slice.ensures at told in
    sym (stops c.loop-number.number (map input_of c.args.inputs.now) c.as_slice-params.result.now c.as_slice-types.result.now (input_names (map input_of c.args.inputs.now)) (input_of c.index-inputs-number.result) c.in-Some.param.now c.in-Some-get.ty.now (unmet_of c.in-Some-first_of.unmet)
    input (slice_get_read c.as_slice-params.result.now _ c.loop-number.number c.in-Some.param.now refl (omega (arith, c.in-Some.ensures.lookup)) c.in-Some.ensures.lookup.1)
    (slice_get_read c.as_slice-types.result.now _ c.loop-number.number c.in-Some-get.ty.now refl (omega (arith, c.in-Some-get.ensures.lookup)) c.in-Some-get.ensures.lookup.1) first) ∙ c.loop-number.invariant

pub returns-in-Some-first_of-clause-within : goal.returns-in-Some-first_of-clause-within
returns-in-Some-first_of-clause-within c =
    let bound = is_within (map input_of c.args.inputs.now) c.args.method.now.params c.args.method.now.param_types (input_names (map input_of c.args.inputs.now)) (unmet_of c.in-Some-first_of.unmet) (sym (returns-in-Some-first_of-clause-first c)) in
    simp length-map at bound

pub loop-number-preserved : goal.loop-number-preserved
loop-number-preserved c =
    let input = shown_at input_of c.args.inputs.now c.loop-number.number c.index-inputs-number.result (slice_get_read c.args.inputs.now _ c.loop-number.number c.index-inputs-number.result refl c.loop-number-test.true c.index-inputs-number.is) in
    let told = c.in-None.ensures in let first = rw c.as_slice.ensures at told in
    sym (goes_on c.loop-number.number (map input_of c.args.inputs.now) c.as_slice-params.result.now c.as_slice-types.result.now (input_names (map input_of c.args.inputs.now)) (input_of c.index-inputs-number.result) c.in-Some.param.now c.in-Some-get.ty.now
    input (slice_get_read c.as_slice-params.result.now _ c.loop-number.number c.in-Some.param.now refl (omega (arith, c.in-Some.ensures.lookup)) c.in-Some.ensures.lookup.1)
    (slice_get_read c.as_slice-types.result.now _ c.loop-number.number c.in-Some-get.ty.now refl (omega (arith, c.in-Some-get.ensures.lookup)) c.in-Some-get.ensures.lookup.1) first) ∙ c.loop-number.invariant
