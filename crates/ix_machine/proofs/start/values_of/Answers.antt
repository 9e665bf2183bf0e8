use Rattle.std.proofs.Common.{◌<◌, arith, map, refl, length, ap, ◌∙◌, [], ◌∷◌}
use Rattle.std.proofs.lemmas.List.{map-append, length-map}
use Rattle.std.proofs.lemmas.Option.{slice_get_read}
use Rattle.ix_core.specs.Heap.{cells_used}
use Rattle.ix_core.specs.Safe.{input_heap}
use Rattle.ix_machine_state.specs.Rows.{held_of}
use Rattle.ix_machine_state.specs.View.{heap_of}
use Rattle.ix_machine_inputs.specs.Shown.{input_of}
use Rattle.ix_machine_inputs.proofs.Parameters.{shown_at}
use Rattle.ix_machine.proofs.Begun.{too_large, made_step, values_step, none_left, no_value_left}
use Rattle.ix_machine.proofs.start.values_of.Goals as goal

pub returns-in_default-clause-large : goal.returns-in_default-clause-large
returns-in_default-clause-large c =
    let within : c.loop-number.number < length c.args.inputs.now = omega (arith, c.loop-number-test.true, c.requires.count) in
    let large = too_large (heap_of c.loop-number.heap) (input_heap (map input_of c.args.inputs.now) c.args.types.now) (map input_of c.args.inputs.now) c.args.types.now c.loop-number.number (input_of c.index-inputs-number.result) c.index-types-number.result c.loop-number.heap.most
    (shown_at input_of c.args.inputs.now c.loop-number.number c.index-inputs-number.result (slice_get_read c.args.inputs.now _ c.loop-number.number c.index-inputs-number.result refl within c.index-inputs-number.is))
    (slice_get_read c.args.types.now _ c.loop-number.number c.index-types-number.result refl c.loop-number-test.true c.index-types-number.is) c.loop-number.invariant.made c.in_default.ensures.large in
    omega (arith, large, c.loop-number.invariant.most)

pub loop-number-preserved : goal.loop-number-preserved
loop-number-preserved c =
    let within : c.loop-number.number < length c.args.inputs.now = omega (arith, c.loop-number-test.true, c.requires.count) in
    let at = shown_at input_of c.args.inputs.now c.loop-number.number c.index-inputs-number.result (slice_get_read c.args.inputs.now _ c.loop-number.number c.index-inputs-number.result refl within c.index-inputs-number.is) in
    let there = slice_get_read c.args.types.now _ c.loop-number.number c.index-types-number.result refl c.loop-number-test.true c.index-types-number.is in
    record {
      made = made_step (heap_of c.loop-number.heap) (heap_of c.input_value.new.heap) _ (map input_of c.args.inputs.now) c.args.types.now c.loop-number.number (input_of c.index-inputs-number.result) c.index-types-number.result at there
          c.loop-number.invariant.made c.in-Some.ensures.made;
      values = rw (c.in_ok-push.ensures.items, map-append held_of c.loop-number.values.items (c.in-Some.value ∷ []))
          (values_step (heap_of c.loop-number.heap) (heap_of c.input_value.new.heap) (map held_of c.loop-number.values.items) _ (map input_of c.args.inputs.now) c.loop-number.number (input_of c.index-inputs-number.result) c.index-types-number.result
          (held_of c.in-Some.value) at c.loop-number.invariant.values c.in-Some.ensures.made c.in-Some.ensures.value);
      fits = omega (arith, c.in-Some.ensures.fits, c.in-Some.ensures.most);
      most = c.in-Some.ensures.most ∙ c.loop-number.invariant.most;
    }

pub returns-clause-values : goal.returns-clause-values
returns-clause-values c =
    no_value_left (map held_of c.loop-number.values.items) _ (map input_of c.args.inputs.now) (length (heap_of c.loop-number.heap)) c.loop-number.number
    (omega (arith, length-map c.args.inputs.now input_of, c.loop-number-test.false, c.requires.count)) c.loop-number.invariant.values

pub returns-clause-made : goal.returns-clause-made
returns-clause-made c =
    none_left (heap_of c.loop-number.heap) _ (map input_of c.args.inputs.now) c.args.types.now c.loop-number.number
    (omega (arith, length-map c.args.inputs.now input_of, c.loop-number-test.false, c.requires.count)) c.loop-number.invariant.made

pub returns-clause-fits : goal.returns-clause-fits
returns-clause-fits c =
    let made = none_left (heap_of c.loop-number.heap) _ (map input_of c.args.inputs.now) c.args.types.now c.loop-number.number
    (omega (arith, length-map c.args.inputs.now input_of, c.loop-number-test.false, c.requires.count)) c.loop-number.invariant.made in
    omega (arith, ap cells_used made, c.loop-number.invariant.fits, c.loop-number.invariant.most)
