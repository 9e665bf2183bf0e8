use Rattle.std.proofs.Common.{◌≡◌, arith, map, ap, ℕ, List, Bor, ◌∙◌, length}
use Rattle.std.proofs.lemmas.List.{length-map}
use Rattle.ix_core.specs.declared.program.Method.{Method}
use Rattle.ix_machine_state.specs.View.{heap_of}
use Rattle.ix_machine_state.specs.Rows.{held_of}
use Rattle.ix_machine_inputs.specs.Shown.{input_of}
use Rattle.ix_machine.proofs.Starting.{err_is, values_count, value_count, unmet_refuses, all_met, large_refuses, state_is, state_begins}
use Rattle.ix_machine.proofs.Entered.{entered}
use Rattle.ix_machine.specs.State.{state_of}
use Rattle.ix_core.specs.Safe.{start}
use Rattle.ix_machine.proofs.machine.Machine.new.Goals as goal

pub returns-in_err-begun-clause-refused : goal.returns-in_err-begun-clause-refused
returns-in_err-begun-clause-refused c = err_is c.from_residual.result c.in_err-begun.field-0.0 _ c.from_residual.ensures.1 (c.in_err-begun.ensures.refused c.args.limits.cells)

pub returns-in-Some-clause-refused : goal.returns-in-Some-clause-refused
returns-in-Some-clause-refused c =
    unmet_refuses c.args.program.now c.args.entry.now (map (λ (word : Bor (List ℕ)). word.now) c.args.inputs.now) c.args.limits.cells c.in_ok-begun.begun.method c.in_ok-begun.begun.found.now (map input_of c.in_ok-begun.begun.inputs)
    c.in_ok-begun.ensures.given c.in_ok-begun.ensures.found c.in-Some.why c.in-Some.ensures

pub values_of-requires-clause-count : goal.values_of-requires-clause-count
values_of-requires-clause-count c =
    let many = values_count _ _ (map input_of c.in_ok-begun.begun.inputs) c.in_ok-begun.ensures.given.values in
    omega (arith, many, length-map c.in_ok-begun.begun.inputs input_of, ap length c.as_slice.ensures, ap length c.as_slice-types.ensures, ap (λ (m : Method). length m.param_types) c.in_ok-begun.ensures.found)

pub returns-in_default-2-clause-refused : goal.returns-in_default-2-clause-refused
returns-in_default-2-clause-refused c =
    let told = c.in_ok-values.ensures in let at = rw (c.as_slice.ensures, c.in_default-2.is) at told in
    let met = all_met c.args.program.now c.args.entry.now (map (λ (word : Bor (List ℕ)). word.now) c.args.inputs.now) c.args.limits.cells c.in_ok-begun.begun.method c.in_ok-begun.begun.found.now (map input_of c.in_ok-begun.begun.inputs)
    c.in_ok-begun.ensures.given c.in_ok-begun.ensures.found c.in_default.ensures in
    large_refuses c.args.program.now c.args.entry.now (map (λ (word : Bor (List ℕ)). word.now) c.args.inputs.now) c.args.limits.cells c.in_ok-begun.begun.method c.in_ok-begun.begun.found.now (map input_of c.in_ok-begun.begun.inputs)
    c.in_ok-begun.ensures.given c.in_ok-begun.ensures.found c.as_slice-types.result.now c.as_slice-types.ensures met (omega (arith, at.large, c.in_ok-heap.ensures.most))

pub at_start-requires-clause-values : goal.at_start-requires-clause-values
at_start-requires-clause-values c =
    let told = c.in_ok-values.ensures in let at = rw (c.as_slice.ensures, c.in-Some-2.is) at told in
    let many = values_count _ _ (map input_of c.in_ok-begun.begun.inputs) c.in_ok-begun.ensures.given.values in
    omega (arith, ap length c.as_slice-2.ensures.value, value_count held_of c.in-Some-2.values.items (map input_of c.in_ok-begun.begun.inputs) _ at.values many)

begun_state : (c : goal.After-drop-begun-2) → state_of c.in_ok-machine.machine ≡ start c.args.program.now c.in_ok-begun.begun.method (map input_of c.in_ok-begun.begun.inputs)
begun_state c =
    let told = c.in_ok-values.ensures in let at = rw (c.as_slice.ensures, c.in-Some-2.is) at told in
    state_is c.args.program.now c.args.entry.now (map (λ (word : Bor (List ℕ)). word.now) c.args.inputs.now) c.args.limits.cells c.in_ok-begun.begun.method c.in_ok-begun.begun.found.now (map input_of c.in_ok-begun.begun.inputs)
    c.in_ok-begun.ensures.given c.in_ok-begun.ensures.found c.as_slice-types.result.now (map held_of c.as_slice-2.result.now) (heap_of c.values_of.new.heap) _ c.as_slice-types.ensures
    (ap (map held_of) c.as_slice-2.ensures.value ∙ at.values) at.made c.in_ok-machine.ensures.state

pub returns-clause-begins : goal.returns-clause-begins
returns-clause-begins c =
    let told = c.in_ok-values.ensures in let at = rw (c.as_slice.ensures, c.in-Some-2.is) at told in
    let met = all_met c.args.program.now c.args.entry.now (map (λ (word : Bor (List ℕ)). word.now) c.args.inputs.now) c.args.limits.cells c.in_ok-begun.begun.method c.in_ok-begun.begun.found.now (map input_of c.in_ok-begun.begun.inputs)
    c.in_ok-begun.ensures.given c.in_ok-begun.ensures.found c.in_default.ensures in
    state_begins c.args.program.now c.args.entry.now (map (λ (word : Bor (List ℕ)). word.now) c.args.inputs.now) c.args.limits.cells c.in_ok-begun.begun.method c.in_ok-begun.begun.found.now (map input_of c.in_ok-begun.begun.inputs)
    c.in_ok-begun.ensures.given c.in_ok-begun.ensures.found c.as_slice-types.result.now _ c.as_slice-types.ensures met (omega (arith, at.fits, c.in_ok-heap.ensures.most)) (begun_state c)

pub returns-clause-entered : goal.returns-clause-entered
returns-clause-entered c =
    let met = all_met c.args.program.now c.args.entry.now (map (λ (word : Bor (List ℕ)). word.now) c.args.inputs.now) c.args.limits.cells c.in_ok-begun.begun.method c.in_ok-begun.begun.found.now (map input_of c.in_ok-begun.begun.inputs)
    c.in_ok-begun.ensures.given c.in_ok-begun.ensures.found c.in_default.ensures in
    (c.in_ok-begun.begun.method, map input_of c.in_ok-begun.begun.inputs, entered c.args.program.now c.args.entry.now _ c.in_ok-begun.begun.method (map input_of c.in_ok-begun.begun.inputs) c.in_ok-begun.ensures.given met, begun_state c)

pub values_of-requires-clause-empty : goal.values_of-requires-clause-empty
values_of-requires-clause-empty c = c.in_ok-heap.ensures.empty

pub returns-clause-program : goal.returns-clause-program
returns-clause-program c = c.in_ok-machine.ensures.program
