use Rattle.std.proofs.Common.{◌≡◌, drop, map}
use Rattle.ix_core.specs.Inputs as model
use Rattle.ix_core.specs.Safe.{input_names}
use Rattle.ix_machine_inputs.specs.Shown.{input_of}
use Rattle.ix_machine_inputs.proofs.claims.first_unmet.Given as goal

abbrev pub invariant-loop-number : goal.invariant-loop-number
invariant-loop-number l = model.first_from l.number (drop l.number (map input_of l.inputs)) (drop l.number l.params) (drop l.number l.types) (input_names (map input_of l.inputs)) ≡ model.first_unmet l.method (map input_of l.inputs)
