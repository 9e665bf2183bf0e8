use Rattle.std.proofs.Common.{◌≡◌, drop, map}
use Rattle.ix_core.specs.Inputs as model
use Rattle.ix_core.specs.Safe.{input_names}
use Rattle.ix_machine_inputs.specs.Shown.{input_of, reading_of}
use Rattle.ix_machine_inputs.proofs.claims.first_own.Given as goal

abbrev pub invariant-loop-claim : goal.invariant-loop-claim
invariant-loop-claim l = model.first_own l.param (drop l.claim-index l.claims) (reading_of l.v) (input_names (map input_of l.inputs)) ≡ model.first_own l.param l.claims (reading_of l.v) (input_names (map input_of l.inputs))
