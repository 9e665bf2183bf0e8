use Rattle.std.proofs.Common.{◌≡◌, drop}
use Rattle.ix_core.specs.Inputs as model
use Rattle.ix_machine_inputs.proofs.claims.first_of_elements.Given as goal

abbrev pub invariant-loop-claim : goal.invariant-loop-claim
invariant-loop-claim l = model.first_of_elements l.param (drop l.claim-index l.claims) l.ns ≡ model.first_of_elements l.param l.claims l.ns
