use Rattle.std.proofs.Common.{◌≡◌, drop}
use Rattle.ix_errors.specs.Parameters.{some_names_param}
use Rattle.ix_errors.proofs.parameters.some_names_param.Given as goal

abbrev pub invariant-loop-claim : goal.invariant-loop-claim
invariant-loop-claim l = some_names_param l.number (drop l.claim-index l.claims) ≡ some_names_param l.number l.claims
