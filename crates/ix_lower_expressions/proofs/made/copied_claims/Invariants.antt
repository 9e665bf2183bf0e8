use Rattle.std.proofs.Common.{◌≡◌, take}
use Rattle.ix_lower_expressions.proofs.made.copied_claims.Given as goal

abbrev pub invariant-loop-claim : goal.invariant-loop-claim
invariant-loop-claim l = l.copy ≡ take l.claim-index l.claims
