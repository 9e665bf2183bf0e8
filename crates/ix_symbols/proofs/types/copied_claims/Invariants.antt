use Rattle.std.proofs.Common.{◌≡◌, ◌++◌, drop}
use Rattle.ix_symbols.proofs.types.copied_claims.Given as goal

abbrev pub invariant-loop-claim : goal.invariant-loop-claim
invariant-loop-claim l = l.copy ++ drop l.claim-index l.claims ≡ l.claims
