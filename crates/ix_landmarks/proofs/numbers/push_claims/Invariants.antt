use Rattle.std.proofs.Common.{◌≡◌, ◌++◌, drop}
use Rattle.ix_facts.specs.MethodLandmarks.{claims_numbers}
use Rattle.ix_landmarks.proofs.numbers.push_claims.Given as goal

abbrev pub invariant-loop-claim : goal.invariant-loop-claim
invariant-loop-claim l = l.out.items ++ claims_numbers (drop l.claim-index l.claims) ≡ l.fn.out.items ++ claims_numbers l.claims
