use Rattle.std.proofs.Common.{◌≡◌, ◌++◌, drop}
use Rattle.ix_signatures.specs.Naming.{path_by, AreSmallClaims}
use Rattle.ix_signatures.specs.Signs.{claims_facts}
use Rattle.ix_signatures.proofs.facts.push_claims.Given as goal

abbrev pub invariant-loop-claim : goal.invariant-loop-claim
invariant-loop-claim l =
    (l.out.items ++ claims_facts (path_by l.naming) l.at (drop l.claim-index l.claims) ≡ l.fn.out.items ++ claims_facts (path_by l.naming) l.at l.claims)
    × AreSmallClaims (drop l.claim-index l.claims)
