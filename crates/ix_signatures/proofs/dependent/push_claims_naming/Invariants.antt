use Rattle.std.proofs.Common.{◌≡◌, ◌++◌, drop}
use Rattle.std.specs.Prelude.{filter}
use Rattle.ix_signatures.specs.Names.{names_field}
use Rattle.ix_signatures.specs.Naming.{path_by, AreSmallClaims}
use Rattle.ix_signatures.specs.Signs.{claims_facts}
use Rattle.ix_signatures.proofs.dependent.push_claims_naming.Given as goal

abbrev pub invariant-loop-claim : goal.invariant-loop-claim
invariant-loop-claim l =
    (l.out.items ++ claims_facts (path_by l.naming) l.at (filter (names_field l.field) (drop l.claim-index l.claims)) ≡ l.fn.out.items ++ claims_facts (path_by l.naming) l.at (filter (names_field l.field) l.claims))
    × AreSmallClaims (drop l.claim-index l.claims)
