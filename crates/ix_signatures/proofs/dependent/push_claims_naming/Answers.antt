use Rattle.std.specs.Prelude.{pos, filter}
use Rattle.std.proofs.Common.{refl, get_or}
use Rattle.ix_text.proofs.Walked.{next_or, none_left}
use Rattle.ix_core.specs.declared.claim.Claim.TheVariants.{Range}
use Rattle.ix_signatures.specs.Names.{names_field}
use Rattle.ix_signatures.specs.Naming.{path_by}
use Rattle.ix_signatures.specs.Signs.{claims_facts}
use Rattle.ix_signatures.proofs.SmallLeft.{claims_left, first_passed}
use Rattle.ix_signatures.proofs.dependent.push_claims_naming.Goals as goal

pub loop-claim-preserved : goal.loop-claim-preserved
loop-claim-preserved c =
    let claims = c.args.claims.now in
    let k = c.loop-claim.claim-index in
    let path = path_by c.args.naming.now in
    let at = c.args.at.now in
    let names = names_field c.args.field in (
      next_or (λ _ left. claims_facts path at (filter names left)) claims k (Range (pos 0) (pos 0)) _ _ _ _ c.loop-claim-test.true (first_passed path at names (get_or claims k (Range (pos 0) (pos 0))))
          c.in_ok-push_claim_naming.ensures c.loop-claim.invariant.0,
      claims_left claims k c.loop-claim.invariant.1,
    )

pub returns : goal.returns
returns c =
    none_left (λ _ left. claims_facts (path_by c.args.naming.now) c.args.at.now (filter (names_field c.args.field) left)) c.args.claims.now c.loop-claim.claim-index _ _ c.loop-claim-test.false refl c.loop-claim.invariant.0
