use Rattle.std.specs.Prelude.{pos}
use Rattle.std.proofs.Common.{◌++◌, refl, ap, ◌∙◌}
use Rattle.ix_text.proofs.Walked.{next_or, none_left}
use Rattle.ix_core.specs.declared.claim.Claim.TheVariants.{Range}
use Rattle.ix_facts.specs.Assume.{claim_facts}
use Rattle.ix_signatures.specs.Naming.{path_by}
use Rattle.ix_signatures.specs.Signs.{claims_facts}
use Rattle.ix_signatures.proofs.SmallLeft.{claims_left}
use Rattle.ix_signatures.proofs.facts.push_claims.Goals as goal

pub loop-claim-preserved : goal.loop-claim-preserved
loop-claim-preserved c =
    let k = c.loop-claim.claim-index in
    let at = c.args.at.now in (
      next_or (λ _. claims_facts (path_by c.args.naming.now) at) c.args.claims.now k (Range (pos 0) (pos 0)) _ _ _ _ c.loop-claim-test.true (λ rest. refl)
          (c.in_ok-push_claim.ensures ∙ ap (λ claim. c.loop-claim.out.items ++ claim_facts claim at) c.claim.ensures) c.loop-claim.invariant.0,
      claims_left c.args.claims.now k c.loop-claim.invariant.1,
    )

pub returns : goal.returns
returns c = none_left (λ _. claims_facts (path_by c.args.naming.now) c.args.at.now) c.args.claims.now c.loop-claim.claim-index _ _ c.loop-claim-test.false refl c.loop-claim.invariant.0
