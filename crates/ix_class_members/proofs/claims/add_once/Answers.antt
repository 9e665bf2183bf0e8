use Rattle.std.proofs.Common.{rules, ◌≡◌, ◌∙◌, sym, ap, true, false, ◌++◌, ◌∷◌, []}
use Rattle.ix_core.specs.SameClaims.{same_claim, distinct}
use Rattle.ix_class_members.specs.Seen.{seen, unseen}
use Rattle.ix_core.proofs.RepeatedClaims.{same_claims}
use Rattle.ix_class_members.proofs.EachOnce.{met_again, met_first}
use Rattle.ix_class_members.proofs.claims.add_once.Goals as goal

pub returns-then-is_among : goal.returns-then-is_among
returns-then-is_among c =
    let met : seen c.args.each.now c.args.claim.now ≡ true = search rules in
    λ claims. ap (λ l. c.args.each.now ++ l) (sym (met_again same_claim same_claims c.args.each.now c.args.claim.now (distinct claims) met))

pub returns : goal.returns
returns c =
    let new : seen c.args.each.now c.args.claim.now ≡ false = search rules in
    let pushed : c.push.new.self ≡ c.args.each.now ++ c.args.claim.now ∷ [] = search rules in
    λ claims. ap (λ l. l ++ unseen l (distinct claims)) pushed ∙ met_first same_claim c.args.each.now c.args.claim.now (distinct claims) new
