use Rattle.std.proofs.Common.{arith, refl}
use Rattle.ix_facts.specs.AfterOperation.{claimed_by, loaded_facts}
use Rattle.ix_transfer_rules.proofs.Walks.{items_next, items_end}
use Rattle.ix_transfer_rules.proofs.loaded.push_all_claimed.Goals as goal

pub loop-claim-preserved : goal.loop-claim-preserved
loop-claim-preserved c =
    items_next (claimed_by c.args.t.now) (loaded_facts c.args.t.now) c.args.claims.now c.loop-claim.claim-index (λ x xs. refl) _ (omega (arith, c.loop-claim-test.true)) c.loop-claim.out.items c.push_claimed.new.out.items _ c.in_ok-push_claimed.ensures c.loop-claim.invariant

pub returns : goal.returns
returns c = items_end (claimed_by c.args.t.now) (loaded_facts c.args.t.now) c.args.claims.now c.loop-claim.claim-index refl c.loop-claim-test.false c.loop-claim.out.items _ c.loop-claim.invariant
