use Rattle.std.proofs.Common.{arith}
use Rattle.ix_store.specs.StoredFacts.{stored}
use Rattle.ix_refine.proofs.NextOutcome.{next_told, all_told}
use Rattle.ix_refine.proofs.branches.told_all.Goals as goal

pub loop-outcome-preserved : goal.loop-outcome-preserved
loop-outcome-preserved c = next_told c.args.told.now c.loop-outcome.outcome-index _ (omega (arith, c.loop-outcome-test.true)) (stored c.args.store) (stored c.loop-outcome.after) (stored c.in_ok-after.after) c.loop-outcome.invariant c.in_ok-after.ensures.after

pub returns : goal.returns
returns c = all_told c.args.told.now c.loop-outcome.outcome-index (omega (arith, c.loop-outcome-test.false)) (stored c.args.store) (stored c.loop-outcome.after) c.loop-outcome.invariant
