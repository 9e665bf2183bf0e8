use Rattle.std.proofs.Common.{arith}
use Rattle.ix_facts.specs.Finish as rule
use Rattle.ix_intervals.specs.KeptLaws.{all_facts, next_fact}
use Rattle.ix_transfer.proofs.along.push_bounds_below.Goals as goal

pub loop-fact-preserved : goal.loop-fact-preserved
loop-fact-preserved c =
    next_fact (rule.bound_below c.args.t.now c.args.q.now c.args.c.now) c.args.on_other.now c.loop-fact.fact-index _ (omega (arith, c.loop-fact-test.true)) c.loop-fact.out.items c.push_bound_below.new.out.items _ c.in_ok-push_bound_below.ensures c.loop-fact.invariant

pub returns : goal.returns
returns c = all_facts (rule.bound_below c.args.t.now c.args.q.now c.args.c.now) c.args.on_other.now c.loop-fact.fact-index (omega (arith, c.loop-fact-test.false)) c.loop-fact.out.items _ c.loop-fact.invariant
