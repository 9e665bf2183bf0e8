use Rattle.std.proofs.Common.{arith}
use Rattle.ix_test_facts.specs.OverGroups.{is_read_above}
use Rattle.ix_test_facts.proofs.Walks.{pick_next, pick_ends}
use Rattle.ix_test_facts.proofs.read.read_above.Goals as goal

pub loop-fact-preserved : goal.loop-fact-preserved
loop-fact-preserved c = pick_next (is_read_above c.args.q.now) c.args.on_q.now c.loop-fact.fact-index _ (omega (arith, c.loop-fact-test.true)) c.loop-fact.read.items c.push_if.new.out.items _ c.is_read_above.result c.is_read_above.ensures c.in_ok-push_if.ensures c.loop-fact.invariant

pub returns : goal.returns
returns c = pick_ends (is_read_above c.args.q.now) c.args.on_q.now c.loop-fact.fact-index c.loop-fact-test.false c.loop-fact.read.items _ c.loop-fact.invariant
