use Rattle.std.proofs.Common.{arith}
use Rattle.ix_facts.specs.AfterTest.{above_by}
use Rattle.ix_test_facts.specs.OverGroups.{range_from}
use Rattle.ix_intervals.specs.KeptLaws.{all_facts, next_fact}
use Rattle.ix_test_facts.proofs.ranges.push_ranges_from.Goals as goal

pub loop-fact-preserved : goal.loop-fact-preserved
loop-fact-preserved c = next_fact (above_by (range_from c.args.bound.now c.args.k.now) c.args.q.now) c.args.above.now c.loop-fact.fact-index _ (omega (arith, c.loop-fact-test.true)) c.loop-fact.out.items c.push_range_from_by.new.out.items _ c.in_ok-push_range_from_by.ensures c.loop-fact.invariant

pub returns : goal.returns
returns c = all_facts (above_by (range_from c.args.bound.now c.args.k.now) c.args.q.now) c.args.above.now c.loop-fact.fact-index c.loop-fact-test.false c.loop-fact.out.items _ c.loop-fact.invariant
