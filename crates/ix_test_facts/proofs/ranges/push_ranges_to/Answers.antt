use Rattle.std.proofs.Common.{arith}
use Rattle.ix_facts.specs.AfterTest.{below_by}
use Rattle.ix_test_facts.specs.OverGroups.{range_to}
use Rattle.ix_intervals.specs.KeptLaws.{all_facts, next_fact}
use Rattle.ix_test_facts.proofs.ranges.push_ranges_to.Goals as goal

pub loop-fact-preserved : goal.loop-fact-preserved
loop-fact-preserved c = next_fact (below_by (range_to c.args.limit.now c.args.k.now) c.args.p.now) c.args.below.now c.loop-fact.fact-index _ (omega (arith, c.loop-fact-test.true)) c.loop-fact.out.items c.push_range_to_by.new.out.items _ c.in_ok-push_range_to_by.ensures c.loop-fact.invariant

pub returns : goal.returns
returns c = all_facts (below_by (range_to c.args.limit.now c.args.k.now) c.args.p.now) c.args.below.now c.loop-fact.fact-index c.loop-fact-test.false c.loop-fact.out.items _ c.loop-fact.invariant
