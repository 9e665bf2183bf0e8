use Rattle.std.proofs.Common.{arith}
use Rattle.ix_facts.specs.AfterTest.{above_by}
use Rattle.ix_test_facts.specs.OverGroups.{between}
use Rattle.ix_intervals.specs.KeptLaws.{all_facts, next_fact}
use Rattle.ix_test_facts.proofs.differences.push_from.Goals as goal

pub loop-fact-preserved : goal.loop-fact-preserved
loop-fact-preserved c = next_fact (above_by (between c.args.k.now c.args.r.now c.args.c.now) c.args.q.now) c.args.above.now c.loop-fact.fact-index _ (omega (arith, c.loop-fact-test.true)) c.loop-fact.out.items c.push_between_by.new.out.items _ c.in_ok-push_between_by.ensures c.loop-fact.invariant

pub returns : goal.returns
returns c = all_facts (above_by (between c.args.k.now c.args.r.now c.args.c.now) c.args.q.now) c.args.above.now c.loop-fact.fact-index c.loop-fact-test.false c.loop-fact.out.items _ c.loop-fact.invariant
