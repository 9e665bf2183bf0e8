use Rattle.std.proofs.Common.{arith}
use Rattle.ix_test_facts.specs.OverGroups.{length_at}
use Rattle.ix_intervals.specs.KeptLaws.{all_facts, next_fact}
use Rattle.ix_test_facts.proofs.lengths.push_lengths_at.Goals as goal

pub loop-fact-preserved : goal.loop-fact-preserved
loop-fact-preserved c = next_fact (length_at c.args.x.now c.args.low.now c.args.high.now) c.args.on_x.now c.loop-fact.fact-index _ (omega (arith, c.loop-fact-test.true)) c.loop-fact.out.items c.push_length_at.new.out.items _ c.in_ok-push_length_at.ensures c.loop-fact.invariant

pub returns : goal.returns
returns c = all_facts (length_at c.args.x.now c.args.low.now c.args.high.now) c.args.on_x.now c.loop-fact.fact-index c.loop-fact-test.false c.loop-fact.out.items _ c.loop-fact.invariant
