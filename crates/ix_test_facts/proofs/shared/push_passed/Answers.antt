use Rattle.std.proofs.Common.{arith}
use Rattle.ix_test_facts.specs.OverGroups.{passed_by}
use Rattle.ix_intervals.specs.KeptLaws.{all_facts, next_fact}
use Rattle.ix_test_facts.proofs.shared.push_passed.Goals as goal

pub loop-fact-preserved : goal.loop-fact-preserved
loop-fact-preserved c = next_fact (passed_by c.args.from.now c.args.to.now) c.args.on_from.now c.loop-fact.fact-index _ (omega (arith, c.loop-fact-test.true)) c.loop-fact.out.items c.push_passed_by.new.out.items _ c.in_ok-push_passed_by.ensures c.loop-fact.invariant

pub returns : goal.returns
returns c = all_facts (passed_by c.args.from.now c.args.to.now) c.args.on_from.now c.loop-fact.fact-index c.loop-fact-test.false c.loop-fact.out.items _ c.loop-fact.invariant
