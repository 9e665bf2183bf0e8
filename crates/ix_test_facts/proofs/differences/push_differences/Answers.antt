use Rattle.std.proofs.Common.{arith}
use Rattle.ix_facts.specs.Exact.{each}
use Rattle.ix_facts.specs.AfterTest.{below_by, above_by}
use Rattle.ix_test_facts.specs.OverGroups.{between}
use Rattle.ix_intervals.specs.KeptLaws.{all_facts, next_fact}
use Rattle.ix_test_facts.proofs.differences.push_differences.Goals as goal

pub loop-fact-preserved : goal.loop-fact-preserved
loop-fact-preserved c = next_fact (below_by (λ r n. each (above_by (between c.args.k.now r n) c.args.q.now) c.args.above.now) c.args.p.now) c.args.below.now c.loop-fact.fact-index _ (omega (arith, c.loop-fact-test.true)) c.loop-fact.out.items c.push_from_by.new.out.items _ c.in_ok-push_from_by.ensures c.loop-fact.invariant

pub returns : goal.returns
returns c = all_facts (below_by (λ r n. each (above_by (between c.args.k.now r n) c.args.q.now) c.args.above.now) c.args.p.now) c.args.below.now c.loop-fact.fact-index c.loop-fact-test.false c.loop-fact.out.items _ c.loop-fact.invariant
