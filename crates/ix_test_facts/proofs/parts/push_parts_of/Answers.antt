use Rattle.std.proofs.Common.{arith}
use Rattle.ix_test_facts.specs.OverGroups.{part_of}
use Rattle.ix_intervals.specs.KeptLaws.{all_facts, next_fact}
use Rattle.ix_test_facts.proofs.parts.push_parts_of.Goals as goal

pub loop-fact-preserved : goal.loop-fact-preserved
loop-fact-preserved c = next_fact (part_of c.args.p.now c.args.a.now c.args.e.now) c.args.on_p.now c.loop-fact.fact-index _ (omega (arith, c.loop-fact-test.true)) c.loop-fact.out.items c.push_part.new.out.items _ c.in_ok-push_part.ensures c.loop-fact.invariant

pub returns : goal.returns
returns c = all_facts (part_of c.args.p.now c.args.a.now c.args.e.now) c.args.on_p.now c.loop-fact.fact-index c.loop-fact-test.false c.loop-fact.out.items _ c.loop-fact.invariant
