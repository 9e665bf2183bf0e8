use Rattle.std.proofs.Common.{arith}
use Rattle.ix_test_facts.specs.OverGroups.{parts_by}
use Rattle.ix_intervals.specs.KeptLaws.{all_facts, next_fact}
use Rattle.ix_test_facts.proofs.parts.push_parts.Goals as goal

pub loop-bound-preserved : goal.loop-bound-preserved
loop-bound-preserved c = next_fact (parts_by c.args.p.now c.args.on_p.now) c.args.bounds.now c.loop-bound.bound-index _ (omega (arith, c.loop-bound-test.true)) c.loop-bound.out.items c.push_parts_by.new.out.items _ c.in_ok-push_parts_by.ensures c.loop-bound.invariant

pub returns : goal.returns
returns c = all_facts (parts_by c.args.p.now c.args.on_p.now) c.args.bounds.now c.loop-bound.bound-index c.loop-bound-test.false c.loop-bound.out.items _ c.loop-bound.invariant
