use Rattle.std.proofs.Common.{arith}
use Rattle.std.specs.Prelude.{pos, ◌+ℤ◌, ◌-ℤ◌}
use Rattle.ix_facts.specs.AfterTest.{bound_moved}
use Rattle.ix_intervals.specs.KeptLaws.{all_facts, next_fact}
use Rattle.ix_test_facts.proofs.bounds.push_bounds_moved.Goals as goal

pub loop-fact-preserved : goal.loop-fact-preserved
loop-fact-preserved c = next_fact (bound_moved c.args.r.now (c.args.c.now +ℤ c.args.k.now -ℤ pos 2) c.args.q.now) c.args.on_q.now c.loop-fact.fact-index _ (omega (arith, c.loop-fact-test.true)) c.loop-fact.out.items c.push_bound_moved.new.out.items _ c.in_ok-push_bound_moved.ensures c.loop-fact.invariant

pub returns : goal.returns
returns c = all_facts (bound_moved c.args.r.now (c.args.c.now +ℤ c.args.k.now -ℤ pos 2) c.args.q.now) c.args.on_q.now c.loop-fact.fact-index c.loop-fact-test.false c.loop-fact.out.items _ c.loop-fact.invariant
