use Rattle.std.proofs.Common.{arith}
use Rattle.ix_facts.specs.AfterOperation as after
use Rattle.ix_facts.specs.Facts.{in_orders}
use Rattle.ix_intervals.specs.KeptLaws.{all_facts, next_fact}
use Rattle.ix_transfer_rules.proofs.sums.push_sums_beside.Goals as goal

pub loop-fact-preserved : goal.loop-fact-preserved
loop-fact-preserved g c =
    next_fact (after.sum_beside (in_orders (g.K.Know.known c.args.know.now)) c.args.t.now c.args.y.now c.args.z.now) c.args.on_left.now c.loop-fact.fact-index _ (omega (arith, c.loop-fact-test.true)) c.loop-fact.out.items c.push_sum_beside.new.out.items _ c.in_ok-push_sum_beside.ensures c.loop-fact.invariant

pub returns : goal.returns
returns g c = all_facts (after.sum_beside (in_orders (g.K.Know.known c.args.know.now)) c.args.t.now c.args.y.now c.args.z.now) c.args.on_left.now c.loop-fact.fact-index c.loop-fact-test.false c.loop-fact.out.items _ c.loop-fact.invariant
