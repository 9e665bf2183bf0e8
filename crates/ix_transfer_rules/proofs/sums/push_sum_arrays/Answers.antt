use Rattle.std.proofs.Common.{arith}
use Rattle.ix_facts.specs.AfterOperation as after
use Rattle.ix_facts.specs.Facts.{in_orders}
use Rattle.ix_intervals.specs.KeptLaws.{all_paths, next_path}
use Rattle.ix_transfer_rules.proofs.sums.push_sum_arrays.Goals as goal

pub loop-a-preserved : goal.loop-a-preserved
loop-a-preserved g c =
    next_path (after.sum_array (in_orders (g.K.Know.known c.args.know.now)) c.args.t.now c.args.y.now c.args.z.now) c.args.arrays.now c.loop-a.a-index _ (omega (arith, c.loop-a-test.true)) c.loop-a.out.items c.push_sum_array.new.out.items _ c.in_ok-push_sum_array.ensures c.loop-a.invariant

pub returns : goal.returns
returns g c = all_paths (after.sum_array (in_orders (g.K.Know.known c.args.know.now)) c.args.t.now c.args.y.now c.args.z.now) c.args.arrays.now c.loop-a.a-index c.loop-a-test.false c.loop-a.out.items _ c.loop-a.invariant
