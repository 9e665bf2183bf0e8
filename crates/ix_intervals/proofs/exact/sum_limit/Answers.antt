use Rattle.std.proofs.Common.{arith, ap, ◌∙◌}
use Rattle.std.specs.Int.{int_min}
use Rattle.ix_facts.specs.Bounds.{best}
use Rattle.ix_facts.specs.Exact as exact
use Rattle.ix_facts.specs.Facts.{in_orders}
use Rattle.ix_intervals.specs.BestLaws.{next_least}
use Rattle.ix_intervals.proofs.exact.sum_limit.Goals as goal

pub loop-a-preserved : goal.loop-a-preserved
loop-a-preserved g c =
    next_least (exact.sum_limit_at (in_orders (g.K.Know.known c.args.know.now)) c.args.y.now c.args.z.now) c.args.arrays.now c.loop-a.a-index _ (omega (arith, c.loop-a-test.true)) c.loop-a.limit c.lesser-limit.result _ (c.lesser-limit.ensures ∙ ap (best int_min c.loop-a.limit) c.sum_limit_at.ensures.value) c.loop-a.invariant
