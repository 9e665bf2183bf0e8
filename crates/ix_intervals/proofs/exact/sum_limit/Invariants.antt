use Rattle.std.proofs.Common.{◌≡◌, drop}
use Rattle.std.specs.Int.{int_min}
use Rattle.ix_facts.specs.Bounds as spec
use Rattle.ix_facts.specs.Exact as exact
use Rattle.ix_facts.specs.Facts.{in_orders}
use Rattle.ix_intervals.proofs.exact.sum_limit.Given as goal

abbrev pub invariant-loop-a : goal.invariant-loop-a
invariant-loop-a g l = spec.best int_min l.limit (exact.least_at (exact.sum_limit_at (in_orders (g.K.Know.known l.know)) l.y l.z) (drop l.a-index l.arrays)) ≡ exact.least_at (exact.sum_limit_at (in_orders (g.K.Know.known l.know)) l.y l.z) l.arrays
