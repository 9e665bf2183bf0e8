use Rattle.std.proofs.Common.{◌≡◌, drop}
use Rattle.std.specs.Int.{int_min}
use Rattle.ix_facts.specs.Bounds as spec
use Rattle.ix_facts.specs.Exact as exact
use Rattle.ix_facts.specs.Facts.{in_orders}
use Rattle.ix_intervals.proofs.exact.stored_limit.Given as goal

abbrev pub invariant-loop-fact : goal.invariant-loop-fact
invariant-loop-fact g l = spec.best int_min l.limit (spec.least (exact.difference_limit_by (in_orders (g.K.Know.known l.know)) l.y l.z) (drop l.fact-index l.on_left)) ≡ spec.least (exact.difference_limit_by (in_orders (g.K.Know.known l.know)) l.y l.z) l.on_left
