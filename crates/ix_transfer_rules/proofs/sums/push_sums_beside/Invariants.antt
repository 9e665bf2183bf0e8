use Rattle.std.proofs.Common.{◌≡◌, ◌++◌, drop}
use Rattle.ix_facts.specs.Closure.{kept}
use Rattle.ix_facts.specs.AfterOperation as after
use Rattle.ix_facts.specs.Facts.{in_orders}
use Rattle.ix_facts.specs.Exact.{each}
use Rattle.ix_transfer_rules.proofs.sums.push_sums_beside.Given as goal

abbrev pub invariant-loop-fact : goal.invariant-loop-fact
invariant-loop-fact g l = l.out.items ++ kept (each (after.sum_beside (in_orders (g.K.Know.known l.know)) l.t l.y l.z) (drop l.fact-index l.on_left)) ≡ l.fn.out.items ++ kept (each (after.sum_beside (in_orders (g.K.Know.known l.know)) l.t l.y l.z) l.on_left)
