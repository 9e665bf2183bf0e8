use Rattle.std.proofs.Common.{◌≡◌, ◌++◌, drop}
use Rattle.ix_facts.specs.Closure.{kept}
use Rattle.ix_facts.specs.AfterOperation as after
use Rattle.ix_facts.specs.Facts.{in_orders}
use Rattle.ix_facts.specs.Exact.{each}
use Rattle.ix_transfer_rules.proofs.plain.push_halves.Given as goal

abbrev pub invariant-loop-fact : goal.invariant-loop-fact
invariant-loop-fact g l = l.out.items ++ kept (each (after.half_by (in_orders (g.K.Know.known l.know)) l.t l.s) (drop l.fact-index l.on_left)) ≡ l.fn.out.items ++ kept (each (after.half_by (in_orders (g.K.Know.known l.know)) l.t l.s) l.on_left)
