use Rattle.std.proofs.Common.{◌≡◌, drop}
use Rattle.ix_facts.specs.Facts.{in_orders}
use Rattle.ix_fact_paths.proofs.orders.have_one_order.Given as goal

abbrev pub invariant-loop-fact : goal.invariant-loop-fact
invariant-loop-fact l = in_orders (drop l.fact-index l.facts) ≡ drop l.fact-index l.facts → in_orders l.facts ≡ l.facts
