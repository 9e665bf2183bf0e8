use Rattle.std.proofs.Common.{◌≡◌, ◌++◌, ◌≤◌, ◌*◌, drop, length}
use Rattle.std.specs.Vec.{vec_len, vec_capacity}
use Rattle.ix_facts.specs.Facts.{in_orders}
use Rattle.ix_fact_paths.proofs.orders.in_all_orders.Given as goal

abbrev pub invariant-loop-fact : goal.invariant-loop-fact
invariant-loop-fact l = record {
  orders : l.ordered.items ++ in_orders (drop l.fact-index l.facts) ≡ in_orders l.facts;
  short : vec_len l.ordered ≤ 2 * l.fact-index;
  room : 2 * length l.facts ≤ vec_capacity l.ordered;
}
