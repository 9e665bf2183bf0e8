use Rattle.std.proofs.Common.{◌≡◌, ◌++◌, ◌≤◌, map, drop, length}
use Rattle.std.specs.Vec.{vec_len, vec_capacity}
use Rattle.ix_fact_table.specs.Entries.{in_first_order}
use Rattle.ix_fact_table.proofs.apart.first_orders.Given as goal

abbrev pub invariant-loop-fact : goal.invariant-loop-fact
invariant-loop-fact l = record {
  keys : l.keys.items ++ map in_first_order (drop l.fact-index l.facts) ≡ map in_first_order l.facts;
  short : vec_len l.keys ≡ l.fact-index;
  room : length l.facts ≤ vec_capacity l.keys;
}
