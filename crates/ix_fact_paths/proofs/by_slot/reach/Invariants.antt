use Rattle.std.proofs.Common.{◌≡◌, ◌+◌, ◌≤◌, ℕ, get_or, length, []}
use Rattle.std.specs.Vec.{vec_capacity}
use Rattle.ix_fact_paths.proofs.by_slot.reach.Given as goal

abbrev pub invariant-loop : goal.invariant-loop
invariant-loop l = record {
  long : length l.near.items ≡ l.counter;
  room : l.place + 1 ≤ vec_capacity l.near;
  same : (at : ℕ) → get_or l.near.items at [] ≡ get_or l.fn.near.items at [];
}
