-- The order of stores and their rank.
use Rattle.std.specs.Prelude.{ℕ, ◌*◌, ◌^◌, Option, Some, None}
use Rattle.ix_facts.specs.Stores.{IsBelow}
use Rattle.ix_fact_table.specs.FactTables.{table_rank}
use Rattle.ix_store.specs.declared.known.Known.{Known}
use Rattle.ix_store.specs.declared.store.Store.{Store}
use Rattle.ix_store.specs.StoredFacts.{stored}

-- The first says all that the second says; the unreachable store says everything.
abbrev pub StoreBelow : Store → Store → Type 0
StoreBelow low high = IsBelow (stored low) (stored high)

-- the unreachable store, below all
abbrev pub nowhere : Store
nowhere = record { known = None }

-- more than a table can have: it has fewer than 2^64 facts, and each of the two ends of a fact is an int
abbrev pub top_rank : ℕ
top_rank = (2 ^ 64) * (2 ^ 34)

-- How far a store can still rise.
abbrev pub known_rank : Option Known → ℕ
known_rank None = top_rank
known_rank (Some known) = table_rank known.table

abbrev pub store_rank : Store → ℕ
store_rank store = known_rank store.known
