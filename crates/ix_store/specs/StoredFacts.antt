-- A store as facts, or none.
use Rattle.std.specs.Prelude.{List, Option, Some, None}
use Rattle.ix_core.specs.declared.fact.Fact.{Fact}
use Rattle.ix_facts.specs.Stores.{Stored, Unreachable, Reached}
use Rattle.ix_fact_table.specs.FactTables.{facts_of}
use Rattle.ix_store.specs.declared.known.Known.{Known}
use Rattle.ix_store.specs.declared.store.Store.{Store}

abbrev pub facts_in : Known → List Fact
facts_in known = facts_of known.table

-- no facts: the place is unreachable
abbrev pub stored_in : Option Known → Stored
stored_in None = Unreachable
stored_in (Some known) = Reached (facts_in known)

abbrev pub stored : Store → Stored
stored store = stored_in store.known
