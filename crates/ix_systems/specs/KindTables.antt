-- The table of the facts of one kind: what it says, its order and its rank.
use Rattle.std.specs.Prelude.{ℕ, List}
use Rattle.ix_core.specs.declared.fact.Fact.{Fact}
use Rattle.ix_fact_table.specs.FactTables.{facts_of, table_rank, TableBelow}
use Rattle.ix_systems.specs.declared.facts_of.FactsOf.{FactsOf}

-- the facts of the table
abbrev pub known_facts : {K : Type 0} {g : _} → FactsOf K g → List Fact
known_facts facts = facts_of facts.table

-- A table is below another where it says all that the other says.
abbrev pub FactsBelow : {K : Type 0} {g : _} → FactsOf K g → FactsOf K g → Type 0
FactsBelow low high = TableBelow low.table high.table

abbrev pub facts_rank : {K : Type 0} {g : _} → FactsOf K g → ℕ
facts_rank facts = table_rank facts.table
