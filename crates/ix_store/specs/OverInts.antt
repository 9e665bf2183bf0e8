-- A table of facts, and paths among which all ints are that its facts name, where this is told.
use Rattle.std.specs.Prelude.{◌≡◌, Bool, IsTrue, List}
use Rattle.ix_core.specs.declared.fact.Path.{Path}
use Rattle.ix_facts.specs.declared.kind.Kind.TheVariants as kind
use Rattle.ix_facts.specs.Exact.{named_ints}
use Rattle.ix_facts.specs.Facts.{in_orders}
use Rattle.ix_fact_paths.specs.NamedLaws.{AreAmong}
use Rattle.ix_fact_paths.specs.PutLaws.{IsRising}
use Rattle.ix_fact_table.specs.declared.fact_table.FactTable.{FactTable}
use Rattle.ix_fact_table.specs.FactTables.{facts_of, table_kind}

pub record IsOver (table : FactTable) (ints : List Path) (told plain : Bool) : Type 0 where
  pub kind : table_kind table ≡ kind.Any
  pub rising : IsRising ints
  pub among : IsTrue told → AreAmong (named_ints (facts_of table)) ints
  pub one_order : IsTrue plain → in_orders (facts_of table) ≡ facts_of table
