-- When a list of facts, as anyone may write it down, is all that a store says: nothing more follows from it, and it has each thing once.
use Rattle.std.specs.Prelude.{◌≡◌, true, List}
use Rattle.std.specs.List.{list_all}
use Rattle.ix_core.specs.declared.fact.Fact.{Fact}
use Rattle.ix_facts.specs.Stores.{IsClosedStore, Reached}
use Rattle.ix_fact_table.specs.Apart.{AreApart, is_proper}

-- The facts, in any order, each once, are all facts of a store.
pub record AreAStore (facts : List Fact) : Type 0 where
  pub proper : list_all is_proper facts ≡ true
  pub apart : AreApart facts
  pub closed : IsClosedStore (Reached facts)
