-- The facts of a store.
use Rattle.std.specs.Prelude.{List, []}
use Rattle.ix_core.specs.declared.fact.Fact.{Fact}
use Rattle.ix_facts.specs.Stores.{Stored, Unreachable, Reached}
use Rattle.ix_store.specs.declared.store.Store.{Store}
use Rattle.ix_store.specs.StoredFacts.{stored}

-- none where no state is at the place
abbrev pub facts_or_none : Stored → List Fact
facts_or_none Unreachable = []
facts_or_none (Reached facts) = facts

abbrev pub facts_seen : Store → List Fact
facts_seen store = facts_or_none (stored store)
