use Rattle.std.proofs.Common.{ap, sym, subst}
use Rattle.ix_facts.specs.Closure.{Closed}
use Rattle.ix_store.specs.EmptyRanges.{some_empty}
use Rattle.ix_store.proofs.NoFacts.{closed_none}
use Rattle.ix_store.proofs.known.Known.none.Goals as goal

pub with_lists-requires-clause-closed : goal.with_lists-requires-clause-closed
with_lists-requires-clause-closed c = subst Closed (sym c.new-table.ensures.empty) closed_none

pub with_lists-requires-clause-full : goal.with_lists-requires-clause-full
with_lists-requires-clause-full c = ap some_empty c.new-table.ensures.empty
