use Rattle.std.proofs.Common.{◌≡◌, ◌++◌, subst}
use Rattle.ix_facts.specs.Kinds.{of_kind}
use Rattle.ix_facts.specs.Systems.{IsTable}
use Rattle.ix_fact_table.specs.FactTables.{facts_of, table_kind}
use Rattle.ix_store.specs.StoredFacts.{facts_in}
use Rattle.ix_store.proofs.GrownTables.{at_none, at_some}
use Rattle.ix_store.proofs.KnownStores.{known_says}
use Rattle.ix_store.proofs.closed.with_plain.Goals as goal

pub returns-in-None-clause-same : goal.returns-in-None-clause-same
returns-in-None-clause-same c =
    let known = c.args.known.now in
    let own = table_kind known.table in
    known_says known c.args.new.items (subst (λ l. IsTable (facts_in known ++ of_kind own l) (facts_in known)) c.deref.ensures.value (at_none _ _ c.in-None.is c.in_ok-with_more.ensures.same))

pub completed-requires : goal.completed-requires
completed-requires c =
    let known = c.args.known.now in
    let table = c.in-Some.first in
    let own = table_kind known.table in
    record {
      plain = c.requires.plain;
      kind = at_some _ table (λ t. table_kind t ≡ own) c.in-Some.is c.in_ok-with_more.ensures.kind;
      table = subst (λ l. IsTable (facts_in known ++ of_kind own l) (facts_of table)) c.deref.ensures.value (at_some _ table (λ t. IsTable (facts_in known ++ of_kind own c.deref.result.now) (facts_of t)) c.in-Some.is c.in_ok-with_more.ensures.table);
    }
