use Rattle.std.proofs.Common.{◌≡◌, ◌++◌}
use Rattle.ix_facts.specs.Kinds.{of_kind}
use Rattle.ix_facts.specs.Systems.{IsTable}
use Rattle.ix_fact_table.specs.FactTables.{facts_of, table_kind}
use Rattle.ix_store.proofs.GrownTables.{at_none, at_some}
use Rattle.ix_store.proofs.closed.with_all.Goals as goal

pub returns-in-None-clause-table : goal.returns-in-None-clause-table
returns-in-None-clause-table c = at_none _ _ c.in-None.is c.in_ok-with_more.ensures.same

pub returns-in-Some-clause-table : goal.returns-in-Some-clause-table
returns-in-Some-clause-table c =
    let table = c.args.table in
    at_some _ c.in-Some.whole (λ t. IsTable (facts_of table ++ of_kind (table_kind table) c.args.more.now) (facts_of t)) c.in-Some.is c.in_ok-with_more.ensures.table

pub returns-in-Some-clause-kind : goal.returns-in-Some-clause-kind
returns-in-Some-clause-kind c = at_some _ c.in-Some.whole (λ t. table_kind t ≡ table_kind c.args.table) c.in-Some.is c.in_ok-with_more.ensures.kind
