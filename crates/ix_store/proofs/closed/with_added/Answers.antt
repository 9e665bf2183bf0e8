use Rattle.std.proofs.Common.{◌≡◌, ◌++◌, sym, subst}
use Rattle.ix_facts.specs.Closure.{IsClosedOf}
use Rattle.ix_facts.specs.Kinds.{of_kind}
use Rattle.ix_facts.specs.Systems.{IsTable}
use Rattle.ix_fact_table.specs.FactTables.{facts_of, table_kind}
use Rattle.ix_store.specs.StoredFacts.{facts_in}
use Rattle.ix_store.proofs.GrownTables.{at_none, at_some}
use Rattle.ix_store.proofs.StoresOf.{added_closed}
use Rattle.ix_store.proofs.closed.with_added.Goals as goal

pub returns-in-None-clause-same : goal.returns-in-None-clause-same
returns-in-None-clause-same c =
    let known = c.args.known.now in
    added_closed (table_kind known.table) (facts_in known) c.args.added.now (facts_in known) known.holds.kind (at_none _ _ c.in-None.is c.in_ok-with_more.ensures.same)

pub over_with-requires : goal.over_with-requires
over_with-requires c =
    let known = c.args.known.now in
    let added = c.args.added.now in
    let table = c.in-Some.table in
    let own = table_kind known.table in
    record {
      kind = at_some _ table (λ t. table_kind t ≡ own) c.in-Some.is c.in_ok-with_more.ensures.kind;
      table = at_some _ table (λ t. IsTable (facts_in known ++ of_kind own added) (facts_of t)) c.in-Some.is c.in_ok-with_more.ensures.table;
    }

pub returns-in_ok-over-in-Some-clause-more : goal.returns-in_ok-over-in-Some-clause-more
returns-in_ok-over-in-Some-clause-more c =
    let known = c.args.known.now in
    let added = c.args.added.now in
    let table = c.in-Some.table in
    let own = table_kind known.table in
    let is : IsTable (facts_in known ++ of_kind own added) (facts_of table) = at_some _ table (λ t. IsTable (facts_in known ++ of_kind own added) (facts_of t)) c.in-Some.is c.in_ok-with_more.ensures.table in
    λ facts whole. subst (λ t. IsClosedOf facts (facts_of t)) (sym c.in_ok-over-in-Some.ensures.over) (added_closed own (facts_in known) added (facts_of table) known.holds.kind is facts whole)
