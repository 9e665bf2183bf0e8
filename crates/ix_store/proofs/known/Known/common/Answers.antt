use Rattle.ix_facts.proofs.ClosureLaws.{common_closed}
use Rattle.ix_fact_table.specs.FactTables.{facts_of}
use Rattle.ix_store.specs.StoredFacts.{facts_in}
use Rattle.ix_store.proofs.ClosedTests.{closed_of_test}
use Rattle.ix_store.proofs.FullCommon.{common_full}
use Rattle.ix_store.proofs.known.Known.common.Goals as goal

pub with_lists-requires-clause-closed : goal.with_lists-requires-clause-closed
with_lists-requires-clause-closed c =
    let first = c.args.self.now in
    let second = c.args.other.now in
    common_closed (facts_in first) (facts_in second) (facts_of c.in_ok-over.over) (closed_of_test (facts_in first) first.holds.closed) (closed_of_test (facts_in second) second.holds.closed) c.in_ok-over.ensures

pub with_lists-requires-clause-full : goal.with_lists-requires-clause-full
with_lists-requires-clause-full c = common_full (facts_in c.args.self.now) (facts_in c.args.other.now) (facts_of c.in_ok-over.over) c.args.self.now.holds.full c.in_ok-over.ensures
