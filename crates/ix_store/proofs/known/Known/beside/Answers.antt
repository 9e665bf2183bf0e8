use Rattle.std.proofs.Common.{sym, subst, ap, ◌∙◌}
use Rattle.ix_facts.specs.Closure.{Closed}
use Rattle.ix_facts.proofs.ClosedStays.{without_closed}
use Rattle.ix_fact_paths.specs.ChangedPaths.{is_changed}
use Rattle.ix_store.specs.EmptyRanges.{some_empty}
use Rattle.ix_store.specs.StoredFacts.{facts_in}
use Rattle.ix_store.proofs.ClosedTests.{closed_of_test}
use Rattle.ix_store.proofs.KnownStores.{without_full}
use Rattle.ix_store.proofs.known.Known.beside.Goals as goal

pub with_lists-requires-clause-closed : goal.with_lists-requires-clause-closed
with_lists-requires-clause-closed c =
    let known = c.args.self.now in
    subst Closed (sym c.in_ok-over.ensures) (without_closed (is_changed c.args.changed.now) (facts_in known) (closed_of_test (facts_in known) known.holds.closed))

pub with_lists-requires-clause-full : goal.with_lists-requires-clause-full
with_lists-requires-clause-full c =
    let known = c.args.self.now in
    ap some_empty c.in_ok-over.ensures ∙ without_full (is_changed c.args.changed.now) (facts_in known) known.holds.full
