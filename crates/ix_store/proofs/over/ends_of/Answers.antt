use Rattle.std.proofs.Common.{◌≡◌, ◌≤◌, ◌++◌, sym, subst, length, take}
use Rattle.ix_bounds.specs.Ends.{ends_in}
use Rattle.ix_fact_table.specs.FactTables.{facts_of}
use Rattle.ix_store.specs.Orders.{ordered_by}
use Rattle.ix_store.proofs.OverInts.{front_ends, front_within}
use Rattle.ix_store.proofs.over.ends_of.Goals as goal

pub returns-in-None-clause-within : goal.returns-in-None-clause-within
returns-in-None-clause-within c =
    let parts = c.around_differences.result in
    subst (λ o. length parts.0.now ≤ length (ordered_by (facts_of c.args.table.now) o)) (sym c.in-None.is)
    (subst (λ l. length parts.0.now ≤ length l) (sym c.around_differences.ensures.whole) (front_within parts.0.now (parts.1.now ++ parts.2.now)))

pub returns-in-None-clause-ends : goal.returns-in-None-clause-ends
returns-in-None-clause-ends c =
    let parts = c.around_differences.result in
    subst (λ o. ends_in (take (length parts.0.now) (ordered_by (facts_of c.args.table.now) o)) ≡ ends_in (ordered_by (facts_of c.args.table.now) o)) (sym c.in-None.is)
    (subst (λ l. ends_in (take (length parts.0.now) l) ≡ ends_in l) (sym c.around_differences.ensures.whole) (front_ends parts.0.now (parts.1.now ++ parts.2.now) c.around_differences.ensures.behind))
