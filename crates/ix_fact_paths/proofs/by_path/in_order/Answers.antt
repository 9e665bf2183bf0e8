use Rattle.std.proofs.Common.{rules, subst}
use Rattle.std.specs.List.Sorted.{IsStableByKey, IsSortedByKey}
use Rattle.std.proofs.lemmas.List.Sorted.{answers_always}
use Rattle.ix_core.specs.declared.fact.Path.{Path}
use Rattle.ix_core.specs.declared.fact.Fact.{Fact}
use Rattle.ix_facts.specs.PathOrder.{path_cmp}
use Rattle.ix_fact_paths.proofs.PathTies.{stable_about}
use Rattle.ix_fact_paths.proofs.by_path.in_order.Goals as goal

pub returns-clause-about : goal.returns-clause-about
returns-clause-about c = λ p.
    let key = λ (e : Path × Fact). e.0 in
    let by_derived = c.in_ok-sort_by_key.ensures.stable key (answers_always _ _ _ (λ f a r next called. search rules)) in
    let stable : IsStableByKey key path_cmp c.args.entries.items c.sort_by_key.new.self.items = subst (λ cmp. IsStableByKey key cmp c.args.entries.items c.sort_by_key.new.self.items) c.path_order_laws.ensures.order by_derived in
    stable_about c.path_order_laws.ensures.equal c.path_order_laws.ensures.total c.sort_by_key.new.self.items c.args.entries.items stable p

pub returns-clause-sorted : goal.returns-clause-sorted
returns-clause-sorted c =
    let key = λ (e : Path × Fact). e.0 in
    subst (λ cmp. IsSortedByKey key cmp c.sort_by_key.new.self.items) c.path_order_laws.ensures.order (c.in_ok-sort_by_key.ensures.sorted key (answers_always _ _ _ (λ f a r next called. search rules)))
