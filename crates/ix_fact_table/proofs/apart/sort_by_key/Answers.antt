use Rattle.std.proofs.Common.{rules}
use Rattle.std.proofs.lemmas.List.Sorted.{answers_always, ranks_by}
use Rattle.std.proofs.lemmas.Result.{on_ok_weaker}
use Rattle.std.specs.Ordering.{is_lt}
use Rattle.ix_core.specs.declared.fact.Fact.{Fact}
use Rattle.ix_fact_table.specs.FactOrder.{fact_cmp, fact_total}
use Rattle.ix_fact_table.proofs.apart.sort_by_key.Goals as goal

-- src/apart.rt
pub returns-clause-sorted : goal.returns-clause-sorted
returns-clause-sorted c =
    on_ok_weaker c.sort_by.result (λ sorted. sorted (λ (f g : Fact). is_lt (fact_cmp f g)) (ranks_by fact_total (λ (f : Fact). f)) (answers_always _ _ _ (λ f a r g h. search rules))) c.sort_by.ensures.sorted
