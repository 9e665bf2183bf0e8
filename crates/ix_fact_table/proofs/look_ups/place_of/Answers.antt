use Rattle.std.proofs.Common.{rules}
use Rattle.std.proofs.lemmas.Fn.{always_returns_same}
use Rattle.ix_fact_table.specs.FactOrder.{fact_cmp}
use Rattle.ix_fact_table.proofs.KeySearches.{found_at, none_at}
use Rattle.ix_fact_table.proofs.look_ups.place_of.Goals as goal

pub returns-in-Ok-clause-found : goal.returns-in-Ok-clause-found
returns-in-Ok-clause-found c =
    let by_key = c.in-Ok.ensures.position (λ fact. fact_cmp fact c.args.key.now) (always_returns_same _ _ _ (λ a r next called. search rules)) in
    (c.in-Ok.ensures.bound, found_at c.args.facts.now c.args.key.now c.in-Ok.place by_key)

pub returns-in-Err-clause-none : goal.returns-in-Err-clause-none
returns-in-Err-clause-none c =
    let by_key = c.in-Err.ensures.position (λ fact. fact_cmp fact c.args.key.now) (always_returns_same _ _ _ (λ a r next called. search rules)) in
    none_at c.args.facts.now c.args.key.now c.in-Err.field-0 c.requires.rises by_key
