use Rattle.std.proofs.Common.{◌≡◌, ◌<◌, length, get_or, rules, subst}
use Rattle.std.specs.declared.cmp.Ordering.TheVariants.{Equal}
use Rattle.std.proofs.lemmas.Fn.{always_returns_same}
use Rattle.ix_core.specs.declared.fact.Fact.{Fact}
use Rattle.ix_fact_table.specs.FactOrder.{fact_cmp}
use Rattle.ix_fact_table.proofs.PutFacts.{put_at_key, put_at_gap}
use Rattle.ix_fact_table.proofs.insertion.put.Goals as goal

pub returns-in-Ok : goal.returns-in-Ok
returns-in-Ok c =
    let fact = c.args.fact.now in
    let place = c.in-Ok.place in
    let is = c.deref.ensures.value in
    let same = c.in-Ok.ensures.position (λ other. fact_cmp other fact) (always_returns_same _ _ _ (λ a r next called. search rules)) in
    let all = put_at_key c.args.facts.now.items fact c.requires.rises place c.index.result.now
    (subst (λ l. place < length l) is c.in-Ok.ensures.bound) c.index.ensures (subst (λ l. (d : Fact) → fact_cmp (get_or l place d) fact ≡ Equal) is same) in
    rw c.met.ensures (record { both = all.0; rises = all.1 })

pub returns-in_ok-insert-in-Err : goal.returns-in_ok-insert-in-Err
returns-in_ok-insert-in-Err c =
    let fact = c.args.fact.now in
    let place = c.in-Err.place in
    let parted = c.in-Err.ensures.position (λ other. fact_cmp other fact) (always_returns_same _ _ _ (λ a r next called. search rules)) in
    let all = put_at_gap c.args.facts.now.items fact c.requires.rises _ place c.deref.ensures.value parted in
    rw c.in_ok-insert-in-Err.ensures.items (record { both = all.0; rises = all.1 })
