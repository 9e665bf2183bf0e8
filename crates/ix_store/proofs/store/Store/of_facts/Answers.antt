use Rattle.std.proofs.Common.{◌≡◌, ◌++◌, sym, subst, ap, ◌∙◌}
use Rattle.std.proofs.lemmas.Result.{IfOk-weaker}
use Rattle.ix_facts.specs.Stores.{IsStoreOf}
use Rattle.ix_facts.specs.Systems.{HaveClasses}
use Rattle.ix_store.specs.StoredFacts.{facts_in, stored}
use Rattle.ix_store.proofs.store.Store.of_facts.Goals as goal

pub with_new-requires : goal.with_new-requires
with_new-requires c =
    let told : c.in_ok-told.told.items ≡ c.args.facts.now = c.in_ok-told.ensures.items in
    record { classes = subst HaveClasses (sym told) c.requires.classes }

pub returns : goal.returns
returns c =
    let told = c.in_ok-told.told.items in
    let same : told ≡ c.args.facts.now = c.in_ok-told.ensures.items in
    let all : facts_in c.in_ok-none.none ++ told ≡ c.args.facts.now = ap (λ l. l ++ told) c.in_ok-none.ensures ∙ same in
    record { store = IfOk-weaker c.with_new.result _ _ (λ store made. subst (λ l. IsStoreOf l (stored store)) all made) c.with_new.ensures.store }
