use Rattle.std.proofs.Common.{◌≡◌, sym, subst}
use Rattle.ix_facts.specs.Stores.{Reached, IsStoreOf, IsForgotten}
use Rattle.ix_fact_paths.specs.ChangedPaths.{is_changed}
use Rattle.ix_store.specs.StoredFacts.{facts_in, stored}
use Rattle.ix_store.proofs.KnownStores.{known_store}
use Rattle.ix_store.proofs.store.Store.forget_changed.Goals as goal

pub returns : goal.returns
returns c =
    let i = c.in-Some.is in
    let known = c.in-Some.known in
    let left = c.in_ok-left.left in
    let reached : stored c.args.self.now ≡ Reached (facts_in known) = cc in
    record {
      after = subst (λ s. IsForgotten (is_changed c.args.changed.now) s (Reached (facts_in left))) (sym reached) (subst (λ l. IsStoreOf l (Reached (facts_in left))) c.in_ok-left.ensures (known_store left));
    }
