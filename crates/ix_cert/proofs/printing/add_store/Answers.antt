use Rattle.std.proofs.Common.{◌≡◌, [], ◌∷◌, codes, refl, sym, subst}
use Rattle.std.specs.Prelude.{string_bytes}
use Rattle.std.proofs.lemmas.Result.{on_ok_weaker}
use Rattle.ix_facts.specs.Stores.{Unreachable}
use Rattle.ix_store.specs.StoredFacts.{stored}
use Rattle.ix_cert.specs.Adding.{AddsStore}
use Rattle.ix_cert.proofs.printing.add_store.Goals as goal

pub returns-in-None : goal.returns-in-None
returns-in-None c =
    let told = rw c.in-None.is at c.in_ok-facts.ensures.unreachable in
    let none : stored c.args.store.now ≡ Unreachable = told.0 refl in
    on_ok_weaker c.add_unreachable.result
    (λ added. subst (λ store. AddsStore store (string_bytes c.args.text.now) (string_bytes c.add_unreachable.new.text)) (sym none) (record { lines = codes "unreachable" ∷ []; own = refl; added = added }))
    c.add_unreachable.ensures
