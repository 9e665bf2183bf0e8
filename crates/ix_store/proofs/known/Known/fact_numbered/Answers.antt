use Rattle.std.specs.Prelude.{pos, slice_get, Some}
use Rattle.std.proofs.Common.{◌≡◌, get_or, sym, subst}
use Rattle.std.proofs.lemmas.Option.{slice_get-get_or}
use Rattle.ix_core.specs.declared.fact.Path.TheVariants.{Slot}
use Rattle.ix_core.specs.declared.fact.Fact.TheVariants.{Rng}
use Rattle.ix_store.specs.StoredFacts.{facts_in}
use Rattle.ix_store.proofs.known.Known.fact_numbered.Goals as goal

pub returns : goal.returns
returns c =
    let facts = facts_in c.args.self.now in
    let none = Rng (Slot 0) (pos 0) (pos 0) in
    record { fact = subst (λ l. slice_get facts c.args.k ≡ Some (get_or l c.args.k none)) (sym c.as_slice.ensures.facts) (slice_get-get_or facts c.args.k none c.requires.number) }
