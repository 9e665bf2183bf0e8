-- Of no facts nothing follows but what is said of every path, so their closed store has none.
use Rattle.std.specs.Prelude.{◌≡◌, false, List, [], ◌∷◌, refl}
use Rattle.std.proofs.Common.{arith, inl, sym, ap, ◌∙◌, ⊎_elim}
use Rattle.std.proofs.lemmas.Bool.{false≢true}
use Rattle.std.proofs.lemmas.Int.{ints}
use Rattle.ix_core.specs.declared.fact.Fact.{Fact}
use Rattle.ix_core.specs.declared.fact.Fact.TheVariants.{Rng, LenRng}
use Rattle.ix_facts.specs.Facts.{IsIn, is_default}
use Rattle.ix_facts.specs.Closure.{Default, Closed, Contradicts}
use Rattle.ix_facts.specs.Stores.{Stored, IsStoreOf, unreachable, reached, Reached}
use Rattle.ix_facts.proofs.SaidLaws.{default_is}
use Rattle.ix_facts.proofs.StoreSamples.{nothing_follows}

pub closed_none : Closed []
closed_none f follows = inl (nothing_follows f follows)

no_contradiction : Contradicts [] → ⊥
no_contradiction c =
    let e = c.4 in
    ⊎_elim
    (λ r. let d = nothing_follows (Rng c.0 c.1 c.2) r in let a = d.0 in let b = d.1 in omega (arith, ints))
    (λ r. let d = nothing_follows (LenRng c.0 c.1 c.2) r in let a = d.0 in let b = d.1 in omega (arith, ints))
    c.3

none_closed : (closed : List Fact) → ((f : Fact) → IsIn f closed → Default f) → ((f : Fact) → IsIn f closed → is_default f ≡ false) → closed ≡ []
none_closed [] only tells = refl
none_closed (f ∷ facts) only tells = absurd (false≢true (sym (tells f (inl refl)) ∙ default_is f (only f (inl refl))))

pub store_of_none : (s : Stored) → IsStoreOf [] s → s ≡ Reached []
store_of_none _ (unreachable c) = absurd (no_contradiction c)
store_of_none _ (reached closed n is) = ap Reached (none_closed closed (λ f i. nothing_follows f (is.only f i)) is.tells)
