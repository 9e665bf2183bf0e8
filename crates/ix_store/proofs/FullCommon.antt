-- A range that both of two lists say isn't empty, where one of them has no empty range.
use Rattle.std.specs.Prelude.{◌≡◌, false, int_lt, List, [], ◌∷◌, refl}
use Rattle.std.proofs.Common.{arith, inl, inr, ◌∙◌, subst, ⊎_elim}
use Rattle.std.proofs.lemmas.Int.{ints}
use Rattle.ix_core.specs.declared.fact.Fact.{Fact}
use Rattle.ix_core.specs.declared.fact.Fact.TheVariants.{Rng, LenRng, Low, Same, IsLen, Less, Sum, Search, Neg, Upper}
use Rattle.ix_facts.specs.Facts.{IsIn}
use Rattle.ix_facts.specs.Closure.{Said, IsCommon}
use Rattle.ix_facts.proofs.FactLists.{from_in_orders}
use Rattle.ix_store.specs.EmptyRanges.{is_empty, some_empty}
use Rattle.ix_store.specs.StoreLaws.{each_full}
use Rattle.ix_store.proofs.StoresOf.{covers_rng, covers_len, range_order}

-- what a list without empty ranges says is no empty range
said_full : (facts : List Fact) (f : Fact) → some_empty facts ≡ false → Said facts f → is_empty f ≡ false
said_full facts (Rng p l h) n said =
    ⊎_elim
    (λ d. let a = d.0 in let b = d.1 in grind (arith, ints, a, b))
    (λ x.
    let y = covers_rng x.0 p l h x.2 in
    let o = from_in_orders x.0 facts x.1 in
    let same : o.0 ≡ x.0 = range_order x.0 o.0 p y.0 y.1 (inl y.2) o.2 in
    let full : int_lt y.1 y.0 ≡ false = subst (λ g. is_empty g ≡ false) (same ∙ y.2) (each_full facts o.0 n o.1) in
    let low = y.3 in
    let high = y.4 in
    grind (arith, ints, full, low, high))
    said
said_full facts (LenRng p l h) n said =
    ⊎_elim
    (λ d. let a = d.0 in let b = d.1 in grind (arith, ints, a, b))
    (λ x.
    let y = covers_len x.0 p l h x.2 in
    let o = from_in_orders x.0 facts x.1 in
    let same : o.0 ≡ x.0 = range_order x.0 o.0 p y.0 y.1 (inr y.2) o.2 in
    let full : int_lt y.1 y.0 ≡ false = subst (λ g. is_empty g ≡ false) (same ∙ y.2) (each_full facts o.0 n o.1) in
    let low = y.3 in
    let high = y.4 in
    grind (arith, ints, full, low, high))
    said
said_full facts (Low p c) n said = refl
said_full facts (Same a b) n said = refl
said_full facts (IsLen p a) n said = refl
said_full facts (Less p q c) n said = refl
said_full facts (Sum t y z) n said = refl
said_full facts (Search p a) n said = refl
said_full facts (Neg p a) n said = refl
said_full facts (Upper p a o c) n said = refl

all_full : (facts : List Fact) → ((f : Fact) → IsIn f facts → is_empty f ≡ false) → some_empty facts ≡ false
all_full [] h = refl
all_full (f ∷ facts) h = rw (h f (inl refl)) (all_full facts (λ g i. h g (inr i)))

pub common_full : (first second common : List Fact) → some_empty first ≡ false → IsCommon first second common → some_empty common ≡ false
common_full first second common n is = all_full common (λ f i. said_full first f n (is.left f i))
