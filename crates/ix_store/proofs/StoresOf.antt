-- The table of what follows from facts is the closed list of the facts, and where none of its ranges is empty the facts don't contradict each other.
use Rattle.std.specs.Prelude.{◌≡◌, ◌⊎◌, true, false, ◌||◌, ℤ, ◌≤ℤ◌, ◌<ℤ◌, int_lt, List, [], ◌∷◌, ◌++◌, refl}
use Rattle.std.proofs.Common.{arith, inl, inr, ap, sym, ◌∙◌, subst, ⊎_elim}
use Rattle.std.proofs.lemmas.Bool.{false≢true}
use Rattle.std.proofs.lemmas.Int.{ints}
use Rattle.ix_core.specs.declared.fact.Path.{Path}
use Rattle.ix_core.specs.declared.fact.PathOff.TheVariants.{Nothing, Plus, Minus}
use Rattle.ix_core.specs.declared.fact.Fact.{Fact}
use Rattle.ix_core.specs.declared.fact.Fact.TheVariants.{Rng, LenRng, Low, Same, IsLen, Less, Sum, Search, Neg, Upper}
use Rattle.ix_facts.specs.Facts.{IsIn, Covers, rng, len_rng, orders}
use Rattle.ix_facts.specs.Closure.{Contradicts, IsClosedOf}
use Rattle.ix_facts.specs.Systems.{IsTable}
use Rattle.ix_facts.specs.declared.kind.Kind.{Kind}
use Rattle.ix_facts.specs.declared.kind.Kind.TheVariants as kind
use Rattle.ix_facts.specs.Kinds.{of_kind}
use Rattle.ix_facts.proofs.SystemLaws.{of_any}
use Rattle.ix_facts.specs.Stores.{IsStoreOf, unreachable, reached, Unreachable, Reached}
use Rattle.ix_facts.proofs.FactLists.{from_in_orders}
use Rattle.ix_fact_table.specs.Saturated.{IsSaturated}
use Rattle.ix_fact_table.proofs.RangesMet.{merges_follow}
use Rattle.ix_store.specs.EmptyRanges.{is_empty, some_empty, HasEmpty}
use Rattle.ix_core.proofs.Cases.{by_test}
use Rattle.ix_store.specs.StoreLaws.{each_full}

pub table_closed : (facts more table : List Fact) → IsSaturated facts more → IsTable more table → IsClosedOf facts table
table_closed facts more table is made = record {
  says = λ f k. made.says f (is.says f k);
  only = λ f i. merges_follow facts more is.only f (made.only f i);
  tells = made.tells;
}

-- where a table of facts of any kind gets more of them
pub added_closed : (own : Kind) (known added table : List Fact) → own ≡ kind.Any → IsTable (known ++ of_kind own added) table → (facts : List Fact) → IsSaturated facts (known ++ added) → IsClosedOf facts table
added_closed own known added table is made facts saturated =
    table_closed facts (known ++ added) table saturated (subst (λ l. IsTable (known ++ l) table) (ap (λ k. of_kind k added) is ∙ of_any added) made)

-- a range stands in one order alone
pub range_order : (f g : Fact) (p : Path) (l h : ℤ) → (f ≡ Rng p l h) ⊎ (f ≡ LenRng p l h) → IsIn f (orders g) → g ≡ f
range_order f (Rng q m k) p l h e i = ⊎_elim (λ s. sym s) (λ n. absurd n) i
range_order f (LenRng q m k) p l h e i = ⊎_elim (λ s. sym s) (λ n. absurd n) i
range_order f (Low q c) p l h e i = ⊎_elim (λ s. sym s) (λ n. absurd n) i
range_order f (IsLen q a) p l h e i = ⊎_elim (λ s. sym s) (λ n. absurd n) i
range_order f (Less q r c) p l h e i = ⊎_elim (λ s. sym s) (λ n. absurd n) i
range_order f (Search q a) p l h e i = ⊎_elim (λ s. sym s) (λ n. absurd n) i
range_order f (Neg q a) p l h e i = ⊎_elim (λ s. sym s) (λ n. absurd n) i
range_order f (Same a b) p l h e i = ⊎_elim (λ s. sym s) (λ n. ⊎_elim (λ s. ⊎_elim (λ d. absurd cc) (λ d. absurd cc) e) (λ x. absurd x) n) i
range_order f (Sum t y z) p l h e i = ⊎_elim (λ s. sym s) (λ n. ⊎_elim (λ s. ⊎_elim (λ d. absurd cc) (λ d. absurd cc) e) (λ x. absurd x) n) i
range_order f (Upper q a Nothing c) p l h e i = ⊎_elim (λ s. sym s) (λ n. absurd n) i
range_order f (Upper q a (Plus r) c) p l h e i = ⊎_elim (λ s. sym s) (λ n. ⊎_elim (λ s. ⊎_elim (λ d. absurd cc) (λ d. absurd cc) e) (λ x. absurd x) n) i
range_order f (Upper q a (Minus r) c) p l h e i = ⊎_elim (λ s. sym s) (λ n. absurd n) i

pub covers_rng : (g : Fact) (p : Path) (l h : ℤ) → Covers g (Rng p l h) → (m : ℤ) × (k : ℤ) × (g ≡ Rng p m k) × (l ≤ℤ m) × (k ≤ℤ h)
covers_rng _ p l h (rng _ m k _ _ a b) = (m, k, refl, a, b)

pub covers_len : (g : Fact) (p : Path) (l h : ℤ) → Covers g (LenRng p l h) → (m : ℤ) × (k : ℤ) × (g ≡ LenRng p m k) × (l ≤ℤ m) × (k ≤ℤ h)
covers_len _ p l h (len_rng _ m k _ _ a b) = (m, k, refl, a, b)

pub empty_contradicts : (facts table : List Fact) → IsClosedOf facts table → HasEmpty table → Contradicts facts
empty_contradicts facts table is e = (e.0, e.1, e.2, ⊎_elim (λ i. inl (is.only (Rng e.0 e.1 e.2) i)) (λ i. inr (is.only (LenRng e.0 e.1 e.2) i)) e.3, e.4)

pub contradicts_empty : (facts table : List Fact) → IsClosedOf facts table → Contradicts facts → HasEmpty table
contradicts_empty facts table is c =
    let p = c.0 in
    let l = c.1 in
    let h = c.2 in
    ⊎_elim
    (λ r.
    ⊎_elim
    (λ d. absurd (omega (arith, ints, d.0, d.1, c.4)))
    (λ x.
    let y = covers_rng x.0 p l h x.2 in
    let o = from_in_orders x.0 table x.1 in
    let same : o.0 ≡ x.0 = range_order x.0 o.0 p y.0 y.1 (inl y.2) o.2 in
    (p, y.0, y.1, inl (subst (λ g. IsIn g table) (same ∙ y.2) o.1), omega (arith, ints, y.3, y.4, c.4)))
    (is.says (Rng p l h) r))
    (λ r.
    ⊎_elim
    (λ d. absurd (omega (arith, ints, d.0, d.1, c.4)))
    (λ x.
    let y = covers_len x.0 p l h x.2 in
    let o = from_in_orders x.0 table x.1 in
    let same : o.0 ≡ x.0 = range_order x.0 o.0 p y.0 y.1 (inr y.2) o.2 in
    (p, y.0, y.1, inr (subst (λ g. IsIn g table) (same ∙ y.2) o.1), omega (arith, ints, y.3, y.4, c.4)))
    (is.says (LenRng p l h) r))
    c.3

-- ---- whether a range is empty

one_empty : (f : Fact) (facts : List Fact) → is_empty f ≡ true → IsIn f facts → HasEmpty facts
one_empty (Rng p l h) facts t i = (p, l, h, inl i, grind (arith, ints, t))
one_empty (LenRng p l h) facts t i = (p, l, h, inr i, grind (arith, ints, t))
one_empty (Low p c) facts t i = absurd (false≢true t)
one_empty (Same a b) facts t i = absurd (false≢true t)
one_empty (IsLen p a) facts t i = absurd (false≢true t)
one_empty (Less p q c) facts t i = absurd (false≢true t)
one_empty (Sum x y z) facts t i = absurd (false≢true t)
one_empty (Search p a) facts t i = absurd (false≢true t)
one_empty (Neg p a) facts t i = absurd (false≢true t)
one_empty (Upper p a o c) facts t i = absurd (false≢true t)

found : (facts : List Fact) → some_empty facts ≡ true → (f : Fact) × IsIn f facts × (is_empty f ≡ true)
found [] t = absurd (false≢true t)
found (f ∷ facts) t =
    by_test (is_empty f) (λ u. (f, inl refl, u)) (λ u. let x = found facts (subst (λ b. (b || some_empty facts) ≡ true) u t) in (x.0, inr x.1, x.2))

pub some_has : (facts : List Fact) → some_empty facts ≡ true → HasEmpty facts
some_has facts t = let x = found facts t in one_empty x.0 facts x.2 x.1

empty_range : (p : Path) (l h : ℤ) → h <ℤ l → int_lt h l ≡ true
empty_range p l h x = grind (arith, ints, x)

pub none_has : (facts : List Fact) → some_empty facts ≡ false → ¬ HasEmpty facts
none_has facts n e =
    let p = e.0 in
    let l = e.1 in
    let h = e.2 in
    ⊎_elim
    (λ i. false≢true (sym (each_full facts (Rng p l h) n i) ∙ empty_range p l h e.4))
    (λ i. false≢true (sym (each_full facts (LenRng p l h) n i) ∙ empty_range p l h e.4))
    e.3

-- no other fact is empty
pub ranges_alone : (facts : List Fact) → some_empty (of_kind kind.Range facts) ≡ some_empty facts
ranges_alone [] = refl
ranges_alone (Rng p l h ∷ facts) = ap (λ b. is_empty (Rng p l h) || b) (ranges_alone facts)
ranges_alone (LenRng p l h ∷ facts) = ap (λ b. is_empty (LenRng p l h) || b) (ranges_alone facts)
ranges_alone (Low p c ∷ facts) = ranges_alone facts
ranges_alone (Same a b ∷ facts) = ranges_alone facts
ranges_alone (IsLen p a ∷ facts) = ranges_alone facts
ranges_alone (Less p q c ∷ facts) = ranges_alone facts
ranges_alone (Sum t y z ∷ facts) = ranges_alone facts
ranges_alone (Search p a ∷ facts) = ranges_alone facts
ranges_alone (Neg p a ∷ facts) = ranges_alone facts
ranges_alone (Upper p a o c ∷ facts) = ranges_alone facts

-- ---- the store

pub closed_unreachable : (facts table : List Fact) → IsClosedOf facts table → some_empty table ≡ true → IsStoreOf facts Unreachable
closed_unreachable facts table closed t = unreachable (empty_contradicts facts table closed (some_has table t))

pub closed_reached : (facts table : List Fact) → IsClosedOf facts table → some_empty table ≡ false → IsStoreOf facts (Reached table)
closed_reached facts table closed n = reached table (λ c. none_has table n (contradicts_empty facts table closed c)) closed
