-- What is kept, tables and own kinds, in the order of what facts say.
use Rattle.std.specs.Prelude.{◌≡◌, ◌⊎◌, Bool, true, false, cond, ℤ, int_lt, List, [], ◌∷◌, ◌++◌, refl}
use Rattle.std.specs.Int.{int_min, int_max}
use Rattle.std.proofs.Common.{inl, inr, ap, sym, ◌∙◌, subst, ⊎_elim}
use Rattle.ix_num.specs.Ints.{least_int, greatest_int}
use Rattle.ix_core.specs.declared.fact.Path.{Path}
use Rattle.ix_core.specs.declared.fact.PathOff.TheVariants.{Nothing, Plus, Minus}
use Rattle.ix_core.specs.declared.fact.Fact.{Fact}
use Rattle.ix_core.specs.declared.fact.Fact.TheVariants.{Rng, LenRng, Low, Same, IsLen, Less, Sum, Search, Neg, Upper}
use Rattle.ix_facts.specs.Facts.{IsIn, orders, is_default}
use Rattle.ix_facts.specs.Closure.{SaysAll, kept_fact, kept}
use Rattle.ix_facts.specs.Exact.{each}
use Rattle.ix_facts.proofs.ClosureLaws.{kept_fact_stronger}
use Rattle.ix_facts.proofs.FormLaws.{first_order}
use Rattle.ix_facts.proofs.SaidLaws.{ByFact, each_says}
use Rattle.ix_facts.proofs.SaidRules.{only}

kept_is_each : (facts : List Fact) → kept facts ≡ each kept_fact facts
kept_is_each [] = refl
kept_is_each (f ∷ facts) = ap (λ l. kept_fact f ++ l) (kept_is_each facts)

KFrom : Fact → Fact → Type 0
KFrom f x = (y : Fact) × IsIn y (orders f) × IsIn x (kept_fact y)

KBack : Fact → Fact → Type 0
KBack f x = (g : Fact) × IsIn g (kept_fact f) × IsIn x (orders g)

-- a fact with one order is kept as a fact with one order
alone_from : (f g x : Fact) → IsIn g (kept_fact f) → x ≡ g → KFrom f x
unfolding KFrom
alone_from f g x i e = (f, first_order f, subst (λ y. IsIn y (kept_fact f)) (sym e) i)

alone_back : (f y x : Fact) → y ≡ f → IsIn x (kept_fact y) → KBack f x
unfolding KBack
alone_back f y x e i = (x, subst (λ z. IsIn x (kept_fact z)) e i, first_order x)

-- one fact or none
one_if : (t : Bool) (h g x : Fact) → orders h ≡ h ∷ [] → IsIn g (cond t [] (h ∷ [])) → IsIn x (orders g) → x ≡ g
one_if true h g x one i j = absurd i
one_if false h g x one i j =
    let e = only h g i in
    only h x (subst (IsIn x) one (subst (λ y. IsIn x (orders y)) e j)) ∙ sym e

plus_if : (t : Bool) (p a q : Path) (c : ℤ) (g x : Fact) → IsIn g (cond t [] (Upper p a (Plus q) c ∷ [])) → IsIn x (orders g) → IsIn x (cond t [] (Upper p a (Plus q) c ∷ [])) ⊎ IsIn x (cond t [] (Upper q a (Plus p) c ∷ []))
plus_if true p a q c g x i j = absurd i
plus_if false p a q c g x i j =
    let k : IsIn x (orders (Upper p a (Plus q) c)) = subst (λ y. IsIn x (orders y)) (only _ g i) j in
    ⊎_elim (λ e. inl (inl e)) (λ l. inr l) k

plus_if_back : (t : Bool) (p a q : Path) (c : ℤ) (x : Fact) → IsIn x (cond t [] (Upper q a (Plus p) c ∷ [])) → (g : Fact) × IsIn g (cond t [] (Upper p a (Plus q) c ∷ [])) × IsIn x (orders g)
plus_if_back true p a q c x i = absurd i
plus_if_back false p a q c x i = (Upper p a (Plus q) c, inl refl, inr i)

keep_from : (f g x : Fact) → IsIn g (kept_fact f) → IsIn x (orders g) → KFrom f x
unfolding KFrom
keep_from (Less p q c) g x i j = alone_from (Less p q c) g x i (one_if (int_lt greatest_int c) (Less p q (int_max c least_int)) g x refl i j)
keep_from (Upper p a Nothing c) g x i j = alone_from (Upper p a Nothing c) g x i (one_if (int_lt c least_int) (Upper p a Nothing (int_min c greatest_int)) g x refl i j)
keep_from (Upper p a (Minus q) c) g x i j = alone_from (Upper p a (Minus q) c) g x i (one_if (int_lt c least_int) (Upper p a (Minus q) (int_min c greatest_int)) g x refl i j)
keep_from (Upper p a (Plus q) c) g x i j =
    ⊎_elim
    (λ k. (Upper p a (Plus q) c, inl refl, k))
    (λ k. (Upper q a (Plus p) c, inr (inl refl), k))
    (plus_if (int_lt c least_int) p a q (int_min c greatest_int) g x i j)
keep_from (Rng p l h) g x i j = alone_from (Rng p l h) g x i (one_if false (Rng p l h) g x refl i j)
keep_from (LenRng p l h) g x i j = alone_from (LenRng p l h) g x i (one_if false (LenRng p l h) g x refl i j)
keep_from (Low p c) g x i j = alone_from (Low p c) g x i (one_if false (Low p c) g x refl i j)
keep_from (IsLen p a) g x i j = alone_from (IsLen p a) g x i (one_if false (IsLen p a) g x refl i j)
keep_from (Search p a) g x i j = alone_from (Search p a) g x i (one_if false (Search p a) g x refl i j)
keep_from (Neg p a) g x i j = alone_from (Neg p a) g x i (one_if false (Neg p a) g x refl i j)
keep_from (Same a b) g x i j =
    let k : IsIn x (orders (Same a b)) = subst (λ y. IsIn x (orders y)) (only _ g i) j in
    ⊎_elim (λ e. (Same a b, inl refl, inl e)) (λ l. (Same b a, inr (inl refl), l)) k
keep_from (Sum t u z) g x i j =
    let k : IsIn x (orders (Sum t u z)) = subst (λ y. IsIn x (orders y)) (only _ g i) j in
    ⊎_elim (λ e. (Sum t u z, inl refl, inl e)) (λ l. (Sum t z u, inr (inl refl), l)) k

keep_back : (f y x : Fact) → IsIn y (orders f) → IsIn x (kept_fact y) → KBack f x
unfolding KBack
keep_back (Less p q c) y x i j = alone_back (Less p q c) y x (only _ y i) j
keep_back (Rng p l h) y x i j = alone_back (Rng p l h) y x (only _ y i) j
keep_back (LenRng p l h) y x i j = alone_back (LenRng p l h) y x (only _ y i) j
keep_back (Low p c) y x i j = alone_back (Low p c) y x (only _ y i) j
keep_back (IsLen p a) y x i j = alone_back (IsLen p a) y x (only _ y i) j
keep_back (Search p a) y x i j = alone_back (Search p a) y x (only _ y i) j
keep_back (Neg p a) y x i j = alone_back (Neg p a) y x (only _ y i) j
keep_back (Upper p a Nothing c) y x i j = alone_back (Upper p a Nothing c) y x (only _ y i) j
keep_back (Upper p a (Minus q) c) y x i j = alone_back (Upper p a (Minus q) c) y x (only _ y i) j
keep_back (Upper p a (Plus q) c) y x i j =
    ⊎_elim
    (λ e. alone_back (Upper p a (Plus q) c) y x e j)
    (λ k. let e = only (Upper q a (Plus p) c) y k in plus_if_back (int_lt c least_int) p a q (int_min c greatest_int) x (subst (λ z. IsIn x (kept_fact z)) e j))
    i
keep_back (Same a b) y x i j =
    ⊎_elim
    (λ e. alone_back (Same a b) y x e j)
    (λ k. let e = only (Same b a) y k in (Same a b, inl refl, inr (subst (λ z. IsIn x (kept_fact z)) e j)))
    i
keep_back (Sum t u z) y x i j =
    ⊎_elim
    (λ e. alone_back (Sum t u z) y x e j)
    (λ k. let e = only (Sum t z u) y k in (Sum t u z, inl refl, inr (subst (λ w. IsIn x (kept_fact w)) e j)))
    i

keep_told : (f x : Fact) → IsIn x (kept_fact f) → is_default x ≡ false → is_default f ≡ false
keep_told (Rng p l h) x i n = ap is_default (sym (only _ x i)) ∙ n
keep_told (LenRng p l h) x i n = ap is_default (sym (only _ x i)) ∙ n
keep_told (Low p c) x i n = refl
keep_told (Same a b) x i n = refl
keep_told (IsLen p a) x i n = refl
keep_told (Less p q c) x i n = refl
keep_told (Sum t u z) x i n = refl
keep_told (Search p a) x i n = refl
keep_told (Neg p a) x i n = refl
keep_told (Upper p a o c) x i n = refl

pub keep_by_fact : ByFact kept_fact
unfolding KFrom KBack
keep_by_fact = record { from = keep_from; back = keep_back; default = keep_told; mono = kept_fact_stronger }

pub kept_says : (strong weak : List Fact) → SaysAll strong weak → SaysAll (kept strong) (kept weak)
kept_says strong weak s = rw (kept_is_each strong, kept_is_each weak) (each_says kept_fact keep_by_fact strong weak s)
