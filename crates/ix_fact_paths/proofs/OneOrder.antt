-- Facts that have one order each stand in all their orders as they are, and no others do.
use Rattle.std.specs.Prelude.{◌≡◌, ℕ, zero, suc, ◌<◌, ◌≤◌, ◌+◌, false, cond, List, [], ◌∷◌, ◌++◌, length, drop, slice_index_or, refl}
use Rattle.std.proofs.Common.{add-one, arith, ap, sym, ◌∙◌, subst}
use Rattle.std.proofs.lemmas.List.{length-append}
use Rattle.std.proofs.Math.Seq.{drop-cons}
use Rattle.ix_core.specs.declared.fact.PathOff.TheVariants.{Nothing, Plus, Minus}
use Rattle.ix_core.specs.declared.fact.Fact.{Fact}
use Rattle.ix_core.specs.declared.fact.Fact.TheVariants.{Rng, LenRng, Low, Same, IsLen, Less, Sum, Search, Neg, Upper}
use Rattle.ix_core.proofs.Cases.{by_test}
use Rattle.ix_facts.specs.Facts.{orders, is_default, in_orders}

pub orders_first : (f : Fact) (rest : List Fact) → in_orders (f ∷ rest) ≡ cond (is_default f) [] (orders f) ++ in_orders rest
orders_first f rest = by_test (is_default f) (λ t. rw t refl) (λ t. rw t refl)

one_more : (f : Fact) (facts : List Fact) → is_default f ≡ false → orders f ≡ f ∷ [] → in_orders facts ≡ facts → in_orders (f ∷ facts) ≡ f ∷ facts
one_more f facts tells one same = rw tells (ap (λ l. l ++ in_orders facts) one ∙ ap (λ l. f ∷ l) same)

pub one_further : (facts : List Fact) (k : ℕ) (d : Fact) → k < length facts → is_default (slice_index_or facts k d) ≡ false → orders (slice_index_or facts k d) ≡ slice_index_or facts k d ∷ []
    → in_orders (drop (k + 1) facts) ≡ drop (k + 1) facts → in_orders (drop k facts) ≡ drop k facts
one_further facts k d h tells one same =
    let at : drop k facts ≡ slice_index_or facts k d ∷ drop (k + 1) facts = rw add-one (drop-cons facts k d h) in
    subst (λ l. in_orders l ≡ l) (sym at) (one_more (slice_index_or facts k d) (drop (k + 1) facts) tells one same)

-- ---- and no others do: a fact that has two orders makes the list longer

abbrev AllTold : List Fact → Type 0
AllTold [] = Unit {0}
AllTold (f ∷ facts) = (is_default f ≡ false) × AllTold facts

told_orders : (f : Fact) → is_default f ≡ false → AllTold (orders f)
told_orders (Rng p l h) t = (t, tt)
told_orders (LenRng a l h) t = (t, tt)
told_orders (Low p c) t = (t, tt)
told_orders (Same a b) t = (t, (t, tt))
told_orders (IsLen p a) t = (t, tt)
told_orders (Less p q c) t = (t, tt)
told_orders (Sum x y z) t = (t, (t, tt))
told_orders (Search p a) t = (t, tt)
told_orders (Neg p a) t = (t, tt)
told_orders (Upper p a Nothing c) t = (t, tt)
told_orders (Upper p a (Plus q) c) t = (t, (t, tt))
told_orders (Upper p a (Minus q) c) t = (t, tt)

told_both : (first second : List Fact) → AllTold first → AllTold second → AllTold (first ++ second)
told_both [] second t u = u
told_both (f ∷ first) second t u = (t.0, told_both first second t.1 u)

told_all : (facts : List Fact) → AllTold (in_orders facts)
told_all [] = tt
told_all (f ∷ facts) = by_test (is_default f) (λ t. rw t (told_all facts)) (λ t. rw t (told_both (orders f) (in_orders facts) (told_orders f t) (told_all facts)))

some_order : (f : Fact) → 1 ≤ length (orders f)
some_order (Rng p l h) = omega arith
some_order (LenRng a l h) = omega arith
some_order (Low p c) = omega arith
some_order (Same a b) = omega arith
some_order (IsLen p a) = omega arith
some_order (Less p q c) = omega arith
some_order (Sum x y z) = omega arith
some_order (Search p a) = omega arith
some_order (Neg p a) = omega arith
some_order (Upper p a Nothing c) = omega arith
some_order (Upper p a (Plus q) c) = omega arith
some_order (Upper p a (Minus q) c) = omega arith

no_shorter : (facts : List Fact) → AllTold facts → length facts ≤ length (in_orders facts)
no_shorter [] told = omega arith
no_shorter (f ∷ facts) told =
    let own = some_order f in
    let rest = no_shorter facts told.1 in
    let both = length-append (orders f) (in_orders facts) in
    rw told.0 (omega (arith, own, rest, both))

longer : (facts : List Fact) (k : ℕ) (d : Fact) → AllTold facts → k < length facts → 2 ≤ length (orders (slice_index_or facts k d)) → length facts < length (in_orders facts)
longer [] k d told h two = absurd (omega (arith, h))
longer (f ∷ facts) zero d told h two =
    let rest = no_shorter facts told.1 in
    let both = length-append (orders f) (in_orders facts) in
    rw told.0 (omega (arith, two, rest, both))
longer (f ∷ facts) (suc k) d told h two =
    let own = some_order f in
    let rest = longer facts k d told.1 (omega (arith, h)) two in
    let both = length-append (orders f) (in_orders facts) in
    rw told.0 (omega (arith, own, rest, both))

told_at : (facts : List Fact) (k : ℕ) (d : Fact) → AllTold facts → k < length facts → is_default (slice_index_or facts k d) ≡ false
told_at [] k d told h = absurd (omega (arith, h))
told_at (f ∷ facts) zero d told h = told.0
told_at (f ∷ facts) (suc k) d told h = told_at facts k d told.1 (omega (arith, h))

pub not_same : (facts : List Fact) (k : ℕ) (d : Fact) → k < length facts → (is_default (slice_index_or facts k d) ≡ false → length (orders (slice_index_or facts k d)) ≡ 2) → in_orders facts ≡ facts → ⊥
not_same facts k d h two same =
    let told : AllTold facts = subst AllTold same (told_all facts) in
    let here = two (told_at facts k d told h) in
    let more = longer facts k d told h (omega (arith, here)) in
    let long = ap length same in
    omega (arith, more, long)
