-- Lists with the same members give the same best number.
use Rattle.std.specs.Prelude.{◌≡◌, ℤ, Option, Some, None, List, [], ◌∷◌, refl}
use Rattle.std.specs.Int.{int_min, int_max}
use Rattle.std.proofs.Common.{inl, inr, ap, sym, ◌∙◌, arith, ⊎_elim}
use Rattle.std.proofs.lemmas.Int.{ints, clamps}
use Rattle.ix_core.specs.declared.fact.Path.{Path}
use Rattle.ix_core.specs.declared.fact.Fact.{Fact}
use Rattle.ix_facts.specs.Facts.{IsIn}
use Rattle.ix_facts.specs.Bounds.{best, best_of}
use Rattle.ix_facts.specs.Exact.{least_at}
use Rattle.ix_facts.specs.Named.{IsAmongPaths, IsEachOnce}
use Rattle.ix_facts.specs.SameFacts.{HasAll, AreSame}
use Rattle.ix_intervals.specs.BestLaws.{min_joined, max_joined}

pub record Better (better : ℤ → ℤ → ℤ) : Type 0 where
  pub joined : (x y z : ℤ) → better (better x y) z ≡ better x (better y z)
  pub turned : (x y : ℤ) → better x y ≡ better y x
  pub twice : (x : ℤ) → better x x ≡ x

min_turned : (x y : ℤ) → int_min x y ≡ int_min y x
min_turned x y = omega (arith, ints, clamps)

min_twice : (x : ℤ) → int_min x x ≡ x
min_twice x = omega (arith, ints, clamps)

max_turned : (x y : ℤ) → int_max x y ≡ int_max y x
max_turned x y = omega (arith, ints, clamps)

max_twice : (x : ℤ) → int_max x x ≡ x
max_twice x = omega (arith, ints, clamps)

pub lesser : Better int_min
lesser = record { joined = min_joined; turned = min_turned; twice = min_twice }

pub greater : Better int_max
greater = record { joined = max_joined; turned = max_turned; twice = max_twice }

best_joined : (b : ℤ → ℤ → ℤ) → Better b → (x y z : Option ℤ) → best b (best b x y) z ≡ best b x (best b y z)
best_joined b h None y z = refl
best_joined b h (Some x) None z = refl
best_joined b h (Some x) (Some y) None = refl
best_joined b h (Some x) (Some y) (Some z) = ap Some (h.joined x y z)

best_turned : (b : ℤ → ℤ → ℤ) → Better b → (x y : Option ℤ) → best b x y ≡ best b y x
best_turned b h None None = refl
best_turned b h None (Some y) = refl
best_turned b h (Some x) None = refl
best_turned b h (Some x) (Some y) = ap Some (h.turned x y)

best_twice : (b : ℤ → ℤ → ℤ) → Better b → (x : Option ℤ) → best b x x ≡ x
best_twice b h None = refl
best_twice b h (Some x) = ap Some (h.twice x)

-- a number that is at hand already, first and later
first_in : (b : ℤ → ℤ → ℤ) → Better b → (x rest : Option ℤ) → best b x (best b x rest) ≡ best b x rest
first_in b h x rest = sym (best_joined b h x x rest) ∙ ap (λ v. best b v rest) (best_twice b h x)

later_in : (b : ℤ → ℤ → ℤ) → Better b → (x y rest : Option ℤ) → best b x rest ≡ rest → best b x (best b y rest) ≡ best b y rest
later_in b h x y rest e =
    sym (best_joined b h x y rest) ∙ (ap (λ v. best b v rest) (best_turned b h x y) ∙ (best_joined b h y x rest ∙ ap (best b y) e))

-- ---- over facts

fact_in : (b : ℤ → ℤ → ℤ) → Better b → (by : Fact → Option ℤ) (facts : List Fact) (x : Fact) → IsIn x facts → best b (by x) (best_of b by facts) ≡ best_of b by facts
fact_in b h by [] x i = absurd i
fact_in b h by (y ∷ facts) x i =
    ⊎_elim
    (λ e. ap (λ z. best b (by z) (best b (by y) (best_of b by facts))) e ∙ first_in b h (by y) (best_of b by facts))
    (λ j. later_in b h (by x) (by y) (best_of b by facts) (fact_in b h by facts x j))
    i

facts_in : (b : ℤ → ℤ → ℤ) → Better b → (by : Fact → Option ℤ) (facts more : List Fact) → HasAll facts more → best b (best_of b by facts) (best_of b by more) ≡ best_of b by more
facts_in b h by [] more k = refl
facts_in b h by (x ∷ facts) more k =
    best_joined b h (by x) (best_of b by facts) (best_of b by more)
    ∙ (ap (best b (by x)) (facts_in b h by facts more (λ f i. k f (inr i))) ∙ fact_in b h by more x (k x (inl refl)))

pub same_best : (b : ℤ → ℤ → ℤ) → Better b → (by : Fact → Option ℤ) (facts others : List Fact) → AreSame facts others → best_of b by facts ≡ best_of b by others
same_best b h by facts others k =
    sym (facts_in b h by others facts k.back) ∙ (best_turned b h (best_of b by others) (best_of b by facts) ∙ facts_in b h by facts others k.there)

-- ---- over paths

path_in : (by : Path → Option ℤ) (paths : List Path) (x : Path) → IsAmongPaths x paths → best int_min (by x) (least_at by paths) ≡ least_at by paths
path_in by [] x i = absurd i
path_in by (y ∷ paths) x i =
    ⊎_elim
    (λ e. ap (λ z. best int_min (by z) (best int_min (by y) (least_at by paths))) e ∙ first_in int_min lesser (by y) (least_at by paths))
    (λ j. later_in int_min lesser (by x) (by y) (least_at by paths) (path_in by paths x j))
    i

paths_in : (by : Path → Option ℤ) (paths more : List Path) → ((p : Path) → IsAmongPaths p paths → IsAmongPaths p more) → best int_min (least_at by paths) (least_at by more) ≡ least_at by more
paths_in by [] more k = refl
paths_in by (x ∷ paths) more k =
    best_joined int_min lesser (by x) (least_at by paths) (least_at by more)
    ∙ (ap (best int_min (by x)) (paths_in by paths more (λ p i. k p (inr i))) ∙ path_in by more x (k x (inl refl)))

pub least_once : (by : Path → Option ℤ) (all once : List Path) → IsEachOnce all once → least_at by once ≡ least_at by all
least_once by all once h =
    sym (paths_in by all once h.every) ∙ (best_turned int_min lesser (least_at by all) (least_at by once) ∙ paths_in by once all h.only)
