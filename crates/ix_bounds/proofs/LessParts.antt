-- A stored difference is the least of what facts say of it and of what lengths say of it.
use Rattle.std.specs.Prelude.{◌≡◌, ℤ, Option, Some, None, List, [], ◌∷◌, refl}
use Rattle.std.specs.Int.{int_min}
use Rattle.std.proofs.Common.{ap, sym, ◌∙◌, arith}
use Rattle.std.proofs.lemmas.Int.{ints, clamps}
use Rattle.ix_core.specs.declared.fact.Path.{Path}
use Rattle.ix_core.specs.declared.fact.Fact.{Fact}
use Rattle.ix_core.specs.declared.fact.Fact.TheVariants.{Rng, LenRng, Low, Same, IsLen, Less, Sum, Search, Neg, Upper}
use Rattle.ix_facts.specs.Bounds
use Rattle.ix_facts.specs.Bounds.{best, least, fact_less_by}
use Rattle.ix_bounds.specs.Lengths.{length_less_by}
use Rattle.ix_bounds.proofs.BestOfParts.{least_joined}

min_turned : (x y : ℤ) → int_min x y ≡ int_min y x
min_turned x y = omega (arith, ints, clamps)

least_turned : (x y : Option ℤ) → best int_min x y ≡ best int_min y x
least_turned None None = refl
least_turned None (Some y) = refl
least_turned (Some x) None = refl
least_turned (Some x) (Some y) = ap Some (min_turned x y)

-- a number more on the right
behind : (x a b : Option ℤ) → best int_min x (best int_min a b) ≡ best int_min a (best int_min x b)
behind x a b = sym (least_joined x a b) ∙ (ap (λ v. best int_min v b) (least_turned x a) ∙ least_joined a x b)

pub less_parts : (all : List Fact) (p q : Path) (facts : List Fact) → least (Bounds.stored_less_by all p q) facts ≡ best int_min (least (fact_less_by p q) facts) (least (length_less_by all p q) facts)
less_parts all p q [] = refl
less_parts all p q (Less r s c ∷ facts) =
    ap (best int_min (fact_less_by p q (Less r s c))) (less_parts all p q facts)
    ∙ sym (least_joined (fact_less_by p q (Less r s c)) (least (fact_less_by p q) facts) (least (length_less_by all p q) facts))
less_parts all p q (IsLen r a ∷ facts) =
    ap (best int_min (length_less_by all p q (IsLen r a))) (less_parts all p q facts)
    ∙ behind (length_less_by all p q (IsLen r a)) (least (fact_less_by p q) facts) (least (length_less_by all p q) facts)
less_parts all p q (Rng p1 l1 h1 ∷ facts) = less_parts all p q facts
less_parts all p q (LenRng a1 l1 h1 ∷ facts) = less_parts all p q facts
less_parts all p q (Low p1 c1 ∷ facts) = less_parts all p q facts
less_parts all p q (Same a1 b1 ∷ facts) = less_parts all p q facts
less_parts all p q (Sum t1 y1 z1 ∷ facts) = less_parts all p q facts
less_parts all p q (Search p1 a1 ∷ facts) = less_parts all p q facts
less_parts all p q (Neg p1 a1 ∷ facts) = less_parts all p q facts
less_parts all p q (Upper p1 a1 o1 c1 ∷ facts) = less_parts all p q facts
