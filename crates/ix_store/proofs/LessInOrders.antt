-- How far facts say that two ints are apart does not hang on the orders in which they are read.
use Rattle.std.specs.Prelude.{◌≡◌, List, [], ◌∷◌, refl}
use Rattle.std.specs.Int.{int_min}
use Rattle.std.proofs.Common.{ap}
use Rattle.ix_core.specs.declared.fact.Path.{Path}
use Rattle.ix_core.specs.declared.fact.PathOff.TheVariants.{Nothing, Plus, Minus}
use Rattle.ix_core.specs.declared.fact.Fact.{Fact}
use Rattle.ix_core.specs.declared.fact.Fact.TheVariants.{Rng, LenRng, Low, Same, IsLen, Less, Sum, Search, Neg, Upper}
use Rattle.ix_core.proofs.Cases.{by_test}
use Rattle.ix_facts.specs.Bounds.{best, fact_less, fact_less_by}
use Rattle.ix_facts.specs.Facts.{is_default, in_orders}

pub less_in_orders : (p q : Path) (facts : List Fact) → fact_less (in_orders facts) p q ≡ fact_less facts p q
less_in_orders p q [] = refl
less_in_orders p q (Rng r l h ∷ facts) = by_test (is_default (Rng r l h)) (λ t. rw t (less_in_orders p q facts)) (λ t. rw t (less_in_orders p q facts))
less_in_orders p q (LenRng a l h ∷ facts) = by_test (is_default (LenRng a l h)) (λ t. rw t (less_in_orders p q facts)) (λ t. rw t (less_in_orders p q facts))
less_in_orders p q (Low r c ∷ facts) = less_in_orders p q facts
less_in_orders p q (Same a b ∷ facts) = less_in_orders p q facts
less_in_orders p q (IsLen r a ∷ facts) = less_in_orders p q facts
less_in_orders p q (Less r s c ∷ facts) = ap (best int_min (fact_less_by p q (Less r s c))) (less_in_orders p q facts)
less_in_orders p q (Sum t y z ∷ facts) = less_in_orders p q facts
less_in_orders p q (Search r a ∷ facts) = less_in_orders p q facts
less_in_orders p q (Neg r a ∷ facts) = less_in_orders p q facts
less_in_orders p q (Upper r a Nothing c ∷ facts) = less_in_orders p q facts
less_in_orders p q (Upper r a (Plus s) c ∷ facts) = less_in_orders p q facts
less_in_orders p q (Upper r a (Minus s) c ∷ facts) = less_in_orders p q facts
