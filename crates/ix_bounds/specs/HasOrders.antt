-- Whether facts have a length or an answer of a search does not hang on the orders in which they are read.
use Rattle.std.specs.Prelude.{◌≡◌, ◌&&◌, ◌||◌, List, [], ◌∷◌, refl}
use Rattle.std.proofs.Common.{ap}
use Rattle.ix_core.specs.declared.fact.Path.{Path}
use Rattle.ix_core.specs.declared.fact.PathOff.TheVariants.{Nothing, Plus, Minus}
use Rattle.ix_core.specs.declared.fact.Fact.{Fact}
use Rattle.ix_core.specs.declared.fact.Fact.TheVariants.{Rng, LenRng, Low, Same, IsLen, Less, Sum, Search, Neg, Upper}
use Rattle.ix_facts.specs.Bounds.{is_path}
use Rattle.ix_facts.specs.Facts.{is_default, in_orders}
use Rattle.ix_facts.specs.Assume.{has, is_length, is_search, is_negative}
use Rattle.ix_core.proofs.Cases.{by_test}

pub search_in_orders : (p a : Path) (facts : List Fact) → has (is_search p a) (in_orders facts) ≡ has (is_search p a) facts
search_in_orders p a [] = refl
search_in_orders p a (Rng q l h ∷ facts) = by_test (is_default (Rng q l h)) (λ t. rw t (search_in_orders p a facts)) (λ t. rw t (search_in_orders p a facts))
search_in_orders p a (LenRng q l h ∷ facts) = by_test (is_default (LenRng q l h)) (λ t. rw t (search_in_orders p a facts)) (λ t. rw t (search_in_orders p a facts))
search_in_orders p a (Low q c ∷ facts) = search_in_orders p a facts
search_in_orders p a (Same b c ∷ facts) = search_in_orders p a facts
search_in_orders p a (IsLen q b ∷ facts) = search_in_orders p a facts
search_in_orders p a (Less q r c ∷ facts) = search_in_orders p a facts
search_in_orders p a (Sum t y z ∷ facts) = search_in_orders p a facts
search_in_orders p a (Search q b ∷ facts) = ap (λ t. (is_path q p && is_path b a) || t) (search_in_orders p a facts)
search_in_orders p a (Neg q b ∷ facts) = search_in_orders p a facts
search_in_orders p a (Upper q b Nothing c ∷ facts) = search_in_orders p a facts
search_in_orders p a (Upper q b (Plus r) c ∷ facts) = search_in_orders p a facts
search_in_orders p a (Upper q b (Minus r) c ∷ facts) = search_in_orders p a facts

pub negative_in_orders : (p a : Path) (facts : List Fact) → has (is_negative p a) (in_orders facts) ≡ has (is_negative p a) facts
negative_in_orders p a [] = refl
negative_in_orders p a (Rng q l h ∷ facts) = by_test (is_default (Rng q l h)) (λ t. rw t (negative_in_orders p a facts)) (λ t. rw t (negative_in_orders p a facts))
negative_in_orders p a (LenRng q l h ∷ facts) = by_test (is_default (LenRng q l h)) (λ t. rw t (negative_in_orders p a facts)) (λ t. rw t (negative_in_orders p a facts))
negative_in_orders p a (Low q c ∷ facts) = negative_in_orders p a facts
negative_in_orders p a (Same b c ∷ facts) = negative_in_orders p a facts
negative_in_orders p a (IsLen q b ∷ facts) = negative_in_orders p a facts
negative_in_orders p a (Less q r c ∷ facts) = negative_in_orders p a facts
negative_in_orders p a (Sum t y z ∷ facts) = negative_in_orders p a facts
negative_in_orders p a (Search q b ∷ facts) = negative_in_orders p a facts
negative_in_orders p a (Neg q b ∷ facts) = ap (λ t. (is_path q p && is_path b a) || t) (negative_in_orders p a facts)
negative_in_orders p a (Upper q b Nothing c ∷ facts) = negative_in_orders p a facts
negative_in_orders p a (Upper q b (Plus r) c ∷ facts) = negative_in_orders p a facts
negative_in_orders p a (Upper q b (Minus r) c ∷ facts) = negative_in_orders p a facts

pub length_in_orders : (p a : Path) (facts : List Fact) → has (is_length p a) (in_orders facts) ≡ has (is_length p a) facts
length_in_orders p a [] = refl
length_in_orders p a (Rng q l h ∷ facts) = by_test (is_default (Rng q l h)) (λ t. rw t (length_in_orders p a facts)) (λ t. rw t (length_in_orders p a facts))
length_in_orders p a (LenRng q l h ∷ facts) = by_test (is_default (LenRng q l h)) (λ t. rw t (length_in_orders p a facts)) (λ t. rw t (length_in_orders p a facts))
length_in_orders p a (Low q c ∷ facts) = length_in_orders p a facts
length_in_orders p a (Same b c ∷ facts) = length_in_orders p a facts
length_in_orders p a (IsLen q b ∷ facts) = ap (λ t. (is_path q p && is_path b a) || t) (length_in_orders p a facts)
length_in_orders p a (Less q r c ∷ facts) = length_in_orders p a facts
length_in_orders p a (Sum t y z ∷ facts) = length_in_orders p a facts
length_in_orders p a (Search q b ∷ facts) = length_in_orders p a facts
length_in_orders p a (Neg q b ∷ facts) = length_in_orders p a facts
length_in_orders p a (Upper q b Nothing c ∷ facts) = length_in_orders p a facts
length_in_orders p a (Upper q b (Plus r) c ∷ facts) = length_in_orders p a facts
length_in_orders p a (Upper q b (Minus r) c ∷ facts) = length_in_orders p a facts
