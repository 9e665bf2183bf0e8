-- The ints and arrays that facts name do not hang on the orders in which they are read.
use Rattle.std.specs.Prelude.{◌≡◌, List, [], ◌∷◌}
use Rattle.std.proofs.Common.{inl, inr, subst, ⊎_elim}
use Rattle.ix_core.specs.declared.fact.Path.{Path}
use Rattle.ix_core.specs.declared.fact.PathOff.TheVariants.{Nothing, Plus, Minus}
use Rattle.ix_core.specs.declared.fact.Fact.{Fact}
use Rattle.ix_core.specs.declared.fact.Fact.TheVariants.{Rng, LenRng, Low, Same, IsLen, Less, Sum, Search, Neg, Upper}
use Rattle.ix_facts.specs.Closure.{AllTell}
use Rattle.ix_facts.specs.Exact.{ints_of, arrays_of, paths_of}
use Rattle.ix_facts.specs.Facts.{IsIn, orders, in_orders}
use Rattle.ix_facts.specs.Named.{IsAmongPaths}
use Rattle.ix_facts.proofs.FactLists.{in_in_orders, from_in_orders}
use Rattle.ix_facts.proofs.FormLaws.{first_order}
use Rattle.ix_fact_paths.specs.ByPath.{put_all}
use Rattle.ix_fact_paths.specs.NamedLaws.{AreAmong, same_members, named_by, names_it}
use Rattle.ix_fact_paths.specs.PutLaws.{all_rise, all_only, all_there}

-- a fact names the same paths in each of its orders
abbrev SameNames : (Fact → List Path) → Type 0
SameNames of = (f g : Fact) → IsIn g (orders f) → AreAmong (of g) (of f)

itself : (of : Fact → List Path) (f g : Fact) → IsIn g (f ∷ []) → AreAmong (of g) (of f)
itself of f g i p j = ⊎_elim (λ e. subst (λ x. IsAmongPaths p (of x)) e j) (λ none. absurd none) i

either : (of : Fact → List Path) (f h g : Fact) → AreAmong (of h) (of f) → IsIn g (f ∷ h ∷ []) → AreAmong (of g) (of f)
either of f h g among i p j =
    ⊎_elim
    (λ e. subst (λ x. IsAmongPaths p (of x)) e j)
    (λ k. ⊎_elim (λ e. among p (subst (λ x. IsAmongPaths p (of x)) e j)) (λ none. absurd none) k)
    i

same_ints : SameNames ints_of
same_ints (Rng q l h) g i = itself ints_of (Rng q l h) g i
same_ints (LenRng a l h) g i = itself ints_of (LenRng a l h) g i
same_ints (Low q c) g i = itself ints_of (Low q c) g i
same_ints (Same a b) g i = either ints_of (Same a b) (Same b a) g (λ p j. j) i
same_ints (IsLen q a) g i = itself ints_of (IsLen q a) g i
same_ints (Less q r c) g i = itself ints_of (Less q r c) g i
same_ints (Sum t y z) g i =
    either ints_of (Sum t y z) (Sum t z y) g (λ p j. ⊎_elim (λ e. inl e) (λ k. ⊎_elim (λ e. inr (inr (inl e))) (λ x. ⊎_elim (λ e. inr (inl e)) (λ none. absurd none) x) k) j) i
same_ints (Search q a) g i = itself ints_of (Search q a) g i
same_ints (Neg q a) g i = itself ints_of (Neg q a) g i
same_ints (Upper q a Nothing c) g i = itself ints_of (Upper q a Nothing c) g i
same_ints (Upper q a (Plus r) c) g i =
    either ints_of (Upper q a (Plus r) c) (Upper r a (Plus q) c) g (λ p j. ⊎_elim (λ e. inr (inl e)) (λ k. ⊎_elim (λ e. inl e) (λ none. absurd none) k) j) i
same_ints (Upper q a (Minus r) c) g i = itself ints_of (Upper q a (Minus r) c) g i

same_arrays : SameNames arrays_of
same_arrays (Rng q l h) g i = itself arrays_of (Rng q l h) g i
same_arrays (LenRng a l h) g i = itself arrays_of (LenRng a l h) g i
same_arrays (Low q c) g i = itself arrays_of (Low q c) g i
same_arrays (Same a b) g i = either arrays_of (Same a b) (Same b a) g (λ p j. ⊎_elim (λ e. inr (inl e)) (λ k. ⊎_elim (λ e. inl e) (λ none. absurd none) k) j) i
same_arrays (IsLen q a) g i = itself arrays_of (IsLen q a) g i
same_arrays (Less q r c) g i = itself arrays_of (Less q r c) g i
same_arrays (Sum t y z) g i = either arrays_of (Sum t y z) (Sum t z y) g (λ p j. j) i
same_arrays (Search q a) g i = itself arrays_of (Search q a) g i
same_arrays (Neg q a) g i = itself arrays_of (Neg q a) g i
same_arrays (Upper q a Nothing c) g i = itself arrays_of (Upper q a Nothing c) g i
same_arrays (Upper q a (Plus r) c) g i = either arrays_of (Upper q a (Plus r) c) (Upper r a (Plus q) c) g (λ p j. j) i
same_arrays (Upper q a (Minus r) c) g i = itself arrays_of (Upper q a (Minus r) c) g i

module _ (of : Fact → List Path) (same : SameNames of) (facts : List Fact) (tell : AllTell facts) where
  from_orders : AreAmong (paths_of of (in_orders facts)) (paths_of of facts)
  from_orders p i =
      let g = named_by of p (in_orders facts) i in
      let f = from_in_orders g.0 facts g.1 in
      names_it of p facts f.0 f.1 (same f.0 g.0 f.2 p g.2)

  to_orders : AreAmong (paths_of of facts) (paths_of of (in_orders facts))
  to_orders p i =
      let f = named_by of p facts i in
      names_it of p (in_orders facts) f.0 (in_in_orders f.0 f.0 facts f.1 (first_order f.0) (tell f.0 f.1)) f.2

  put_among : (some others : List Path) → AreAmong some others → AreAmong (put_all [] some) (put_all [] others)
  put_among some others among p i = all_there others [] p (⊎_elim (λ j. among p j) (λ none. absurd none) (all_only some [] p i))

  pub named_in_orders : put_all [] (paths_of of facts) ≡ put_all [] (paths_of of (in_orders facts))
  named_in_orders =
      same_members (put_all [] (paths_of of facts)) (put_all [] (paths_of of (in_orders facts)))
      (all_rise (paths_of of facts) [] tt) (all_rise (paths_of of (in_orders facts)) [] tt)
      (put_among (paths_of of facts) (paths_of of (in_orders facts)) to_orders)
      (put_among (paths_of of (in_orders facts)) (paths_of of facts) from_orders)

pub ints_in_orders : (facts : List Fact) → AllTell facts → put_all [] (paths_of ints_of facts) ≡ put_all [] (paths_of ints_of (in_orders facts))
ints_in_orders facts tell = named_in_orders ints_of same_ints facts tell

pub arrays_in_orders : (facts : List Fact) → AllTell facts → put_all [] (paths_of arrays_of facts) ≡ put_all [] (paths_of arrays_of (in_orders facts))
arrays_in_orders facts tell = named_in_orders arrays_of same_arrays facts tell
