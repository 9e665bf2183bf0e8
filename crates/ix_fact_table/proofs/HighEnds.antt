-- The high end of an int's ranges is at most that of each stored one, and where it is below 0 it is that of one.
use Rattle.std.specs.Prelude.{◌≡◌, ◌⊎◌, ℤ, negsuc, ◌≤ℤ◌, int_le, Option, Some, None, List, [], ◌∷◌, refl}
use Rattle.std.specs.Int.{int_min}
use Rattle.std.proofs.Common.{arith, inl, inr, ap, sym, ◌∙◌, subst, ⊎_elim}
use Rattle.std.proofs.lemmas.Int.{ints, clamps}
use Rattle.ix_num.specs.Ints.{greatest_int}
use Rattle.ix_core.specs.declared.fact.Path.{Path}
use Rattle.ix_core.specs.declared.fact.Fact.{Fact}
use Rattle.ix_core.specs.declared.fact.Fact.TheVariants.{Rng, LenRng, Low, Same, IsLen, Less, Sum, Search, Neg, Upper}
use Rattle.ix_facts.specs.Bounds.{is_path, at_most, least, best, range_high, range_high_by}
use Rattle.ix_facts.specs.Facts.{IsIn}
use Rattle.ix_facts.specs.PathOrder.{path_itself, path_same}
use Rattle.ix_core.proofs.Cases.{by_test}

best_left : (n : ℤ) (x rest : Option ℤ) (h k : ℤ) → x ≡ Some h → h ≤ℤ k → at_most n (best int_min x rest) ≤ℤ k
best_left n x None h k e le = subst (λ y. at_most n (best int_min y None) ≤ℤ k) (sym e) (omega (arith, ints, clamps, le))
best_left n x (Some m) h k e le = subst (λ y. at_most n (best int_min y (Some m)) ≤ℤ k) (sym e) (omega (arith, ints, clamps, le))

best_right : (n : ℤ) (x rest : Option ℤ) (k : ℤ) → at_most n rest ≤ℤ k → at_most n (best int_min x rest) ≤ℤ k
best_right n None rest k le = le
best_right n (Some x) None k le = omega (arith, ints, clamps, le)
best_right n (Some x) (Some m) k le = omega (arith, ints, clamps, le)

best_either : (n : ℤ) (x rest : Option ℤ) (k : ℤ) → at_most n (best int_min x rest) ≤ℤ k → ((h : ℤ) × (x ≡ Some h) × (h ≤ℤ k)) ⊎ (at_most n rest ≤ℤ k)
best_either n None rest k le = inr le
best_either n (Some x) None k le = by_test (int_le x k) (λ t. inl (x, refl, grind (arith, ints, t))) (λ t. inr (grind (arith, ints, clamps, t, le)))
best_either n (Some x) (Some m) k le = by_test (int_le x k) (λ t. inl (x, refl, grind (arith, ints, t))) (λ t. inr (grind (arith, ints, clamps, t, le)))

high_by_itself : (p : Path) (l h : ℤ) → range_high_by p (Rng p l h) ≡ Some h
high_by_itself p l h = rw (path_itself p) refl

pub high_below : (facts : List Fact) (p : Path) (l h k : ℤ) → IsIn (Rng p l h) facts → h ≤ℤ k → range_high facts p ≤ℤ k
high_below [] p l h k i le = absurd i
high_below (f ∷ facts) p l h k i le =
    ⊎_elim
    (λ e. best_left greatest_int (range_high_by p f) (least (range_high_by p) facts) h k (ap (range_high_by p) (sym e) ∙ high_by_itself p l h) le)
    (λ j. best_right greatest_int (range_high_by p f) (least (range_high_by p) facts) k (high_below facts p l h k j le))
    i

some_high : (p : Path) (f : Fact) (h : ℤ) → range_high_by p f ≡ Some h → (l : ℤ) × (f ≡ Rng p l h)
some_high p (Rng q l h) m e =
    by_test (is_path q p)
    (λ t. let x : Some h ≡ Some m = rw t at e in let y : h ≡ m = cc in (l, ap (λ r. Rng r l h) (path_same q p t) ∙ ap (Rng p l) y))
    (λ t. let x : None ≡ Some m = rw t at e in absurd cc)
some_high p (LenRng q l h) m e = absurd cc
some_high p (Low q c) m e = absurd cc
some_high p (Same a b) m e = absurd cc
some_high p (IsLen q a) m e = absurd cc
some_high p (Less q r c) m e = absurd cc
some_high p (Sum t y z) m e = absurd cc
some_high p (Search q a) m e = absurd cc
some_high p (Neg q a) m e = absurd cc
some_high p (Upper q a o c) m e = absurd cc

pub stored_high : (facts : List Fact) (p : Path) (k : ℤ) → range_high facts p ≤ℤ k → k ≤ℤ negsuc 0 → (l : ℤ) × (h : ℤ) × IsIn (Rng p l h) facts × (h ≤ℤ k)
stored_high [] p k le small = absurd (omega (arith, ints, le, small))
stored_high (f ∷ facts) p k le small =
    ⊎_elim
    (λ x. let y = some_high p f x.0 x.1 in (y.0, x.0, inl (sym y.1), x.2))
    (λ j. let x = stored_high facts p k j small in (x.0, x.1, inr x.2, x.3))
    (best_either greatest_int (range_high_by p f) (least (range_high_by p) facts) k le)
