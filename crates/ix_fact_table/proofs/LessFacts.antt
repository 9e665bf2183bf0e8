-- A table has at most one fact of a difference: its constant is the least of the constants that are stored of it.
use Rattle.std.specs.Prelude.{◌≡◌, true, ◌&&◌, ℤ, pos, Some, None, List, [], ◌∷◌, refl}
use Rattle.std.specs.Int.{int_min}
use Rattle.std.proofs.Common.{inl, inr, ap, sym, ◌∙◌, subst, ⊎_elim}
use Rattle.std.proofs.lemmas.Bool.{and_parts}
use Rattle.ix_core.specs.declared.fact.Path.{Path}
use Rattle.ix_core.specs.declared.fact.Fact.{Fact}
use Rattle.ix_core.specs.declared.fact.Fact.TheVariants.{Rng, LenRng, Low, Same, IsLen, Less, Sum, Search, Neg, Upper}
use Rattle.ix_core.proofs.Cases.{by_test}
use Rattle.ix_facts.specs.Bounds.{is_path, when, best, least, fact_less_by}
use Rattle.ix_facts.specs.Facts.{IsIn}
use Rattle.ix_facts.specs.PathOrder.{path_itself, path_same}
use Rattle.ix_fact_table.specs.FactOrder.{AtKey, less, key_on, key_back}
use Rattle.ix_fact_table.specs.Entries.{less_constant}
use Rattle.ix_fact_table.specs.Rising.{rises}
use Rattle.ix_fact_table.specs.RisingLaws.{below_each, not_before, rises_parts}

-- a fact that is not at the key of the difference gives no constant
none_by : (p q : Path) (f : Fact) → (AtKey f (Less p q (pos 0)) → ⊥) → fact_less_by p q f ≡ None
none_by p q (Less r s d) n =
    by_test (is_path r p && is_path s q)
    (λ t. let both = and_parts (is_path r p) (is_path s q) t in
    absurd (n (subst (λ x. AtKey (Less r s d) (Less x q (pos 0))) (path_same r p both.0) (subst (λ y. AtKey (Less r s d) (Less r y (pos 0))) (path_same s q both.1) (less r s d (pos 0))))))
    (λ t. ap (λ b. when b (Some d)) t)
none_by p q (Rng r l h) n = refl
none_by p q (LenRng a l h) n = refl
none_by p q (Low r c) n = refl
none_by p q (Same a b) n = refl
none_by p q (IsLen r a) n = refl
none_by p q (Sum t y z) n = refl
none_by p q (Search r a) n = refl
none_by p q (Neg r a) n = refl
none_by p q (Upper r a o c) n = refl

pub no_less : (p q : Path) (facts : List Fact) → ((f : Fact) → IsIn f facts → AtKey f (Less p q (pos 0)) → ⊥) → least (fact_less_by p q) facts ≡ None
no_less p q [] n = refl
no_less p q (f ∷ facts) n = ap (λ x. best int_min x (least (fact_less_by p q) facts)) (none_by p q f (n f (inl refl))) ∙ no_less p q facts (λ g i. n g (inr i))

own_by : (p q : Path) (c : ℤ) → fact_less_by p q (Less p q c) ≡ Some c
own_by p q c = ap (λ b. when (b && is_path q q) (Some c)) (path_itself p) ∙ ap (λ b. when b (Some c)) (path_itself q)

pub one_less : (p q : Path) (c : ℤ) (facts : List Fact) → rises facts ≡ true → IsIn (Less p q c) facts → least (fact_less_by p q) facts ≡ Some c
one_less p q c [] r i = absurd i
one_less p q c (f ∷ facts) r i =
    let parts = rises_parts f facts r in
    ⊎_elim
    (λ e. ap (λ g. best int_min (fact_less_by p q g) (least (fact_less_by p q) facts)) (sym e)
    ∙ (ap (best int_min (fact_less_by p q (Less p q c))) (no_less p q facts (λ g j k. not_before f g (below_each f facts parts.0 g j) (subst (λ x. AtKey x g) e (key_on (Less p q c) (Less p q (pos 0)) g (less p q c (pos 0)) (key_back g (Less p q (pos 0)) k)))))
    ∙ ap (λ x. best int_min x None) (own_by p q c)))
    (λ j. ap (λ x. best int_min x (least (fact_less_by p q) facts)) (none_by p q f (λ k. not_before f (Less p q c) (below_each f facts parts.0 (Less p q c) j) (key_on f (Less p q (pos 0)) (Less p q c) k (less p q (pos 0) c))))
    ∙ one_less p q c facts parts.1 j)
    i

-- the fact that is found at the key has the least constant
pub less_found : (p q : Path) (facts : List Fact) → rises facts ≡ true → (f : Fact) → IsIn f facts → AtKey f (Less p q (pos 0)) → less_constant f ≡ least (fact_less_by p q) facts
less_found _ _ facts rising _ i (less p q c d) = sym (one_less p q c facts rising i)
