-- Sets of paths with the same members are one, and what lists of facts name together.
use Rattle.std.specs.Prelude.{◌≡◌, ◌⊎◌, ◌≤◌, List, [], ◌∷◌, ◌++◌, length, refl}
use Rattle.std.proofs.Common.{arith, inl, inr, ap, sym, ◌∙◌, subst, ⊎_elim}
use Rattle.std.specs.declared.cmp.Ordering.TheVariants.{Less}
use Rattle.ix_core.specs.declared.fact.Path.{Path}
use Rattle.ix_core.specs.declared.fact.Fact.{Fact}
use Rattle.ix_facts.specs.Exact.{paths_of}
use Rattle.ix_facts.specs.Facts.{IsIn}
use Rattle.ix_facts.specs.Named.{IsAmongPaths}
use Rattle.ix_facts.specs.PathOrder.{path_cmp, path_total}
use Rattle.ix_fact_paths.specs.PutLaws.{IsRising, less_apart}

-- the paths of the first list are among those of the second
abbrev pub AreAmong : List Path → List Path → Type 0
AreAmong first second = (p : Path) → IsAmongPaths p first → IsAmongPaths p second

-- ---- sets with the same members

-- what is not the first of a list that rises, is among the others
behind_first : (p q : Path) (paths : List Path) → (p ≡ q → ⊥) → IsAmongPaths p (q ∷ paths) → IsAmongPaths p paths
behind_first p q paths apart i = ⊎_elim (λ e. absurd (apart e)) (λ j. j) i

-- without the first of both
others : (p : Path) (first second : List Path) → IsRising (p ∷ first) → AreAmong (p ∷ first) (p ∷ second) → AreAmong first second
others p first second r all q i = behind_first q p second (λ e. less_apart p (subst (λ x. path_cmp p x ≡ Less) e (r.0 q i))) (all q (inr i))

-- none is the first of the second list, where that is less than the first of the first
past_first : (p q : Path) (first second : List Path) → IsRising (p ∷ first) → path_cmp q p ≡ Less → AreAmong (p ∷ first) (q ∷ second) → AreAmong (p ∷ first) second
past_first p q first second r less all x i =
    behind_first x q second
    (λ e. less_apart q
    (⊎_elim
    (λ same. subst (λ y. path_cmp q y ≡ Less) (sym same ∙ e) less)
    (λ j. path_total.trans q p q less (subst (λ y. path_cmp p y ≡ Less) e (r.0 x j)))
    i))
    (all x i)

pub not_longer : (first second : List Path) → IsRising first → IsRising second → AreAmong first second → length first ≤ length second
not_longer [] second r s all = omega arith
not_longer (p ∷ first) [] r s all = absurd (all p (inl refl))
not_longer (p ∷ first) (q ∷ second) r s all =
    ⊎_elim
    (λ e. let rest = not_longer first second r.1 s.1 (others p first second r (subst (λ x. AreAmong (p ∷ first) (x ∷ second)) (sym e) all)) in omega (arith, rest))
    (λ j. let rest = not_longer (p ∷ first) second r s.1 (past_first p q first second r (s.0 p j) all) in omega (arith, rest))
    (all p (inl refl))

-- A set among another that is no longer is that one.
pub same_where_as_long : (first second : List Path) → IsRising first → IsRising second → AreAmong first second → length second ≤ length first → first ≡ second
same_where_as_long [] [] r s all long = refl
same_where_as_long [] (q ∷ second) r s all long = absurd (omega (arith, long))
same_where_as_long (p ∷ first) [] r s all long = absurd (all p (inl refl))
same_where_as_long (p ∷ first) (q ∷ second) r s all long =
    ⊎_elim
    (λ e. subst (λ x. p ∷ first ≡ x ∷ second) e (ap (λ l. p ∷ l) (same_where_as_long first second r.1 s.1 (others p first second r (subst (λ x. AreAmong (p ∷ first) (x ∷ second)) (sym e) all)) (omega (arith, long)))))
    (λ j. let rest = not_longer (p ∷ first) second r s.1 (past_first p q first second r (s.0 p j) all) in absurd (omega (arith, rest, long)))
    (all p (inl refl))

pub same_members : (first second : List Path) → IsRising first → IsRising second → AreAmong first second → AreAmong second first → first ≡ second
same_members first second r s there back = same_where_as_long first second r s there (not_longer second first s r back)

-- ---- what facts name

pub among_left : (p : Path) (a b : List Path) → IsAmongPaths p a → IsAmongPaths p (a ++ b)
among_left p [] b i = absurd i
among_left p (q ∷ a) b i = ⊎_elim (λ e. inl e) (λ j. inr (among_left p a b j)) i

pub among_right : (p : Path) (a b : List Path) → IsAmongPaths p b → IsAmongPaths p (a ++ b)
among_right p [] b i = i
among_right p (q ∷ a) b i = inr (among_right p a b i)

pub among_either : (p : Path) (a b : List Path) → IsAmongPaths p (a ++ b) → IsAmongPaths p a ⊎ IsAmongPaths p b
among_either p [] b i = inr i
among_either p (q ∷ a) b i = ⊎_elim (λ e. inl (inl e)) (λ j. ⊎_elim (λ x. inl (inr x)) (λ y. inr y) (among_either p a b j)) i

module _ (of : Fact → List Path) where
  pub named_by : (p : Path) (facts : List Fact) → IsAmongPaths p (paths_of of facts) → (f : Fact) × IsIn f facts × IsAmongPaths p (of f)
  named_by p [] i = absurd i
  named_by p (f ∷ facts) i =
      ⊎_elim
      (λ j. (f, inl refl, j))
      (λ j. let rest = named_by p facts j in (rest.0, inr rest.1, rest.2))
      (among_either p (of f) (paths_of of facts) i)

  pub names_it : (p : Path) (facts : List Fact) (f : Fact) → IsIn f facts → IsAmongPaths p (of f) → IsAmongPaths p (paths_of of facts)
  names_it p [] f i j = absurd i
  names_it p (g ∷ facts) f i j =
      ⊎_elim
      (λ e. among_left p (of g) (paths_of of facts) (subst (λ x. IsAmongPaths p (of x)) e j))
      (λ k. among_right p (of g) (paths_of of facts) (names_it p facts f k j))
      i

  pub named_left : (p : Path) (a b : List Fact) → IsAmongPaths p (paths_of of a) → IsAmongPaths p (paths_of of (a ++ b))
  named_left p [] b i = absurd i
  named_left p (f ∷ a) b i =
      ⊎_elim
      (λ j. among_left p (of f) (paths_of of (a ++ b)) j)
      (λ j. among_right p (of f) (paths_of of (a ++ b)) (named_left p a b j))
      (among_either p (of f) (paths_of of a) i)

  pub named_right : (p : Path) (a b : List Fact) → IsAmongPaths p (paths_of of b) → IsAmongPaths p (paths_of of (a ++ b))
  named_right p [] b i = i
  named_right p (f ∷ a) b i = among_right p (of f) (paths_of of (a ++ b)) (named_right p a b i)

  pub named_either : (p : Path) (a b : List Fact) → IsAmongPaths p (paths_of of (a ++ b)) → IsAmongPaths p (paths_of of a) ⊎ IsAmongPaths p (paths_of of b)
  named_either p [] b i = inr i
  named_either p (f ∷ a) b i =
      ⊎_elim
      (λ j. inl (among_left p (of f) (paths_of of a) j))
      (λ j. ⊎_elim (λ x. inl (among_right p (of f) (paths_of of a) x)) (λ y. inr y) (named_either p a b j))
      (among_either p (of f) (paths_of of (a ++ b)) i)
