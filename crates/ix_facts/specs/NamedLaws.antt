-- The paths that facts name, in the order in which they are first named, are each of them once.
use Rattle.std.specs.Prelude.{◌≡◌, ◌⊎◌, Bool, true, false, ◌||◌, List, [], ◌∷◌, ◌++◌, refl}
use Rattle.std.proofs.Common.{inl, inr, sym, ◌∙◌, subst, ⊎_elim}
use Rattle.std.proofs.lemmas.Bool.{false≢true}
use Rattle.ix_core.specs.declared.fact.Path.{Path}
use Rattle.ix_core.proofs.Cases.{by_test}
use Rattle.ix_facts.specs.Bounds.{is_path}
use Rattle.ix_facts.specs.Named.{IsAmongPaths, AreDistinct, IsEachOnce, has_path, with_path, with_paths}
use Rattle.ix_facts.specs.PathOrder.{path_itself, path_same}

pub or_else : (s t : Bool) → (s || t) ≡ true → s ≡ false → t ≡ true
or_else true t h n = absurd (false≢true (sym n))
or_else false t h n = h

pub or_first : (x y : Bool) → x ≡ true → (x || y) ≡ true
or_first true y h = refl
or_first false y h = absurd (false≢true h)

pub or_second : (x y : Bool) → y ≡ true → (x || y) ≡ true
or_second true y h = refl
or_second false y h = h

has_among : (p : Path) (paths : List Path) → has_path p paths ≡ true → IsAmongPaths p paths
has_among p [] t = absurd (false≢true t)
has_among p (q ∷ paths) t =
    by_test (is_path p q) (λ s. inl (path_same p q s)) (λ s. inr (has_among p paths (or_else (is_path p q) (has_path p paths) t s)))

among_has : (p : Path) (paths : List Path) → IsAmongPaths p paths → has_path p paths ≡ true
among_has p [] i = absurd i
among_has p (q ∷ paths) i =
    ⊎_elim
    (λ e. or_first (is_path p q) (has_path p paths) (subst (λ r. is_path p r ≡ true) e (path_itself p)))
    (λ j. or_second (is_path p q) (has_path p paths) (among_has p paths j))
    i

among_left : (p : Path) (a b : List Path) → IsAmongPaths p a → IsAmongPaths p (a ++ b)
among_left p [] b i = absurd i
among_left p (q ∷ a) b i = ⊎_elim (λ e. inl e) (λ j. inr (among_left p a b j)) i

among_right : (p : Path) (a b : List Path) → IsAmongPaths p b → IsAmongPaths p (a ++ b)
among_right p [] b i = i
among_right p (q ∷ a) b i = inr (among_right p a b i)

among_either : (p : Path) (a b : List Path) → IsAmongPaths p (a ++ b) → IsAmongPaths p a ⊎ IsAmongPaths p b
among_either p [] b i = inr i
among_either p (q ∷ a) b i = ⊎_elim (λ e. inl (inl e)) (λ j. ⊎_elim (λ x. inl (inr x)) (λ y. inr y) (among_either p a b j)) i

distinct_one : (paths : List Path) (p : Path) → AreDistinct paths → (IsAmongPaths p paths → ⊥) → AreDistinct (paths ++ p ∷ [])
distinct_one [] p d n = ((λ i. i), tt)
distinct_one (q ∷ paths) p d n =
    ((λ i. ⊎_elim (λ j. d.0 j) (λ j. ⊎_elim (λ e. n (inl (sym e))) (λ z. z) j) (among_either q paths (p ∷ []) i)), distinct_one paths p d.1 (λ i. n (inr i)))

distinct_with : (paths : List Path) (p : Path) → AreDistinct paths → AreDistinct (with_path paths p)
distinct_with paths p d =
    by_test (has_path p paths) (λ t. rw t d) (λ t. rw t (distinct_one paths p d (λ i. absurd (false≢true (sym t ∙ among_has p paths i)))))

with_old : (paths : List Path) (p q : Path) → IsAmongPaths q paths → IsAmongPaths q (with_path paths p)
with_old paths p q i = by_test (has_path p paths) (λ t. rw t i) (λ t. rw t (among_left q paths (p ∷ []) i))

with_new : (paths : List Path) (p : Path) → IsAmongPaths p (with_path paths p)
with_new paths p = by_test (has_path p paths) (λ t. rw t (has_among p paths t)) (λ t. rw t (among_right p paths (p ∷ []) (inl refl)))

with_from : (paths : List Path) (p q : Path) → IsAmongPaths q (with_path paths p) → IsAmongPaths q paths ⊎ (q ≡ p)
with_from paths p q i =
    by_test (has_path p paths)
    (λ t. inl (rw t at i))
    (λ t. ⊎_elim (λ j. inl j) (λ j. ⊎_elim (λ e. inr e) (λ z. absurd z) j) (among_either q paths (p ∷ []) (rw t at i)))

distinct_all : (paths more : List Path) → AreDistinct paths → AreDistinct (with_paths paths more)
distinct_all paths [] d = d
distinct_all paths (p ∷ more) d = distinct_all (with_path paths p) more (distinct_with paths p d)

all_old : (paths more : List Path) (q : Path) → IsAmongPaths q paths → IsAmongPaths q (with_paths paths more)
all_old paths [] q i = i
all_old paths (p ∷ more) q i = all_old (with_path paths p) more q (with_old paths p q i)

all_new : (paths more : List Path) (q : Path) → IsAmongPaths q more → IsAmongPaths q (with_paths paths more)
all_new paths [] q i = absurd i
all_new paths (p ∷ more) q i =
    ⊎_elim (λ e. all_old (with_path paths p) more q (subst (λ r. IsAmongPaths r (with_path paths p)) (sym e) (with_new paths p))) (λ j. all_new (with_path paths p) more q j) i

all_from : (paths more : List Path) (q : Path) → IsAmongPaths q (with_paths paths more) → IsAmongPaths q paths ⊎ IsAmongPaths q more
all_from paths [] q i = inl i
all_from paths (p ∷ more) q i =
    ⊎_elim
    (λ j. ⊎_elim (λ x. inl x) (λ e. inr (inl e)) (with_from paths p q j))
    (λ j. inr (inr j))
    (all_from (with_path paths p) more q i)

pub each_once : (all : List Path) → IsEachOnce all (with_paths [] all)
each_once all = record {
  distinct = distinct_all [] all tt;
  only = λ p i. ⊎_elim (λ z. absurd z) (λ j. j) (all_from [] all p i);
  every = λ p i. all_new [] all p i;
}

pub with_paths_app : (paths a b : List Path) → with_paths paths (a ++ b) ≡ with_paths (with_paths paths a) b
with_paths_app paths [] b = refl
with_paths_app paths (p ∷ a) b = with_paths_app (with_path paths p) a b
