-- Paths that are put into a set in order are each of them once.
use Rattle.std.specs.Prelude.{◌≡◌, ◌⊎◌, ℕ, true, List, [], ◌∷◌, refl}
use Rattle.std.specs.declared.cmp.Ordering.{Ordering}
use Rattle.std.specs.declared.cmp.Ordering.TheVariants.{Less, Equal, Greater}
use Rattle.std.specs.Ordering.{is_eq, nat_cmp, ordering_then, ordering_reverse}
use Rattle.std.proofs.Common.{arith, inl, inr, ap, sym, ◌∙◌, subst, ⊎_elim}
use Rattle.std.proofs.lemmas.Bool.{false≢true}
use Rattle.std.proofs.lemmas.Bool.Decides.{nat_tests}
use Rattle.std.specs.BTreeSet.{insert_key}
use Rattle.ix_core.specs.declared.fact.Path.{Path}
use Rattle.ix_core.specs.declared.fact.Path.TheVariants.{Slot, FieldOf}
use Rattle.ix_facts.specs.Named.{IsAmongPaths, AreDistinct, IsEachOnce}
use Rattle.ix_facts.specs.PathOrder.{path_cmp, path_total}
use Rattle.ix_fact_paths.specs.ByPath.{put_all}

by_order : {G : Type 0} (o : Ordering) → (o ≡ Less → G) → (o ≡ Equal → G) → (o ≡ Greater → G) → G
by_order Less first second third = first refl
by_order Equal first second third = second refl
by_order Greater first second third = third refl

-- ---- what is equal in the order is the same

both_equal : (first second : Ordering) → is_eq (ordering_then first second) ≡ true → (is_eq first ≡ true) × (is_eq second ≡ true)
both_equal Less second h = absurd (false≢true h)
both_equal Equal second h = (refl, h)
both_equal Greater second h = absurd (false≢true h)

number_same : (s t : ℕ) → is_eq (nat_cmp s t) ≡ true → s ≡ t
number_same s t h = grind (arith, nat_tests)

equal_same : (p q : Path) → is_eq (path_cmp p q) ≡ true → p ≡ q
equal_same (Slot s) (Slot t) h = ap Slot (number_same s t h)
equal_same (Slot s) (FieldOf t g) h = absurd (false≢true h)
equal_same (FieldOf s f) (Slot t) h = absurd (false≢true h)
equal_same (FieldOf s f) (FieldOf t g) h =
    let both = both_equal (nat_cmp s t) (nat_cmp f g) h in
    let a = number_same s t both.0 in
    let b = number_same f g both.1 in
    cc

pub equal_paths : (p q : Path) → path_cmp p q ≡ Equal → p ≡ q
equal_paths p q h = equal_same p q (ap is_eq h)

-- each path is less than those behind it
abbrev pub IsRising : List Path → Type 0
IsRising [] = Unit {0}
IsRising (p ∷ paths) = ((q : Path) → IsAmongPaths q paths → path_cmp p q ≡ Less) × IsRising paths

-- ---- members

pub put_here : (paths : List Path) (p : Path) → IsAmongPaths p (insert_key path_cmp paths p)
put_here [] p = inl refl
put_here (q ∷ paths) p =
    by_order (path_cmp p q) (λ o. rw o (inl refl)) (λ o. rw o (inl (equal_paths p q o))) (λ o. rw o (inr (put_here paths p)))

pub put_stays : (paths : List Path) (p r : Path) → IsAmongPaths r paths → IsAmongPaths r (insert_key path_cmp paths p)
put_stays [] p r i = absurd i
put_stays (q ∷ paths) p r i =
    by_order (path_cmp p q) (λ o. rw o (inr i)) (λ o. rw o i) (λ o. rw o (⊎_elim (λ e. inl e) (λ j. inr (put_stays paths p r j)) i))

put_only : (paths : List Path) (p r : Path) → IsAmongPaths r (insert_key path_cmp paths p) → (r ≡ p) ⊎ IsAmongPaths r paths
put_only [] p r i = ⊎_elim (λ e. inl e) (λ j. absurd j) i
put_only (q ∷ paths) p r i =
    by_order (path_cmp p q)
    (λ o. rw o at i)
    (λ o. inr (rw o at i))
    (λ o. ⊎_elim (λ e. inr (inl e)) (λ j. ⊎_elim (λ e. inl e) (λ k. inr (inr k)) (put_only paths p r j)) (rw o at i))

-- ---- order

turned : (p q : Path) → path_cmp p q ≡ Greater → path_cmp q p ≡ Less
turned p q o = path_total.antisymm q p ∙ ap ordering_reverse o

pub put_rises : (paths : List Path) (p : Path) → IsRising paths → IsRising (insert_key path_cmp paths p)
put_rises [] p r = ((λ q i. absurd i), tt)
put_rises (q ∷ paths) p r =
    by_order (path_cmp p q)
    (λ o. rw o ((λ x i. ⊎_elim (λ e. subst (λ y. path_cmp p y ≡ Less) (sym e) o) (λ j. path_total.trans p q x o (r.0 x j)) i), r))
    (λ o. rw o r)
    (λ o. rw o ((λ x i. ⊎_elim (λ e. subst (λ y. path_cmp q y ≡ Less) (sym e) (turned p q o)) (λ j. r.0 x j) (put_only paths p x i)), put_rises paths p r.1))

pub less_apart : (p : Path) → path_cmp p p ≡ Less → ⊥
less_apart p o = let e : path_cmp p p ≡ Greater = path_total.antisymm p p ∙ ap ordering_reverse o in let no : Less ≡ Greater = sym o ∙ e in cc

greater_apart : (p : Path) → path_cmp p p ≡ Greater → ⊥
greater_apart p o = less_apart p (turned p p o)

-- a path that is there is not put again
pub put_again : (paths : List Path) (p : Path) → IsRising paths → IsAmongPaths p paths → insert_key path_cmp paths p ≡ paths
put_again [] p r i = absurd i
put_again (q ∷ paths) p r i =
    by_order (path_cmp p q)
    (λ o. absurd (⊎_elim (λ e. less_apart q (subst (λ x. path_cmp x q ≡ Less) e o)) (λ j. less_apart p (path_total.trans p q p o (r.0 p j))) i))
    (λ o. rw o refl)
    (λ o. rw o (⊎_elim (λ e. absurd (greater_apart q (subst (λ x. path_cmp x q ≡ Greater) e o))) (λ j. ap (λ l. q ∷ l) (put_again paths p r.1 j)) i))

rising_distinct : (paths : List Path) → IsRising paths → AreDistinct paths
rising_distinct [] r = tt
rising_distinct (p ∷ paths) r = ((λ i. less_apart p (r.0 p i)), rising_distinct paths r.1)

-- ---- all of them

pub all_rise : (more paths : List Path) → IsRising paths → IsRising (put_all paths more)
all_rise [] paths r = r
all_rise (p ∷ more) paths r = all_rise more (insert_key path_cmp paths p) (put_rises paths p r)

pub all_only : (more paths : List Path) (r : Path) → IsAmongPaths r (put_all paths more) → IsAmongPaths r more ⊎ IsAmongPaths r paths
all_only [] paths r i = inr i
all_only (p ∷ more) paths r i = ⊎_elim (λ j. inl (inr j)) (λ j. ⊎_elim (λ e. inl (inl e)) (λ k. inr k) (put_only paths p r j)) (all_only more (insert_key path_cmp paths p) r i)

pub all_stay : (more paths : List Path) (r : Path) → IsAmongPaths r paths → IsAmongPaths r (put_all paths more)
all_stay [] paths r i = i
all_stay (p ∷ more) paths r i = all_stay more (insert_key path_cmp paths p) r (put_stays paths p r i)

pub all_there : (more paths : List Path) (r : Path) → IsAmongPaths r more → IsAmongPaths r (put_all paths more)
all_there [] paths r i = absurd i
all_there (p ∷ more) paths r i =
    ⊎_elim
    (λ e. all_stay more (insert_key path_cmp paths p) r (subst (λ x. IsAmongPaths x (insert_key path_cmp paths p)) (sym e) (put_here paths p)))
    (λ j. all_there more (insert_key path_cmp paths p) r j)
    i

pub put_once : (paths : List Path) → IsEachOnce paths (put_all [] paths)
put_once paths = record {
  distinct = rising_distinct (put_all [] paths) (all_rise paths [] tt);
  only = λ p i. ⊎_elim (λ j. j) (λ j. absurd j) (all_only paths [] p i);
  every = λ p i. all_there paths [] p i;
}
