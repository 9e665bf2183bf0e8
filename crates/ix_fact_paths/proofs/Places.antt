-- Where a path stands in a set, or where it would stand.
use Rattle.std.specs.Prelude.{◌≡◌, ℕ, zero, suc, ◌+◌, ◌<◌, ◌≤◌, ◌-◌, ◌++◌, true, false, List, [], ◌∷◌, Some, Err, length, get_or, slice_get, refl}
use Rattle.std.specs.List.{insert}
use Rattle.std.specs.List.Sorted.{IsBinarySearchResult, IsSortedBy}
use Rattle.std.specs.BTreeSet.{insert_key}
use Rattle.std.specs.declared.cmp.Ordering.{Ordering}
use Rattle.std.specs.declared.cmp.Ordering.TheVariants.{Less, Equal, Greater}
use Rattle.std.specs.Ordering.{is_lt, ordering_reverse}
use Rattle.std.proofs.Common.{arith, inl, inr, ap, sym, ◌∙◌, subst}
use Rattle.std.proofs.lemmas.Bool.{false≢true}
use Rattle.std.proofs.lemmas.List.Sorted.{searchable_from_sorted}
use Rattle.ix_core.specs.declared.fact.Path.{Path}
use Rattle.ix_facts.specs.Named.{IsAmongPaths}
use Rattle.ix_facts.specs.PathOrder.{path_cmp, path_total}
use Rattle.ix_fact_paths.specs.PutLaws.{IsRising, equal_paths}

among : (paths : List Path) (k : ℕ) (d : Path) → k < length paths → IsAmongPaths (get_or paths k d) paths
among [] k d lt = absurd (omega (arith, lt))
among (p ∷ paths) zero d lt = inl refl
among (p ∷ paths) (suc k) d lt = inr (among paths k d (omega (arith, lt)))

reverse_less : (p q : Path) → path_cmp p q ≡ Less → path_cmp q p ≡ Greater
reverse_less p q o = path_total.antisymm q p ∙ ap ordering_reverse o

reverse_greater : (p q : Path) → path_cmp p q ≡ Greater → path_cmp q p ≡ Less
reverse_greater p q o = path_total.antisymm q p ∙ ap ordering_reverse o

reverse_equal : (p q : Path) → path_cmp p q ≡ Equal → path_cmp q p ≡ Equal
reverse_equal p q o = path_total.antisymm q p ∙ ap ordering_reverse o

not_before : (p q : Path) → path_cmp p q ≡ Less → is_lt (path_cmp q p) ≡ false
not_before p q o = ap is_lt (reverse_less p q o)

sorted : (paths : List Path) → IsRising paths → IsSortedBy (λ p q. is_lt (path_cmp p q)) paths
sorted [] r k d from within = absurd (omega (arith, within))
sorted (p ∷ paths) r zero d from within = not_before p (get_or paths 0 d) (r.0 (get_or paths 0 d) (among paths 0 d (omega (arith, within))))
sorted (p ∷ paths) r (suc k) d from within =
    let next : suc (k + 1) ≡ suc k + 1 = omega arith in
    subst (λ n. is_lt (path_cmp (get_or (p ∷ paths) n d) (get_or paths k d)) ≡ false) next (sorted paths r.1 k d (omega arith) (omega (arith, within)))

pub found : (paths : List Path) (k : ℕ) (p : Path) → IsRising paths → k < length paths → ((d : Path) → path_cmp (get_or paths k d) p ≡ Equal) → insert_key path_cmp paths p ≡ paths
found [] k p r lt e = absurd (omega (arith, lt))
found (q ∷ paths) zero p r lt e = rw (reverse_equal q p (e p)) refl
found (q ∷ paths) (suc k) p r lt e =
    let same : get_or paths k p ≡ p = equal_paths (get_or paths k p) p (e p) in
    let less : path_cmp q p ≡ Less = subst (λ x. path_cmp q x ≡ Less) same (r.0 (get_or paths k p) (among paths k p (omega (arith, lt)))) in
    rw (reverse_less q p less) (ap (λ l. q ∷ l) (found paths k p r.1 (omega (arith, lt)) (λ d. e d)))

place : (paths : List Path) (k : ℕ) (p : Path) → k ≤ length paths → ((i : ℕ) (d : Path) → i < k → path_cmp (get_or paths i d) p ≡ Less) → ((i : ℕ) (d : Path) → k ≤ i → i < length paths → path_cmp (get_or paths i d) p ≡ Greater)
    → insert_key path_cmp paths p ≡ insert paths k p
place [] zero p within low high = refl
place [] (suc k) p within low high = absurd (omega (arith, within))
place (q ∷ paths) zero p within low high = rw (reverse_greater q p (high 0 p (omega arith) (omega arith))) refl
place (q ∷ paths) (suc k) p within low high =
    rw (reverse_less q p (low 0 p (omega arith))) (ap (λ l. q ∷ l) (place paths k p (omega (arith, within)) (λ i d a. low (suc i) d (omega (arith, a))) (λ i d a b. high (suc i) d (omega (arith, a)) (omega (arith, b)))))

pub placed : (paths : List Path) (k : ℕ) (p : Path) → IsRising paths → k ≤ length paths → IsBinarySearchResult (λ q. path_cmp q p) paths (Err k) → insert_key path_cmp paths p ≡ insert paths k p
placed paths k p r within parted =
    let point = parted (searchable_from_sorted path_total (λ q. q) paths p (sorted paths r)) in
    place paths k p within (λ i d a. point.0 i d (omega arith) a) (λ i d a b. point.1 i d a b)

-- ---- behind all

less_is : (o : Ordering) → is_lt o ≡ true → o ≡ Less
less_is Less t = refl
less_is Equal t = absurd (false≢true t)
less_is Greater t = absurd (false≢true t)

one_of : (paths : List Path) (k : ℕ) (p : Path) → slice_get paths k ≡ Some p → IsAmongPaths p paths
one_of [] k p at = cc
one_of (q ∷ paths) zero p at = let e : p ≡ q = cc in inl e
one_of (q ∷ paths) (suc k) p at = inr (one_of paths k p at)

behind : (paths : List Path) (p last : Path) → IsRising paths → slice_get paths (length paths - 1) ≡ Some last → path_cmp last p ≡ Less → insert_key path_cmp paths p ≡ paths ++ p ∷ []
behind [] p last r at less = refl
behind (q ∷ []) p last r at less =
    let e : q ≡ last = cc in
    rw (reverse_less q p (subst (λ x. path_cmp x p ≡ Less) (sym e) less)) refl
behind (q ∷ s ∷ paths) p last r at less =
    let next : length (q ∷ s ∷ paths) - 1 ≡ suc (length (s ∷ paths) - 1) = omega arith in
    let here : slice_get (s ∷ paths) (length (s ∷ paths) - 1) ≡ Some last = sym (ap (slice_get (q ∷ s ∷ paths)) next) ∙ at in
    let first : path_cmp q p ≡ Less = path_total.trans q last p (r.0 last (one_of (s ∷ paths) (length (s ∷ paths) - 1) last here)) less in
    rw (reverse_less q p first) (ap (λ l. q ∷ l) (behind (s ∷ paths) p last r.1 here less))

pub behind_last : (paths : List Path) (p last : Path) → IsRising paths → slice_get paths (length paths - 1) ≡ Some last → is_lt (path_cmp last p) ≡ true → insert_key path_cmp paths p ≡ paths ++ p ∷ []
behind_last paths p last r at t = behind paths p last r at (less_is (path_cmp last p) t)
