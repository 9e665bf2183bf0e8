-- Errors that are sorted by error and then by rank: the first of each run has the least rank.
use Rattle.std.proofs.Common.{zero, suc, length, slice_index_or, ◌≡◌, ℕ, ◌+◌, ◌<◌, ◌≤◌, ◌⊎◌, inl, inr, Bool, true, false, cond, List, [], ◌∷◌, refl, sym, ◌∙◌, ap, subst, arith}
use Rattle.std.specs.List.{AllByRecursion, dedup, dedup_from, Contains}
use Rattle.std.specs.List.Sorted.{IsPermutation, IsSortedBy}
use Rattle.std.specs.Ordering.{nat_cmp, ordering_then, ordering_reverse, MatchOrdering, is_lt}
use Rattle.std.specs.declared.cmp.Ordering.{Ordering}
use Rattle.std.specs.declared.cmp.Ordering.TheVariants.{Less, Equal, Greater}
use Rattle.std.specs.Cmp.{ranks, tied_itself}
use Rattle.std.proofs.lemmas.List.{get_or_default}
use Rattle.std.proofs.lemmas.List.Sorted.{Contains-permutation, IsPermutation-sym}
use Rattle.ix_core.specs.declared.error.Error.{Error}
use Rattle.ix_errors.specs.declared.ranked.Ranked.{Ranked}
use Rattle.ix_errors.specs.Exactly.{IsListed}
use Rattle.ix_errors.specs.ErrorList.{In, HasRank}
use Rattle.ix_errors.specs.FullKey.{full_key}
use Rattle.ix_errors.specs.Least.{AreLeast, AreOnce}
use Rattle.ix_errors.proofs.FullKeys.{full_cmp, full_total}
use Rattle.ix_errors.proofs.KeysApart.{full_eq, full_apart, told_same, told_apart}

-- ---- the order of the sort

unfoldable pub ranked_cmp : Ranked → Ranked → Ordering
ranked_cmp x y = ordering_then (full_cmp (full_key x.error 0) (full_key y.error 0)) (nat_cmp x.rank y.rank)

-- the error of x comes before that of y
Before : Ranked → Ranked → Type 0
Before x y = full_cmp (full_key x.error 0) (full_key y.error 0) ≡ Less

-- x and y are one error, and the rank of x is no greater
abbrev Covers : Ranked → Ranked → Type 0
Covers x y = (x.error ≡ y.error) × (x.rank ≤ y.rank)

abbrev NotAfter : Ranked → Ranked → Type 0
NotAfter x y = Before x y ⊎ Covers x y

not_after : (x y : Ranked) → is_lt (ranked_cmp y x) ≡ false → NotAfter x y
unfolding ranked_cmp Before
not_after x y h = by (full_cmp (full_key y.error 0) (full_key x.error 0)) (nat_cmp y.rank x.rank) refl (ranks y.rank x.rank) h
  where
    by : (r s : Ordering) → full_cmp (full_key y.error 0) (full_key x.error 0) ≡ r → MatchOrdering s (y.rank < x.rank) (y.rank ≡ x.rank) (x.rank < y.rank)
        → is_lt (ordering_then r s) ≡ false → NotAfter x y
    by Less s p q h = cc
    by Equal Less p q h = cc
    by Equal Equal p q h = inr (sym (full_apart y.error x.error 0 0 p).0, omega (arith, q))
    by Equal Greater p q h = inr (sym (full_apart y.error x.error 0 0 p).0, omega (arith, q))
    by Greater s p q h = inl (full_total.antisymm (full_key x.error 0) (full_key y.error 0) ∙ ap ordering_reverse p)

before_trans : (x y z : Ranked) → Before x y → Before y z → Before x z
unfolding Before
before_trans x y z p q = full_total.trans (full_key x.error 0) (full_key y.error 0) (full_key z.error 0) p q

before_from : (x : Ranked) (e f : Error) → e ≡ f → full_cmp (full_key x.error 0) (full_key e 0) ≡ Less → full_cmp (full_key x.error 0) (full_key f 0) ≡ Less
before_from x e f h p = subst (λ (v : Error). full_cmp (full_key x.error 0) (full_key v 0) ≡ Less) h p

before_to : (x : Ranked) (e f : Error) → e ≡ f → full_cmp (full_key e 0) (full_key x.error 0) ≡ Less → full_cmp (full_key f 0) (full_key x.error 0) ≡ Less
before_to x e f h p = subst (λ (v : Error). full_cmp (full_key v 0) (full_key x.error 0) ≡ Less) h p

not_after_trans : (x y z : Ranked) → NotAfter x y → NotAfter y z → NotAfter x z
unfolding Before
not_after_trans x y z (inl p) (inl q) = inl (full_total.trans (full_key x.error 0) (full_key y.error 0) (full_key z.error 0) p q)
not_after_trans x y z (inl p) (inr q) = inl (before_from x y.error z.error q.0 p)
not_after_trans x y z (inr p) (inl q) = inl (before_to z y.error x.error (sym p.0) q)
not_after_trans x y z (inr p) (inr q) = inr (p.0 ∙ q.0, omega (arith, p.1, q.1))

all_before : (x y : Ranked) (zs : List Ranked) → Before x y → AllByRecursion (Before y) zs → AllByRecursion (Before x) zs
all_before x y [] p q = tt
all_before x y (z ∷ zs) p q = (before_trans x y z p q.0, all_before x y zs p q.1)

all_not_after : (x y : Ranked) (zs : List Ranked) → NotAfter x y → AllByRecursion (NotAfter y) zs → AllByRecursion (NotAfter x) zs
all_not_after x y [] p q = tt
all_not_after x y (z ∷ zs) p q = (not_after_trans x y z p q.0, all_not_after x y zs p q.1)

-- each error is after none of those that follow
Sorted : List Ranked → Type 0
Sorted [] = Unit {0}
Sorted (x ∷ xs) = AllByRecursion (NotAfter x) xs × Sorted xs

onward : (x : Ranked) (xs : List Ranked) (k : ℕ) (d : Ranked) → is_lt (ranked_cmp (slice_index_or (x ∷ xs) (suc k + 1) d) (slice_index_or (x ∷ xs) (suc k) d)) ≡ false
    → is_lt (ranked_cmp (slice_index_or xs (k + 1) d) (slice_index_or xs k d)) ≡ false
onward x xs k d h = let e : suc k + 1 ≡ suc (k + 1) = omega arith in subst (λ n. is_lt (ranked_cmp (slice_index_or (x ∷ xs) n d) (slice_index_or xs k d)) ≡ false) e h

sorted_from : (xs : List Ranked) → IsSortedBy (λ x y. is_lt (ranked_cmp x y)) xs → Sorted xs
unfolding Sorted
sorted_from [] h = tt
sorted_from (x ∷ []) h = (tt, tt)
sorted_from (x ∷ y ∷ zs) h =
    let later = sorted_from (y ∷ zs) (λ k d low lt. onward x (y ∷ zs) k d (h (suc k) d (omega arith) (omega (arith, lt)))) in
    let first : NotAfter x y = not_after x y (h 0 x (omega arith) (omega arith)) in
    ((first, all_not_after x y zs first later.0), later)

-- ---- of each run the first

abbrev pub same_key : Ranked → Ranked → Bool
same_key x y = full_eq (full_key x.error 0) (full_key y.error 0)

later : Ranked → List Ranked → List Ranked
later x [] = []
later x (y ∷ ys) = cond (same_key y x) (later x ys) (y ∷ later y ys)

dedup_later : (x : Ranked) (ys : List Ranked) → dedup_from same_key x ys ≡ x ∷ later x ys
unfolding later
dedup_later x [] = refl
dedup_later x (y ∷ ys) = by (same_key y x) (dedup_later x ys) (dedup_later y ys)
  where
    by : (b : Bool) → dedup_from same_key x ys ≡ x ∷ later x ys → dedup_from same_key y ys ≡ y ∷ later y ys
        → cond b (dedup_from same_key x ys) (x ∷ dedup_from same_key y ys) ≡ x ∷ cond b (later x ys) (y ∷ later y ys)
    by true p q = p
    by false p q = ap (λ l. x ∷ l) q

-- where the errors differ, what isn't after is before
apart : (x y : Ranked) → same_key y x ≡ false → NotAfter x y → Before x y
apart x y h (inl p) = p
apart x y h (inr p) = absurd (told_apart y.error x.error h (sym p.0))

differ : (x y : Ranked) → Before x y → x.error ≡ y.error → ⊥
unfolding Before
differ x y p h =
    let itself : full_cmp (full_key x.error 0) (full_key x.error 0) ≡ Equal = tied_itself full_total (full_key x.error 0) in
    let there : full_cmp (full_key x.error 0) (full_key y.error 0) ≡ Equal = subst (λ (v : Error). full_cmp (full_key x.error 0) (full_key v 0) ≡ Equal) h itself in
    cc

record Later (x : Ranked) (zs ys : List Ranked) : Type 0 where
  above : AllByRecursion (Before x) ys
  once : AreOnce ys
  found : (y : Ranked) → IsListed y ys → IsListed y zs
  covered : (e : Ranked) → IsListed e zs → (y : Ranked) × IsListed y (x ∷ ys) × Covers y e

drop_one : (x y : Ranked) (ys : List Ranked) → same_key y x ≡ true → NotAfter x y → Later x ys (later x ys) → Later x (y ∷ ys) (later x ys)
drop_one x y ys b lt l =
    record {
      above = l.above;
      once = l.once;
      found = λ w h. inr (l.found w h);
      covered = λ e h. covered_by e (covers (told_same y.error x.error b) lt) h;
    }
  where
    covers : y.error ≡ x.error → NotAfter x y → Covers x y
    covers p (inl r) = absurd (differ x y r (sym p))
    covers p (inr r) = r

    covered_by : (e : Ranked) → Covers x y → IsListed e (y ∷ ys) → (w : Ranked) × IsListed w (x ∷ later x ys) × Covers w e
    covered_by e c (inl h) = (x, inl refl, subst (λ (v : Ranked). Covers x v) (sym h) c)
    covered_by e c (inr h) = l.covered e h

once_more : (x : Ranked) (ys : List Ranked) → AllByRecursion (Before x) ys → AreOnce ys → AreOnce (x ∷ ys)
once_more x ys a o i zero d lt within = absurd (omega arith)
once_more x ys a o zero (suc j) d lt within = differ_at ys j a (omega (arith, within))
  where
    differ_at : (ys : List Ranked) (j : ℕ) → AllByRecursion (Before x) ys → j < length ys → x.error ≡ (slice_index_or ys j d).error → ⊥
    differ_at [] j a l = absurd (omega arith)
    differ_at (y ∷ ys) zero a l = differ x y a.0
    differ_at (y ∷ ys) (suc j) a l = differ_at ys j a.1 (omega (arith, l))
once_more x ys a o (suc i) (suc j) d lt within = o i j d (omega (arith, lt)) (omega (arith, within))

keep_one : (x y : Ranked) (ys : List Ranked) → same_key y x ≡ false → NotAfter x y → Later y ys (later y ys) → Later x (y ∷ ys) (y ∷ later y ys)
keep_one x y ys b lt m =
    let before : Before x y = apart x y b lt in
    record {
      above = (before, all_before x y (later y ys) before m.above);
      once = once_more y (later y ys) m.above m.once;
      found = found_by;
      covered = covered_by;
    }
  where
    found_by : (w : Ranked) → IsListed w (y ∷ later y ys) → IsListed w (y ∷ ys)
    found_by w (inl h) = inl h
    found_by w (inr h) = inr (m.found w h)

    covered_by : (e : Ranked) → IsListed e (y ∷ ys) → (w : Ranked) × IsListed w (x ∷ y ∷ later y ys) × Covers w e
    covered_by e (inl h) = (y, inr (inl refl), subst (λ (v : Ranked). Covers y v) (sym h) (refl, omega arith))
    covered_by e (inr h) = let c = m.covered e h in (c.0, inr c.1, c.2)

step : (x y : Ranked) (ys : List Ranked) (b : Bool) → same_key y x ≡ b → NotAfter x y → Later x ys (later x ys) → Later y ys (later y ys)
    → Later x (y ∷ ys) (cond b (later x ys) (y ∷ later y ys))
step x y ys true b lt l m = drop_one x y ys b lt l
step x y ys false b lt l m = keep_one x y ys b lt m

later_is : (x : Ranked) (zs : List Ranked) → AllByRecursion (NotAfter x) zs → Sorted zs → Later x zs (later x zs)
unfolding Sorted later
later_is x [] a s = record { above = tt; once = λ i j d lt within. absurd (omega (arith, within)); found = λ y h. h; covered = λ e h. absurd h }
later_is x (y ∷ ys) a s = step x y ys (same_key y x) refl a.0 (later_is x ys a.1 s.1) (later_is y ys s.0 s.1)

-- ---- the list

record Firsts (sorted kept : List Ranked) : Type 0 where
  once : AreOnce kept
  found : (y : Ranked) → IsListed y kept → IsListed y sorted
  covered : (e : Ranked) → IsListed e sorted → (y : Ranked) × IsListed y kept × Covers y e

firsts : (sorted : List Ranked) → Sorted sorted → Firsts sorted (dedup same_key sorted)
unfolding Sorted
firsts [] s = record { once = λ i j d lt within. absurd (omega (arith, within)); found = λ y h. h; covered = λ e h. absurd h }
firsts (x ∷ zs) s =
    let l = later_is x zs s.0 s.1 in
    subst (λ (v : List Ranked). Firsts (x ∷ zs) v) (sym (dedup_later x zs)) (record {
      once = once_more x (later x zs) l.above l.once;
      found = found_by l;
      covered = covered_by l;
    })
  where
    found_by : Later x zs (later x zs) → (y : Ranked) → IsListed y (x ∷ later x zs) → IsListed y (x ∷ zs)
    found_by l y (inl h) = inl h
    found_by l y (inr h) = inr (l.found y h)

    covered_by : Later x zs (later x zs) → (e : Ranked) → IsListed e (x ∷ zs) → (y : Ranked) × IsListed y (x ∷ later x zs) × Covers y e
    covered_by l e (inl h) = (x, inl refl, subst (λ (v : Ranked). Covers x v) (sym h) (refl, omega arith))
    covered_by l e (inr h) = l.covered e h

-- ---- places and elements

at_place : (xs : List Ranked) (x : Ranked) (k : ℕ) → k < length xs → slice_index_or xs k x ≡ x → IsListed x xs
at_place [] x k l e = absurd (omega arith)
at_place (y ∷ ys) x zero l e = inl (sym e)
at_place (y ∷ ys) x (suc k) l e = inr (at_place ys x k (omega (arith, l)) e)

pub place_of : (xs : List Ranked) (x : Ranked) → IsListed x xs → Contains xs x
place_of [] x h = absurd h
place_of (y ∷ ys) x (inl h) = (0, omega arith, sym h)
place_of (y ∷ ys) x (inr h) = let c = place_of ys x h in (suc c.0, omega (arith, c.1), c.2)

pub listed_of : (xs : List Ranked) (x : Ranked) → Contains xs x → IsListed x xs
listed_of xs x c = at_place xs x c.0 c.1 c.2

pub listed_moved : (xs ys : List Ranked) (x : Ranked) → IsPermutation xs ys → IsListed x xs → IsListed x ys
listed_moved xs ys x moved h = listed_of ys x (Contains-permutation xs ys x moved (place_of xs x h))

-- of two elements with one error one is the other
one_of : (kept : List Ranked) → AreOnce kept → (y z : Ranked) → IsListed y kept → IsListed z kept → y.error ≡ z.error → y ≡ z
one_of kept once y z a b same = let c = place_of kept y a in let d = place_of kept z b in by c.0 d.0 (nat_cmp c.0 d.0) (ranks c.0 d.0) c.1 c.2 d.1 (get_or_default kept d.0 y z d.1 ∙ d.2)
  where
    by : (i j : ℕ) (r : Ordering) → MatchOrdering r (i < j) (i ≡ j) (j < i) → i < length kept → slice_index_or kept i y ≡ y → j < length kept → slice_index_or kept j y ≡ z → y ≡ z
    by i j Less l c e d f = absurd (once i j y l d (ap (λ (v : Ranked). v.error) e ∙ same ∙ ap (λ (v : Ranked). v.error) (sym f)))
    by i j Equal l c e d f = sym e ∙ ap (λ k. slice_index_or kept k y) l ∙ f
    by i j Greater l c e d f = absurd (once j i y l c (ap (λ (v : Ranked). v.error) f ∙ sym same ∙ ap (λ (v : Ranked). v.error) (sym e)))

least_by : (found sorted kept : List Ranked) → IsPermutation found sorted → Firsts sorted kept → AreLeast found kept
least_by found sorted kept moved f = record { all = all_by; only = only_by }
  where
    all_by : (error : Error) (rank : ℕ) → In found error rank → (least : ℕ) × In kept error least
    all_by error rank h = let c = f.covered (record { error = error; rank = rank }) (listed_moved found sorted (record { error = error; rank = rank }) moved h) in
        (c.0.rank, subst (λ (v : Error). In kept v c.0.rank) c.2.0 c.1)

    least_at : (one : Ranked) → IsListed one kept → (other : ℕ) → In found one.error other → one.rank ≤ other
    least_at one h other k =
        let c = f.covered (record { error = one.error; rank = other }) (listed_moved found sorted (record { error = one.error; rank = other }) moved k) in
        let same : c.0 ≡ one = one_of kept f.once c.0 one c.1 h c.2.0 in
        subst (λ (v : Ranked). v.rank ≤ other) same c.2.1

    only_by : (one : Ranked) → IsListed one kept → HasRank (In found) one.error one.rank
    only_by one h = record { is = listed_moved sorted found one (IsPermutation-sym found sorted moved) (f.found one h); least = least_at one h }

pub least_of_sorted : (found sorted kept : List Ranked) → IsPermutation found sorted → IsSortedBy (λ x y. is_lt (ranked_cmp x y)) sorted → kept ≡ dedup same_key sorted
    → AreLeast found kept × AreOnce kept
least_of_sorted found sorted kept moved up is =
    let f : Firsts sorted kept = subst (λ (v : List Ranked). Firsts sorted v) (sym is) (firsts sorted (sorted_from sorted up)) in
    (least_by found sorted kept moved f, f.once)
