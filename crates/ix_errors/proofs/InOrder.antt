-- Errors that each stand once, sorted by their keys, are the list of errors.
use Rattle.std.proofs.Common.{zero, suc, length, slice_index_or, ◌≡◌, ℕ, ◌+◌, ◌<◌, Bool, true, false, Some, List, [], ◌∷◌, map, refl, sym, ◌∙◌, ap, subst, arith, slice_get}
use Rattle.std.specs.List.{IsDistinct}
use Rattle.std.specs.List.Sorted.{IsPermutation, IsSortedBy}
use Rattle.std.specs.Ordering.{is_lt}
use Rattle.std.proofs.lemmas.List.Sorted.{IsPermutation-sym}
use Rattle.std.proofs.lemmas.Map.Keys.{IsDistinct-IsPermutation, IsDistinct-from_apart, apart_from_distinct}
use Rattle.std.proofs.lemmas.Option.{slice_get-map, slice_get_within, get_or_from_slice_get, slice_get-get_or}
use Rattle.ix_core.specs.declared.error.Error.{Error}
use Rattle.ix_errors.specs.declared.ranked.Ranked.{Ranked}
use Rattle.ix_errors.specs.Exactly.{IsListed}
use Rattle.ix_errors.specs.ErrorList.{In, HasRank, IsErrorList}
use Rattle.ix_errors.specs.FullKey.{full_key}
use Rattle.ix_errors.specs.Order.{error_key, is_before}
use Rattle.ix_errors.specs.Least.{AreLeast, AreOnce, AreOrdered}
use Rattle.ix_errors.proofs.FullKeys.{full_cmp}
use Rattle.ix_errors.proofs.KeysApart.{told_apart, eq_apart, eq_flips, one_before}
use Rattle.ix_errors.proofs.Lists.{one_rank}
use Rattle.ix_errors.proofs.LeastOfEach.{listed_moved, listed_of, place_of, same_key}

-- ---- what a second sort keeps

pub least_moved : (found kept moved : List Ranked) → IsPermutation kept moved → AreLeast found kept → AreLeast found moved
least_moved found kept moved p l = record {
  all = λ error rank h. let c = l.all error rank h in (c.0, listed_moved kept moved (record { error = error; rank = c.0 }) p c.1);
  only = λ one h. l.only one (listed_moved moved kept one (IsPermutation-sym kept moved p) h);
}

pub once_moved : (kept moved : List Ranked) → IsPermutation kept moved → AreOnce kept → AreOnce moved
once_moved kept moved p once i j d lt within =
    let distinct : IsDistinct same_key kept = IsDistinct-from_apart same_key kept (λ a b e less inside. eq_apart (slice_index_or kept a e).error (slice_index_or kept b e).error (once a b e less inside)) in
    let still = IsDistinct-IsPermutation same_key (λ x y. eq_flips x.error y.error) kept moved p distinct in
    told_apart (slice_index_or moved i d).error (slice_index_or moved j d).error (apart_from_distinct same_key moved i j d still lt within)

-- ---- each before the next

abbrev pub before_key : Ranked → Ranked → Bool
before_key x y = is_lt (full_cmp (full_key x.error x.rank) (full_key y.error y.rank))

pub ordered_of : (kept : List Ranked) → AreOnce kept → IsSortedBy before_key kept → AreOrdered kept
ordered_of kept once up at one next here there =
    let end : suc at < length kept = slice_get_within kept (suc at) next there in
    let this : slice_index_or kept at one ≡ one = get_or_from_slice_get kept at one one here in
    let that : slice_index_or kept (suc at) one ≡ next = get_or_from_slice_get kept (suc at) next one there in
    let step : at + 1 ≡ suc at = omega arith in
    let less = up at one (omega arith) (omega (arith, end)) in
    let differ = once at (suc at) one (omega arith) end in
    let apart : one.error ≡ next.error → ⊥ = λ e. differ (ap (λ (v : Ranked). v.error) this ∙ e ∙ ap (λ (v : Ranked). v.error) (sym that)) in
    let turned : before_key next one ≡ false = subst (λ (v : Ranked). before_key next v ≡ false) this (subst (λ (v : Ranked). before_key v (slice_index_or kept at one) ≡ false) (ap (λ k. slice_index_or kept k one) step ∙ that) less) in
    one_before one.error next.error one.rank next.rank (λ e. apart e.0) turned

-- ---- without the ranks

listed_at : (kept : List Ranked) (at : ℕ) (one : Ranked) → slice_get kept at ≡ Some one → IsListed one kept
listed_at kept at one here = listed_of kept one (at, slice_get_within kept at one here, get_or_from_slice_get kept at one one here)

-- whose error stands at a place of the list without ranks
ranked_at : (kept : List Ranked) (at : ℕ) (error : Error) → slice_get (map (λ (f : Ranked). f.error) kept) at ≡ Some error → (one : Ranked) × (slice_get kept at ≡ Some one) × (one.error ≡ error)
ranked_at [] at error h = cc
ranked_at (x ∷ xs) zero error h = (x, refl, cc)
ranked_at (x ∷ xs) (suc at) error h = ranked_at xs at error h

pub listed_without_ranks : (found kept : List Ranked) → AreLeast found kept → AreOrdered kept → IsErrorList (In found) (map (λ (f : Ranked). f.error) kept)
listed_without_ranks found kept l up = record { all = all_by; only = only_by; ordered = ordered_by }
  where
    all_by : (error : Error) (rank : ℕ) → In found error rank → (at : ℕ) × (slice_get (map (λ (f : Ranked). f.error) kept) at ≡ Some error)
    all_by error rank h =
        let c = l.all error rank h in
        let one : Ranked = record { error = error; rank = c.0 } in
        let p = place_of kept one c.1 in
        (p.0, slice_get-map (λ (f : Ranked). f.error) kept p.0 ∙ rw (slice_get-get_or kept p.0 one p.1, p.2) refl)

    only_by : (at : ℕ) (error : Error) → slice_get (map (λ (f : Ranked). f.error) kept) at ≡ Some error → (rank : ℕ) × HasRank (In found) error rank
    only_by at error h =
        let c = ranked_at kept at error h in
        (c.0.rank, subst (λ (v : Error). HasRank (In found) v c.0.rank) c.2 (l.only c.0 (listed_at kept at c.0 c.1)))

    ordered_by : (at : ℕ) (error next : Error) (rank after : ℕ) → slice_get (map (λ (f : Ranked). f.error) kept) at ≡ Some error → slice_get (map (λ (f : Ranked). f.error) kept) (suc at) ≡ Some next
        → HasRank (In found) error rank → HasRank (In found) next after → is_before (error_key error rank) (error_key next after) ≡ true
    ordered_by at error next rank after h k r s =
        let c = ranked_at kept at error h in
        let d = ranked_at kept (suc at) next k in
        let first = one_rank (In found) error c.0.rank rank (subst (λ (v : Error). HasRank (In found) v c.0.rank) c.2 (l.only c.0 (listed_at kept at c.0 c.1))) r in
        let second = one_rank (In found) next d.0.rank after (subst (λ (v : Error). HasRank (In found) v d.0.rank) d.2 (l.only d.0 (listed_at kept (suc at) d.0 d.1))) s in
        rw (sym c.2, sym d.2, sym first, sym second) (up at c.0 d.0 c.1 d.1)
