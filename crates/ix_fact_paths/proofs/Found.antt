-- Among paths in order a binary search finds the facts beside one.
use Rattle.std.specs.Prelude.{◌≡◌, ℕ, zero, suc, ◌+◌, ◌<◌, ◌≤◌, Bool, true, false, List, [], ◌∷◌, length, take, drop, get_or, refl}
use Rattle.std.specs.List.Sorted.{IsNonDecreasingBy, IsPartitionedBy, IsPartitionPoint}
use Rattle.std.specs.declared.cmp.Ordering.{Ordering}
use Rattle.std.specs.declared.cmp.Ordering.TheVariants.{Less, Equal, Greater}
use Rattle.std.specs.Ordering.{is_lt, is_eq, ordering_index}
use Rattle.std.proofs.Common.{arith, ap, sym, ◌∙◌, subst}
use Rattle.std.proofs.lemmas.Bool.{false≢true}
use Rattle.std.proofs.lemmas.List.{get_or-drop, length-drop}
use Rattle.std.proofs.lemmas.List.Sorted.{searchable_from_sorted}
use Rattle.ix_core.specs.declared.fact.Path.{Path}
use Rattle.ix_core.specs.declared.fact.Fact.{Fact}
use Rattle.ix_facts.specs.Bounds.{is_path}
use Rattle.ix_facts.specs.PathOrder.{path_cmp, path_total, path_same, path_itself}
use Rattle.ix_facts.proofs.PathOrders.{path_equal}
use Rattle.ix_fact_paths.specs.ByPath.{beside, IsSorted}

turned : (p q : Path) → is_path p q ≡ true → is_path q p ≡ true
turned p q t = subst (λ w. is_path w p ≡ true) (path_same p q t) (path_itself p)

module _ (p : Path) where
  abbrev pub before : Path → Bool
  before q = is_lt (path_cmp q p)

  abbrev rank : Path → ℕ
  rank q = ordering_index (path_cmp q p)

  first_rank : (o : Ordering) → is_lt o ≡ true → ordering_index o ≡ 0
  first_rank Less h = refl
  first_rank Equal h = absurd (false≢true h)
  first_rank Greater h = absurd (false≢true h)

  rank_first : (o : Ordering) → ordering_index o ≡ 0 → is_lt o ≡ true
  rank_first Less h = refl
  rank_first Equal h = absurd (omega (arith, h))
  rank_first Greater h = absurd (omega (arith, h))

  same_rank : (o : Ordering) → is_eq o ≡ true → ordering_index o ≡ 1
  same_rank Less h = absurd (false≢true h)
  same_rank Equal h = refl
  same_rank Greater h = absurd (false≢true h)

  rank_same : (o : Ordering) → ordering_index o ≤ 1 → is_lt o ≡ false → is_eq o ≡ true
  rank_same Less h n = absurd (false≢true (sym n))
  rank_same Equal h n = refl
  rank_same Greater h n = absurd (omega (arith, h))

  before_apart : (q : Path) → before q ≡ true → is_path p q ≡ false
  before_apart q h = by_answer (is_path p q) (λ t. absurd (omega (arith, first_rank (path_cmp q p) h, same_rank (path_cmp q p) (path_equal q p ∙ turned p q t)))) (λ t. t)
    where
      by_answer : {G : Type 0} (t : Bool) → (t ≡ true → G) → (t ≡ false → G) → G
      by_answer true first second = first refl
      by_answer false first second = second refl

  parted_before : (paths : List Path) → IsSorted paths → IsPartitionedBy before paths
  parted_before paths sorted i j d from within h =
      let rises = searchable_from_sorted path_total (λ q. q) paths p sorted i j d from within in
      let last = first_rank (path_cmp (get_or paths j d) p) h in
      rank_first (path_cmp (get_or paths i d) p) (omega (arith, rises, last))

  parted_at : (paths : List Path) → IsNonDecreasingBy rank paths → ((k : ℕ) (d : Path) → k < length paths → before (get_or paths k d) ≡ false) → IsPartitionedBy (is_path p) paths
  parted_at paths rise none i j d from within h =
      let rises = rise i j d from within in
      let last = same_rank (path_cmp (get_or paths j d) p) (path_equal (get_or paths j d) p ∙ turned p (get_or paths j d) h) in
      let same : is_eq (path_cmp (get_or paths i d) p) ≡ true = rank_same (path_cmp (get_or paths i d) p) (omega (arith, rises, last)) (none i d (omega (arith, from, within))) in
      turned (get_or paths i d) p (sym (path_equal (get_or paths i d) p) ∙ same)

  beside_none : (paths : List Path) → beside p paths [] ≡ []
  beside_none [] = refl
  beside_none (q ∷ paths) = refl

  past_none : (paths : List Path) (facts : List Fact) (start : ℕ) → ((k : ℕ) (d : Path) → k < start → k < length paths → is_path p (get_or paths k d) ≡ false) → beside p paths facts ≡ beside p (drop start paths) (drop start facts)
  past_none paths facts zero none = refl
  past_none [] facts (suc start) none = refl
  past_none (q ∷ paths) [] (suc start) none = sym (beside_none (drop start paths))
  past_none (q ∷ paths) (f ∷ facts) (suc start) none = rw (none 0 q (omega arith) (omega arith)) (past_none paths facts start (λ k d a b. none (suc k) d (omega (arith, a)) (omega (arith, b))))

  no_more : (paths : List Path) (facts : List Fact) → ((k : ℕ) (d : Path) → k < length paths → is_path p (get_or paths k d) ≡ false) → beside p paths facts ≡ []
  no_more [] facts none = refl
  no_more (q ∷ paths) [] none = refl
  no_more (q ∷ paths) (f ∷ facts) none = rw (none 0 q (omega arith)) (no_more paths facts (λ k d a. none (suc k) d (omega (arith, a))))

  front_at : (paths : List Path) (facts : List Fact) (count : ℕ) → count ≤ length paths → ((k : ℕ) (d : Path) → k < count → k < length paths → is_path p (get_or paths k d) ≡ true)
      → ((k : ℕ) (d : Path) → count ≤ k → k < length paths → is_path p (get_or paths k d) ≡ false) → take count facts ≡ beside p paths facts
  front_at paths facts zero within all none = sym (no_more paths facts (λ k d a. none k d (omega arith) a))
  front_at [] facts (suc count) within all none = absurd (omega (arith, within))
  front_at (q ∷ paths) [] (suc count) within all none = refl
  front_at (q ∷ paths) (f ∷ facts) (suc count) within all none =
      rw (all 0 q (omega arith) (omega arith))
      (ap (λ l. f ∷ l) (front_at paths facts count (omega (arith, within)) (λ k d a b. all (suc k) d (omega (arith, a)) (omega (arith, b))) (λ k d a b. none (suc k) d (omega (arith, a)) (omega (arith, b)))))

  pub found_is : (paths rest : List Path) (facts : List Fact) (start count : ℕ) → IsSorted paths → start ≤ length paths → rest ≡ drop start paths → count ≤ length rest
      → (IsPartitionedBy before paths → IsPartitionPoint (λ q. before q ≡ true) (λ q. before q ≡ false) paths start)
      → (IsPartitionedBy (is_path p) rest → IsPartitionPoint (λ q. is_path p q ≡ true) (λ q. is_path p q ≡ false) rest count) → take count (drop start facts) ≡ beside p paths facts
  found_is paths rest facts start count sorted bound is few first second =
      let point = first (parted_before paths sorted) in
      let rises = searchable_from_sorted path_total (λ q. q) paths p sorted in
      let long : length rest ≡ length (drop start paths) = ap length is in
      let dropped = length-drop start paths in
      let none : (k : ℕ) (d : Path) → k < length rest → before (get_or rest k d) ≡ false = λ k d a.
      subst (λ l. before (get_or l k d) ≡ false) (sym is) (subst (λ q. before q ≡ false) (sym (get_or-drop start paths k d)) (point.1 (start + k) d (omega arith) (omega (arith, a, long, dropped, bound)))) in
      let rise : IsNonDecreasingBy rank rest = λ i j d from within.
      subst (λ l. rank (get_or l i d) ≤ rank (get_or l j d)) (sym is) (subst (λ q. rank q ≤ rank (get_or (drop start paths) j d)) (sym (get_or-drop start paths i d)) (subst (λ q. rank (get_or paths (start + i) d) ≤ rank q) (sym (get_or-drop start paths j d)) (rises (start + i) (start + j) d (omega (arith, from)) (omega (arith, within, long, dropped, bound))))) in
      let here = second (parted_at rest rise none) in
      front_at rest (drop start facts) count few (λ k d a b. here.0 k d (omega arith) a) (λ k d a b. here.1 k d a b)
      ∙ (ap (λ l. beside p l (drop start facts)) is ∙ sym (past_none paths facts start (λ k d a b. before_apart (get_or paths k d) (point.0 k d (omega arith) a))))
