-- What a binary search finds among facts that rise by key.
use Rattle.std.specs.Prelude.{◌≡◌, ◌⊎◌, ℕ, zero, suc, ◌+◌, ◌-◌, ◌<◌, ◌≤◌, Bool, true, false, List, [], ◌∷◌, ◌++◌, Some, None, Ok, Err, length, take, drop, get_or, slice_get, slice_index_or, refl}
use Rattle.std.specs.List.Sorted.{IsBinarySearchResult, IsNonDecreasingBy, IsSortedBy, IsPartitionedBy, IsPartitionPoint}
use Rattle.std.specs.declared.cmp.Ordering.{Ordering}
use Rattle.std.specs.declared.cmp.Ordering.TheVariants.{Less as Before, Equal, Greater}
use Rattle.std.specs.Ordering.{is_lt, is_eq, nat_cmp, ordering_index, ordering_then, ordering_reverse}
use Rattle.std.proofs.Common.{arith, inl, inr, ap, sym, ◌∙◌, subst, ⊎_elim}
use Rattle.std.proofs.lemmas.Bool.{false≢true, cases_lt}
use Rattle.std.proofs.lemmas.Cmp.{nat_cmp_total}
use Rattle.std.proofs.lemmas.List.Sorted.{searchable_from_sorted}
use Rattle.ix_core.specs.declared.fact.Path.{Path}
use Rattle.ix_core.specs.declared.fact.Fact.{Fact}
use Rattle.ix_core.specs.declared.fact.Fact.TheVariants.{Rng, LenRng, Low, Same, IsLen, Less, Sum, Search, Neg, Upper}
use Rattle.ix_facts.specs.Facts.{IsIn}
use Rattle.ix_facts.specs.declared.kind.Kind.TheVariants as kind
use Rattle.ix_facts.specs.Kinds.{is_of, of_kind}
use Rattle.ix_fact_table.specs.FactOrder.{AtKey, kind_place, kind_cmp, fact_cmp, comes_before, fact_total, at_key, key_equal, alike_back}
use Rattle.ix_fact_table.specs.Rising.{rises}
use Rattle.ix_fact_table.specs.RisingLaws.{is_less as less_is, below_each, rises_parts}
use Rattle.ix_fact_table.specs.Walks.{ArePast}

in_get : (facts : List Fact) (k : ℕ) (d : Fact) → k < length facts → IsIn (get_or facts k d) facts
in_get [] k d lt = absurd (omega arith)
in_get (f ∷ facts) zero d lt = inl refl
in_get (f ∷ facts) (suc k) d lt = inr (in_get facts k d (omega arith))

pub in_place : (facts : List Fact) (k : ℕ) (d : Fact) → k < length facts → IsIn (slice_index_or facts k d) facts
in_place facts k d lt = in_get facts k d lt

place : (facts : List Fact) (f : Fact) → IsIn f facts → (k : ℕ) × (k < length facts) × (get_or facts k f ≡ f)
place [] f i = absurd i
place (g ∷ facts) f i = ⊎_elim (λ e. (0, omega arith, sym e)) (λ j. let x = place facts f j in (suc x.0, omega (arith, x.1), x.2)) i

-- an earlier key is less than a later one
pub earlier : (facts : List Fact) → rises facts ≡ true → (i j : ℕ) (d : Fact) → i < j → j < length facts → fact_cmp (get_or facts i d) (get_or facts j d) ≡ Before
earlier [] r i j d less within = absurd (omega arith)
earlier (f ∷ facts) r i zero d less within = absurd (omega arith)
earlier (f ∷ facts) r zero (suc j) d less within = below_each f facts (rises_parts f facts r).0 (get_or facts j d) (in_get facts j d (omega arith))
earlier (f ∷ facts) r (suc i) (suc j) d less within = earlier facts (rises_parts f facts r).1 i j d (omega arith) (omega arith)

turned_lt : (f g : Fact) → fact_cmp f g ≡ Before → is_lt (fact_cmp g f) ≡ false
turned_lt f g h = ap is_lt (fact_total.antisymm g f ∙ ap ordering_reverse h)

sorted_facts : (facts : List Fact) → rises facts ≡ true → IsSortedBy (λ f g. is_lt (fact_cmp f g)) facts
sorted_facts facts r k d from within = turned_lt (get_or facts k d) (get_or facts (k + 1) d) (earlier facts r k (k + 1) d (omega arith) within)

pub comparisons_rise : (facts : List Fact) (key : Fact) → rises facts ≡ true → IsNonDecreasingBy (λ f. ordering_index (fact_cmp f key)) facts
comparisons_rise facts key r = searchable_from_sorted fact_total (λ f. f) facts key (sorted_facts facts r)

pub none_at : (facts : List Fact) (key : Fact) (at : ℕ) → rises facts ≡ true → IsBinarySearchResult (λ f. fact_cmp f key) facts (Err at) → (f : Fact) → IsIn f facts → AtKey f key → ⊥
none_at facts key at r parted f i key_same =
    let x = place facts f i in
    let point = parted (comparisons_rise facts key r) in
    let equal : fact_cmp (get_or facts x.0 f) key ≡ Equal = ap (λ g. fact_cmp g key) x.2 ∙ key_equal f key key_same in
    ⊎_elim
    (λ less. let no : Before ≡ Equal = sym (point.0 x.0 f (omega arith) less) ∙ equal in cc)
    (λ from. let no : Greater ≡ Equal = sym (point.1 x.0 f from x.1) ∙ equal in cc)
    (cases_lt x.0 at)

pub found_at : (facts : List Fact) (key : Fact) (at : ℕ) → IsBinarySearchResult (λ f. fact_cmp f key) facts (Ok at) → (d : Fact) → AtKey (slice_index_or facts at d) key
found_at facts key at equal d = at_key (slice_index_or facts at d) key (ap is_eq (equal d))

pub found_in : (facts whole : List Fact) (key other : Fact) (at : ℕ) (d : Fact) → facts ≡ whole → key ≡ other → (at < length facts) × ((e : Fact) → AtKey (slice_index_or facts at e) key) → IsIn (slice_index_or facts at d) whole × AtKey (slice_index_or facts at d) other
found_in facts whole key other at d is same found = (subst (IsIn (slice_index_or facts at d)) is (in_place facts at d found.0), subst (AtKey (slice_index_or facts at d)) same (found.1 d))

-- what stands before the place that is found is past
pub found_past : (facts : List Fact) (key : Fact) (at : ℕ) → rises facts ≡ true → at < length facts → IsBinarySearchResult (λ f. fact_cmp f key) facts (Ok at) → ArePast facts at key
found_past facts key at r within equal k d less =
    let there = get_or facts at d in
    sym (alike_back there key (get_or facts k d) (at_key there key (ap is_eq (equal d)))) ∙ earlier facts r k at d less within

pub missed_past : (facts : List Fact) (key : Fact) (at : ℕ) → rises facts ≡ true → IsBinarySearchResult (λ f. fact_cmp f key) facts (Err at) → ArePast facts at key
missed_past facts key at r parted k d less = (parted (comparisons_rise facts key r)).0 k d (omega arith) less

same_or_less : (i j : ℕ) → i ≤ j → (i ≡ j) ⊎ (i < j)
same_or_less i j h = ⊎_elim (λ less. inr less) (λ from. inl (omega arith)) (cases_lt i j)

at_place : (facts : List Fact) (k : ℕ) (f d : Fact) → slice_get facts k ≡ Some f → get_or facts k d ≡ f
at_place [] k f d at = cc
at_place (g ∷ facts) zero f d at = cc
at_place (g ∷ facts) (suc k) f d at = at_place facts k f d at

no_end : (g : Fact) (facts : List Fact) → slice_get (g ∷ facts) (length facts) ≡ None → ⊥
no_end g [] at = absurd cc
no_end g (h ∷ facts) at = no_end h facts at

pub behind_none : (facts : List Fact) (f : Fact) → slice_get facts (length facts - 1) ≡ None → ArePast facts (length facts) f
behind_none [] f at k d within = absurd (omega arith)
behind_none (g ∷ facts) f at k d within =
    let size : length (g ∷ facts) - 1 ≡ length facts = omega arith in
    absurd (no_end g facts (subst (λ n. slice_get (g ∷ facts) n ≡ None) size at))

-- where the last fact is before the other, all are
pub behind_last : (facts : List Fact) (f last : Fact) → rises facts ≡ true → slice_get facts (length facts - 1) ≡ Some last → is_lt (fact_cmp last f) ≡ true → ArePast facts (length facts) f
behind_last facts f last r at test k d within =
    let end : get_or facts (length facts - 1) d ≡ last = at_place facts (length facts - 1) last d at in
    let less : fact_cmp last f ≡ Before = less_is (fact_cmp last f) test in
    ⊎_elim
    (λ same. subst (λ n. fact_cmp (get_or facts n d) f ≡ Before) (sym same) (ap (λ g. fact_cmp g f) end ∙ less))
    (λ before_it.
    let past : fact_cmp (get_or facts k d) (get_or facts (length facts - 1) d) ≡ Before = earlier facts r k (length facts - 1) d before_it (omega arith) in
    fact_total.trans (get_or facts k d) last f (subst (λ g. fact_cmp (get_or facts k d) g ≡ Before) end past) less)
    (same_or_less k (length facts - 1) (omega arith))

-- ---- the facts of kinds before one

not_after : (first rest : Ordering) → ordering_then first rest ≡ Before → (first ≡ Before) ⊎ (first ≡ Equal)
not_after Before rest h = inl refl
not_after Equal rest h = inr refl
not_after Greater rest h = absurd cc

module _ (n : ℕ) where
  -- where a fact's kind comes before the one of that place, so do the kinds of facts before it
  kinds_rise : (f g : Fact) → fact_cmp f g ≡ Before → comes_before n g ≡ true → comes_before n f ≡ true
  kinds_rise f g less h =
      ⊎_elim
      (λ first. ap is_lt (nat_cmp_total.trans (kind_place f) (kind_place g) n first (less_is (nat_cmp (kind_place g) n) h)))
      (λ same. ap is_lt (nat_cmp_total.congr (kind_place f) (kind_place g) n same) ∙ h)
      (not_after (nat_cmp (kind_place f) (kind_place g)) (kind_cmp f g) less)

  parted_by_kind : (facts : List Fact) → rises facts ≡ true → IsPartitionedBy (comes_before n) facts
  parted_by_kind facts r i j d from within h =
      ⊎_elim
      (λ same. subst (λ k. comes_before n (get_or facts k d) ≡ true) (sym same) h)
      (λ less. kinds_rise (get_or facts i d) (get_or facts j d) (earlier facts r i j d less within) h)
      (same_or_less i j from)

  abbrev pub IsFound : List Fact → ℕ → Type 0
  IsFound facts count = IsPartitionedBy (comes_before n) facts → IsPartitionPoint (λ f. comes_before n f ≡ true) (λ f. comes_before n f ≡ false) facts count

-- ranges are the first kind
range_is : (f : Fact) → comes_before 1 f ≡ is_of kind.Range f
range_is (Rng p l h) = refl
range_is (LenRng a l h) = refl
range_is (Low p c) = refl
range_is (Same a b) = refl
range_is (IsLen p a) = refl
range_is (Less p q c) = refl
range_is (Sum t y z) = refl
range_is (Search p a) = refl
range_is (Neg p a) = refl
range_is (Upper p a o c) = refl

no_ranges : (facts : List Fact) → ((k : ℕ) (d : Fact) → k < length facts → comes_before 1 (get_or facts k d) ≡ false) → of_kind kind.Range facts ≡ []
no_ranges [] none = refl
no_ranges (f ∷ facts) none = rw (sym (range_is f) ∙ none 0 f (omega arith)) (no_ranges facts (λ k d a. none (suc k) d (omega arith)))

front_ranges : (facts : List Fact) (count : ℕ) → ((k : ℕ) (d : Fact) → k < count → k < length facts → comes_before 1 (get_or facts k d) ≡ true)
    → ((k : ℕ) (d : Fact) → count ≤ k → k < length facts → comes_before 1 (get_or facts k d) ≡ false) → take count facts ≡ of_kind kind.Range facts
front_ranges facts zero all none = sym (no_ranges facts (λ k d a. none k d (omega arith) a))
front_ranges [] (suc count) all none = refl
front_ranges (f ∷ facts) (suc count) all none =
    rw (sym (range_is f) ∙ all 0 f (omega arith) (omega arith))
    (ap (λ l. f ∷ l) (front_ranges facts count (λ k d a b. all (suc k) d (omega arith) (omega arith)) (λ k d a b. none (suc k) d (omega arith) (omega arith))))

-- the ranges are the front of facts that rise
pub ranges_are : (facts : List Fact) (count : ℕ) → rises facts ≡ true → count ≤ length facts → IsFound 1 facts count → take count facts ≡ of_kind kind.Range facts
ranges_are facts count r within found =
    let point = found (parted_by_kind 1 facts r) in
    front_ranges facts count (λ k d a b. point.0 k d (omega arith) a) (λ k d a b. point.1 k d a b)

past_start : (facts : List Fact) (start : ℕ) (f : Fact) → comes_before 4 f ≡ false → ((k : ℕ) (d : Fact) → k < start → k < length facts → comes_before 4 (get_or facts k d) ≡ true) → IsIn f facts → IsIn f (drop start facts)
past_start facts zero f n before i = i
past_start [] (suc start) f n before i = absurd i
past_start (g ∷ facts) (suc start) f n before i =
    ⊎_elim
    (λ e. absurd (false≢true (sym n ∙ (ap (comes_before 4) e ∙ before 0 g (omega arith) (omega arith)))))
    (λ j. past_start facts start f n (λ k d a b. before (suc k) d (omega arith) (omega arith)) j)
    i

-- the answers of searches stand behind the kinds before theirs
pub searches_are : (facts : List Fact) (start : ℕ) → rises facts ≡ true → start ≤ length facts → IsFound 4 facts start → (p a : Path) → IsIn (Search p a) facts → IsIn (Search p a) (drop start facts)
searches_are facts start r within found p a i =
    let point = found (parted_by_kind 4 facts r) in
    past_start facts start (Search p a) refl (λ k d x y. point.0 k d (omega arith) x) i

-- ---- the parts around differences

module _ (is : Fact → Bool) (b : Bool) where
  -- what is so at each place of the front is so of each fact there
  all_at_front : (facts : List Fact) (count : ℕ) → ((k : ℕ) (d : Fact) → k < count → k < length facts → is (get_or facts k d) ≡ b) → (f : Fact) → IsIn f (take count facts) → is f ≡ b
  all_at_front facts zero all f i = absurd i
  all_at_front [] (suc count) all f i = absurd i
  all_at_front (g ∷ facts) (suc count) all f i =
      ⊎_elim
      (λ e. ap is e ∙ all 0 g (omega arith) (omega arith))
      (λ j. all_at_front facts count (λ k d x y. all (suc k) d (omega arith) (omega arith)) f j)
      i

  -- and of each fact behind it
  all_behind : (facts : List Fact) (count : ℕ) → ((k : ℕ) (d : Fact) → count ≤ k → k < length facts → is (get_or facts k d) ≡ b) → (f : Fact) → IsIn f (drop count facts) → is f ≡ b
  all_behind [] zero all f i = absurd i
  all_behind (g ∷ facts) zero all f i =
      ⊎_elim
      (λ e. ap is e ∙ all 0 g (omega arith) (omega arith))
      (λ j. all_behind facts zero (λ k d x y. all (suc k) d (omega arith) (omega arith)) f j)
      i
  all_behind [] (suc count) all f i = absurd i
  all_behind (g ∷ facts) (suc count) all f i = all_behind facts count (λ k d x y. all (suc k) d (omega arith) (omega arith)) f i

pub front_is : (n : ℕ) (facts : List Fact) (count : ℕ) → rises facts ≡ true → count ≤ length facts → IsFound n facts count → (f : Fact) → IsIn f (take count facts) → comes_before n f ≡ true
front_is n facts count r within found f i =
    let point = found (parted_by_kind n facts r) in
    all_at_front (comes_before n) true facts count (λ k d a b. point.0 k d (omega arith) a) f i

pub back_is : (n : ℕ) (facts : List Fact) (count : ℕ) → rises facts ≡ true → count ≤ length facts → IsFound n facts count → (f : Fact) → IsIn f (drop count facts) → comes_before n f ≡ false
back_is n facts count r within found f i =
    let point = found (parted_by_kind n facts r) in
    all_behind (comes_before n) false facts count (λ k d a b. point.1 k d a b) f i

pub whole_is : (facts : List Fact) (count : ℕ) → facts ≡ take count facts ++ drop count facts
whole_is facts zero = refl
whole_is [] (suc count) = refl
whole_is (f ∷ facts) (suc count) = ap (λ l. f ∷ l) (whole_is facts count)

pub rest_rises : (facts : List Fact) (count : ℕ) → rises facts ≡ true → rises (drop count facts) ≡ true
rest_rises facts zero r = r
rest_rises [] (suc count) r = refl
rest_rises (f ∷ facts) (suc count) r = rest_rises facts count (rises_parts f facts r).1

-- what comes neither before differences nor behind them is one of them
pub difference_is : (f : Fact) → comes_before 3 f ≡ false → comes_before 4 f ≡ true → is_of kind.Difference f ≡ true
difference_is (Rng p l h) a b = absurd (false≢true (sym a))
difference_is (LenRng q l h) a b = absurd (false≢true (sym a))
difference_is (Low p c) a b = absurd (false≢true (sym a))
difference_is (Same p q) a b = absurd (false≢true (sym a))
difference_is (IsLen p q) a b = absurd (false≢true (sym a))
difference_is (Less p q c) a b = refl
difference_is (Sum t y z) a b = refl
difference_is (Search p q) a b = absurd (false≢true b)
difference_is (Neg p q) a b = absurd (false≢true b)
difference_is (Upper p q o c) a b = absurd (false≢true b)
