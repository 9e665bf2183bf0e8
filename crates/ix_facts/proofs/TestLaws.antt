-- What an outcome of a test gives holds where it is so, and is stronger of stronger facts.
use Rattle.std.specs.Prelude.{◌≡◌, ◌≢◌, true, not, ◌||◌, ℤ, pos, negsuc, ◌+ℤ◌, ◌-ℤ◌, ◌≤ℤ◌, ◌<ℤ◌, int_le, List, [], ◌∷◌, ◌++◌}
use Rattle.std.proofs.Common.{arith, sym}
use Rattle.std.proofs.lemmas.Int.{ints, by_lt_z}
use Rattle.ix_num.specs.Comparisons.{Compares}
use Rattle.ix_num.specs.declared.rel.Rel.{Rel}
use Rattle.ix_num.specs.declared.rel.Rel.TheVariants.{Lt, Le, Gt, Ge, Eq, Ne}
use Rattle.ix_num.specs.Ints.{least_int, greatest_int}
use Rattle.ix_core.specs.declared.fact.Path.{Path}
use Rattle.ix_core.specs.declared.fact.PathOff.TheVariants.{Nothing, Plus, Minus}
use Rattle.ix_core.specs.declared.fact.Fact.{Fact}
use Rattle.ix_core.specs.declared.fact.Fact.TheVariants.{LenRng, Same, IsLen, Less, Sum, Search, Neg, Upper}
use Rattle.ix_core.specs.Numbers.{Numbers}
use Rattle.ix_facts.specs.Facts.{Holds, AllHold, Covers, Stronger, rng, len_rng, low, same, is_len, less, sum, search, neg, upper}
use Rattle.ix_facts.specs.Bounds
use Rattle.ix_facts.specs.Bounds.{is_path}
use Rattle.ix_facts.specs.Exact.{if_so, each}
use Rattle.ix_facts.specs.AfterTest as test
use Rattle.ix_facts.specs.AfterTest.{Outcome, Below, Apart, Equal, OneArray, IsSo, AllSo, outcome_facts, at_below, at_above, below_by, above_by}
use Rattle.ix_facts.proofs.BoundsHold.{int_same, lower_holds, limit_holds, own_low_holds, range_high_holds, less_holds}
use Rattle.ix_facts.proofs.BoundsMonotone.{lower_mono, limit_mono, own_low_mono, range_high_mono, less_mono}
use Rattle.ix_facts.proofs.Tests.{at_most_true}
use Rattle.ix_facts.proofs.FactLists.{all_hold_app, stronger_app, stronger_one, stronger_none, stronger_itself}
use Rattle.ix_facts.proofs.RuleForms.{if_so_holds, each_holds, stronger_if, stronger_each}
use Rattle.ix_facts.proofs.RulesMonotone.{still_at_most}

-- ---- what holds

module _ (w : Numbers) (facts : List Fact) (h : AllHold facts w) where
  below_one : (rule : Path → ℤ → List Fact) (p : Path) → ((r : Path) (c : ℤ) → Holds (Less r p c) w → AllHold (rule r c) w) → (f : Fact) → Holds f w → AllHold (below_by rule p f) w
  below_one rule p one (Less r x c) g = if_so_holds w (is_path x p) (rule r c) (λ t. let e = int_same w x p t in one r c (omega (arith, ints)))
  below_one rule p one _ g = tt

  below_holds : (rule : Path → ℤ → List Fact) (p : Path) → ((r : Path) (c : ℤ) → Holds (Less r p c) w → AllHold (rule r c) w) → AllHold (at_below rule facts p) w
  below_holds rule p one = all_hold_app w (rule p (pos 1)) (each (below_by rule p) facts) (one p (pos 1) (omega (arith, ints))) (each_holds w (below_by rule p) (below_one rule p one) facts h)

  above_one : (rule : Path → ℤ → List Fact) (q : Path) → ((s : Path) (d : ℤ) → Holds (Less q s d) w → AllHold (rule s d) w) → (f : Fact) → Holds f w → AllHold (above_by rule q f) w
  above_one rule q one (Less x s d) g = if_so_holds w (is_path x q) (rule s d) (λ t. let e = int_same w x q t in one s d (omega (arith, ints)))
  above_one rule q one _ g = tt

  above_holds : (rule : Path → ℤ → List Fact) (q : Path) → ((s : Path) (d : ℤ) → Holds (Less q s d) w → AllHold (rule s d) w) → AllHold (at_above rule facts q) w
  above_holds rule q one = all_hold_app w (rule q (pos 1)) (each (above_by rule q) facts) (one q (pos 1) (omega (arith, ints))) (each_holds w (above_by rule q) (above_one rule q one) facts h)

  moved_one : (r q : Path) (n : ℤ) → w.int r ≤ℤ (w.int q +ℤ n) → (f : Fact) → Holds f w → AllHold (test.bound_moved r n q f) w
  moved_one r q n m (Upper x a o e) g = if_so_holds w (is_path x q) (Upper r a o (e -ℤ n) ∷ []) (λ t. let i = int_same w x q t in (omega (arith, ints), tt))
  moved_one r q n m (IsLen x a) g = if_so_holds w (is_path x q) (Upper r a Nothing (negsuc 0 -ℤ n) ∷ []) (λ t. let i = int_same w x q t in (omega (arith, ints), tt))
  moved_one r q n m _ g = tt

  module _ (p q : Path) (k : ℤ) (is : w.int p <ℤ (w.int q +ℤ k)) where
    range_part_holds : AllHold (test.range_part facts p q k) w
    range_part_holds =
        all_hold_app w (at_below (test.high_end facts p q k) facts p) (at_above (test.low_end facts p q k) facts q)
        (below_holds (test.high_end facts p q k) p (λ r c g. let i = limit_holds w facts h q in let m = w.int_from r in ((omega (arith, ints), omega (arith, ints)), tt)))
        (above_holds (test.low_end facts p q k) q (λ s d g. let i = lower_holds w facts h p in let m = w.int_to s in ((omega (arith, ints), omega (arith, ints)), tt)))

    difference_part_holds : AllHold (test.difference_part facts p q k) w
    difference_part_holds =
        below_holds (λ r c. at_above (test.difference_between facts p q k r c) facts q) p
        (λ r c g. above_holds (test.difference_between facts p q k r c) q (λ s d m. if_so_holds w (not (is_path r s)) (Less r s (c +ℤ k +ℤ d -ℤ pos 2) ∷ []) (λ t. (omega (arith, ints), tt))))

    bound_part_holds : AllHold (test.bound_part facts p q k) w
    bound_part_holds =
        below_holds (λ r c. each (test.bound_moved r (c +ℤ k -ℤ pos 2) q) facts) p
        (λ r c g. each_holds w (test.bound_moved r (c +ℤ k -ℤ pos 2) q) (moved_one r q (c +ℤ k -ℤ pos 2) (omega (arith, ints))) facts h)

    length_one : (known : List Fact) → AllHold known w → (f : Fact) → Holds f w → AllHold (test.length_range facts p q k known f) w
    length_one known m (IsLen x a) g =
        if_so_holds w (is_path x p || is_path x q) (LenRng a (Bounds.own_low known x) (Bounds.range_high known x) ∷ [])
        (λ t. let l = own_low_holds w known m x in let u = range_high_holds w known m x in ((omega (arith, ints), omega (arith, ints)), tt))
    length_one known m _ g = tt

    length_part_holds : AllHold (test.length_part facts p q k) w
    length_part_holds = each_holds w (test.length_range facts p q k (test.range_part facts p q k ++ facts)) (length_one (test.range_part facts p q k ++ facts) (all_hold_app w (test.range_part facts p q k) facts range_part_holds h)) facts h

    part_one : (a : Path) (e : ℤ) → Holds (Upper p a Nothing e) w → (f : Fact) → Holds f w → AllHold (test.part_of facts p q k a e f) w
    part_one a e m (Sum s y z) g = if_so_holds w (is_path s p) (Upper y a (Plus z) e ∷ []) (λ t. let i = int_same w s p t in (omega (arith, ints), tt))
    part_one a e m _ g = tt

    parts_one : (f : Fact) → Holds f w → AllHold (test.parts_by facts p q k f) w
    parts_one (Upper x a Nothing e) g = if_so_holds w (is_path x p) (each (test.part_of facts p q k a e) facts) (λ t. let i = int_same w x p t in each_holds w (test.part_of facts p q k a e) (part_one a e (omega (arith, ints))) facts h)
    parts_one _ g = tt

    pub below_facts_hold : AllHold (test.below_facts facts p q k) w
    below_facts_hold =
        all_hold_app w (test.range_part facts p q k) (test.difference_part facts p q k ++ (test.bound_part facts p q k ++ (test.length_part facts p q k ++ test.sum_part facts p q k))) range_part_holds
        (all_hold_app w (test.difference_part facts p q k) (test.bound_part facts p q k ++ (test.length_part facts p q k ++ test.sum_part facts p q k)) difference_part_holds
        (all_hold_app w (test.bound_part facts p q k) (test.length_part facts p q k ++ test.sum_part facts p q k) bound_part_holds
        (all_hold_app w (test.length_part facts p q k) (test.sum_part facts p q k) length_part_holds (each_holds w (test.parts_by facts p q k) parts_one (test.bound_part facts p q k) bound_part_holds))))

  shared_one : (y z : Path) → w.int y ≡ w.int z → (f : Fact) → Holds f w → AllHold (test.shared_by y z f) w
  shared_one y z e (IsLen p a) g =
      all_hold_app w (if_so (is_path p y) (IsLen z a ∷ [])) (if_so (is_path p z) (IsLen y a ∷ []))
      (if_so_holds w (is_path p y) (IsLen z a ∷ []) (λ t. let i = int_same w p y t in (omega (arith, ints), tt)))
      (if_so_holds w (is_path p z) (IsLen y a ∷ []) (λ t. let i = int_same w p z t in (omega (arith, ints), tt)))
  shared_one y z e (Search p a) g =
      all_hold_app w (if_so (is_path p y) (Search z a ∷ [])) (if_so (is_path p z) (Search y a ∷ []))
      (if_so_holds w (is_path p y) (Search z a ∷ []) (λ t. let i = int_same w p y t in ((omega (arith, ints), omega (arith, ints)), tt)))
      (if_so_holds w (is_path p z) (Search y a ∷ []) (λ t. let i = int_same w p z t in ((omega (arith, ints), omega (arith, ints)), tt)))
  shared_one y z e (Neg p a) g =
      all_hold_app w (if_so (is_path p y) (Neg z a ∷ [])) (if_so (is_path p z) (Neg y a ∷ []))
      (if_so_holds w (is_path p y) (Neg z a ∷ []) (λ t. let i = int_same w p y t in ((omega (arith, ints), omega (arith, ints)), tt)))
      (if_so_holds w (is_path p z) (Neg y a ∷ []) (λ t. let i = int_same w p z t in ((omega (arith, ints), omega (arith, ints)), tt)))
  shared_one y z e _ g = tt

  strictly_below : (p q : Path) → w.int p ≢ w.int q → int_le (Bounds.less_bound facts p q) (pos 1) ≡ true → w.int p <ℤ (w.int q +ℤ pos 0)
  strictly_below p q differ t =
      let l = less_holds w facts h p q in
      let k = at_most_true (Bounds.less_bound facts p q) (pos 1) t in
      by_lt_z (w.int p) (w.int q) (λ x. omega (arith, ints)) (λ x. let same : w.int p ≡ w.int q = omega (arith, ints) in absurd (differ same))

  pub outcome_holds : (outcome : Outcome) → IsSo outcome w → AllHold (outcome_facts facts outcome) w
  outcome_holds (Below p q k) is = below_facts_hold p q k is
  outcome_holds (Apart p q) is = if_so_holds w (int_le (Bounds.less_bound facts p q) (pos 1)) (test.below_facts facts p q (pos 0)) (λ t. below_facts_hold p q (pos 0) (strictly_below p q is t))
  outcome_holds (Equal y z) is = each_holds w (test.shared_by y z) (shared_one y z is) facts h
  outcome_holds (OneArray a b) is = (is, tt)

-- ---- what a comparison tells

pub int_outcomes_so : (v : Numbers) (rel : Rel) (y z : Path) → Compares rel (v.int y) (v.int z) → AllSo (test.int_outcomes rel y z) v
int_outcomes_so v Lt y z c = (omega (arith, ints), tt)
int_outcomes_so v Le y z c = (omega (arith, ints), tt)
int_outcomes_so v Gt y z c = (omega (arith, ints), tt)
int_outcomes_so v Ge y z c = (omega (arith, ints), tt)
int_outcomes_so v Eq y z c = (omega (arith, ints), (omega (arith, ints), (c, tt)))
int_outcomes_so v Ne y z c = (c, (λ e. c (sym e), tt))

-- where a comparison is false its opposite is true
pub opposite_holds : (rel : Rel) (x y : ℤ) → (Compares rel x y → ⊥) → Compares (test.opposite rel) x y
opposite_holds Lt x y n = by_lt_z x y (λ h. absurd (n h)) (λ h. omega (arith, ints))
opposite_holds Le x y n = by_lt_z y x (λ h. h) (λ h. absurd (n h))
opposite_holds Gt x y n = by_lt_z y x (λ h. absurd (n h)) (λ h. omega (arith, ints))
opposite_holds Ge x y n = by_lt_z x y (λ h. h) (λ h. absurd (n h))
opposite_holds Eq x y n = n
opposite_holds Ne x y n = by_lt_z x y (λ h. absurd (n (λ e. absurd (omega (arith, ints))))) (λ h. by_lt_z y x (λ k. absurd (n (λ e. absurd (omega (arith, ints))))) (λ k. omega (arith, ints)))

-- ---- monotone

module _ (strong weak : List Fact) (s : Stronger strong weak) where
  below_one_mono : (rule weak_rule : Path → ℤ → List Fact) (p : Path) → ((r : Path) (c d : ℤ) → c ≤ℤ d → Stronger (rule r c) (weak_rule r d)) → (g f : Fact) → Covers g f → Stronger (below_by rule p g) (below_by weak_rule p f)
  below_one_mono rule weak_rule p one _ _ (less r x c d h) = stronger_if (is_path x p) (is_path x p) (rule r c) (weak_rule r d) (λ u. u) (λ u. one r c d h)
  below_one_mono rule weak_rule p one _ _ (rng _ _ _ _ _ _ _) = stronger_none []
  below_one_mono rule weak_rule p one _ _ (len_rng _ _ _ _ _ _ _) = stronger_none []
  below_one_mono rule weak_rule p one _ _ (low _ _ _ _) = stronger_none []
  below_one_mono rule weak_rule p one _ _ (same _ _) = stronger_none []
  below_one_mono rule weak_rule p one _ _ (is_len _ _) = stronger_none []
  below_one_mono rule weak_rule p one _ _ (sum _ _ _) = stronger_none []
  below_one_mono rule weak_rule p one _ _ (search _ _) = stronger_none []
  below_one_mono rule weak_rule p one _ _ (neg _ _) = stronger_none []
  below_one_mono rule weak_rule p one _ _ (upper _ _ _ _ _ _) = stronger_none []

  below_mono : (rule weak_rule : Path → ℤ → List Fact) (p : Path) → ((r : Path) (c d : ℤ) → c ≤ℤ d → Stronger (rule r c) (weak_rule r d)) → Stronger (at_below rule strong p) (at_below weak_rule weak p)
  below_mono rule weak_rule p one = stronger_app _ _ _ _ (one p (pos 1) (pos 1) (omega (arith, ints))) (stronger_each (below_by rule p) (below_by weak_rule p) (below_one_mono rule weak_rule p one) strong weak s)

  above_one_mono : (rule weak_rule : Path → ℤ → List Fact) (q : Path) → ((r : Path) (c d : ℤ) → c ≤ℤ d → Stronger (rule r c) (weak_rule r d)) → (g f : Fact) → Covers g f → Stronger (above_by rule q g) (above_by weak_rule q f)
  above_one_mono rule weak_rule q one _ _ (less x r c d h) = stronger_if (is_path x q) (is_path x q) (rule r c) (weak_rule r d) (λ u. u) (λ u. one r c d h)
  above_one_mono rule weak_rule q one _ _ (rng _ _ _ _ _ _ _) = stronger_none []
  above_one_mono rule weak_rule q one _ _ (len_rng _ _ _ _ _ _ _) = stronger_none []
  above_one_mono rule weak_rule q one _ _ (low _ _ _ _) = stronger_none []
  above_one_mono rule weak_rule q one _ _ (same _ _) = stronger_none []
  above_one_mono rule weak_rule q one _ _ (is_len _ _) = stronger_none []
  above_one_mono rule weak_rule q one _ _ (sum _ _ _) = stronger_none []
  above_one_mono rule weak_rule q one _ _ (search _ _) = stronger_none []
  above_one_mono rule weak_rule q one _ _ (neg _ _) = stronger_none []
  above_one_mono rule weak_rule q one _ _ (upper _ _ _ _ _ _) = stronger_none []

  above_mono : (rule weak_rule : Path → ℤ → List Fact) (q : Path) → ((r : Path) (c d : ℤ) → c ≤ℤ d → Stronger (rule r c) (weak_rule r d)) → Stronger (at_above rule strong q) (at_above weak_rule weak q)
  above_mono rule weak_rule q one = stronger_app _ _ _ _ (one q (pos 1) (pos 1) (omega (arith, ints))) (stronger_each (above_by rule q) (above_by weak_rule q) (above_one_mono rule weak_rule q one) strong weak s)

  moved_mono : (r q : Path) (m n : ℤ) → m ≤ℤ n → (g f : Fact) → Covers g f → Stronger (test.bound_moved r m q g) (test.bound_moved r n q f)
  moved_mono r q m n h _ _ (upper x a o c d k) = stronger_if (is_path x q) (is_path x q) (Upper r a o (c -ℤ m) ∷ []) (Upper r a o (d -ℤ n) ∷ []) (λ u. u) (λ u. stronger_one _ _ (upper r a o (c -ℤ m) (d -ℤ n) (omega (arith, ints))))
  moved_mono r q m n h _ _ (is_len x a) = stronger_if (is_path x q) (is_path x q) (Upper r a Nothing (negsuc 0 -ℤ m) ∷ []) (Upper r a Nothing (negsuc 0 -ℤ n) ∷ []) (λ u. u) (λ u. stronger_one _ _ (upper r a Nothing (negsuc 0 -ℤ m) (negsuc 0 -ℤ n) (omega (arith, ints))))
  moved_mono r q m n h _ _ (rng _ _ _ _ _ _ _) = stronger_none []
  moved_mono r q m n h _ _ (len_rng _ _ _ _ _ _ _) = stronger_none []
  moved_mono r q m n h _ _ (low _ _ _ _) = stronger_none []
  moved_mono r q m n h _ _ (same _ _) = stronger_none []
  moved_mono r q m n h _ _ (less _ _ _ _ _) = stronger_none []
  moved_mono r q m n h _ _ (sum _ _ _) = stronger_none []
  moved_mono r q m n h _ _ (search _ _) = stronger_none []
  moved_mono r q m n h _ _ (neg _ _) = stronger_none []

  module _ (p q : Path) (k : ℤ) where
    range_part_mono : Stronger (test.range_part strong p q k) (test.range_part weak p q k)
    range_part_mono =
        stronger_app _ _ _ _
        (below_mono (test.high_end strong p q k) (test.high_end weak p q k) p
        (λ r c d h. let l = limit_mono strong weak s q in stronger_one _ _ (rng r least_int (Bounds.upper_limit strong q +ℤ k +ℤ c -ℤ pos 2) least_int (Bounds.upper_limit weak q +ℤ k +ℤ d -ℤ pos 2) (omega (arith, ints)) (omega (arith, ints)))))
        (above_mono (test.low_end strong p q k) (test.low_end weak p q k) q
        (λ r c d h. let l = lower_mono strong weak s p in stronger_one _ _ (rng r (Bounds.lower_bound strong p -ℤ k -ℤ c +ℤ pos 2) greatest_int (Bounds.lower_bound weak p -ℤ k -ℤ d +ℤ pos 2) greatest_int (omega (arith, ints)) (omega (arith, ints)))))

    difference_part_mono : Stronger (test.difference_part strong p q k) (test.difference_part weak p q k)
    difference_part_mono =
        below_mono (λ r c. at_above (test.difference_between strong p q k r c) strong q) (λ r c. at_above (test.difference_between weak p q k r c) weak q) p
        (λ r c d h. above_mono (test.difference_between strong p q k r c) (test.difference_between weak p q k r d) q
        (λ x i j g. stronger_if (not (is_path r x)) (not (is_path r x)) (Less r x (c +ℤ k +ℤ i -ℤ pos 2) ∷ []) (Less r x (d +ℤ k +ℤ j -ℤ pos 2) ∷ []) (λ u. u) (λ u. stronger_one _ _ (less r x (c +ℤ k +ℤ i -ℤ pos 2) (d +ℤ k +ℤ j -ℤ pos 2) (omega (arith, ints))))))

    bound_part_mono : Stronger (test.bound_part strong p q k) (test.bound_part weak p q k)
    bound_part_mono =
        below_mono (λ r c. each (test.bound_moved r (c +ℤ k -ℤ pos 2) q) strong) (λ r c. each (test.bound_moved r (c +ℤ k -ℤ pos 2) q) weak) p
        (λ r c d h. stronger_each (test.bound_moved r (c +ℤ k -ℤ pos 2) q) (test.bound_moved r (d +ℤ k -ℤ pos 2) q) (moved_mono r q (c +ℤ k -ℤ pos 2) (d +ℤ k -ℤ pos 2) (omega (arith, ints))) strong weak s)

    length_one_mono : (known other : List Fact) → Stronger known other → (g f : Fact) → Covers g f → Stronger (test.length_range strong p q k known g) (test.length_range weak p q k other f)
    length_one_mono known other n _ _ (is_len x a) =
        stronger_if (is_path x p || is_path x q) (is_path x p || is_path x q) (LenRng a (Bounds.own_low known x) (Bounds.range_high known x) ∷ []) (LenRng a (Bounds.own_low other x) (Bounds.range_high other x) ∷ []) (λ u. u)
        (λ u. stronger_one _ _ (len_rng a (Bounds.own_low known x) (Bounds.range_high known x) (Bounds.own_low other x) (Bounds.range_high other x) (own_low_mono known other n x) (range_high_mono known other n x)))
    length_one_mono known other n _ _ (rng _ _ _ _ _ _ _) = stronger_none []
    length_one_mono known other n _ _ (len_rng _ _ _ _ _ _ _) = stronger_none []
    length_one_mono known other n _ _ (low _ _ _ _) = stronger_none []
    length_one_mono known other n _ _ (same _ _) = stronger_none []
    length_one_mono known other n _ _ (less _ _ _ _ _) = stronger_none []
    length_one_mono known other n _ _ (sum _ _ _) = stronger_none []
    length_one_mono known other n _ _ (search _ _) = stronger_none []
    length_one_mono known other n _ _ (neg _ _) = stronger_none []
    length_one_mono known other n _ _ (upper _ _ _ _ _ _) = stronger_none []

    part_one_mono : (a : Path) (c d : ℤ) → d ≤ℤ c → (g f : Fact) → Covers g f → Stronger (test.part_of strong p q k a c g) (test.part_of weak p q k a d f)
    part_one_mono a c d h _ _ (sum x y z) = stronger_if (is_path x p) (is_path x p) (Upper y a (Plus z) c ∷ []) (Upper y a (Plus z) d ∷ []) (λ u. u) (λ u. stronger_one _ _ (upper y a (Plus z) c d h))
    part_one_mono a c d h _ _ (rng _ _ _ _ _ _ _) = stronger_none []
    part_one_mono a c d h _ _ (len_rng _ _ _ _ _ _ _) = stronger_none []
    part_one_mono a c d h _ _ (low _ _ _ _) = stronger_none []
    part_one_mono a c d h _ _ (same _ _) = stronger_none []
    part_one_mono a c d h _ _ (is_len _ _) = stronger_none []
    part_one_mono a c d h _ _ (less _ _ _ _ _) = stronger_none []
    part_one_mono a c d h _ _ (search _ _) = stronger_none []
    part_one_mono a c d h _ _ (neg _ _) = stronger_none []
    part_one_mono a c d h _ _ (upper _ _ _ _ _ _) = stronger_none []

    parts_mono : (g f : Fact) → Covers g f → Stronger (test.parts_by strong p q k g) (test.parts_by weak p q k f)
    parts_mono _ _ (upper x a Nothing c d h) = stronger_if (is_path x p) (is_path x p) (each (test.part_of strong p q k a c) strong) (each (test.part_of weak p q k a d) weak) (λ u. u) (λ u. stronger_each (test.part_of strong p q k a c) (test.part_of weak p q k a d) (part_one_mono a c d h) strong weak s)
    parts_mono _ _ (upper x a (Plus y) c d h) = stronger_none []
    parts_mono _ _ (upper x a (Minus y) c d h) = stronger_none []
    parts_mono _ _ (rng _ _ _ _ _ _ _) = stronger_none []
    parts_mono _ _ (len_rng _ _ _ _ _ _ _) = stronger_none []
    parts_mono _ _ (low _ _ _ _) = stronger_none []
    parts_mono _ _ (same _ _) = stronger_none []
    parts_mono _ _ (is_len _ _) = stronger_none []
    parts_mono _ _ (less _ _ _ _ _) = stronger_none []
    parts_mono _ _ (sum _ _ _) = stronger_none []
    parts_mono _ _ (search _ _) = stronger_none []
    parts_mono _ _ (neg _ _) = stronger_none []

    pub below_facts_mono : Stronger (test.below_facts strong p q k) (test.below_facts weak p q k)
    below_facts_mono =
        let known = stronger_app _ _ _ _ range_part_mono s in
        stronger_app _ _ _ _ range_part_mono
        (stronger_app _ _ _ _ difference_part_mono
        (stronger_app _ _ _ _ bound_part_mono
        (stronger_app _ _ _ _ (stronger_each (test.length_range strong p q k (test.range_part strong p q k ++ strong)) (test.length_range weak p q k (test.range_part weak p q k ++ weak)) (length_one_mono (test.range_part strong p q k ++ strong) (test.range_part weak p q k ++ weak) known) strong weak s)
        (stronger_each (test.parts_by strong p q k) (test.parts_by weak p q k) parts_mono (test.bound_part strong p q k) (test.bound_part weak p q k) bound_part_mono))))

  shared_mono : (y z : Path) (g f : Fact) → Covers g f → Stronger (test.shared_by y z g) (test.shared_by y z f)
  shared_mono y z _ _ (is_len p a) = stronger_itself (test.shared_by y z (IsLen p a))
  shared_mono y z _ _ (search p a) = stronger_itself (test.shared_by y z (Search p a))
  shared_mono y z _ _ (neg p a) = stronger_itself (test.shared_by y z (Neg p a))
  shared_mono y z _ _ (rng _ _ _ _ _ _ _) = stronger_none []
  shared_mono y z _ _ (len_rng _ _ _ _ _ _ _) = stronger_none []
  shared_mono y z _ _ (low _ _ _ _) = stronger_none []
  shared_mono y z _ _ (same _ _) = stronger_none []
  shared_mono y z _ _ (less _ _ _ _ _) = stronger_none []
  shared_mono y z _ _ (sum _ _ _) = stronger_none []
  shared_mono y z _ _ (upper _ _ _ _ _ _) = stronger_none []

  pub outcome_mono : (outcome : Outcome) → Stronger (outcome_facts strong outcome) (outcome_facts weak outcome)
  outcome_mono (Below p q k) = below_facts_mono p q k
  outcome_mono (Apart p q) =
      stronger_if (int_le (Bounds.less_bound weak p q) (pos 1)) (int_le (Bounds.less_bound strong p q) (pos 1)) (test.below_facts strong p q (pos 0)) (test.below_facts weak p q (pos 0))
      (still_at_most (Bounds.less_bound weak p q) (Bounds.less_bound strong p q) (pos 1) (less_mono strong weak s p q)) (λ u. below_facts_mono p q (pos 0))
  outcome_mono (Equal y z) = stronger_each (test.shared_by y z) (test.shared_by y z) (shared_mono y z) strong weak s
  outcome_mono (OneArray a b) = stronger_itself (Same a b ∷ [])
