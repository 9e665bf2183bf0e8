-- What a test tells, and what a claim adds that is assumed, is within.
use Rattle.std.specs.Prelude.{not, ◌||◌, ℤ, pos, negsuc, ◌+ℤ◌, ◌-ℤ◌, int_le, ◌&&◌, List, [], ◌∷◌, ◌++◌}
use Rattle.std.proofs.lemmas.Bool.{not-true}
use Rattle.ix_core.specs.declared.fact.Path.{Path}
use Rattle.ix_core.specs.declared.fact.PathClaim.{PathClaim}
use Rattle.ix_core.specs.declared.fact.PathClaim.TheVariants as claim
use Rattle.ix_core.specs.declared.fact.PathOff.TheVariants.{Nothing, Plus, Minus}
use Rattle.ix_core.specs.declared.fact.Fact.{Fact}
use Rattle.ix_core.specs.declared.fact.Fact.TheVariants.{Rng, LenRng, Low, Same, IsLen, Less, Sum, Search, Neg, Upper}
use Rattle.ix_facts.specs.Bounds
use Rattle.ix_facts.specs.Bounds.{is_path}
use Rattle.ix_facts.specs.Exact.{each}
use Rattle.ix_facts.specs.AfterTest as test
use Rattle.ix_facts.specs.AfterTest.{Outcome, Below, Apart, Equal, OneArray, outcome_facts}
use Rattle.ix_facts.specs.Assume.{claim_facts}
use Rattle.ix_certify.proofs.Paths.{Within, OutcomeWithin, ClaimWithin}
use Rattle.ix_certify.proofs.ListsWithin.{Each, none, one, two, next, both, if_within, so_within, fact_within}

module _ (In : Path → Type 0) where
  module _ (facts : List Fact) (stored : Each In facts) (p q : Path) (k : ℤ) (left : In p) (right : In q) where
    below_by_within : (rule : Path → ℤ → List Fact) → ((r : Path) (c : ℤ) → In r → Each In (rule r c)) → (x : Path) (f : Fact) → Within In f → Each In (test.below_by rule x f)
    below_by_within rule all x (Less r y c) i = if_within In (is_path y x) (rule r c) (all r c i.0)
    below_by_within rule all x (Rng a l h) i = none
    below_by_within rule all x (LenRng a l h) i = none
    below_by_within rule all x (Low a c) i = none
    below_by_within rule all x (Same a b) i = none
    below_by_within rule all x (IsLen a b) i = none
    below_by_within rule all x (Sum t y z) i = none
    below_by_within rule all x (Search a b) i = none
    below_by_within rule all x (Neg a b) i = none
    below_by_within rule all x (Upper a b o c) i = none

    above_by_within : (rule : Path → ℤ → List Fact) → ((r : Path) (c : ℤ) → In r → Each In (rule r c)) → (x : Path) (f : Fact) → Within In f → Each In (test.above_by rule x f)
    above_by_within rule all x (Less y s c) i = if_within In (is_path y x) (rule s c) (all s c i.1)
    above_by_within rule all x (Rng a l h) i = none
    above_by_within rule all x (LenRng a l h) i = none
    above_by_within rule all x (Low a c) i = none
    above_by_within rule all x (Same a b) i = none
    above_by_within rule all x (IsLen a b) i = none
    above_by_within rule all x (Sum t y z) i = none
    above_by_within rule all x (Search a b) i = none
    above_by_within rule all x (Neg a b) i = none
    above_by_within rule all x (Upper a b o c) i = none

    at_below_within : (rule : Path → ℤ → List Fact) → ((r : Path) (c : ℤ) → In r → Each In (rule r c)) → Each In (test.at_below rule facts p)
    at_below_within rule all = both In (rule p (pos 1)) (each (test.below_by rule p) facts) (all p (pos 1) left) (fact_within In (test.below_by rule p) In (below_by_within rule all p) facts stored)

    at_above_within : (rule : Path → ℤ → List Fact) → ((r : Path) (c : ℤ) → In r → Each In (rule r c)) → Each In (test.at_above rule facts q)
    at_above_within rule all = both In (rule q (pos 1)) (each (test.above_by rule q) facts) (all q (pos 1) right) (fact_within In (test.above_by rule q) In (above_by_within rule all q) facts stored)

    moved_within : (r : Path) (n : ℤ) → In r → (f : Fact) → Within In f → Each In (test.bound_moved r n q f)
    moved_within r n i (Upper x a o e) j = if_within In (is_path x q) (Upper r a o (e -ℤ n) ∷ []) (one In _ (i, j.1, j.2))
    moved_within r n i (IsLen x a) j = if_within In (is_path x q) (Upper r a Nothing (negsuc 0 -ℤ n) ∷ []) (one In _ (i, j.1, tt))
    moved_within r n i (Rng a l h) j = none
    moved_within r n i (LenRng a l h) j = none
    moved_within r n i (Low a c) j = none
    moved_within r n i (Same a b) j = none
    moved_within r n i (Less a b c) j = none
    moved_within r n i (Sum t y z) j = none
    moved_within r n i (Search a b) j = none
    moved_within r n i (Neg a b) j = none

    ranges : Each In (test.range_part facts p q k)
    ranges =
        both In (test.at_below (test.high_end facts p q k) facts p) (test.at_above (test.low_end facts p q k) facts q)
        (at_below_within (test.high_end facts p q k) (λ r c i. one In _ i)) (at_above_within (test.low_end facts p q k) (λ r c i. one In _ i))

    between : (r : Path) (c : ℤ) → In r → (s : Path) (d : ℤ) → In s → Each In (test.difference_between facts p q k r c s d)
    between r c i s d j = so_within In (not (is_path r s)) (Less r s (c +ℤ k +ℤ d -ℤ pos 2) ∷ []) (λ n. one In _ (i, j, not-true (is_path r s) n))

    differences : Each In (test.difference_part facts p q k)
    differences = at_below_within (λ r c. test.at_above (test.difference_between facts p q k r c) facts q) (λ r c i. at_above_within (test.difference_between facts p q k r c) (λ s d j. between r c i s d j))

    bounds : Each In (test.bound_part facts p q k)
    bounds = at_below_within (λ r c. each (test.bound_moved r (c +ℤ k -ℤ pos 2) q) facts) (λ r c i. fact_within In (test.bound_moved r (c +ℤ k -ℤ pos 2) q) In (moved_within r (c +ℤ k -ℤ pos 2) i) facts stored)

    length_within : (known : List Fact) (f : Fact) → Within In f → Each In (test.length_range facts p q k known f)
    length_within known (IsLen x a) i = if_within In (is_path x p || is_path x q) (LenRng a (Bounds.own_low known x) (Bounds.range_high known x) ∷ []) (one In _ i.1)
    length_within known (Rng a l h) i = none
    length_within known (LenRng a l h) i = none
    length_within known (Low a c) i = none
    length_within known (Same a b) i = none
    length_within known (Less a b c) i = none
    length_within known (Sum t y z) i = none
    length_within known (Search a b) i = none
    length_within known (Neg a b) i = none
    length_within known (Upper a b o c) i = none

    lengths : Each In (test.length_part facts p q k)
    lengths = fact_within In (test.length_range facts p q k (test.range_part facts p q k ++ facts)) In (length_within (test.range_part facts p q k ++ facts)) facts stored

    part_within : (a : Path) (e : ℤ) → In a → (f : Fact) → Within In f → Each In (test.part_of facts p q k a e f)
    part_within a e i (Sum s y z) j = if_within In (is_path s p) (Upper y a (Plus z) e ∷ []) (one In _ (j.1, i, j.2))
    part_within a e i (Rng x l h) j = none
    part_within a e i (LenRng x l h) j = none
    part_within a e i (Low x c) j = none
    part_within a e i (Same x b) j = none
    part_within a e i (IsLen x b) j = none
    part_within a e i (Less x b c) j = none
    part_within a e i (Search x b) j = none
    part_within a e i (Neg x b) j = none
    part_within a e i (Upper x b o c) j = none

    parts_within : (f : Fact) → Within In f → Each In (test.parts_by facts p q k f)
    parts_within (Upper x a Nothing e) i = if_within In (is_path x p) (each (test.part_of facts p q k a e) facts) (fact_within In (test.part_of facts p q k a e) In (part_within a e i.1) facts stored)
    parts_within (Upper x a (Plus o) e) i = none
    parts_within (Upper x a (Minus o) e) i = none
    parts_within (Rng x l h) i = none
    parts_within (LenRng x l h) i = none
    parts_within (Low x c) i = none
    parts_within (Same x b) i = none
    parts_within (IsLen x b) i = none
    parts_within (Less x b c) i = none
    parts_within (Sum t y z) i = none
    parts_within (Search x b) i = none
    parts_within (Neg x b) i = none

    sums : Each In (test.sum_part facts p q k)
    sums = fact_within In (test.parts_by facts p q k) In parts_within (test.bound_part facts p q k) bounds

    below_within : Each In (test.below_facts facts p q k)
    below_within =
        both In (test.range_part facts p q k) (test.difference_part facts p q k ++ (test.bound_part facts p q k ++ (test.length_part facts p q k ++ test.sum_part facts p q k))) ranges
        (both In (test.difference_part facts p q k) (test.bound_part facts p q k ++ (test.length_part facts p q k ++ test.sum_part facts p q k)) differences
        (both In (test.bound_part facts p q k) (test.length_part facts p q k ++ test.sum_part facts p q k) bounds (both In (test.length_part facts p q k) (test.sum_part facts p q k) lengths sums)))

  shared_within : (y z : Path) → In y → In z → (f : Fact) → Within In f → Each In (test.shared_by y z f)
  shared_within y z i j (IsLen p a) x = both In _ _ (if_within In (is_path p y) (IsLen z a ∷ []) (one In _ (j, x.1))) (if_within In (is_path p z) (IsLen y a ∷ []) (one In _ (i, x.1)))
  shared_within y z i j (Search p a) x = both In _ _ (if_within In (is_path p y) (Search z a ∷ []) (one In _ (j, x.1))) (if_within In (is_path p z) (Search y a ∷ []) (one In _ (i, x.1)))
  shared_within y z i j (Neg p a) x = both In _ _ (if_within In (is_path p y) (Neg z a ∷ []) (one In _ (j, x.1))) (if_within In (is_path p z) (Neg y a ∷ []) (one In _ (i, x.1)))
  shared_within y z i j (Rng p l h) x = none
  shared_within y z i j (LenRng p l h) x = none
  shared_within y z i j (Low p c) x = none
  shared_within y z i j (Same a b) x = none
  shared_within y z i j (Less p q c) x = none
  shared_within y z i j (Sum t p q) x = none
  shared_within y z i j (Upper p a o c) x = none

  pub outcome_within : (facts : List Fact) → Each In facts → (outcome : Outcome) → OutcomeWithin In outcome → Each In (outcome_facts facts outcome)
  outcome_within facts stored (Below p q k) i = below_within facts stored p q k i.0 i.1
  outcome_within facts stored (Apart p q) i = if_within In (int_le (Bounds.less_bound facts p q) (pos 1)) (test.below_facts facts p q (pos 0)) (below_within facts stored p q (pos 0) i.0 i.1)
  outcome_within facts stored (Equal y z) i = fact_within In (test.shared_by y z) In (shared_within y z i.0 i.1) facts stored
  outcome_within facts stored (OneArray a b) i = one In _ i

  pub claim_within : (c : PathClaim) (p : Path) → ClaimWithin In c → In p → Each In (claim_facts c p)
  claim_within (claim.Range low high) p x i = one In _ i
  claim_within (claim.Low from) p x i = next _ _ i (if_within In (int_le (negsuc 0) from && int_le from (pos 1)) (Low p from ∷ []) (one In _ i))
  claim_within (claim.Length least) p x i = one In _ i
  claim_within (claim.Same other) p x i = one In _ (i, x)
  claim_within (claim.Less q c) p x i = so_within In (not (is_path p q)) (Less p q c ∷ []) (λ n. one In _ (i, x, not-true (is_path p q) n))
  claim_within (claim.Upper a o c) p x i = one In _ (i, x.0, x.1)
  claim_within (claim.Search a) p x i = two In _ _ (i, x) (i, x, tt)
  claim_within (claim.Negative a) p x i = two In _ _ (i, x) i
