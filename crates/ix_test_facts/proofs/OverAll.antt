-- What the facts on each path give is what all facts give: ranges, differences, bounds, parts and what equal ints share.
use Rattle.std.specs.Prelude.{◌≡◌, ℤ, pos, ◌+ℤ◌, ◌-ℤ◌, List, ◌++◌, refl}
use Rattle.std.proofs.Common.{ap, ◌∙◌}
use Rattle.ix_core.specs.declared.fact.Path.{Path}
use Rattle.ix_core.specs.declared.fact.PathOff.TheVariants.{Nothing, Plus, Minus}
use Rattle.ix_core.specs.declared.fact.Fact.{Fact}
use Rattle.ix_core.specs.declared.fact.Fact.TheVariants.{Rng, LenRng, Low, Same, IsLen, Less, Sum, Search, Neg, Upper}
use Rattle.ix_facts.specs.Bounds.{is_path}
use Rattle.ix_facts.specs.Exact.{if_so, each}
use Rattle.ix_facts.specs.AfterTest as rule
use Rattle.ix_facts.specs.AfterTest.{below_by, above_by, at_below, at_above, bound_moved}
use Rattle.ix_facts.specs.OnPaths.{HasNamed, each_on}
use Rattle.ix_facts.proofs.Members.{each_equal}
use Rattle.ix_test_facts.specs.OverGroups as over
use Rattle.ix_test_facts.proofs.PathsRead.{reads_below, reads_above, reads_moved, reads_part}

-- ---- rules that give the same

below_equal : (first second : Path → ℤ → List Fact) (p : Path) → ((r : Path) (c : ℤ) → first r c ≡ second r c) → (f : Fact) → below_by first p f ≡ below_by second p f
below_equal first second p h (Less r x c) = ap (if_so (is_path x p)) (h r c)
below_equal first second p h (Rng q l k) = refl
below_equal first second p h (LenRng a l k) = refl
below_equal first second p h (Low q c) = refl
below_equal first second p h (Same a b) = refl
below_equal first second p h (IsLen q a) = refl
below_equal first second p h (Sum t y z) = refl
below_equal first second p h (Search q a) = refl
below_equal first second p h (Neg q a) = refl
below_equal first second p h (Upper q a o c) = refl

pub at_below_equal : (first second : Path → ℤ → List Fact) (p : Path) → ((r : Path) (c : ℤ) → first r c ≡ second r c) → (facts : List Fact) → at_below first facts p ≡ at_below second facts p
at_below_equal first second p h facts =
    ap (λ l. l ++ each (below_by first p) facts) (h p (pos 1)) ∙ ap (λ l. second p (pos 1) ++ l) (each_equal (below_by first p) (below_by second p) (below_equal first second p h) facts)

module _ (facts : List Fact) (on : Path → List Fact) (named : (p : Path) → HasNamed p (on p) facts) where
  below_on : (first : Path → ℤ → List Fact) (p : Path) → at_below first (on p) p ≡ at_below first facts p
  below_on first p = ap (λ l. first p (pos 1) ++ l) (each_on p (below_by first p) (on p) facts (reads_below first p) (named p))

  above_on : (first : Path → ℤ → List Fact) (q : Path) → at_above first (on q) q ≡ at_above first facts q
  above_on first q = ap (λ l. first q (pos 1) ++ l) (each_on q (above_by first q) (on q) facts (reads_above first q) (named q))

  pub ranges_are : (p q : Path) (k : ℤ) → over.range_part facts (on p) (on q) p q k ≡ rule.range_part facts p q k
  ranges_are p q k =
      ap (λ l. l ++ at_above (rule.low_end facts p q k) (on q) q) (below_on (rule.high_end facts p q k) p)
      ∙ ap (λ l. at_below (rule.high_end facts p q k) facts p ++ l) (above_on (rule.low_end facts p q k) q)

  pub differences_are : (p q : Path) (k : ℤ) → over.difference_part (on p) (on q) p q k ≡ rule.difference_part facts p q k
  differences_are p q k =
      at_below_equal (λ r c. at_above (over.between k r c) (on q) q) (λ r c. at_above (over.between k r c) facts q) p (λ r c. above_on (over.between k r c) q) (on p)
      ∙ below_on (λ r c. at_above (over.between k r c) facts q) p

  pub bounds_are : (p q : Path) (k : ℤ) → over.bound_part (on p) (on q) p q k ≡ rule.bound_part facts p q k
  bounds_are p q k =
      at_below_equal (λ r c. each (bound_moved r (c +ℤ k -ℤ pos 2) q) (on q)) (λ r c. each (bound_moved r (c +ℤ k -ℤ pos 2) q) facts) p
      (λ r c. each_on q (bound_moved r (c +ℤ k -ℤ pos 2) q) (on q) facts (reads_moved r (c +ℤ k -ℤ pos 2) q) (named q)) (on p)
      ∙ below_on (λ r c. each (bound_moved r (c +ℤ k -ℤ pos 2) q) facts) p

  parts_equal : (p q : Path) (k : ℤ) (f : Fact) → over.parts_by p (on p) f ≡ rule.parts_by facts p q k f
  parts_equal p q k (Upper x a Nothing e) = ap (if_so (is_path x p)) (each_on p (over.part_of p a e) (on p) facts (reads_part p a e) (named p))
  parts_equal p q k (Upper x a (Plus o) e) = refl
  parts_equal p q k (Upper x a (Minus o) e) = refl
  parts_equal p q k (Less r x c) = refl
  parts_equal p q k (Rng r l h) = refl
  parts_equal p q k (LenRng a l h) = refl
  parts_equal p q k (Low r c) = refl
  parts_equal p q k (Same a b) = refl
  parts_equal p q k (IsLen r a) = refl
  parts_equal p q k (Sum t y z) = refl
  parts_equal p q k (Search r a) = refl
  parts_equal p q k (Neg r a) = refl

  pub parts_are : (p q : Path) (k : ℤ) (bounds : List Fact) → each (over.parts_by p (on p)) bounds ≡ each (rule.parts_by facts p q k) bounds
  parts_are p q k bounds = each_equal (over.parts_by p (on p)) (rule.parts_by facts p q k) (parts_equal p q k) bounds
