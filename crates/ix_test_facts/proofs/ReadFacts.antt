-- What `p < q + k` gives by the facts that are read on p and on q is what it gives by all facts on them.
use Rattle.std.specs.Prelude.{◌≡◌, Bool, false, ℤ, pos, ◌+ℤ◌, ◌-ℤ◌, Option, None, List, [], ◌∷◌, ◌++◌, filter, refl}
use Rattle.std.specs.Int.{int_min, int_max}
use Rattle.std.proofs.Common.{ap, sym, ◌∙◌}
use Rattle.ix_core.specs.declared.fact.Path.{Path}
use Rattle.ix_core.specs.declared.fact.PathOff.TheVariants.{Nothing, Plus, Minus}
use Rattle.ix_core.specs.declared.fact.Fact.{Fact}
use Rattle.ix_core.specs.declared.fact.Fact.TheVariants.{Rng, LenRng, Low, Same, IsLen, Less, Sum, Search, Neg, Upper}
use Rattle.ix_core.proofs.Cases.{by_test}
use Rattle.ix_facts.specs.Bounds
use Rattle.ix_facts.specs.Bounds.{is_path, best, best_of, greatest, least, at_least, at_most, own_low_by, range_high_by}
use Rattle.ix_facts.specs.Closure.{kept}
use Rattle.ix_facts.specs.Exact.{if_so, each}
use Rattle.ix_facts.specs.AfterTest.{below_by, above_by, at_below, at_above, bound_moved}
use Rattle.ix_facts.proofs.Members.{each_equal}
use Rattle.ix_facts.proofs.Tests.{none_if, no_number}
use Rattle.ix_test_facts.specs.OverGroups as over
use Rattle.ix_test_facts.proofs.OverAll.{at_below_equal}
use Rattle.ix_test_facts.proofs.SixParts.{six_equal}

-- ---- a rule that gives nothing of the facts that are left out

-- The rule gives nothing of a fact that doesn't pass the test.
abbrev Reads : (Fact → Bool) → (Fact → List Fact) → Type 0
Reads test rule = (fact : Fact) → test fact ≡ false → rule fact ≡ []

abbrev Looks : (Fact → Bool) → (Fact → Option ℤ) → Type 0
Looks test by = (fact : Fact) → test fact ≡ false → by fact ≡ None

each_read : (test : Fact → Bool) (rule : Fact → List Fact) → Reads test rule → (facts : List Fact) → each rule (filter test facts) ≡ each rule facts
each_read test rule h [] = refl
each_read test rule h (fact ∷ facts) = by_test (test fact) (λ t. rw t (ap (λ l. rule fact ++ l) (each_read test rule h facts))) (λ t. rw t (each_read test rule h facts ∙ sym (ap (λ l. l ++ each rule facts) (h fact t))))

best_read : (better : ℤ → ℤ → ℤ) (test : Fact → Bool) (by : Fact → Option ℤ) → Looks test by → (facts : List Fact) → best_of better by (filter test facts) ≡ best_of better by facts
best_read better test by h [] = refl
best_read better test by h (fact ∷ facts) = by_test (test fact) (λ t. rw t (ap (best better (by fact)) (best_read better test by h facts))) (λ t. rw t (best_read better test by h facts ∙ sym (ap (λ n. best better n (best_of better by facts)) (h fact t))))

-- ---- what is read on p

below_reads : (rule : Path → ℤ → List Fact) (p : Path) → Reads (over.is_read_below p) (below_by rule p)
below_reads rule p (Less r x c) n = none_if (is_path x p) _ n
below_reads rule p (Rng x l h) n = refl
below_reads rule p (LenRng a l h) n = refl
below_reads rule p (Low x c) n = refl
below_reads rule p (Same a b) n = refl
below_reads rule p (IsLen x a) n = refl
below_reads rule p (Sum t y z) n = refl
below_reads rule p (Search x a) n = refl
below_reads rule p (Neg x a) n = refl
below_reads rule p (Upper x a o e) n = refl

part_reads : (p a : Path) (e : ℤ) → Reads (over.is_read_below p) (over.part_of p a e)
part_reads p a e (Sum s y z) n = none_if (is_path s p) _ n
part_reads p a e (Less r x c) n = refl
part_reads p a e (Rng x l h) n = refl
part_reads p a e (LenRng b l h) n = refl
part_reads p a e (Low x c) n = refl
part_reads p a e (Same b c) n = refl
part_reads p a e (IsLen x b) n = refl
part_reads p a e (Search x b) n = refl
part_reads p a e (Neg x b) n = refl
part_reads p a e (Upper x b o c) n = refl

below_lengths : (p : Path) (low high : ℤ) → Reads (over.is_read_below p) (over.length_at p low high)
below_lengths p low high (IsLen x a) n = none_if (is_path x p) _ n
below_lengths p low high (Less r x c) n = refl
below_lengths p low high (Rng x l h) n = refl
below_lengths p low high (LenRng a l h) n = refl
below_lengths p low high (Low x c) n = refl
below_lengths p low high (Same a b) n = refl
below_lengths p low high (Sum t y z) n = refl
below_lengths p low high (Search x a) n = refl
below_lengths p low high (Neg x a) n = refl
below_lengths p low high (Upper x a o e) n = refl

below_low : (p : Path) → Looks (over.is_read_below p) (own_low_by p)
below_low p (Rng x l h) n = no_number (is_path x p) _ n
below_low p (Less r x c) n = refl
below_low p (LenRng a l h) n = refl
below_low p (Low x c) n = refl
below_low p (Same a b) n = refl
below_low p (IsLen x a) n = refl
below_low p (Sum t y z) n = refl
below_low p (Search x a) n = refl
below_low p (Neg x a) n = refl
below_low p (Upper x a o e) n = refl

below_high : (p : Path) → Looks (over.is_read_below p) (range_high_by p)
below_high p (Rng x l h) n = no_number (is_path x p) _ n
below_high p (Less r x c) n = refl
below_high p (LenRng a l h) n = refl
below_high p (Low x c) n = refl
below_high p (Same a b) n = refl
below_high p (IsLen x a) n = refl
below_high p (Sum t y z) n = refl
below_high p (Search x a) n = refl
below_high p (Neg x a) n = refl
below_high p (Upper x a o e) n = refl

-- ---- and on q

above_reads : (rule : Path → ℤ → List Fact) (q : Path) → Reads (over.is_read_above q) (above_by rule q)
above_reads rule q (Less x s d) n = none_if (is_path x q) _ n
above_reads rule q (Rng x l h) n = refl
above_reads rule q (LenRng a l h) n = refl
above_reads rule q (Low x c) n = refl
above_reads rule q (Same a b) n = refl
above_reads rule q (IsLen x a) n = refl
above_reads rule q (Sum t y z) n = refl
above_reads rule q (Search x a) n = refl
above_reads rule q (Neg x a) n = refl
above_reads rule q (Upper x a o e) n = refl

moved_reads : (r : Path) (k : ℤ) (q : Path) → Reads (over.is_read_above q) (bound_moved r k q)
moved_reads r k q (Upper x a o e) n = none_if (is_path x q) _ n
moved_reads r k q (IsLen x a) n = none_if (is_path x q) _ n
moved_reads r k q (Less x s d) n = refl
moved_reads r k q (Rng x l h) n = refl
moved_reads r k q (LenRng a l h) n = refl
moved_reads r k q (Low x c) n = refl
moved_reads r k q (Same a b) n = refl
moved_reads r k q (Sum t y z) n = refl
moved_reads r k q (Search x a) n = refl
moved_reads r k q (Neg x a) n = refl

above_lengths : (q : Path) (low high : ℤ) → Reads (over.is_read_above q) (over.length_at q low high)
above_lengths q low high (IsLen x a) n = none_if (is_path x q) _ n
above_lengths q low high (Less x s d) n = refl
above_lengths q low high (Rng x l h) n = refl
above_lengths q low high (LenRng a l h) n = refl
above_lengths q low high (Low x c) n = refl
above_lengths q low high (Same a b) n = refl
above_lengths q low high (Sum t y z) n = refl
above_lengths q low high (Search x a) n = refl
above_lengths q low high (Neg x a) n = refl
above_lengths q low high (Upper x a o e) n = refl

above_low : (q : Path) → Looks (over.is_read_above q) (own_low_by q)
above_low q (Rng x l h) n = no_number (is_path x q) _ n
above_low q (Less x s d) n = refl
above_low q (LenRng a l h) n = refl
above_low q (Low x c) n = refl
above_low q (Same a b) n = refl
above_low q (IsLen x a) n = refl
above_low q (Sum t y z) n = refl
above_low q (Search x a) n = refl
above_low q (Neg x a) n = refl
above_low q (Upper x a o e) n = refl

above_high : (q : Path) → Looks (over.is_read_above q) (range_high_by q)
above_high q (Rng x l h) n = no_number (is_path x q) _ n
above_high q (Less x s d) n = refl
above_high q (LenRng a l h) n = refl
above_high q (Low x c) n = refl
above_high q (Same a b) n = refl
above_high q (IsLen x a) n = refl
above_high q (Sum t y z) n = refl
above_high q (Search x a) n = refl
above_high q (Neg x a) n = refl
above_high q (Upper x a o e) n = refl

-- ---- the parts

-- the lengths that x is, by a part of the facts on it
lengths_read : (test : Fact → Bool) (x : Path) → ((low high : ℤ) → Reads test (over.length_at x low high)) → Looks test (own_low_by x) → Looks test (range_high_by x) → (facts ranges : List Fact) → over.length_by (filter test facts) ranges x ≡ over.length_by facts ranges x
lengths_read test x lengths low high facts ranges =
    ap (λ n. each (over.length_at x (at_least (Bounds.own_low ranges x) n) (at_most (Bounds.range_high ranges x) (least (range_high_by x) (filter test facts)))) (filter test facts)) (best_read int_max test (own_low_by x) low facts)
    ∙ (ap (λ n. each (over.length_at x (at_least (Bounds.own_low ranges x) (greatest (own_low_by x) facts)) (at_most (Bounds.range_high ranges x) n)) (filter test facts)) (best_read int_min test (range_high_by x) high facts)
    ∙ each_read test (over.length_at x (at_least (Bounds.own_low ranges x) (greatest (own_low_by x) facts)) (at_most (Bounds.range_high ranges x) (least (range_high_by x) facts)))
    (lengths (at_least (Bounds.own_low ranges x) (greatest (own_low_by x) facts)) (at_most (Bounds.range_high ranges x) (least (range_high_by x) facts))) facts)

module _ (facts on_p on_q : List Fact) (p q : Path) (k : ℤ) where
  abbrev below : List Fact
  below = filter (over.is_read_below p) on_p

  abbrev above : List Fact
  above = filter (over.is_read_above q) on_q

  at_p : (first : Path → ℤ → List Fact) → at_below first below p ≡ at_below first on_p p
  at_p first = ap (λ l. first p (pos 1) ++ l) (each_read (over.is_read_below p) (below_by first p) (below_reads first p) on_p)

  at_q : (first : Path → ℤ → List Fact) → at_above first above q ≡ at_above first on_q q
  at_q first = ap (λ l. first q (pos 1) ++ l) (each_read (over.is_read_above q) (above_by first q) (above_reads first q) on_q)

  ranges_read : over.range_part facts below above p q k ≡ over.range_part facts on_p on_q p q k
  ranges_read =
      ap (λ l. l ++ at_above (over.range_from (Bounds.lower_bound facts p) k) above q) (at_p (over.range_to (Bounds.upper_limit facts q) k))
      ∙ ap (λ l. at_below (over.range_to (Bounds.upper_limit facts q) k) on_p p ++ l) (at_q (over.range_from (Bounds.lower_bound facts p) k))

  differences_read : over.difference_part below above p q k ≡ over.difference_part on_p on_q p q k
  differences_read =
      at_below_equal (λ r c. at_above (over.between k r c) above q) (λ r c. at_above (over.between k r c) on_q q) p (λ r c. at_q (over.between k r c)) below ∙ at_p (λ r c. at_above (over.between k r c) on_q q)

  bounds_read : over.bound_part below above p q k ≡ over.bound_part on_p on_q p q k
  bounds_read =
      at_below_equal (λ r c. each (bound_moved r (c +ℤ k -ℤ pos 2) q) above) (λ r c. each (bound_moved r (c +ℤ k -ℤ pos 2) q) on_q) p
      (λ r c. each_read (over.is_read_above q) (bound_moved r (c +ℤ k -ℤ pos 2) q) (moved_reads r (c +ℤ k -ℤ pos 2) q) on_q) below
      ∙ at_p (λ r c. each (bound_moved r (c +ℤ k -ℤ pos 2) q) on_q)

  parts_equal : (f : Fact) → over.parts_by p below f ≡ over.parts_by p on_p f
  parts_equal (Upper x a Nothing e) = ap (if_so (is_path x p)) (each_read (over.is_read_below p) (over.part_of p a e) (part_reads p a e) on_p)
  parts_equal (Upper x a (Plus o) e) = refl
  parts_equal (Upper x a (Minus o) e) = refl
  parts_equal (Less r x c) = refl
  parts_equal (Rng r l h) = refl
  parts_equal (LenRng a l h) = refl
  parts_equal (Low r c) = refl
  parts_equal (Same a b) = refl
  parts_equal (IsLen r a) = refl
  parts_equal (Sum t y z) = refl
  parts_equal (Search r a) = refl
  parts_equal (Neg r a) = refl

  parts_read : each (over.parts_by p below) (kept (over.bound_part below above p q k)) ≡ each (over.parts_by p on_p) (kept (over.bound_part on_p on_q p q k))
  parts_read = ap (λ l. each (over.parts_by p below) (kept l)) bounds_read ∙ each_equal (over.parts_by p below) (over.parts_by p on_p) parts_equal (kept (over.bound_part on_p on_q p q k))

  lengths_of_p : over.length_by below (kept (over.range_part facts below above p q k)) p ≡ over.length_by on_p (kept (over.range_part facts on_p on_q p q k)) p
  lengths_of_p =
      ap (λ l. over.length_by below (kept l) p) ranges_read ∙ lengths_read (over.is_read_below p) p (below_lengths p) (below_low p) (below_high p) on_p (kept (over.range_part facts on_p on_q p q k))

  lengths_of_q : over.length_by above (kept (over.range_part facts below above p q k)) q ≡ over.length_by on_q (kept (over.range_part facts on_p on_q p q k)) q
  lengths_of_q =
      ap (λ l. over.length_by above (kept l) q) ranges_read ∙ lengths_read (over.is_read_above q) q (above_lengths q) (above_low q) (above_high q) on_q (kept (over.range_part facts on_p on_q p q k))

  -- the six parts, by some of the facts on p and on q
  abbrev ranges : List Fact → List Fact → List Fact
  ranges l m = kept (over.range_part facts l m p q k)

  abbrev differences : List Fact → List Fact → List Fact
  differences l m = kept (over.difference_part l m p q k)

  abbrev bounds : List Fact → List Fact → List Fact
  bounds l m = kept (over.bound_part l m p q k)

  abbrev lengths : List Fact → List Fact → List Fact → Path → List Fact
  lengths l m on_x x = kept (over.length_by on_x (ranges l m) x)

  abbrev parts : List Fact → List Fact → List Fact
  parts l m = kept (each (over.parts_by p l) (bounds l m))

  pub read_all : over.read_facts facts (filter (over.is_read_below p) on_p) (filter (over.is_read_above q) on_q) p q k ≡ over.read_facts facts on_p on_q p q k
  read_all =
      six_equal (ranges below above) (differences below above) (bounds below above) (lengths below above below p) (lengths below above above q) (parts below above) (ranges on_p on_q) (differences on_p on_q) (bounds on_p on_q) (lengths on_p on_q on_p p)
      (lengths on_p on_q on_q q) (parts on_p on_q) (ap kept ranges_read) (ap kept differences_read) (ap kept bounds_read) (ap kept lengths_of_p) (ap kept lengths_of_q) (ap kept parts_read)
