-- The ends of ranges by ranges and classes alone, and differences by differences and lengths alone, are those by all facts.
use Rattle.std.specs.Prelude.{◌≡◌, Bool, false, ℤ, pos, Option, None, List, [], ◌∷◌, filter, refl}
use Rattle.std.specs.Int.{int_min, int_max}
use Rattle.std.proofs.Common.{ap, sym, ◌∙◌}
use Rattle.std.proofs.lemmas.Bool.{false≢true}
use Rattle.ix_num.specs.Ints.{least_int, greatest_int}
use Rattle.ix_core.specs.declared.fact.Path.{Path}
use Rattle.ix_core.specs.declared.fact.Fact.{Fact}
use Rattle.ix_core.specs.declared.fact.Fact.TheVariants.{Rng, LenRng, Low, Same, IsLen, Less, Sum, Search, Neg, Upper}
use Rattle.ix_facts.specs.Bounds
use Rattle.ix_facts.specs.Bounds.{at_least, at_most, greatest, least, best, best_of, length_low_by, length_high_by, range_low_by, range_high_by, fact_less_by}
use Rattle.ix_facts.specs.OnPaths.{HasNamed, best_on}
use Rattle.ix_core.proofs.Cases.{by_test}
use Rattle.ix_bounds.specs.Ends.{is_end, ends_in}
use Rattle.ix_bounds.specs.Links.{is_link, links_in}
use Rattle.ix_bounds.specs.Lengths.{is_len, lengths_in, length_less_by}
use Rattle.ix_bounds.proofs.Looks.{looks_lower, looks_length_less, looks_fact_less}
use Rattle.ix_bounds.proofs.OnPath.{length_low_is, length_high_is, range_low_is, range_high_is}

-- A fact that is none of these gives no number.
abbrev LooksAt : (Fact → Bool) → (Fact → Option ℤ) → Type 0
LooksAt is by = (fact : Fact) → is fact ≡ false → by fact ≡ None

best_part : (better : ℤ → ℤ → ℤ) (is : Fact → Bool) (by : Fact → Option ℤ) → LooksAt is by → (facts : List Fact) → best_of better by (filter is facts) ≡ best_of better by facts
best_part better is by h [] = refl
best_part better is by h (fact ∷ facts) =
    by_test (is fact)
    (λ t. rw t (ap (best better (by fact)) (best_part better is by h facts)))
    (λ t. rw t (best_part better is by h facts ∙ sym (ap (λ x. best better x (best_of better by facts)) (h fact t))))

looks_length_low : (a : Path) → LooksAt is_end (length_low_by a)
looks_length_low a (LenRng b l h) n = absurd (false≢true (sym n))
looks_length_low a (Rng p l h) n = refl
looks_length_low a (Low p c) n = refl
looks_length_low a (Same b c) n = refl
looks_length_low a (IsLen p b) n = refl
looks_length_low a (Less p q c) n = refl
looks_length_low a (Sum t y z) n = refl
looks_length_low a (Search p b) n = refl
looks_length_low a (Neg p b) n = refl
looks_length_low a (Upper p b o c) n = refl

looks_length_high : (a : Path) → LooksAt is_end (length_high_by a)
looks_length_high a (LenRng b l h) n = absurd (false≢true (sym n))
looks_length_high a (Rng p l h) n = refl
looks_length_high a (Low p c) n = refl
looks_length_high a (Same b c) n = refl
looks_length_high a (IsLen p b) n = refl
looks_length_high a (Less p q c) n = refl
looks_length_high a (Sum t y z) n = refl
looks_length_high a (Search p b) n = refl
looks_length_high a (Neg p b) n = refl
looks_length_high a (Upper p b o c) n = refl

looks_range_low : (p : Path) → LooksAt is_end (range_low_by p)
looks_range_low p (Rng q l h) n = absurd (false≢true (sym n))
looks_range_low p (Low q c) n = absurd (false≢true (sym n))
looks_range_low p (LenRng b l h) n = refl
looks_range_low p (Same b c) n = refl
looks_range_low p (IsLen q b) n = refl
looks_range_low p (Less q r c) n = refl
looks_range_low p (Sum t y z) n = refl
looks_range_low p (Search q b) n = refl
looks_range_low p (Neg q b) n = refl
looks_range_low p (Upper q b o c) n = refl

looks_range_high : (p : Path) → LooksAt is_end (range_high_by p)
looks_range_high p (Rng q l h) n = absurd (false≢true (sym n))
looks_range_high p (Low q c) n = refl
looks_range_high p (LenRng b l h) n = refl
looks_range_high p (Same b c) n = refl
looks_range_high p (IsLen q b) n = refl
looks_range_high p (Less q r c) n = refl
looks_range_high p (Sum t y z) n = refl
looks_range_high p (Search q b) n = refl
looks_range_high p (Neg q b) n = refl
looks_range_high p (Upper q b o c) n = refl

-- Of the ranges and classes that name the path, the part has all.
module _ (part all : List Fact) where
  pub length_low_of : (a : Path) → HasNamed a (ends_in part) (ends_in all) → Bounds.length_low part a ≡ Bounds.length_low all a
  length_low_of a n =
      sym (ap (at_least (pos 0)) (best_part int_max is_end (length_low_by a) (looks_length_low a) part))
      ∙ (length_low_is (ends_in part) (ends_in all) a n ∙ ap (at_least (pos 0)) (best_part int_max is_end (length_low_by a) (looks_length_low a) all))

  pub length_high_of : (a : Path) → HasNamed a (ends_in part) (ends_in all) → Bounds.length_high part a ≡ Bounds.length_high all a
  length_high_of a n =
      sym (ap (at_most greatest_int) (best_part int_min is_end (length_high_by a) (looks_length_high a) part))
      ∙ (length_high_is (ends_in part) (ends_in all) a n ∙ ap (at_most greatest_int) (best_part int_min is_end (length_high_by a) (looks_length_high a) all))

  pub range_low_of : (p : Path) → HasNamed p (ends_in part) (ends_in all) → Bounds.range_low part p ≡ Bounds.range_low all p
  range_low_of p n =
      sym (ap (at_least least_int) (best_part int_max is_end (range_low_by p) (looks_range_low p) part))
      ∙ (range_low_is (ends_in part) (ends_in all) p n ∙ ap (at_least least_int) (best_part int_max is_end (range_low_by p) (looks_range_low p) all))

  pub range_high_of : (p : Path) → HasNamed p (ends_in part) (ends_in all) → Bounds.range_high part p ≡ Bounds.range_high all p
  range_high_of p n =
      sym (ap (at_most greatest_int) (best_part int_min is_end (range_high_by p) (looks_range_high p) part))
      ∙ (range_high_is (ends_in part) (ends_in all) p n ∙ ap (at_most greatest_int) (best_part int_min is_end (range_high_by p) (looks_range_high p) all))

-- ---- differences

links_lower : (all : List Fact) (p : Path) → LooksAt is_link (Bounds.lower_by all p)
links_lower all p (Rng p1 l1 h1) n = refl
links_lower all p (LenRng a1 l1 h1) n = refl
links_lower all p (Low p1 c1) n = refl
links_lower all p (Same a1 b1) n = refl
links_lower all p (IsLen p1 a1) n = absurd (false≢true (sym n))
links_lower all p (Less p1 q1 c1) n = absurd (false≢true (sym n))
links_lower all p (Sum t1 y1 z1) n = refl
links_lower all p (Search p1 a1) n = refl
links_lower all p (Neg p1 a1) n = refl
links_lower all p (Upper p1 a1 o1 c1) n = refl

lengths_less : (all : List Fact) (p q : Path) → LooksAt is_len (length_less_by all p q)
lengths_less all p q (Rng p1 l1 h1) n = refl
lengths_less all p q (LenRng a1 l1 h1) n = refl
lengths_less all p q (Low p1 c1) n = refl
lengths_less all p q (Same a1 b1) n = refl
lengths_less all p q (IsLen p1 a1) n = absurd (false≢true (sym n))
lengths_less all p q (Less p1 q1 c1) n = refl
lengths_less all p q (Sum t1 y1 z1) n = refl
lengths_less all p q (Search p1 a1) n = refl
lengths_less all p q (Neg p1 a1) n = refl
lengths_less all p q (Upper p1 a1 o1 c1) n = refl

links_fact : (p q : Path) → LooksAt is_link (fact_less_by p q)
links_fact p q (Rng p1 l1 h1) n = refl
links_fact p q (LenRng a1 l1 h1) n = refl
links_fact p q (Low p1 c1) n = refl
links_fact p q (Same a1 b1) n = refl
links_fact p q (IsLen p1 a1) n = absurd (false≢true (sym n))
links_fact p q (Less p1 q1 c1) n = absurd (false≢true (sym n))
links_fact p q (Sum t1 y1 z1) n = refl
links_fact p q (Search p1 a1) n = refl
links_fact p q (Neg p1 a1) n = refl
links_fact p q (Upper p1 a1 o1 c1) n = refl

-- Of the differences and lengths that name the path, the part has all.
module _ (part all : List Fact) where
  pub lower_of : (p : Path) → HasNamed p (links_in part) (links_in all) → at_least (Bounds.range_low all p) (greatest (Bounds.lower_by all p) part) ≡ Bounds.lower_bound all p
  lower_of p n =
      let alone = best_part int_max is_link (Bounds.lower_by all p) (links_lower all p) in
      ap (at_least (Bounds.range_low all p)) (sym (alone part) ∙ (best_on int_max p (Bounds.lower_by all p) (links_in part) (links_in all) (looks_lower all p) n ∙ alone all))

  pub length_less_of : (p q : Path) → HasNamed q (lengths_in part) (lengths_in all) → least (length_less_by all p q) part ≡ least (length_less_by all p q) all
  length_less_of p q n =
      let alone = best_part int_min is_len (length_less_by all p q) (lengths_less all p q) in
      sym (alone part) ∙ (best_on int_min q (length_less_by all p q) (lengths_in part) (lengths_in all) (looks_length_less all p q) n ∙ alone all)

  pub fact_less_of : (p q : Path) → HasNamed p (links_in part) (links_in all) → least (fact_less_by p q) part ≡ Bounds.fact_less all p q
  fact_less_of p q n =
      let alone = best_part int_min is_link (fact_less_by p q) (links_fact p q) in
      sym (alone part) ∙ (best_on int_min p (fact_less_by p q) (links_in part) (links_in all) (looks_fact_less p q) n ∙ alone all)
