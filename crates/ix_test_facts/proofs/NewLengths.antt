-- The lengths that new ranges give, one int after the other, are those that the rule gives of both at once.
use Rattle.std.specs.Prelude.{◌≡◌, ◌⊎◌, Bool, true, false, ◌||◌, ℤ, int_lt, Option, Some, None, List, [], ◌∷◌, ◌++◌, refl}
use Rattle.std.specs.Int.{int_min, int_max}
use Rattle.std.proofs.Common.{inl, inr, ap, sym, ◌∙◌, subst, ⊎_elim, arith}
use Rattle.std.proofs.lemmas.Int.{ints, clamps}
use Rattle.ix_num.specs.Ints.{least_int, greatest_int}
use Rattle.ix_core.specs.declared.fact.Path.{Path}
use Rattle.ix_core.specs.declared.fact.Fact.{Fact}
use Rattle.ix_core.specs.declared.fact.Fact.TheVariants.{Rng, LenRng, Low, Same, IsLen, Less, Sum, Search, Neg, Upper}
use Rattle.ix_facts.specs.Bounds
use Rattle.ix_facts.specs.Bounds.{is_path, best, best_of, greatest, least, at_least, at_most, own_low_by, range_high_by}
use Rattle.ix_facts.specs.Closure.{kept}
use Rattle.ix_facts.specs.Exact.{if_so, each}
use Rattle.ix_facts.specs.Facts.{IsIn}
use Rattle.ix_facts.specs.PathOrder.{path_same}
use Rattle.ix_facts.specs.AfterTest as rule
use Rattle.ix_facts.proofs.FactLists.{in_left, in_right, in_either}
use Rattle.ix_facts.specs.OnPaths.{HasNamed, each_on, best_on}
use Rattle.ix_intervals.specs.BestLaws.{low_joined, high_joined}
use Rattle.ix_facts.specs.SameFacts.{HasAll, AreSame}
use Rattle.ix_core.proofs.Cases.{by_test}
use Rattle.ix_test_facts.specs.OverGroups as over
use Rattle.ix_test_facts.proofs.PathsRead.{reads_length, looks_low, looks_high}
use Rattle.ix_test_facts.proofs.OverAll.{ranges_are}

-- ---- the best of two lists

pub max_apart : (x y z : ℤ) → int_max (int_max x y) z ≡ int_max x (int_max y z)
max_apart x y z = omega (arith, ints, clamps)

pub min_apart : (x y z : ℤ) → int_min (int_min x y) z ≡ int_min x (int_min y z)
min_apart x y z = omega (arith, ints, clamps)

abbrev pub Associates : (ℤ → ℤ → ℤ) → Type 0
Associates better = (x y z : ℤ) → better (better x y) z ≡ better x (better y z)

pub best_apart : (better : ℤ → ℤ → ℤ) → Associates better → (x y z : Option ℤ) → best better (best better x y) z ≡ best better x (best better y z)
best_apart better h None y z = refl
best_apart better h (Some x) None z = refl
best_apart better h (Some x) (Some y) None = refl
best_apart better h (Some x) (Some y) (Some z) = ap Some (h x y z)

pub best_joined : (better : ℤ → ℤ → ℤ) → Associates better → (by : Fact → Option ℤ) (xs ys : List Fact) → best_of better by (xs ++ ys) ≡ best better (best_of better by xs) (best_of better by ys)
best_joined better h by [] ys = refl
best_joined better h by (x ∷ xs) ys = ap (best better (by x)) (best_joined better h by xs ys) ∙ sym (best_apart better h (by x) (best_of better by xs) (best_of better by ys))

-- ---- the ends of ranges among facts whose constants are kept

pub kept_low : (x : Path) (facts : List Fact) → greatest (own_low_by x) (kept facts) ≡ greatest (own_low_by x) facts
kept_low x [] = refl
kept_low x (Less r s c ∷ facts) = by_test (int_lt greatest_int c) (λ n. rw n (kept_low x facts)) (λ n. rw n (kept_low x facts))
kept_low x (Upper r a o c ∷ facts) = by_test (int_lt c least_int) (λ n. rw n (kept_low x facts)) (λ n. rw n (kept_low x facts))
kept_low x (Rng r l h ∷ facts) = ap (best int_max (own_low_by x (Rng r l h))) (kept_low x facts)
kept_low x (LenRng r l h ∷ facts) = kept_low x facts
kept_low x (Low r c ∷ facts) = kept_low x facts
kept_low x (Same a b ∷ facts) = kept_low x facts
kept_low x (IsLen r a ∷ facts) = kept_low x facts
kept_low x (Sum t y z ∷ facts) = kept_low x facts
kept_low x (Search r a ∷ facts) = kept_low x facts
kept_low x (Neg r a ∷ facts) = kept_low x facts

pub kept_high : (x : Path) (facts : List Fact) → least (range_high_by x) (kept facts) ≡ least (range_high_by x) facts
kept_high x [] = refl
kept_high x (Less r s c ∷ facts) = by_test (int_lt greatest_int c) (λ n. rw n (kept_high x facts)) (λ n. rw n (kept_high x facts))
kept_high x (Upper r a o c ∷ facts) = by_test (int_lt c least_int) (λ n. rw n (kept_high x facts)) (λ n. rw n (kept_high x facts))
kept_high x (Rng r l h ∷ facts) = ap (best int_min (range_high_by x (Rng r l h))) (kept_high x facts)
kept_high x (LenRng r l h ∷ facts) = kept_high x facts
kept_high x (Low r c ∷ facts) = kept_high x facts
kept_high x (Same a b ∷ facts) = kept_high x facts
kept_high x (IsLen r a ∷ facts) = kept_high x facts
kept_high x (Sum t y z ∷ facts) = kept_high x facts
kept_high x (Search r a ∷ facts) = kept_high x facts
kept_high x (Neg r a ∷ facts) = kept_high x facts

low_of_both : (x : Path) (new facts : List Fact) → at_least (Bounds.own_low (kept new) x) (greatest (own_low_by x) facts) ≡ Bounds.own_low (new ++ facts) x
low_of_both x new facts =
    ap (λ n. at_least (at_least least_int n) (greatest (own_low_by x) facts)) (kept_low x new)
    ∙ (low_joined least_int (greatest (own_low_by x) new) (greatest (own_low_by x) facts) ∙ ap (at_least least_int) (sym (best_joined int_max max_apart (own_low_by x) new facts)))

high_of_both : (x : Path) (new facts : List Fact) → at_most (Bounds.range_high (kept new) x) (least (range_high_by x) facts) ≡ Bounds.range_high (new ++ facts) x
high_of_both x new facts =
    ap (λ n. at_most (at_most greatest_int n) (least (range_high_by x) facts)) (kept_high x new)
    ∙ (high_joined greatest_int (least (range_high_by x) new) (least (range_high_by x) facts) ∙ ap (at_most greatest_int) (sym (best_joined int_min min_apart (range_high_by x) new facts)))

-- ---- two rules, each over all facts, and one that gives what both give

module _ (first second both : Fact → List Fact) where
  pub merged_there : ((g f : Fact) → IsIn f (first g) → IsIn f (both g)) → ((g f : Fact) → IsIn f (second g) → IsIn f (both g)) → (facts : List Fact) → HasAll (each first facts ++ each second facts) (each both facts)
  merged_there h k facts f i = ⊎_elim (λ j. part_there first h facts f j) (λ j. part_there second k facts f j) (in_either f (each first facts) (each second facts) i)
    where
      part_there : (part : Fact → List Fact) → ((g f : Fact) → IsIn f (part g) → IsIn f (both g)) → (facts : List Fact) → HasAll (each part facts) (each both facts)
      part_there part h [] f i = absurd i
      part_there part h (g ∷ facts) f i =
          ⊎_elim (λ j. in_left f (both g) (each both facts) (h g f j)) (λ j. in_right f (both g) (each both facts) (part_there part h facts f j)) (in_either f (part g) (each part facts) i)

  pub merged_back : ((g f : Fact) → IsIn f (both g) → IsIn f (first g) ⊎ IsIn f (second g)) → (facts : List Fact) → HasAll (each both facts) (each first facts ++ each second facts)
  merged_back h facts f i = ⊎_elim (λ j. in_left f (each first facts) (each second facts) j) (λ j. in_right f (each first facts) (each second facts) j) (either h facts f i)
    where
      either : ((g f : Fact) → IsIn f (both g) → IsIn f (first g) ⊎ IsIn f (second g)) → (facts : List Fact) (f : Fact) → IsIn f (each both facts) → IsIn f (each first facts) ⊎ IsIn f (each second facts)
      either h [] f i = absurd i
      either h (g ∷ facts) f i =
          ⊎_elim
          (λ j. ⊎_elim (λ k. inl (in_left f (first g) (each first facts) k)) (λ k. inr (in_left f (second g) (each second facts) k)) (h g f j))
          (λ j. ⊎_elim (λ k. inl (in_right f (first g) (each first facts) k)) (λ k. inr (in_right f (second g) (each second facts) k)) (either h facts f j))
          (in_either f (both g) (each both facts) i)

-- ---- the lengths of p's and of q's ranges

module _ (low high : Path → ℤ) (p q : Path) where
  -- the rule, with the ends of an int's range given
  abbrev by : Fact → List Fact
  by (IsLen x a) = if_so (is_path x p || is_path x q) (LenRng a (low x) (high x) ∷ [])
  by _ = []

  at : Path → Fact → List Fact
  at x = over.length_at x (low x) (high x)

  here : (x y a : Path) (f : Fact) → is_path y x ≡ true → IsIn f (LenRng a (low x) (high x) ∷ []) → IsIn f (LenRng a (low y) (high y) ∷ [])
  here x y a f t i = subst (λ z. IsIn f (LenRng a (low z) (high z) ∷ [])) (sym (path_same y x t)) i

  there_left : (g f : Fact) → IsIn f (over.length_at p (low p) (high p) g) → IsIn f (by g)
  there_left (IsLen x a) f i =
      by_test (is_path x p) (λ t. rw t (here p x a f t (subst (λ b. IsIn f (if_so b (LenRng a (low p) (high p) ∷ []))) t i))) (λ n. absurd (subst (λ b. IsIn f (if_so b (LenRng a (low p) (high p) ∷ []))) n i))
  there_left (Less r s c) f i = absurd i
  there_left (Upper r a o c) f i = absurd i
  there_left (Rng r l h) f i = absurd i
  there_left (LenRng r l h) f i = absurd i
  there_left (Low r c) f i = absurd i
  there_left (Same a b) f i = absurd i
  there_left (Sum t y z) f i = absurd i
  there_left (Search r a) f i = absurd i
  there_left (Neg r a) f i = absurd i

  or_true : (b : Bool) → (b || true) ≡ true
  or_true true = refl
  or_true false = refl

  there_right : (g f : Fact) → IsIn f (over.length_at q (low q) (high q) g) → IsIn f (by g)
  there_right (IsLen x a) f i =
      by_test (is_path x q)
      (λ t. rw t (rw (or_true (is_path x p)) (here q x a f t (subst (λ b. IsIn f (if_so b (LenRng a (low q) (high q) ∷ []))) t i))))
      (λ n. absurd (subst (λ b. IsIn f (if_so b (LenRng a (low q) (high q) ∷ []))) n i))
  there_right (Less r s c) f i = absurd i
  there_right (Upper r a o c) f i = absurd i
  there_right (Rng r l h) f i = absurd i
  there_right (LenRng r l h) f i = absurd i
  there_right (Low r c) f i = absurd i
  there_right (Same a b) f i = absurd i
  there_right (Sum t y z) f i = absurd i
  there_right (Search r a) f i = absurd i
  there_right (Neg r a) f i = absurd i

  from : (x y a : Path) (f : Fact) → is_path y x ≡ true → IsIn f (LenRng a (low y) (high y) ∷ []) → IsIn f (LenRng a (low x) (high x) ∷ [])
  from x y a f t i = subst (λ z. IsIn f (LenRng a (low z) (high z) ∷ [])) (path_same y x t) i

  back : (g f : Fact) → IsIn f (by g) → IsIn f (over.length_at p (low p) (high p) g) ⊎ IsIn f (over.length_at q (low q) (high q) g)
  back (IsLen x a) f i =
      by_test (is_path x p)
      (λ t. inl (rw t (from p x a f t (subst (λ b. IsIn f (if_so (b || is_path x q) (LenRng a (low x) (high x) ∷ []))) t i))))
      (λ n. let j : IsIn f (if_so (is_path x q) (LenRng a (low x) (high x) ∷ [])) = subst (λ b. IsIn f (if_so (b || is_path x q) (LenRng a (low x) (high x) ∷ []))) n i in
      by_test (is_path x q) (λ t. inr (rw t (from q x a f t (subst (λ b. IsIn f (if_so b (LenRng a (low x) (high x) ∷ []))) t j)))) (λ m. absurd (subst (λ b. IsIn f (if_so b (LenRng a (low x) (high x) ∷ []))) m j)))
  back (Less r s c) f i = absurd i
  back (Upper r a o c) f i = absurd i
  back (Rng r l h) f i = absurd i
  back (LenRng r l h) f i = absurd i
  back (Low r c) f i = absurd i
  back (Same a b) f i = absurd i
  back (Sum t y z) f i = absurd i
  back (Search r a) f i = absurd i
  back (Neg r a) f i = absurd i

  pub lengths_same : (facts : List Fact) → AreSame (each (over.length_at p (low p) (high p)) facts ++ each (over.length_at q (low q) (high q)) facts) (each by facts)
  lengths_same facts = record {
    there = merged_there (over.length_at p (low p) (high p)) (over.length_at q (low q) (high q)) by there_left there_right facts;
    back = merged_back (over.length_at p (low p) (high p)) (over.length_at q (low q) (high q)) by back facts;
  }

-- the lengths that are x
abbrev pub length_part : List Fact → (Path → List Fact) → Path → Path → ℤ → Path → List Fact
length_part facts on p q k x = over.length_by (on x) (kept (over.range_part facts (on p) (on q) p q k)) x

module _ (facts : List Fact) (on : Path → List Fact) (named : (p : Path) → HasNamed p (on p) facts) (p q : Path) (k : ℤ) where
  abbrev low_end : Path → ℤ
  low_end x = Bounds.own_low (rule.range_part facts p q k ++ facts) x

  abbrev high_end : Path → ℤ
  high_end x = Bounds.range_high (rule.range_part facts p q k ++ facts) x

  low_is : (x : Path) → at_least (Bounds.own_low (kept (over.range_part facts (on p) (on q) p q k)) x) (greatest (own_low_by x) (on x)) ≡ low_end x
  low_is x =
      ap (λ l. at_least (Bounds.own_low (kept l) x) (greatest (own_low_by x) (on x))) (ranges_are facts on named p q k)
      ∙ (ap (at_least (Bounds.own_low (kept (rule.range_part facts p q k)) x)) (best_on int_max x (own_low_by x) (on x) facts (looks_low x) (named x)) ∙ low_of_both x (rule.range_part facts p q k) facts)

  high_is : (x : Path) → at_most (Bounds.range_high (kept (over.range_part facts (on p) (on q) p q k)) x) (least (range_high_by x) (on x)) ≡ high_end x
  high_is x =
      ap (λ l. at_most (Bounds.range_high (kept l) x) (least (range_high_by x) (on x))) (ranges_are facts on named p q k)
      ∙ (ap (at_most (Bounds.range_high (kept (rule.range_part facts p q k)) x)) (best_on int_min x (range_high_by x) (on x) facts (looks_high x) (named x)) ∙ high_of_both x (rule.range_part facts p q k) facts)

  pub length_is : (x : Path) → length_part facts on p q k x ≡ each (over.length_at x (low_end x) (high_end x)) facts
  length_is x =
      ap (λ n. each (over.length_at x n (at_most (Bounds.range_high (kept (over.range_part facts (on p) (on q) p q k)) x) (least (range_high_by x) (on x)))) (on x)) (low_is x)
      ∙ (ap (λ n. each (over.length_at x (low_end x) n) (on x)) (high_is x) ∙ each_on x (over.length_at x (low_end x) (high_end x)) (on x) facts (reads_length x (low_end x) (high_end x)) (named x))
