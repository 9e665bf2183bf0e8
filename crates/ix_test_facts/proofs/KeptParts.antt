-- Parts of bounds whose constants are kept are, as far as theirs are kept, those of all bounds.
use Rattle.std.specs.Prelude.{◌≡◌, true, false, ℤ, int_lt, List, [], ◌∷◌, ◌++◌, refl}
use Rattle.std.specs.Int.{int_min}
use Rattle.std.proofs.Common.{ap, sym, ◌∙◌, arith}
use Rattle.std.proofs.lemmas.Int.{ints, clamps}
use Rattle.ix_num.specs.Ints.{least_int, greatest_int}
use Rattle.ix_core.specs.declared.fact.Path.{Path}
use Rattle.ix_core.specs.declared.fact.PathOff.TheVariants.{Nothing, Plus, Minus}
use Rattle.ix_core.specs.declared.fact.Fact.{Fact}
use Rattle.ix_core.specs.declared.fact.Fact.TheVariants.{Rng, LenRng, Low, Same, IsLen, Less, Sum, Search, Neg, Upper}
use Rattle.ix_facts.specs.Bounds.{is_path}
use Rattle.ix_facts.specs.Closure.{kept, kept_fact}
use Rattle.ix_facts.specs.Exact.{each}
use Rattle.std.proofs.lemmas.List.{append_assoc}
use Rattle.ix_intervals.specs.KeptLaws.{kept_joined}
use Rattle.ix_core.proofs.Cases.{by_test}
use Rattle.ix_test_facts.specs.OverGroups as over

-- ---- a bound that is too small gives none that is kept

dropped_part : (p a : Path) (e : ℤ) → int_lt e least_int ≡ true → (f : Fact) → kept (over.part_of p a e f) ≡ []
dropped_part p a e n (Sum s y z) = by_test (is_path s p) (λ t. rw t (rw n refl)) (λ t. rw t refl)
dropped_part p a e n (Upper q b o c) = refl
dropped_part p a e n (Less r x c) = refl
dropped_part p a e n (Rng r l h) = refl
dropped_part p a e n (LenRng b l h) = refl
dropped_part p a e n (Low r c) = refl
dropped_part p a e n (Same b c) = refl
dropped_part p a e n (IsLen r b) = refl
dropped_part p a e n (Search r b) = refl
dropped_part p a e n (Neg r b) = refl

all_dropped : (p a : Path) (e : ℤ) → int_lt e least_int ≡ true → (facts : List Fact) → kept (each (over.part_of p a e) facts) ≡ []
all_dropped p a e n [] = refl
all_dropped p a e n (f ∷ facts) =
    kept_joined (over.part_of p a e f) (each (over.part_of p a e) facts) ∙ (ap (λ l. l ++ kept (each (over.part_of p a e) facts)) (dropped_part p a e n f) ∙ all_dropped p a e n facts)

-- ---- one that is too great gives those of the greatest

not_small : (e : ℤ) → int_lt e least_int ≡ false → int_lt (int_min e greatest_int) least_int ≡ false
not_small e n = grind (arith, ints, clamps, n)

once_met : (e : ℤ) → int_min (int_min e greatest_int) greatest_int ≡ int_min e greatest_int
once_met e = omega (arith, ints, clamps)

same_part : (p a : Path) (e : ℤ) → int_lt e least_int ≡ false → (f : Fact) → kept (over.part_of p a (int_min e greatest_int) f) ≡ kept (over.part_of p a e f)
same_part p a e n (Sum s y z) = by_test (is_path s p) (λ t. rw t (rw n (rw (not_small e n) (ap (λ c. Upper y a (Plus z) c ∷ []) (once_met e))))) (λ t. rw t refl)
same_part p a e n (Upper q b o c) = refl
same_part p a e n (Less r x c) = refl
same_part p a e n (Rng r l h) = refl
same_part p a e n (LenRng b l h) = refl
same_part p a e n (Low r c) = refl
same_part p a e n (Same b c) = refl
same_part p a e n (IsLen r b) = refl
same_part p a e n (Search r b) = refl
same_part p a e n (Neg r b) = refl

same_all : (p a : Path) (e : ℤ) → int_lt e least_int ≡ false → (facts : List Fact) → kept (each (over.part_of p a (int_min e greatest_int)) facts) ≡ kept (each (over.part_of p a e) facts)
same_all p a e n [] = refl
same_all p a e n (f ∷ facts) =
    kept_joined (over.part_of p a (int_min e greatest_int) f) _
    ∙ (ap (λ l. l ++ kept (each (over.part_of p a (int_min e greatest_int)) facts)) (same_part p a e n f)
    ∙ (ap (λ l. kept (over.part_of p a e f) ++ l) (same_all p a e n facts) ∙ sym (kept_joined (over.part_of p a e f) (each (over.part_of p a e) facts))))

-- ---- a list of bounds

app_none : (l : List Fact) → l ++ [] ≡ l
app_none [] = refl
app_none (f ∷ l) = ap (λ m. f ∷ m) (app_none l)

module _ (p : Path) (on_p : List Fact) where
  kept_by : (f : Fact) → kept (each (over.parts_by p on_p) (kept_fact f)) ≡ kept (over.parts_by p on_p f)
  kept_by (Upper x a Nothing e) =
      by_test (int_lt e least_int)
      (λ n. rw n (by_test (is_path x p) (λ t. rw t (sym (all_dropped p a e n on_p))) (λ t. rw t refl)))
      (λ n. rw n (by_test (is_path x p) (λ t. rw t (ap kept (app_none (each (over.part_of p a (int_min e greatest_int)) on_p)) ∙ same_all p a e n on_p)) (λ t. rw t refl)))
  kept_by (Upper x a (Plus o) e) = by_test (int_lt e least_int) (λ n. rw n refl) (λ n. rw n refl)
  kept_by (Upper x a (Minus o) e) = by_test (int_lt e least_int) (λ n. rw n refl) (λ n. rw n refl)
  kept_by (Less r x c) = by_test (int_lt greatest_int c) (λ n. rw n refl) (λ n. rw n refl)
  kept_by (Rng r l h) = refl
  kept_by (LenRng b l h) = refl
  kept_by (Low r c) = refl
  kept_by (Same b c) = refl
  kept_by (IsLen r b) = refl
  kept_by (Sum t y z) = refl
  kept_by (Search r b) = refl
  kept_by (Neg r b) = refl

  each_app : (xs ys : List Fact) → each (over.parts_by p on_p) (xs ++ ys) ≡ each (over.parts_by p on_p) xs ++ each (over.parts_by p on_p) ys
  each_app [] ys = refl
  each_app (x ∷ xs) ys = ap (λ l. over.parts_by p on_p x ++ l) (each_app xs ys) ∙ sym (append_assoc (over.parts_by p on_p x) (each (over.parts_by p on_p) xs) (each (over.parts_by p on_p) ys))

  pub parts_kept : (bounds : List Fact) → kept (each (over.parts_by p on_p) (kept bounds)) ≡ kept (each (over.parts_by p on_p) bounds)
  parts_kept [] = refl
  parts_kept (f ∷ bounds) =
      ap kept (each_app (kept_fact f) (kept bounds))
      ∙ (kept_joined (each (over.parts_by p on_p) (kept_fact f)) (each (over.parts_by p on_p) (kept bounds))
      ∙ (ap (λ l. l ++ kept (each (over.parts_by p on_p) (kept bounds))) (kept_by f)
      ∙ (ap (λ l. kept (over.parts_by p on_p f) ++ l) (parts_kept bounds) ∙ sym (kept_joined (over.parts_by p on_p f) (each (over.parts_by p on_p) bounds)))))
