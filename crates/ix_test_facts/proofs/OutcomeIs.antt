-- What an outcome gives over the facts on each path is what the rules give of it.
use Rattle.std.specs.Prelude.{◌≡◌, ◌⊎◌, Bool, true, false, ℤ, pos, int_le, List, [], ◌∷◌, ◌++◌, filter, refl}
use Rattle.std.proofs.Common.{ap, sym, ◌∙◌}
use Rattle.ix_core.specs.declared.fact.Path.{Path}
use Rattle.ix_core.specs.declared.fact.Fact.{Fact}
use Rattle.ix_core.specs.declared.fact.Fact.TheVariants.{Rng, LenRng, Low, Same, IsLen, Less, Sum, Search, Neg, Upper}
use Rattle.ix_facts.specs.Bounds
use Rattle.ix_facts.specs.Bounds.{is_path}
use Rattle.ix_facts.specs.Closure.{kept}
use Rattle.ix_facts.specs.Exact.{if_so, each}
use Rattle.ix_facts.specs.Facts.{IsIn}
use Rattle.ix_facts.specs.AfterTest as rule
use Rattle.ix_facts.specs.AfterTest.{Outcome, Below, Apart, Equal, OneArray}
use Rattle.ix_facts.proofs.FactLists.{in_left, in_right, in_either}
use Rattle.ix_facts.specs.OnPaths.{HasNamed, each_on}
use Rattle.std.proofs.lemmas.List.{append_assoc}
use Rattle.ix_intervals.specs.KeptLaws.{kept_joined}
use Rattle.ix_facts.specs.SameFacts.{AreSame}
use Rattle.ix_facts.proofs.Members.{same_itself, same_equal, same_trans, same_app, same_if, same_kept}
use Rattle.ix_test_facts.specs.OverGroups as over
use Rattle.ix_test_facts.proofs.PathsRead.{reads_passed}
use Rattle.ix_test_facts.proofs.OverAll.{ranges_are, differences_are, bounds_are, parts_are}
use Rattle.ix_test_facts.proofs.KeptParts.{parts_kept}
use Rattle.ix_test_facts.proofs.OwnAmong.{ordered_same}
use Rattle.ix_test_facts.proofs.ReadFacts.{read_all}
use Rattle.ix_test_facts.proofs.NewLengths.{length_part, length_is, lengths_same, merged_there, merged_back}

-- ---- equal ints

passed_left : (y z : Path) (g f : Fact) → IsIn f (over.passed_by y z g) → IsIn f (rule.shared_by y z g)
passed_left y z (IsLen p a) f i = in_left f (if_so (is_path p y) (IsLen z a ∷ [])) _ i
passed_left y z (Search p a) f i = in_left f (if_so (is_path p y) (Search z a ∷ [])) _ i
passed_left y z (Neg p a) f i = in_left f (if_so (is_path p y) (Neg z a ∷ [])) _ i
passed_left y z (Less r s c) f i = absurd i
passed_left y z (Upper r a o c) f i = absurd i
passed_left y z (Rng r l h) f i = absurd i
passed_left y z (LenRng r l h) f i = absurd i
passed_left y z (Low r c) f i = absurd i
passed_left y z (Same a b) f i = absurd i
passed_left y z (Sum t u v) f i = absurd i

passed_right : (y z : Path) (g f : Fact) → IsIn f (over.passed_by z y g) → IsIn f (rule.shared_by y z g)
passed_right y z (IsLen p a) f i = in_right f (if_so (is_path p y) (IsLen z a ∷ [])) _ i
passed_right y z (Search p a) f i = in_right f (if_so (is_path p y) (Search z a ∷ [])) _ i
passed_right y z (Neg p a) f i = in_right f (if_so (is_path p y) (Neg z a ∷ [])) _ i
passed_right y z (Less r s c) f i = absurd i
passed_right y z (Upper r a o c) f i = absurd i
passed_right y z (Rng r l h) f i = absurd i
passed_right y z (LenRng r l h) f i = absurd i
passed_right y z (Low r c) f i = absurd i
passed_right y z (Same a b) f i = absurd i
passed_right y z (Sum t u v) f i = absurd i

shared_parts : (y z : Path) (g f : Fact) → IsIn f (rule.shared_by y z g) → IsIn f (over.passed_by y z g) ⊎ IsIn f (over.passed_by z y g)
shared_parts y z (IsLen p a) f i = in_either f (if_so (is_path p y) (IsLen z a ∷ [])) _ i
shared_parts y z (Search p a) f i = in_either f (if_so (is_path p y) (Search z a ∷ [])) _ i
shared_parts y z (Neg p a) f i = in_either f (if_so (is_path p y) (Neg z a ∷ [])) _ i
shared_parts y z (Less r s c) f i = absurd i
shared_parts y z (Upper r a o c) f i = absurd i
shared_parts y z (Rng r l h) f i = absurd i
shared_parts y z (LenRng r l h) f i = absurd i
shared_parts y z (Low r c) f i = absurd i
shared_parts y z (Same a b) f i = absurd i
shared_parts y z (Sum t u v) f i = absurd i

-- ---- an outcome

module _ (facts : List Fact) (on : Path → List Fact) (named : (p : Path) → HasNamed p (on p) facts) where
  lengths_are : (p q : Path) (k : ℤ) → AreSame (kept (length_part facts on p q k p) ++ kept (length_part facts on p q k q)) (kept (rule.length_part facts p q k))
  lengths_are p q k =
      same_trans _ _ _
      (same_equal _ _ (sym (kept_joined (length_part facts on p q k p) (length_part facts on p q k q))))
      (same_kept _ _
      (same_trans _ _ _
      (same_equal _ _ (ap (λ l. l ++ length_part facts on p q k q) (length_is facts on named p q k p) ∙ ap (λ l. each (over.length_at p (low p) (high p)) facts ++ l) (length_is facts on named p q k q)))
      (lengths_same low high p q facts)))
    where
      low : Path → ℤ
      low x = Bounds.own_low (rule.range_part facts p q k ++ facts) x

      high : Path → ℤ
      high x = Bounds.range_high (rule.range_part facts p q k ++ facts) x

  parts_all : (p q : Path) (k : ℤ) → kept (each (over.parts_by p (on p)) (kept (over.bound_part (on p) (on q) p q k))) ≡ kept (rule.sum_part facts p q k)
  parts_all p q k =
      parts_kept p (on p) (over.bound_part (on p) (on q) p q k) ∙ (ap (λ l. kept (each (over.parts_by p (on p)) l)) (bounds_are facts on named p q k) ∙ ap kept (parts_are facts on named p q k (rule.bound_part facts p q k)))

  below_kept : (p q : Path) (k : ℤ) → kept (rule.below_facts facts p q k) ≡ kept (rule.range_part facts p q k) ++ (kept (rule.difference_part facts p q k) ++ (kept (rule.bound_part facts p q k) ++ (kept (rule.length_part facts p q k) ++ kept (rule.sum_part facts p q k))))
  below_kept p q k =
      kept_joined (rule.range_part facts p q k) _
      ∙ ap (λ l. kept (rule.range_part facts p q k) ++ l) (kept_joined (rule.difference_part facts p q k) _
      ∙ ap (λ l. kept (rule.difference_part facts p q k) ++ l) (kept_joined (rule.bound_part facts p q k) _
      ∙ ap (λ l. kept (rule.bound_part facts p q k) ++ l) (kept_joined (rule.length_part facts p q k) (rule.sum_part facts p q k))))

  read_same : (p q : Path) (k : ℤ) → AreSame (over.read_facts facts (on p) (on q) p q k) (kept (rule.below_facts facts p q k))
  read_same p q k =
      same_trans _ _ _
      (same_app _ _ _ _ (same_equal _ _ (ap kept (ranges_are facts on named p q k)))
      (same_app _ _ _ _ (same_equal _ _ (ap kept (differences_are facts on named p q k)))
      (same_app _ _ _ _ (same_equal _ _ (ap kept (bounds_are facts on named p q k)))
      (same_trans _ _ _ (same_equal _ _ (sym (append_assoc (kept (length_part facts on p q k p)) (kept (length_part facts on p q k q)) _)))
      (same_app _ _ _ _ (lengths_are p q k) (same_equal _ _ (parts_all p q k)))))))
      (same_equal _ _ (sym (below_kept p q k)))

  below_same : (p q : Path) (k : ℤ) → AreSame (over.below_facts facts on p q k) (kept (rule.below_facts facts p q k))
  below_same p q k =
      same_trans _ _ _
      (ordered_same facts (filter (over.is_read_below p) (on p)) (filter (over.is_read_above q) (on q)) p q k)
      (same_trans _ _ _ (same_equal _ _ (read_all facts (on p) (on q) p q k)) (read_same p q k))

  equal_same : (y z : Path) → AreSame (kept (each (over.passed_by y z) (on y)) ++ kept (each (over.passed_by z y) (on z))) (kept (each (rule.shared_by y z) facts))
  equal_same y z =
      same_trans _ _ _
      (same_equal _ _ (ap (λ l. kept l ++ kept (each (over.passed_by z y) (on z))) (each_on y (over.passed_by y z) (on y) facts (reads_passed y z) (named y))
      ∙ (ap (λ l. kept (each (over.passed_by y z) facts) ++ kept l) (each_on z (over.passed_by z y) (on z) facts (reads_passed z y) (named z))
      ∙ sym (kept_joined (each (over.passed_by y z) facts) (each (over.passed_by z y) facts)))))
      (same_kept _ _
      (record {
        there = merged_there (over.passed_by y z) (over.passed_by z y) (rule.shared_by y z) (passed_left y z) (passed_right y z) facts;
        back = merged_back (over.passed_by y z) (over.passed_by z y) (rule.shared_by y z) (shared_parts y z) facts;
      }))

  kept_if : (t : Bool) (l : List Fact) → if_so t (kept l) ≡ kept (if_so t l)
  kept_if true l = refl
  kept_if false l = refl

  pub outcome_same : (outcome : Outcome) → AreSame (over.outcome_facts facts on outcome) (kept (rule.outcome_facts facts outcome))
  outcome_same (Below p q k) = below_same p q k
  outcome_same (Apart p q) =
      same_trans _ _ _ (same_if (int_le (Bounds.less_bound facts p q) (pos 1)) _ _ (below_same p q (pos 0))) (same_equal _ _ (kept_if (int_le (Bounds.less_bound facts p q) (pos 1)) (rule.below_facts facts p q (pos 0))))
  outcome_same (Equal y z) = equal_same y z
  outcome_same (OneArray a b) = same_itself (Same a b ∷ [])
