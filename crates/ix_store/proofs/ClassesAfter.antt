-- What an int is at least in the facts behind a rule is -1, 0 or 1.
use Rattle.std.specs.Prelude.{Bool, true, false, not, ◌||◌, ℤ, pos, ◌+ℤ◌, ◌-ℤ◌, int_le, int_lt, List, [], ◌∷◌, ◌++◌}
use Rattle.std.proofs.Common.{sym, subst, ⊎_elim}
use Rattle.ix_num.specs.Ints.{least_int, greatest_int}
use Rattle.ix_core.specs.declared.fact.Path.{Path}
use Rattle.ix_core.specs.declared.fact.PathClaim.{PathClaim}
use Rattle.ix_core.specs.declared.fact.PathOff.TheVariants.{Nothing, Plus, Minus}
use Rattle.ix_core.specs.declared.fact.Fact.{Fact}
use Rattle.ix_core.specs.declared.fact.Fact.TheVariants.{Rng, LenRng, Low, Same, IsLen, Less, Sum, Search, Neg, Upper}
use Rattle.ix_facts.specs.AfterTest as test
use Rattle.ix_facts.specs.AfterTest.{Outcome, Below, Apart, Equal, OneArray, outcome_facts, at_below, below_by, at_above, above_by, bound_moved, shared_by}
use Rattle.ix_facts.specs.Assume.{claim_facts}
use Rattle.ix_facts.specs.Bounds
use Rattle.ix_facts.specs.Bounds.{is_path}
use Rattle.ix_facts.specs.Closure.{kept, kept_fact}
use Rattle.ix_facts.specs.Exact.{if_so, each}
use Rattle.ix_facts.specs.Facts.{in_orders}
use Rattle.ix_facts.specs.Stores.{with_outcome}
use Rattle.ix_facts.specs.Systems.{HasClass, HaveClasses}
use Rattle.ix_facts.proofs.ClassesStay.{claim_classes, app_have}
use Rattle.ix_facts.proofs.ClosureLaws.{from_kept}
use Rattle.ix_facts.proofs.FactLists.{in_right}
use Rattle.ix_facts.proofs.SaidLaws.{from_each}
use Rattle.ix_core.proofs.Cases.{by_test}

pub right_have : (a b : List Fact) → HaveClasses (a ++ b) → HaveClasses b
right_have a b have f i = have f (in_right f a b i)

if_have : (t : Bool) (a : List Fact) → HaveClasses a → HaveClasses (if_so t a)
if_have true a x f i = x f i
if_have false a x f i = absurd i

one_has : (f : Fact) → HasClass f → HaveClasses (f ∷ [])
one_has f h g i = ⊎_elim (λ e. subst HasClass (sym e) h) (λ n. absurd n) i

each_have : (rule : Fact → List Fact) (facts : List Fact) → ((g : Fact) → HaveClasses (rule g)) → HaveClasses (each rule facts)
each_have rule facts h f i = let x = from_each rule f facts i in h x.0 f x.2

-- ---- constants that are kept

kept_one : (g : Fact) → HasClass g → HaveClasses (kept_fact g)
kept_one (Less p q c) h = by_test (int_lt greatest_int c) (λ t. rw t (λ f i. absurd i)) (λ t. rw t (one_has _ tt))
kept_one (Upper p a o c) h = by_test (int_lt c least_int) (λ t. rw t (λ f i. absurd i)) (λ t. rw t (one_has _ tt))
kept_one (Rng p l k) h = one_has (Rng p l k) tt
kept_one (LenRng p l k) h = one_has (LenRng p l k) tt
kept_one (Low p c) h = one_has (Low p c) h
kept_one (Same a b) h = one_has (Same a b) tt
kept_one (IsLen p a) h = one_has (IsLen p a) tt
kept_one (Sum t y z) h = one_has (Sum t y z) tt
kept_one (Search p a) h = one_has (Search p a) tt
kept_one (Neg p a) h = one_has (Neg p a) tt

pub kept_have : (facts : List Fact) → HaveClasses facts → HaveClasses (kept facts)
kept_have facts h f i = let x = from_kept f facts i in kept_one x.0 (h x.0 x.1) f x.2

-- ---- what a test tells

below_one : (rule : Path → ℤ → List Fact) (p : Path) → ((r : Path) (c : ℤ) → HaveClasses (rule r c)) → (g : Fact) → HaveClasses (below_by rule p g)
below_one rule p h (Less r x c) = if_have (is_path x p) (rule r c) (h r c)
below_one rule p h (Upper q a o c) = λ f i. absurd i
below_one rule p h (Rng q l k) = λ f i. absurd i
below_one rule p h (LenRng q l k) = λ f i. absurd i
below_one rule p h (Low q c) = λ f i. absurd i
below_one rule p h (Same a b) = λ f i. absurd i
below_one rule p h (IsLen q a) = λ f i. absurd i
below_one rule p h (Sum t y z) = λ f i. absurd i
below_one rule p h (Search q a) = λ f i. absurd i
below_one rule p h (Neg q a) = λ f i. absurd i

below_have : (rule : Path → ℤ → List Fact) (facts : List Fact) (p : Path) → ((r : Path) (c : ℤ) → HaveClasses (rule r c)) → HaveClasses (at_below rule facts p)
below_have rule facts p h = app_have (rule p (pos 1)) (each (below_by rule p) facts) (h p (pos 1)) (each_have (below_by rule p) facts (below_one rule p h))

above_one : (rule : Path → ℤ → List Fact) (p : Path) → ((r : Path) (c : ℤ) → HaveClasses (rule r c)) → (g : Fact) → HaveClasses (above_by rule p g)
above_one rule p h (Less x s c) = if_have (is_path x p) (rule s c) (h s c)
above_one rule p h (Upper q a o c) = λ f i. absurd i
above_one rule p h (Rng q l k) = λ f i. absurd i
above_one rule p h (LenRng q l k) = λ f i. absurd i
above_one rule p h (Low q c) = λ f i. absurd i
above_one rule p h (Same a b) = λ f i. absurd i
above_one rule p h (IsLen q a) = λ f i. absurd i
above_one rule p h (Sum t y z) = λ f i. absurd i
above_one rule p h (Search q a) = λ f i. absurd i
above_one rule p h (Neg q a) = λ f i. absurd i

above_have : (rule : Path → ℤ → List Fact) (facts : List Fact) (p : Path) → ((r : Path) (c : ℤ) → HaveClasses (rule r c)) → HaveClasses (at_above rule facts p)
above_have rule facts p h = app_have (rule p (pos 1)) (each (above_by rule p) facts) (h p (pos 1)) (each_have (above_by rule p) facts (above_one rule p h))

moved_have : (r : Path) (n : ℤ) (q : Path) (g : Fact) → HaveClasses (bound_moved r n q g)
moved_have r n q (Upper x a o e) = if_have (is_path x q) _ (one_has _ tt)
moved_have r n q (IsLen x a) = if_have (is_path x q) _ (one_has _ tt)
moved_have r n q (Less x s c) = λ f i. absurd i
moved_have r n q (Rng p l k) = λ f i. absurd i
moved_have r n q (LenRng p l k) = λ f i. absurd i
moved_have r n q (Low p c) = λ f i. absurd i
moved_have r n q (Same a b) = λ f i. absurd i
moved_have r n q (Sum t y z) = λ f i. absurd i
moved_have r n q (Search p a) = λ f i. absurd i
moved_have r n q (Neg p a) = λ f i. absurd i

module _ (facts : List Fact) (p q : Path) (k : ℤ) where
  length_one : (known : List Fact) (g : Fact) → HaveClasses (test.length_range facts p q k known g)
  length_one known (IsLen x a) = if_have (is_path x p || is_path x q) _ (one_has _ tt)
  length_one known (Upper x a o e) = λ f i. absurd i
  length_one known (Less x s c) = λ f i. absurd i
  length_one known (Rng x l h) = λ f i. absurd i
  length_one known (LenRng x l h) = λ f i. absurd i
  length_one known (Low x c) = λ f i. absurd i
  length_one known (Same a b) = λ f i. absurd i
  length_one known (Sum t y z) = λ f i. absurd i
  length_one known (Search x a) = λ f i. absurd i
  length_one known (Neg x a) = λ f i. absurd i

  part_one : (a : Path) (e : ℤ) (g : Fact) → HaveClasses (test.part_of facts p q k a e g)
  part_one a e (Sum s y z) = if_have (is_path s p) _ (one_has _ tt)
  part_one a e (Upper x b o c) = λ f i. absurd i
  part_one a e (Less x s c) = λ f i. absurd i
  part_one a e (Rng x l h) = λ f i. absurd i
  part_one a e (LenRng x l h) = λ f i. absurd i
  part_one a e (Low x c) = λ f i. absurd i
  part_one a e (Same b c) = λ f i. absurd i
  part_one a e (IsLen x b) = λ f i. absurd i
  part_one a e (Search x b) = λ f i. absurd i
  part_one a e (Neg x b) = λ f i. absurd i

  parts_one : (g : Fact) → HaveClasses (test.parts_by facts p q k g)
  parts_one (Upper x a Nothing e) = if_have (is_path x p) _ (each_have (test.part_of facts p q k a e) facts (part_one a e))
  parts_one (Upper x a (Plus o) e) = λ f i. absurd i
  parts_one (Upper x a (Minus o) e) = λ f i. absurd i
  parts_one (Less x s c) = λ f i. absurd i
  parts_one (Rng x l h) = λ f i. absurd i
  parts_one (LenRng x l h) = λ f i. absurd i
  parts_one (Low x c) = λ f i. absurd i
  parts_one (Same b c) = λ f i. absurd i
  parts_one (IsLen x b) = λ f i. absurd i
  parts_one (Sum t y z) = λ f i. absurd i
  parts_one (Search x b) = λ f i. absurd i
  parts_one (Neg x b) = λ f i. absurd i

  all_below : HaveClasses (test.below_facts facts p q k)
  all_below =
      app_have (test.range_part facts p q k) _
      (app_have (at_below (test.high_end facts p q k) facts p) (at_above (test.low_end facts p q k) facts q) (below_have (test.high_end facts p q k) facts p (λ r c. one_has _ tt)) (above_have (test.low_end facts p q k) facts q (λ r c. one_has _ tt)))
      (app_have (test.difference_part facts p q k) _
      (below_have (λ r c. at_above (test.difference_between facts p q k r c) facts q) facts p (λ r c. above_have (test.difference_between facts p q k r c) facts q (λ s d. if_have (not (is_path r s)) _ (one_has _ tt))))
      (app_have (test.bound_part facts p q k) _
      (below_have (λ r c. each (bound_moved r (c +ℤ k -ℤ pos 2) q) facts) facts p (λ r c. each_have (bound_moved r (c +ℤ k -ℤ pos 2) q) facts (moved_have r (c +ℤ k -ℤ pos 2) q)))
      (app_have (test.length_part facts p q k) (test.sum_part facts p q k) (each_have (test.length_range facts p q k (test.range_part facts p q k ++ facts)) facts (length_one (test.range_part facts p q k ++ facts)))
      (each_have (test.parts_by facts p q k) (test.bound_part facts p q k) parts_one))))

shared_one : (y z : Path) (g : Fact) → HaveClasses (shared_by y z g)
shared_one y z (IsLen p a) = app_have (if_so (is_path p y) (IsLen z a ∷ [])) (if_so (is_path p z) (IsLen y a ∷ [])) (if_have (is_path p y) _ (one_has _ tt)) (if_have (is_path p z) _ (one_has _ tt))
shared_one y z (Search p a) = app_have (if_so (is_path p y) (Search z a ∷ [])) (if_so (is_path p z) (Search y a ∷ [])) (if_have (is_path p y) _ (one_has _ tt)) (if_have (is_path p z) _ (one_has _ tt))
shared_one y z (Neg p a) = app_have (if_so (is_path p y) (Neg z a ∷ [])) (if_so (is_path p z) (Neg y a ∷ [])) (if_have (is_path p y) _ (one_has _ tt)) (if_have (is_path p z) _ (one_has _ tt))
shared_one y z (Upper x b o c) = λ f i. absurd i
shared_one y z (Less x s c) = λ f i. absurd i
shared_one y z (Rng x l h) = λ f i. absurd i
shared_one y z (LenRng x l h) = λ f i. absurd i
shared_one y z (Low x c) = λ f i. absurd i
shared_one y z (Same b c) = λ f i. absurd i
shared_one y z (Sum t u v) = λ f i. absurd i

outcome_have : (facts : List Fact) (outcome : Outcome) → HaveClasses (outcome_facts facts outcome)
outcome_have facts (Below p q k) = all_below facts p q k
outcome_have facts (Apart p q) = if_have (int_le (Bounds.less_bound facts p q) (pos 1)) _ (all_below facts p q (pos 0))
outcome_have facts (Equal y z) = each_have (shared_by y z) facts (shared_one y z)
outcome_have facts (OneArray a b) = one_has (Same a b) tt

pub told_classes : (facts : List Fact) (outcome : Outcome) → HaveClasses facts → HaveClasses (with_outcome outcome facts)
told_classes facts outcome have = app_have facts (kept (outcome_facts (in_orders facts) outcome)) have (kept_have (outcome_facts (in_orders facts) outcome) (outcome_have (in_orders facts) outcome))

pub assumed_classes : (claim : PathClaim) (p : Path) → HaveClasses (kept (claim_facts claim p))
assumed_classes claim p = kept_have (claim_facts claim p) (claim_classes claim p)
