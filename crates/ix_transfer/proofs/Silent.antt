-- Which path each rule reads: it gives nothing of a fact that does not name it.
use Rattle.std.specs.Prelude.{◌≡◌, false, ◌&&◌, ◌||◌, ℤ, pos, ◌-ℤ◌, List, [], ◌∷◌, ◌++◌, Some, refl}
use Rattle.std.proofs.Common.{ap, ◌∙◌}
use Rattle.ix_core.specs.declared.fact.Path.{Path}
use Rattle.ix_core.specs.declared.fact.PathOff.TheVariants.{Nothing, Plus, Minus}
use Rattle.ix_core.specs.declared.fact.Fact.{Fact}
use Rattle.ix_core.specs.declared.fact.Fact.TheVariants.{Rng, LenRng, Low, Same, IsLen, Less, Sum, Search, Neg, Upper}
use Rattle.ix_facts.specs.Bounds
use Rattle.ix_facts.specs.Bounds.{is_path, when}
use Rattle.ix_facts.specs.Exact.{if_so, difference_limit_by}
use Rattle.ix_facts.specs.AfterOperation as after
use Rattle.ix_facts.specs.Finish as rule
use Rattle.ix_facts.specs.OnPaths.{ReadsOnly, LooksOnly}
use Rattle.ix_facts.proofs.Tests.{off, not_first, not_second, none_if}

-- ---- operations

pub reads_sum : (facts : List Fact) (t y z : Path) → ReadsOnly y (after.sum_beside facts t y z)
reads_sum facts t y z (Sum r x q) n = none_if (is_path x y) _ (off y x (not_first (is_path y x) (is_path y q) (not_second (is_path y r) _ n)))
reads_sum facts t y z (Rng p l h) n = refl
reads_sum facts t y z (LenRng a l h) n = refl
reads_sum facts t y z (Low p c) n = refl
reads_sum facts t y z (Same a b) n = refl
reads_sum facts t y z (IsLen p a) n = refl
reads_sum facts t y z (Less p q c) n = refl
reads_sum facts t y z (Search p a) n = refl
reads_sum facts t y z (Neg p a) n = refl
reads_sum facts t y z (Upper p a o c) n = refl

pub reads_half : (facts : List Fact) (t s : Path) → ReadsOnly s (after.half_by facts t s)
reads_half facts t s (Sum x y z) n = none_if (is_path x s) _ (off s x (not_first (is_path s x) _ n))
reads_half facts t s (Rng p l h) n = refl
reads_half facts t s (LenRng a l h) n = refl
reads_half facts t s (Low p c) n = refl
reads_half facts t s (Same a b) n = refl
reads_half facts t s (IsLen p a) n = refl
reads_half facts t s (Less p q c) n = refl
reads_half facts t s (Search p a) n = refl
reads_half facts t s (Neg p a) n = refl
reads_half facts t s (Upper p a o c) n = refl

pub reads_length : (facts : List Fact) (t a : Path) → ReadsOnly a (after.length_by facts t a)
reads_length facts t a (Upper p b Nothing c) n = none_if (is_path b a) _ (off a b (not_first (is_path a b) _ (not_second (is_path a p) _ n)))
reads_length facts t a (Upper p b (Plus q) c) n = refl
reads_length facts t a (Upper p b (Minus q) c) n = refl
reads_length facts t a (IsLen q b) n = none_if (is_path b a) _ (off a b (not_second (is_path a q) _ n))
reads_length facts t a (Sum x y z) n = refl
reads_length facts t a (Rng p l h) n = refl
reads_length facts t a (LenRng b l h) n = refl
reads_length facts t a (Low p c) n = refl
reads_length facts t a (Same b c) n = refl
reads_length facts t a (Less p q c) n = refl
reads_length facts t a (Search p b) n = refl
reads_length facts t a (Neg p b) n = refl

pub reads_new_array : (facts : List Fact) (t m : Path) → ReadsOnly m (after.new_array_by facts t m)
reads_new_array facts t m (Less p q c) n = none_if (is_path q m) _ (off m q (not_second (is_path m p) _ n))
reads_new_array facts t m (Sum x y z) n = none_if (is_path x m) _ (off m x (not_first (is_path m x) _ n))
reads_new_array facts t m (Rng p l h) n = refl
reads_new_array facts t m (LenRng b l h) n = refl
reads_new_array facts t m (Low p c) n = refl
reads_new_array facts t m (Same b c) n = refl
reads_new_array facts t m (IsLen p b) n = refl
reads_new_array facts t m (Search p b) n = refl
reads_new_array facts t m (Neg p b) n = refl
reads_new_array facts t m (Upper p a o c) n = refl

pub reads_flip : (facts : List Fact) (t y : Path) → ReadsOnly y (after.flip_by facts t y)
reads_flip facts t y (Search p a) n = none_if (is_path p y) _ (off y p (not_first (is_path y p) _ n))
reads_flip facts t y (Sum x z r) n = refl
reads_flip facts t y (Rng p l h) n = refl
reads_flip facts t y (LenRng b l h) n = refl
reads_flip facts t y (Low p c) n = refl
reads_flip facts t y (Same b c) n = refl
reads_flip facts t y (IsLen p b) n = refl
reads_flip facts t y (Less p q c) n = refl
reads_flip facts t y (Neg p b) n = refl
reads_flip facts t y (Upper p a o c) n = refl

-- ---- copies

two_none : (make : Path → Path → Fact) (t s p q : Path) → is_path p s ≡ false → is_path q s ≡ false → after.two_copied make t s p q ≡ []
two_none make t s p q h k = rw h (rw k refl)

pair_none : (make : Path → Path → Fact) (t s p q : Path) → (is_path s p || is_path s q) ≡ false → after.two_copied make t s p q ≡ []
pair_none make t s p q n = two_none make t s p q (off s p (not_first (is_path s p) (is_path s q) n)) (off s q (not_second (is_path s p) (is_path s q) n))

sum_none : (t s u y z : Path) → is_path u s ≡ false → after.two_copied (Sum u) t s y z ≡ [] → after.copied_by t s (Sum u y z) ≡ []
sum_none t s u y z h k = ap (λ l. l ++ if_so (is_path u s) (Sum t y z ∷ after.two_copied (Sum t) t s y z)) k ∙ none_if (is_path u s) _ h

pub reads_copied : (t s : Path) → ReadsOnly s (after.copied_by t s)
reads_copied t s (Rng p l h) n = none_if (is_path p s) _ (off s p n)
reads_copied t s (LenRng a l h) n = none_if (is_path a s) _ (off s a n)
reads_copied t s (Low p c) n = none_if (is_path p s) _ (off s p n)
reads_copied t s (Same a b) n = pair_none Same t s a b n
reads_copied t s (IsLen p a) n = pair_none IsLen t s p a n
reads_copied t s (Search p a) n = pair_none Search t s p a n
reads_copied t s (Neg p a) n = pair_none Neg t s p a n
reads_copied t s (Sum u y z) n =
    sum_none t s u y z (off s u (not_first (is_path s u) _ n)) (pair_none (Sum u) t s y z (not_second (is_path s u) _ n))
reads_copied t s (Less p q c) n = refl
reads_copied t s (Upper p a o c) n = refl

pub reads_array_copied : (t s : Path) → ReadsOnly s (after.array_copied_by t s)
reads_array_copied t s (Upper p a o c) n = none_if (is_path a s) _ (off s a (not_first (is_path s a) _ (not_second (is_path s p) _ n)))
reads_array_copied t s (Rng p l h) n = refl
reads_array_copied t s (LenRng b l h) n = refl
reads_array_copied t s (Low p c) n = refl
reads_array_copied t s (Same b c) n = refl
reads_array_copied t s (IsLen p b) n = refl
reads_array_copied t s (Less p q c) n = refl
reads_array_copied t s (Sum x y z) n = refl
reads_array_copied t s (Search p b) n = refl
reads_array_copied t s (Neg p b) n = refl

-- ---- the limit of a difference

pub looks_limit : (facts : List Fact) (y z : Path) → LooksOnly y (difference_limit_by facts y z)
looks_limit facts y z (Upper p a (Minus q) c) n = ap (λ b. when (b && is_path q z) (Some (Bounds.length_high facts a -ℤ pos 1 -ℤ c))) (off y p (not_first (is_path y p) _ n))
looks_limit facts y z (Upper p a Nothing c) n = refl
looks_limit facts y z (Upper p a (Plus q) c) n = refl
looks_limit facts y z (Rng p l h) n = refl
looks_limit facts y z (LenRng b l h) n = refl
looks_limit facts y z (Low p c) n = refl
looks_limit facts y z (Same b c) n = refl
looks_limit facts y z (IsLen p b) n = refl
looks_limit facts y z (Less p q c) n = refl
looks_limit facts y z (Sum x p q) n = refl
looks_limit facts y z (Search p b) n = refl
looks_limit facts y z (Neg p b) n = refl

-- ---- along differences and bounds

pub reads_step_above : (t q : Path) (c : ℤ) → ReadsOnly q (rule.step_above t q c)
reads_step_above t q c (Less x r d) n = none_if (is_path x q) _ (off q x (not_first (is_path q x) _ n))
reads_step_above t q c (Rng p l h) n = refl
reads_step_above t q c (LenRng b l h) n = refl
reads_step_above t q c (Low p e) n = refl
reads_step_above t q c (Same b e) n = refl
reads_step_above t q c (IsLen p b) n = refl
reads_step_above t q c (Sum x p r) n = refl
reads_step_above t q c (Search p b) n = refl
reads_step_above t q c (Neg p b) n = refl
reads_step_above t q c (Upper p a o e) n = refl

pub reads_step_below : (t q : Path) (c : ℤ) → ReadsOnly q (rule.step_below t q c)
reads_step_below t q c (Less r x d) n = none_if (is_path x q) _ (off q x (not_second (is_path q r) _ n))
reads_step_below t q c (Rng p l h) n = refl
reads_step_below t q c (LenRng b l h) n = refl
reads_step_below t q c (Low p e) n = refl
reads_step_below t q c (Same b e) n = refl
reads_step_below t q c (IsLen p b) n = refl
reads_step_below t q c (Sum x p r) n = refl
reads_step_below t q c (Search p b) n = refl
reads_step_below t q c (Neg p b) n = refl
reads_step_below t q c (Upper p a o e) n = refl

pub reads_bound_above : (t q : Path) (c : ℤ) → ReadsOnly q (rule.bound_above t q c)
reads_bound_above t q c (Upper x a o d) n = none_if (is_path x q) _ (off q x (not_first (is_path q x) _ n))
reads_bound_above t q c (IsLen x a) n = none_if (is_path x q) _ (off q x (not_first (is_path q x) _ n))
reads_bound_above t q c (Rng p l h) n = refl
reads_bound_above t q c (LenRng b l h) n = refl
reads_bound_above t q c (Low p e) n = refl
reads_bound_above t q c (Same b e) n = refl
reads_bound_above t q c (Less p r e) n = refl
reads_bound_above t q c (Sum x p r) n = refl
reads_bound_above t q c (Search p b) n = refl
reads_bound_above t q c (Neg p b) n = refl

pub reads_bound_below : (t q : Path) (c : ℤ) → ReadsOnly q (rule.bound_below t q c)
reads_bound_below t q c (Upper r a (Minus x) d) n = none_if (is_path x q) _ (off q x (not_second (is_path q a) _ (not_second (is_path q r) _ n)))
reads_bound_below t q c (Upper r a Nothing d) n = refl
reads_bound_below t q c (Upper r a (Plus x) d) n = refl
reads_bound_below t q c (IsLen x a) n = refl
reads_bound_below t q c (Rng p l h) n = refl
reads_bound_below t q c (LenRng b l h) n = refl
reads_bound_below t q c (Low p e) n = refl
reads_bound_below t q c (Same b e) n = refl
reads_bound_below t q c (Less p r e) n = refl
reads_bound_below t q c (Sum x p r) n = refl
reads_bound_below t q c (Search p b) n = refl
reads_bound_below t q c (Neg p b) n = refl
