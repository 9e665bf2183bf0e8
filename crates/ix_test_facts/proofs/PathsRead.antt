-- Which path each part reads: it gives nothing of a fact that does not name it.
use Rattle.std.specs.Prelude.{ℤ, List, refl}
use Rattle.ix_core.specs.declared.fact.Path.{Path}
use Rattle.ix_core.specs.declared.fact.Fact.{Fact}
use Rattle.ix_core.specs.declared.fact.Fact.TheVariants.{Rng, LenRng, Low, Same, IsLen, Less, Sum, Search, Neg, Upper}
use Rattle.ix_facts.specs.Bounds.{is_path, own_low_by, range_high_by}
use Rattle.ix_facts.specs.AfterTest.{below_by, above_by, bound_moved}
use Rattle.ix_facts.specs.OnPaths.{ReadsOnly, LooksOnly}
use Rattle.ix_facts.proofs.Tests.{off, not_first, not_second, none_if, no_number}
use Rattle.ix_test_facts.specs.OverGroups as over

pub reads_below : (rule : Path → ℤ → List Fact) (p : Path) → ReadsOnly p (below_by rule p)
reads_below rule p (Less r x c) n = none_if (is_path x p) _ (off p x (not_second (is_path p r) _ n))
reads_below rule p (Rng p1 l1 h1) n = refl
reads_below rule p (LenRng a1 l1 h1) n = refl
reads_below rule p (Low p1 c1) n = refl
reads_below rule p (Same a1 b1) n = refl
reads_below rule p (IsLen p1 a1) n = refl
reads_below rule p (Sum t1 y1 z1) n = refl
reads_below rule p (Search p1 a1) n = refl
reads_below rule p (Neg p1 a1) n = refl
reads_below rule p (Upper p1 a1 o1 c1) n = refl

pub reads_above : (rule : Path → ℤ → List Fact) (q : Path) → ReadsOnly q (above_by rule q)
reads_above rule q (Less x s d) n = none_if (is_path x q) _ (off q x (not_first (is_path q x) _ n))
reads_above rule q (Rng p1 l1 h1) n = refl
reads_above rule q (LenRng a1 l1 h1) n = refl
reads_above rule q (Low p1 c1) n = refl
reads_above rule q (Same a1 b1) n = refl
reads_above rule q (IsLen p1 a1) n = refl
reads_above rule q (Sum t1 y1 z1) n = refl
reads_above rule q (Search p1 a1) n = refl
reads_above rule q (Neg p1 a1) n = refl
reads_above rule q (Upper p1 a1 o1 c1) n = refl

pub reads_moved : (r : Path) (k : ℤ) (q : Path) → ReadsOnly q (bound_moved r k q)
reads_moved r k q (Upper x a o e) n = none_if (is_path x q) _ (off q x (not_first (is_path q x) _ n))
reads_moved r k q (IsLen x a) n = none_if (is_path x q) _ (off q x (not_first (is_path q x) _ n))
reads_moved r k q (Rng p1 l1 h1) n = refl
reads_moved r k q (LenRng a1 l1 h1) n = refl
reads_moved r k q (Low p1 c1) n = refl
reads_moved r k q (Same a1 b1) n = refl
reads_moved r k q (Less p1 q1 c1) n = refl
reads_moved r k q (Sum t1 y1 z1) n = refl
reads_moved r k q (Search p1 a1) n = refl
reads_moved r k q (Neg p1 a1) n = refl

pub reads_length : (x : Path) (low high : ℤ) → ReadsOnly x (over.length_at x low high)
reads_length x low high (IsLen y a) n = none_if (is_path y x) _ (off x y (not_first (is_path x y) _ n))
reads_length x low high (Rng p1 l1 h1) n = refl
reads_length x low high (LenRng a1 l1 h1) n = refl
reads_length x low high (Low p1 c1) n = refl
reads_length x low high (Same a1 b1) n = refl
reads_length x low high (Less p1 q1 c1) n = refl
reads_length x low high (Sum t1 y1 z1) n = refl
reads_length x low high (Search p1 a1) n = refl
reads_length x low high (Neg p1 a1) n = refl
reads_length x low high (Upper p1 a1 o1 c1) n = refl

pub reads_part : (p a : Path) (e : ℤ) → ReadsOnly p (over.part_of p a e)
reads_part p a e (Sum s y z) n = none_if (is_path s p) _ (off p s (not_first (is_path p s) _ n))
reads_part p a e (Rng p1 l1 h1) n = refl
reads_part p a e (LenRng a1 l1 h1) n = refl
reads_part p a e (Low p1 c1) n = refl
reads_part p a e (Same a1 b1) n = refl
reads_part p a e (IsLen p1 a1) n = refl
reads_part p a e (Less p1 q1 c1) n = refl
reads_part p a e (Search p1 a1) n = refl
reads_part p a e (Neg p1 a1) n = refl
reads_part p a e (Upper p1 a1 o1 c1) n = refl

pub reads_passed : (y z : Path) → ReadsOnly y (over.passed_by y z)
reads_passed y z (IsLen p a) n = none_if (is_path p y) _ (off y p (not_first (is_path y p) _ n))
reads_passed y z (Search p a) n = none_if (is_path p y) _ (off y p (not_first (is_path y p) _ n))
reads_passed y z (Neg p a) n = none_if (is_path p y) _ (off y p (not_first (is_path y p) _ n))
reads_passed y z (Rng p1 l1 h1) n = refl
reads_passed y z (LenRng a1 l1 h1) n = refl
reads_passed y z (Low p1 c1) n = refl
reads_passed y z (Same a1 b1) n = refl
reads_passed y z (Less p1 q1 c1) n = refl
reads_passed y z (Sum t1 y1 z1) n = refl
reads_passed y z (Upper p1 a1 o1 c1) n = refl

pub looks_low : (x : Path) → LooksOnly x (own_low_by x)
looks_low x (Rng p l h) n = no_number (is_path p x) _ (off x p n)
looks_low x (LenRng a1 l1 h1) n = refl
looks_low x (Low p1 c1) n = refl
looks_low x (Same a1 b1) n = refl
looks_low x (IsLen p1 a1) n = refl
looks_low x (Less p1 q1 c1) n = refl
looks_low x (Sum t1 y1 z1) n = refl
looks_low x (Search p1 a1) n = refl
looks_low x (Neg p1 a1) n = refl
looks_low x (Upper p1 a1 o1 c1) n = refl

pub looks_high : (x : Path) → LooksOnly x (range_high_by x)
looks_high x (Rng p l h) n = no_number (is_path p x) _ (off x p n)
looks_high x (LenRng a1 l1 h1) n = refl
looks_high x (Low p1 c1) n = refl
looks_high x (Same a1 b1) n = refl
looks_high x (IsLen p1 a1) n = refl
looks_high x (Less p1 q1 c1) n = refl
looks_high x (Sum t1 y1 z1) n = refl
looks_high x (Search p1 a1) n = refl
looks_high x (Neg p1 a1) n = refl
looks_high x (Upper p1 a1 o1 c1) n = refl
