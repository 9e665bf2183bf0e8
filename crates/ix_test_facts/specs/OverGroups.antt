-- What `p < q + k` and equal ints give, with the facts on each path as lists of their own: the facts that name a path give what all facts give.
use Rattle.std.specs.Prelude.{Bool, false, not, cond, ℤ, pos, int_le, ◌+ℤ◌, ◌-ℤ◌, List, [], ◌∷◌, ◌++◌, filter}
use Rattle.std.specs.Ordering.{is_gt}
use Rattle.ix_num.specs.Ints.{least_int, greatest_int}
use Rattle.ix_core.specs.declared.fact.Path.{Path}
use Rattle.ix_core.specs.declared.fact.PathOff.TheVariants.{Nothing, Plus}
use Rattle.ix_core.specs.declared.fact.Fact.{Fact}
use Rattle.ix_core.specs.declared.fact.Fact.TheVariants.{Rng, LenRng, Same, IsLen, Less, Sum, Search, Neg, Upper}
use Rattle.ix_facts.specs.Bounds
use Rattle.ix_facts.specs.Bounds.{is_path, at_least, at_most, greatest, least, own_low_by, range_high_by}
use Rattle.ix_facts.specs.Closure.{kept}
use Rattle.ix_facts.specs.Exact.{if_so, each}
use Rattle.ix_facts.specs.PathOrder.{path_cmp}
use Rattle.ix_facts.specs.AfterTest.{Outcome, Below, Apart, Equal, OneArray, at_below, below_by, at_above, above_by, bound_moved}
use Rattle.ix_test_facts.specs.declared.outcome.Outcome.{Outcome as Told}
use Rattle.ix_test_facts.specs.declared.outcome.Outcome.TheVariants as told

-- ---- the parts, each by the numbers that it reads

abbrev pub range_to : ℤ → ℤ → Path → ℤ → List Fact
range_to limit k r c = Rng r least_int (limit +ℤ k +ℤ c -ℤ pos 2) ∷ []

abbrev pub range_from : ℤ → ℤ → Path → ℤ → List Fact
range_from bound k s d = Rng s (bound -ℤ k -ℤ d +ℤ pos 2) greatest_int ∷ []

abbrev pub between : ℤ → Path → ℤ → Path → ℤ → List Fact
between k r c s d = if_so (not (is_path r s)) (Less r s (c +ℤ k +ℤ d -ℤ pos 2) ∷ [])

abbrev pub length_at : Path → ℤ → ℤ → Fact → List Fact
length_at x low high (IsLen y a) = if_so (is_path y x) (LenRng a low high ∷ [])
length_at x low high _ = []

-- the lengths that are x, by new ranges and the facts on x
abbrev pub length_by : List Fact → List Fact → Path → List Fact
length_by on_x ranges x = each (length_at x (at_least (Bounds.own_low ranges x) (greatest (own_low_by x) on_x)) (at_most (Bounds.range_high ranges x) (least (range_high_by x) on_x))) on_x

abbrev pub part_of : Path → Path → ℤ → Fact → List Fact
part_of p a e (Sum s y z) = if_so (is_path s p) (Upper y a (Plus z) e ∷ [])
part_of p a e _ = []

abbrev pub parts_by : Path → List Fact → Fact → List Fact
parts_by p on_p (Upper x a Nothing e) = if_so (is_path x p) (each (part_of p a e) on_p)
parts_by p on_p _ = []

abbrev pub passed_by : Path → Path → Fact → List Fact
passed_by y z (IsLen p a) = if_so (is_path p y) (IsLen z a ∷ [])
passed_by y z (Search p a) = if_so (is_path p y) (Search z a ∷ [])
passed_by y z (Neg p a) = if_so (is_path p y) (Neg z a ∷ [])
passed_by y z _ = []

-- ---- the facts that are read

-- What is read of the facts on p: the differences below p, its ranges, whether it is a length or a sum.
abbrev pub is_read_below : Path → Fact → Bool
is_read_below p (Less r x c) = is_path x p
is_read_below p (Rng x l h) = is_path x p
is_read_below p (IsLen x a) = is_path x p
is_read_below p (Sum x y z) = is_path x p
is_read_below p _ = false

-- And of those on q: the differences above q, its ranges and bounds, whether it is a length.
abbrev pub is_read_above : Path → Fact → Bool
is_read_above q (Less x s d) = is_path x q
is_read_above q (Rng x l h) = is_path x q
is_read_above q (IsLen x a) = is_path x q
is_read_above q (Upper x a o e) = is_path x q
is_read_above q _ = false

-- ---- all of them

module _ (facts on_p on_q : List Fact) (p q : Path) (k : ℤ) where
  abbrev pub range_part : List Fact
  range_part = at_below (range_to (Bounds.upper_limit facts q) k) on_p p ++ at_above (range_from (Bounds.lower_bound facts p) k) on_q q

module _ (on_p on_q : List Fact) (p q : Path) (k : ℤ) where
  abbrev pub difference_part : List Fact
  difference_part = at_below (λ r c. at_above (between k r c) on_q q) on_p p

  abbrev pub bound_part : List Fact
  bound_part = at_below (λ r c. each (bound_moved r (c +ℤ k -ℤ pos 2) q) on_q) on_p p

-- ---- ranges and differences in the order of paths, as a table keeps them

-- a fact among others: before the first that passes a test, and behind all where none does
abbrev pub put_before : (Fact → Bool) → Fact → List Fact → List Fact
put_before test own [] = own ∷ []
put_before test own (fact ∷ facts) = cond (test fact) (own ∷ fact ∷ facts) (fact ∷ put_before test own facts)

-- a difference of a path behind p
abbrev pub is_of_greater : Path → Fact → Bool
is_of_greater p (Less r x c) = is_gt (path_cmp r p)
is_of_greater p _ = false

-- a difference to a path behind q
abbrev pub is_to_greater : Path → Fact → Bool
is_to_greater q (Less x s d) = is_gt (path_cmp s q)
is_to_greater q _ = false

-- p is below p + 1: among the differences below it
abbrev pub with_own_below : Path → List Fact → List Fact
with_own_below p on_p = put_before (is_of_greater p) (Less p p (pos 1)) on_p

-- q is below q + 1: among the differences above it
abbrev pub with_own_above : Path → List Fact → List Fact
with_own_above q on_q = put_before (is_to_greater q) (Less q q (pos 1)) on_q

module _ (below above : List Fact) (p q : Path) (k : ℤ) where
  -- of each path below p in turn, p being one, what it is at most, and of each path above q, q being one, what it is at least
  abbrev pub ranges_in_turn : List Fact → List Fact
  ranges_in_turn facts = each (below_by (range_to (Bounds.upper_limit facts q) k) p) below ++ each (above_by (range_from (Bounds.lower_bound facts p) k) q) above

  -- of each path below p in turn, p being one, what is below each path above q, q being one
  abbrev pub differences_in_turn : List Fact
  differences_in_turn = each (below_by (λ r c. each (above_by (between k r c) q) above) p) below

-- ---- by the facts on p and on q

abbrev pub read_facts : List Fact → List Fact → List Fact → Path → Path → ℤ → List Fact
read_facts facts on_p on_q p q k =
    kept (range_part facts on_p on_q p q k) ++ (kept (difference_part on_p on_q p q k) ++ (kept (bound_part on_p on_q p q k) ++ (kept (length_by on_p (kept (range_part facts on_p on_q p q k)) p) ++ (kept (length_by on_q (kept (range_part facts on_p on_q p q k)) q) ++ kept (each (parts_by p on_p) (kept (bound_part on_p on_q p q k)))))))

-- the same with ranges and differences in the order of paths
module _ (facts on_p on_q : List Fact) (p q : Path) (k : ℤ) where
  abbrev pub ordered_ranges : List Fact
  ordered_ranges = kept (ranges_in_turn (with_own_below p on_p) (with_own_above q on_q) p q k facts)

  abbrev pub ordered_facts : List Fact
  ordered_facts =
      ordered_ranges ++ (kept (differences_in_turn (with_own_below p on_p) (with_own_above q on_q) p q k) ++ (kept (bound_part on_p on_q p q k) ++ (kept (length_by on_p ordered_ranges p) ++ (kept (length_by on_q ordered_ranges q) ++ kept (each (parts_by p on_p) (kept (bound_part on_p on_q p q k)))))))

abbrev pub below_facts : List Fact → (Path → List Fact) → Path → Path → ℤ → List Fact
below_facts facts on p q k = ordered_facts facts (filter (is_read_below p) (on p)) (filter (is_read_above q) (on q)) p q k

abbrev pub outcome_facts : List Fact → (Path → List Fact) → Outcome → List Fact
outcome_facts facts on (Below p q k) = below_facts facts on p q k
outcome_facts facts on (Apart p q) = if_so (int_le (Bounds.less_bound facts p q) (pos 1)) (below_facts facts on p q (pos 0))
outcome_facts facts on (Equal y z) = kept (each (passed_by y z) (on y)) ++ kept (each (passed_by z y) (on z))
outcome_facts facts on (OneArray a b) = Same a b ∷ []

-- ---- the code's outcomes

-- what is told
abbrev pub outcome_of : Told → Outcome
outcome_of (told.Below p q k) = Below p q k
outcome_of (told.Apart p q) = Apart p q
outcome_of (told.Equal y z) = Equal y z
outcome_of (told.OneArray a b) = OneArray a b

abbrev pub outcomes_of : List Told → List Outcome
outcomes_of [] = []
outcomes_of (outcome ∷ outcomes) = outcome_of outcome ∷ outcomes_of outcomes
