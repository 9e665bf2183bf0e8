-- What the outcome of a test gives. Checker Framework manual, Index Checker, "Upper bounds" and "Lower bounds": a comparison refines both sides;
-- the rules along stored differences are this project's own.
use Rattle.std.specs.Prelude.{◌≡◌, ◌≢◌, Bool, true, false, not, ◌||◌, ℤ, pos, negsuc, ◌+ℤ◌, ◌-ℤ◌, ◌<ℤ◌, int_le, List, [], ◌∷◌, ◌++◌}
use Rattle.ix_num.specs.declared.rel.Rel.{Rel}
use Rattle.ix_num.specs.declared.rel.Rel.TheVariants.{Lt, Le, Gt, Ge, Eq, Ne}
use Rattle.ix_num.specs.Ints.{least_int, greatest_int}
use Rattle.ix_core.specs.declared.claim.Type_.{Type_}
use Rattle.ix_core.specs.declared.fact.Path.{Path}
use Rattle.ix_core.specs.declared.fact.PathOff.TheVariants.{Nothing, Plus}
use Rattle.ix_core.specs.declared.fact.Fact.{Fact}
use Rattle.ix_core.specs.declared.fact.Fact.TheVariants.{Rng, LenRng, Same, IsLen, Less, Sum, Search, Neg, Upper}
use Rattle.ix_core.specs.Numbers.{Numbers}
use Rattle.ix_facts.specs.Bounds
use Rattle.ix_facts.specs.Bounds.{is_path}
use Rattle.ix_facts.specs.Exact.{if_so, each}
use Rattle.ix_facts.specs.AfterOperation.{is_int, is_array}

-- ---- the paths below and above one

abbrev pub below_by : (Path → ℤ → List Fact) → Path → Fact → List Fact
below_by rule p (Less r x c) = if_so (is_path x p) (rule r c)
below_by rule p _ = []

-- a rule for p itself, which is below p + 1, and for each r that is stored to be below p + c
abbrev pub at_below : (Path → ℤ → List Fact) → List Fact → Path → List Fact
at_below rule facts p = rule p (pos 1) ++ each (below_by rule p) facts

abbrev pub above_by : (Path → ℤ → List Fact) → Path → Fact → List Fact
above_by rule q (Less x s d) = if_so (is_path x q) (rule s d)
above_by rule q _ = []

abbrev pub at_above : (Path → ℤ → List Fact) → List Fact → Path → List Fact
at_above rule facts q = rule q (pos 1) ++ each (above_by rule q) facts

-- a bound of q is one of r, where r is at most q + n
abbrev pub bound_moved : Path → ℤ → Path → Fact → List Fact
bound_moved r n q (Upper x a o e) = if_so (is_path x q) (Upper r a o (e -ℤ n) ∷ [])
bound_moved r n q (IsLen x a) = if_so (is_path x q) (Upper r a Nothing (negsuc 0 -ℤ n) ∷ [])
bound_moved r n q _ = []

-- ---- what `p < q + k` gives

module _ (facts : List Fact) (p q : Path) (k : ℤ) where
  -- Ranges: what is below p is below q's limit, and what q is below is above p's lower bound.
  abbrev pub high_end : Path → ℤ → List Fact
  high_end r c = Rng r least_int (Bounds.upper_limit facts q +ℤ k +ℤ c -ℤ pos 2) ∷ []

  abbrev pub low_end : Path → ℤ → List Fact
  low_end s d = Rng s (Bounds.lower_bound facts p -ℤ k -ℤ d +ℤ pos 2) greatest_int ∷ []

  abbrev pub range_part : List Fact
  range_part = at_below high_end facts p ++ at_above low_end facts q

  -- Differences: what is below p is below what q is below.
  abbrev pub difference_between : Path → ℤ → Path → ℤ → List Fact
  difference_between r c s d = if_so (not (is_path r s)) (Less r s (c +ℤ k +ℤ d -ℤ pos 2) ∷ [])

  abbrev pub difference_part : List Fact
  difference_part = at_below (λ r c. at_above (difference_between r c) facts q) facts p

  -- Bounds: those of q are bounds of p and of what is below p.
  abbrev pub bound_part : List Fact
  bound_part = at_below (λ r c. each (bound_moved r (c +ℤ k -ℤ pos 2) q) facts) facts p

  -- Lengths: the new range of p and of q is that of each array whose length it is.
  abbrev pub length_range : List Fact → Fact → List Fact
  length_range known (IsLen x a) = if_so (is_path x p || is_path x q) (LenRng a (Bounds.own_low known x) (Bounds.range_high known x) ∷ [])
  length_range known _ = []

  abbrev pub length_part : List Fact
  length_part = each (length_range (range_part ++ facts)) facts

  -- Parts: a new bound of a sum p is one of its parts at the other.
  abbrev pub part_of : Path → ℤ → Fact → List Fact
  part_of a e (Sum s y z) = if_so (is_path s p) (Upper y a (Plus z) e ∷ [])
  part_of a e _ = []

  abbrev pub parts_by : Fact → List Fact
  parts_by (Upper x a Nothing e) = if_so (is_path x p) (each (part_of a e) facts)
  parts_by _ = []

  abbrev pub sum_part : List Fact
  sum_part = each parts_by bound_part

  abbrev pub below_facts : List Fact
  below_facts = range_part ++ (difference_part ++ (bound_part ++ (length_part ++ sum_part)))

-- ---- the outcomes of a test

-- What an outcome tells: that `p < q + k`; that two ints differ; that they are equal; that two arrays are the same.
pub data Outcome : Type 0 where
  Below : Path → Path → ℤ → Outcome
  Apart : Path → Path → Outcome
  Equal : Path → Path → Outcome
  OneArray : Path → Path → Outcome

abbrev pub IsSo : Outcome → Numbers → Type 0
IsSo (Below p q k) v = v.int p <ℤ (v.int q +ℤ k)
IsSo (Apart p q) v = v.int p ≢ v.int q
IsSo (Equal p q) v = v.int p ≡ v.int q
IsSo (OneArray a b) v = v.size a ≡ v.size b

abbrev pub AllSo : List Outcome → Numbers → Type 0
AllSo [] v = Unit {0}
AllSo (outcome ∷ outcomes) v = IsSo outcome v × AllSo outcomes v

-- equal ints are lengths of the same arrays and answers of the same searches
abbrev pub shared_by : Path → Path → Fact → List Fact
shared_by y z (IsLen p a) = if_so (is_path p y) (IsLen z a ∷ []) ++ if_so (is_path p z) (IsLen y a ∷ [])
shared_by y z (Search p a) = if_so (is_path p y) (Search z a ∷ []) ++ if_so (is_path p z) (Search y a ∷ [])
shared_by y z (Neg p a) = if_so (is_path p y) (Neg z a ∷ []) ++ if_so (is_path p z) (Neg y a ∷ [])
shared_by y z _ = []

-- The facts of one outcome. Ints that differ, where one is at most the other, are one below the other.
abbrev pub outcome_facts : List Fact → Outcome → List Fact
outcome_facts facts (Below p q k) = below_facts facts p q k
outcome_facts facts (Apart p q) = if_so (int_le (Bounds.less_bound facts p q) (pos 1)) (below_facts facts p q (pos 0))
outcome_facts facts (Equal y z) = each (shared_by y z) facts
outcome_facts facts (OneArray a b) = Same a b ∷ []

-- ---- tests, by what is compared. Each outcome reads the facts that those before it gave, closed.

abbrev pub int_outcomes : Rel → Path → Path → List Outcome
int_outcomes Lt y z = Below y z (pos 0) ∷ []
int_outcomes Le y z = Below y z (pos 1) ∷ []
int_outcomes Gt y z = Below z y (pos 0) ∷ []
int_outcomes Ge y z = Below z y (pos 1) ∷ []
int_outcomes Eq y z = Below y z (pos 1) ∷ Below z y (pos 1) ∷ Equal y z ∷ []
int_outcomes Ne y z = Apart y z ∷ Apart z y ∷ []

abbrev pub array_outcomes : Rel → Path → Path → List Outcome
array_outcomes Eq a b = OneArray a b ∷ []
array_outcomes _ a b = []

abbrev pub opposite : Rel → Rel
opposite Lt = Ge
opposite Le = Gt
opposite Gt = Le
opposite Ge = Lt
opposite Eq = Ne
opposite Ne = Eq

abbrev pub outcomes_by : Bool → Bool → Rel → Path → Path → List Outcome
outcomes_by true array rel y z = int_outcomes rel y z
outcomes_by false true rel y z = array_outcomes rel y z
outcomes_by false false rel y z = []

-- What a comparison of two slots of a type tells where it is true, and where it is false.
abbrev pub when_true : Type_ → Rel → Path → Path → List Outcome
when_true ty rel y z = outcomes_by (is_int ty) (is_array ty) rel y z

abbrev pub when_false : Type_ → Rel → Path → Path → List Outcome
when_false ty rel y z = outcomes_by (is_int ty) (is_array ty) (opposite rel) y z
