-- What follows from facts, and closed lists of facts. The closing rules are this project's own.
use Rattle.std.specs.Prelude.{◌≡◌, false, ℤ, pos, negsuc, ◌≤ℤ◌, ◌<ℤ◌, int_lt, cond, List, [], ◌∷◌, ◌++◌, ◌⊎◌}
use Rattle.std.specs.Int.{int_min, int_max}
use Rattle.ix_num.specs.Ints.{least_int, greatest_int}
use Rattle.ix_core.specs.declared.fact.Path.{Path}
use Rattle.ix_core.specs.declared.fact.PathOff.TheVariants.{Plus}
use Rattle.ix_core.specs.declared.fact.Fact.{Fact}
use Rattle.ix_core.specs.declared.fact.Fact.TheVariants.{Rng, LenRng, Low, Same, IsLen, Less, Sum, Search, Neg, Upper}
use Rattle.ix_facts.specs.Facts.{IsIn, Covers, is_default, in_orders}

-- What follows from facts: a case for each rule of closing.
pub data Follows (facts : List Fact) : Fact → Type 0 where
  -- a fact of the list, and a weaker one at its key
  given : (f : Fact) → IsIn f facts → Follows facts f
  weaker : (g f : Fact) → Covers g f → Follows facts g → Follows facts f
  -- every int is in the int range, and every length from 0 on
  any_int : (p : Path) → Follows facts (Rng p least_int greatest_int)
  any_size : (a : Path) → Follows facts (LenRng a (pos 0) greatest_int)
  -- two ranges of one path are met
  met : (p : Path) (l h m k : ℤ) → Follows facts (Rng p l h) → Follows facts (Rng p m k) → Follows facts (Rng p (int_max l m) (int_min h k))
  len_met : (a : Path) (l h m k : ℤ) → Follows facts (LenRng a l h) → Follows facts (LenRng a m k) → Follows facts (LenRng a (int_max l m) (int_min h k))
  -- an int is in the class of its range's low end
  class : (p : Path) (l h : ℤ) → Follows facts (Rng p l h) → negsuc 0 ≤ℤ l → l ≤ℤ pos 1 → Follows facts (Low p l)
  class_one : (p : Path) (l h : ℤ) → Follows facts (Rng p l h) → pos 1 ≤ℤ l → Follows facts (Low p (pos 1))
  -- to have the same length is an equivalence
  turned : (a b : Path) → Follows facts (Same a b) → Follows facts (Same b a)
  joined : (a b c : Path) → Follows facts (Same a b) → Follows facts (Same b c) → Follows facts (Same a c)
  -- two arrays that have one int as their length have the same length
  both_len : (p a b : Path) → Follows facts (IsLen p a) → Follows facts (IsLen p b) → Follows facts (Same a b)
  -- what is known of a length is known of the same length
  len_along : (a b : Path) (l h : ℤ) → Follows facts (Same a b) → Follows facts (LenRng a l h) → Follows facts (LenRng b l h)
  is_len_along : (p a b : Path) → Follows facts (Same a b) → Follows facts (IsLen p a) → Follows facts (IsLen p b)
  search_along : (p a b : Path) → Follows facts (Same a b) → Follows facts (Search p a) → Follows facts (Search p b)
  neg_along : (p a b : Path) → Follows facts (Same a b) → Follows facts (Neg p a) → Follows facts (Neg p b)
  -- a negative answer of a search is an answer of a search; an answer of a search that is at most -1 is a negative one
  neg_search : (p a : Path) → Follows facts (Neg p a) → Follows facts (Search p a)
  search_neg : (p a : Path) (l h : ℤ) → Follows facts (Search p a) → Follows facts (Rng p l h) → h ≤ℤ negsuc 0 → Follows facts (Neg p a)
  -- a sum and a bound at a sum in both orders
  sum_turned : (t y z : Path) → Follows facts (Sum t y z) → Follows facts (Sum t z y)
  upper_turned : (p a q : Path) (c : ℤ) → Follows facts (Upper p a (Plus q) c) → Follows facts (Upper q a (Plus p) c)

-- what is said of every path without a fact
abbrev pub Default : Fact → Type 0
Default (Rng p l h) = (l ≤ℤ least_int) × (greatest_int ≤ℤ h)
Default (LenRng a l h) = (l ≤ℤ pos 0) × (greatest_int ≤ℤ h)
Default _ = ⊥

-- The facts say the fact: one of them, in one of its orders, is at its key and at least as strong, or it is said of every path.
abbrev pub Said : List Fact → Fact → Type 0
Said facts f = Default f ⊎ ((g : Fact) × IsIn g (in_orders facts) × Covers g f)

-- The first facts say all that the second say: the order of facts, in which every law of a rule is stated.
abbrev pub SaysAll : List Fact → List Fact → Type 0
SaysAll strong weak = (f : Fact) → Said weak f → Said strong f

-- All that follows is said.
abbrev pub Closed : List Fact → Type 0
Closed facts = (f : Fact) → Follows facts f → Said facts f

-- An empty range follows: no state meets the facts.
abbrev pub Contradicts : List Fact → Type 0
Contradicts facts = (p : Path) × (l : ℤ) × (h : ℤ) × (Follows facts (Rng p l h) ⊎ Follows facts (LenRng p l h)) × (h <ℤ l)

-- No fact of the list is a range that is said of every path.
abbrev pub AllTell : List Fact → Type 0
AllTell facts = (f : Fact) → IsIn f facts → is_default f ≡ false

-- The closed list of some facts: it says what follows from them, and nothing else.
pub record IsClosedOf (facts closed : List Fact) : Type 0 where
  pub says : (f : Fact) → Follows facts f → Said closed f
  pub only : (f : Fact) → IsIn f closed → Follows facts f
  pub tells : AllTell closed

-- The join of two closed lists: it says what both say.
pub record IsCommon (first second common : List Fact) : Type 0 where
  pub both : (f : Fact) → Said first f → Said second f → Said common f
  pub left : (f : Fact) → IsIn f common → Said first f
  pub right : (f : Fact) → IsIn f common → Said second f
  pub tells : AllTell common

-- ---- constants

-- Constants are ints: `p < q + c` above the greatest int isn't kept and below the least int is kept at the least, and bounds from an array's end
-- the other way round.
abbrev pub kept_fact : Fact → List Fact
kept_fact (Less p q c) = cond (int_lt greatest_int c) [] (Less p q (int_max c least_int) ∷ [])
kept_fact (Upper p a o c) = cond (int_lt c least_int) [] (Upper p a o (int_min c greatest_int) ∷ [])
kept_fact fact = fact ∷ []

abbrev pub kept : List Fact → List Fact
kept [] = []
kept (fact ∷ facts) = kept_fact fact ++ kept facts
