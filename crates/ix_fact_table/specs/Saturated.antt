-- All that follows from facts, as a list: the facts, what holds along arrays of one length, searches and negative answers, and classes of ints.
use Rattle.std.specs.Prelude.{pos, negsuc, int_le, List, [], ◌∷◌, ◌++◌}
use Rattle.std.specs.Int.{int_min}
use Rattle.ix_core.specs.declared.fact.Path.{Path}
use Rattle.ix_core.specs.declared.fact.Fact.{Fact}
use Rattle.ix_core.specs.declared.fact.Fact.TheVariants.{Rng, LenRng, Low, Same, IsLen, Search, Neg}
use Rattle.ix_facts.specs.Bounds.{is_path, range_high}
use Rattle.ix_facts.specs.Facts.{IsIn}
use Rattle.ix_facts.specs.Closure.{Follows}
use Rattle.ix_facts.specs.Exact.{if_so, each, each_path}
use Rattle.ix_facts.specs.Named.{IsAmongPaths}
use Rattle.ix_facts.specs.Systems.{Merges}
use Rattle.ix_fact_table.specs.Classes.{Roots, root_of}

-- The list has what follows from the facts, but for what tables say by themselves: weaker facts, ranges met, and other orders.
pub record IsSaturated (facts more : List Fact) : Type 0 where
  pub says : (f : Fact) → Follows facts f → Merges more f
  pub only : (f : Fact) → IsIn f more → Follows facts f

-- The arrays are all of which the facts say that they have the length of another, or that an int is their length, and no others.
pub record AreListed (facts : List Fact) (listed : List Path) : Type 0 where
  pub left : (a b : Path) → IsIn (Same a b) facts → IsAmongPaths a listed
  pub right : (a b : Path) → IsIn (Same a b) facts → IsAmongPaths b listed
  pub length : (p a : Path) → IsIn (IsLen p a) facts → IsAmongPaths a listed
  pub only : (a : Path) → IsAmongPaths a listed → Follows facts (Same a a)

module _ (roots : Roots) (listed : List Path) where
  -- a fact of each listed array of the class of a
  abbrev pub of_class : (Path → Fact) → Path → List Fact
  of_class make a = each_path (λ b. if_so (is_path (root_of roots b) (root_of roots a)) (make b ∷ [])) listed

  -- any two of one class have the same length
  abbrev pub pairs : List Fact
  pairs = each_path (λ a. of_class (Same a) a) listed

  -- what is known of a length, of each array of that length
  abbrev pub along : Fact → List Fact
  along (LenRng a l h) = of_class (λ b. LenRng b l h) a
  along (IsLen p a) = of_class (IsLen p) a
  along (Search p a) = of_class (Search p) a
  along (Neg p a) = of_class (Neg p) a
  along _ = []

-- a negative answer of a search is an answer of a search
abbrev pub search_of : Fact → List Fact
search_of (Neg p a) = Search p a ∷ []
search_of _ = []

-- an answer of a search that is at most -1 is a negative one
abbrev pub negative_of : List Fact → Fact → List Fact
negative_of ranges (Search p a) = if_so (int_le (range_high ranges p) (negsuc 0)) (Neg p a ∷ [])
negative_of ranges _ = []

-- the class of an int by the low end of its range
abbrev pub class_of : Fact → List Fact
class_of (Rng p l h) = if_so (int_le (negsuc 0) l) (Low p (int_min l (pos 1)) ∷ [])
class_of _ = []

module _ (facts : List Fact) (roots : Roots) (listed : List Path) where
  abbrev pub alike : List Fact
  alike = facts ++ (pairs roots listed ++ each (along roots listed) facts)

  abbrev pub searched : List Fact
  searched = alike ++ each search_of alike

abbrev pub saturated : List Fact → Roots → List Path → List Fact → List Fact
saturated facts roots listed ranges = searched facts roots listed ++ (each (negative_of ranges) (searched facts roots listed) ++ each class_of ranges)
