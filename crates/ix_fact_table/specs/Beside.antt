-- What follows beside closed facts from new facts of which nothing follows along arrays of one length: the classes of new ranges, and negative answers.
use Rattle.std.specs.Prelude.{◌≡◌, Bool, true, false, ◌&&◌, ◌||◌, List, [], ◌∷◌, ◌++◌}
use Rattle.ix_core.specs.declared.fact.Path.{Path}
use Rattle.ix_core.specs.declared.fact.Fact.{Fact}
use Rattle.ix_core.specs.declared.fact.Fact.TheVariants.{Rng, Low, Less, Sum, Search, Upper}
use Rattle.ix_facts.specs.declared.kind.Kind.TheVariants as kind
use Rattle.ix_facts.specs.Bounds.{is_path}
use Rattle.ix_facts.specs.Facts.{IsIn}
use Rattle.ix_facts.specs.Closure.{Closed}
use Rattle.ix_facts.specs.Exact.{if_so, each}
use Rattle.ix_facts.specs.Kinds.{of_kind}
use Rattle.ix_facts.specs.Systems.{IsTable}
use Rattle.ix_fact_table.specs.Saturated.{negative_of, class_of}

-- The fact says nothing of the length of an array alone, nor of a search: it is a range of an int, a class, a difference, a sum or a bound from an array's end.
abbrev pub is_plain : Fact → Bool
is_plain (Rng p l h) = true
is_plain (Low p c) = true
is_plain (Less p q c) = true
is_plain (Sum t y z) = true
is_plain (Upper p a o c) = true
is_plain _ = false

abbrev pub are_plain : List Fact → Bool
are_plain [] = true
are_plain (fact ∷ facts) = is_plain fact && are_plain facts

-- a fact is a range of the int
abbrev pub is_range_of : Path → Fact → Bool
is_range_of p (Rng q l h) = is_path q p
is_range_of p _ = false

abbrev pub has_range : List Fact → Path → Bool
has_range [] p = false
has_range (fact ∷ facts) p = is_range_of p fact || has_range facts p

-- the class of an int of which a new fact is a range
abbrev pub new_class_of : List Fact → Fact → List Fact
new_class_of new (Rng p l h) = if_so (has_range new p) (class_of (Rng p l h))
new_class_of new _ = []

abbrev pub beside : List Fact → List Fact → List Fact → List Fact
beside new ranges searches = each (negative_of ranges) searches ++ each (new_class_of new) ranges

-- Beside closed facts stand new ones that are plain; these are the ranges of all of them, met, and the answers of searches among the closed facts.
pub record AreBeside (known new ranges searches : List Fact) : Type 0 where
  pub closed : Closed known
  pub plain : are_plain new ≡ true
  pub met : IsTable (of_kind kind.Range (known ++ new)) ranges
  pub answers : (p a : Path) → IsIn (Search p a) known → IsIn (Search p a) searches
  pub only : (f : Fact) → IsIn f searches → IsIn f known
