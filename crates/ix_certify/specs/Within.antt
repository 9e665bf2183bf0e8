-- Stores that speak of certain paths alone: what a label may be, where it is written down.
use Rattle.std.specs.Prelude.{◌≡◌, ℕ, nat_lt, Bool, true, not, ◌&&◌, ◌||◌, List, [], ◌∷◌}
use Rattle.ix_core.specs.declared.fact.Path.{Path}
use Rattle.ix_core.specs.declared.fact.Path.TheVariants.{Slot, FieldOf}
use Rattle.ix_core.specs.declared.fact.Fact.{Fact}
use Rattle.ix_facts.specs.Facts.{is_default}
use Rattle.ix_facts.specs.Forget.{names}
use Rattle.ix_facts.specs.Stores.{Stored, Unreachable, Reached}
use Rattle.ix_fact_table.specs.Apart.{compares_two}

-- a slot of the method, or a field of the program of the object in one
abbrev pub is_inside : ℕ → ℕ → Path → Bool
is_inside slots fields (Slot slot) = nat_lt slot slots
is_inside slots fields (FieldOf slot field) = nat_lt slot slots && nat_lt field fields

module _ (is_in : Path → Bool) where
  abbrev pub is_out : Path → Bool
  is_out p = not (is_in p)

  -- The fact names no path but these, and compares no int with itself; or it is a range that is said of every path.
  abbrev pub is_within : Fact → Bool
  is_within f = is_default f || (not (names is_out f) && compares_two f)

  abbrev pub are_within : List Fact → Bool
  are_within [] = true
  are_within (f ∷ facts) = is_within f && are_within facts

  abbrev pub StoreWithin : Stored → Type 0
  StoreWithin Unreachable = Unit {0}
  StoreWithin (Reached facts) = are_within facts ≡ true
