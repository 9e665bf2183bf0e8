-- Ranges that are empty.
use Rattle.std.specs.Prelude.{◌⊎◌, Bool, false, ◌||◌, ℤ, ◌<ℤ◌, int_lt, List, [], ◌∷◌}
use Rattle.ix_core.specs.declared.fact.Path.{Path}
use Rattle.ix_core.specs.declared.fact.Fact.{Fact}
use Rattle.ix_core.specs.declared.fact.Fact.TheVariants.{Rng, LenRng}
use Rattle.ix_facts.specs.Facts.{IsIn}

abbrev pub is_empty : Fact → Bool
is_empty (Rng p l h) = int_lt h l
is_empty (LenRng a l h) = int_lt h l
is_empty _ = false

abbrev pub some_empty : List Fact → Bool
some_empty [] = false
some_empty (fact ∷ facts) = is_empty fact || some_empty facts

-- a range of the list is empty
abbrev pub HasEmpty : List Fact → Type 0
HasEmpty table = (p : Path) × (l : ℤ) × (h : ℤ) × (IsIn (Rng p l h) table ⊎ IsIn (LenRng p l h) table) × (h <ℤ l)
