-- Near paths that are marked as standing among paths.
use Rattle.std.specs.Prelude.{◌≡◌, ◌⊎◌, ℕ, Bool, true, false, nat_eq, List, get_or}
use Rattle.std.specs.Int.{bit_at}
use Rattle.ix_core.specs.declared.fact.Path.{Path}
use Rattle.ix_core.specs.declared.fact.Path.TheVariants.{Slot, FieldOf}
use Rattle.ix_facts.specs.Named.{IsAmongPaths}
use Rattle.ix_fact_paths.specs.declared.marks.Marks.{Marks}
use Rattle.ix_fact_paths.specs.ByPath.{near_place}

-- The path is a slot, or a field of the object in slot 0: among these places are one path's alone.
abbrev pub has_place : Path → Bool
has_place (Slot s) = true
has_place (FieldOf s f) = nat_eq s 0

-- The path's bit is set: slots have one word, and fields of the object in slot 0 the other.
abbrev pub IsInWords : ℕ → ℕ → Path → Type 0
IsInWords slots fields (Slot s) = bit_at slots s ≡ 1
IsInWords slots fields (FieldOf s f) = (s ≡ 0) × (bit_at fields f ≡ 1)

-- The path has a place, and the mark there is set.
abbrev pub IsAtPlace : List Bool → Path → Type 0
IsAtPlace marks p = (has_place p ≡ true) × (get_or marks (near_place p) false ≡ true)

abbrev pub IsMarked : Marks → Path → Type 0
IsMarked marks p = IsInWords marks.slots marks.fields p ⊎ IsAtPlace marks.far.items p

-- What is marked is among the paths.
abbrev pub AreMarked : Marks → List Path → Type 0
AreMarked marks paths = (p : Path) → IsMarked marks p → IsAmongPaths p paths
