-- Paths as numbers of 64 bits: a slot is its own number, and the fields of the object in it stand from 2^32 times one more than the slot on.
use Rattle.std.specs.Prelude.{◌≡◌, ℕ, ◌+◌, ◌*◌, ◌^◌, ◌<◌, ◌≤◌}
use Rattle.ix_core.specs.declared.fact.Path.{Path}
use Rattle.ix_core.specs.declared.fact.Path.TheVariants.{Slot, FieldOf}

abbrev pub path_number : Path → ℕ
path_number (Slot slot) = slot
path_number (FieldOf slot field) = (slot + 1) * 2 ^ 32 + field

-- the slot of the path, or of the object whose field it is
abbrev pub slot_of : Path → ℕ
slot_of (Slot slot) = slot
slot_of (FieldOf slot field) = slot

-- The path has a number: its slot is at most 511, and its field can be counted with 32 bits.
abbrev pub IsNumbered : Path → Type 0
IsNumbered (Slot slot) = slot ≤ 511
IsNumbered (FieldOf slot field) = (slot ≤ 511) × (field < 2 ^ 32)

-- the number is that of a path
abbrev pub HasPath : ℕ → Type 0
HasPath number = (path : Path) × IsNumbered path × (path_number path ≡ number)
