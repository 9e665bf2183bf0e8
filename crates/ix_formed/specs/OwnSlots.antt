-- No two locals of a method that are in scope together have one slot.
use Rattle.std.specs.Prelude.{◌≡◌, ℕ, true, List, slice_get, Some}
use Rattle.ix_text.specs.declared.span.Span.{Span}
use Rattle.ix_core.specs.declared.program.Local.{Local}
use Rattle.ix_core.specs.declared.program.Program.{Program}
use Rattle.ix_core.specs.Formed.{starts_within}
use Rattle.ix_core.specs.Tables.{method_at}

-- Where a local is declared, no other local of these that is in scope has its slot.
abbrev pub HasOwnSlot : List (Local × Span) → ℕ → Local × Span → Type 0
HasOwnSlot locals number local = (other : ℕ) (held : Local × Span) → slice_get locals other ≡ Some held → starts_within local.1 held.1 ≡ true → held.0.slot ≡ local.0.slot → other ≡ number

abbrev pub HaveOwnSlots : List (Local × Span) → Type 0
HaveOwnSlots locals = (number : ℕ) (local : Local × Span) → slice_get locals number ≡ Some local → HasOwnSlot locals number local

-- so in all methods
abbrev pub AllOwnSlots : Program → Type 0
AllOwnSlots program = (number : ℕ) → HaveOwnSlots (method_at program number).locals
