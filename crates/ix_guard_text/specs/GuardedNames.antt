-- What the names of a guarded text mean, beside those of its source.
use Rattle.std.specs.Prelude.{◌≡◌, true, Some}
use Rattle.ix_text.specs.declared.span.Span.{Span}
use Rattle.ix_core.specs.declared.claim.Type_.{Type_}
use Rattle.ix_core.specs.Types.{int_type, is_array_type}
use Rattle.ix_meaning.specs.declared.note.Meaning.TheVariants.{LengthOf}
use Rattle.ix_meaning.specs.Resolved.{Names}
use Rattle.ix_guard.specs.Accesses.{Access}
use Rattle.ix_guard_text.specs.Moved.{Move, moved_span}
use Rattle.ix_guard_text.specs.TestParts.{Parts, IsWritten}

-- At each place moved they say what the source's say at the place.
pub record SaysMoved (names others : Names) (move : Move) : Type 0 where
  pub meaning : (span : Span) → others.meaning (moved_span move span) ≡ names.meaning span
  pub type_of : (span : Span) → others.type_of (moved_span move span) ≡ names.type_of span
  pub declared : (span : Span) → others.declared (moved_span move span) ≡ names.declared span

-- The names of a test mean what those of its access mean in the source; the array has an array's type, the index is an int, and `length` is that of an array.
pub record IsMeant (names others : Names) (move : Move) (access : Access) (parts : Parts) : Type 0 where
  pub written : IsWritten move access parts
  pub null_array : others.meaning parts.null_array.span ≡ names.meaning access.array.span
  pub negative_index : others.meaning parts.negative_index.span ≡ names.meaning access.index.span
  pub high_index : others.meaning parts.high_index.span ≡ names.meaning access.index.span
  pub length_array : others.meaning parts.length_array.span ≡ names.meaning access.array.span
  pub length : others.meaning parts.length.span ≡ Some LengthOf
  pub ty : Type_
  pub array_type : others.type_of parts.null_array.span ≡ Some ty
  pub is_array : is_array_type ty ≡ true
  pub negative_type : others.type_of parts.negative_index.span ≡ Some int_type
  pub high_type : others.type_of parts.high_index.span ≡ Some int_type
