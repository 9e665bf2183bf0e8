-- The tree of a guard's test as it stands in a guarded tree, and what must be known of the names of a test.
use Rattle.std.specs.Prelude.{◌≡◌, ℕ, true, Some, codes}
use Rattle.ix_text.specs.declared.span.Span.{Span}
use Rattle.ix_tree.specs.declared.annot.Ident.{Ident}
use Rattle.ix_core.specs.Types.{int_type}
use Rattle.ix_meaning.specs.declared.note.Meaning.TheVariants.{LengthOf}
use Rattle.ix_guard.specs.Accesses.{Access}
use Rattle.ix_guard.specs.Tests.{is_variable}
use Rattle.ix_guard.specs.Trees.{ident}
use Rattle.ix_guard_text.specs.TestParts.{Parts}
use Rattle.ix_plain.specs.Scope.{Scope, slot_of, meaning_at, type_at}

-- the parts of the test of an access, as it stands in a guarded tree
abbrev pub parts_at : Span → Access → Parts
parts_at span access = record {
  null_array = access.array;
  negative_index = access.index;
  high_index = access.index;
  length_array = access.array;
  length = ident (codes "length") span;
  thrown = ident (codes "IndexOutOfBoundsException") span;
  null = span;
  zero = span;
  selection = span;
  is_null = span;
  is_negative = span;
  is_too_high = span;
  first_two = span;
  condition = span;
  throw = span;
  whole = span;
}

-- ---- what its names mean

-- The name means a local or a parameter in that slot.
pub record IsIn (scope : Scope) (slot : ℕ) (name : Ident) : Type 0 where
  pub variable : is_variable (meaning_at scope name.span) ≡ true
  pub in_slot : slot_of scope (meaning_at scope name.span) ≡ slot

-- The array and the index are in these slots, the index is an int, and `length` means the length of an array.
pub record Means (scope : Scope) (array index : ℕ) (parts : Parts) : Type 0 where
  pub null_array : IsIn scope array parts.null_array
  pub negative_index : IsIn scope index parts.negative_index
  pub high_index : IsIn scope index parts.high_index
  pub length_array : IsIn scope array parts.length_array
  pub negative_type : type_at scope parts.negative_index.span ≡ int_type
  pub high_type : type_at scope parts.high_index.span ≡ int_type
  pub length : meaning_at scope parts.length.span ≡ Some LengthOf
