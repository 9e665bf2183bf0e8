-- A table keeps the notes, and of each place the number of its first note of each kind.
use Rattle.std.specs.Prelude.{ℕ, ◌+◌, Bool, if◌then◌else◌, Option, Some, None, List, [], ◌∷◌, slice_get}
use Rattle.std.specs.HashMap.{get}
use Rattle.ix_text.specs.declared.span.Span.{Span}
use Rattle.ix_core.specs.declared.claim.Type_.{Type_ as Ty}
use Rattle.ix_meaning.specs.declared.note.Meaning.{Meaning}
use Rattle.ix_meaning.specs.declared.note.Declared.{Declared}
use Rattle.ix_meaning.specs.declared.note.Note.{Note}
use Rattle.ix_meaning.specs.declared.note.Note.TheVariants.{Use, Typed, Declares}
use Rattle.ix_meaning.specs.Listed.{same_span}
use Rattle.ix_meaning.specs.Resolved.{Names}
use Rattle.ix_symbols.specs.declared.table.Table.{Table}

abbrev pub numbered : List Note → Option ℕ → Option Note
numbered ns None = None
numbered ns (Some number) = slice_get ns number

abbrev pub meaning_in : Option Note → Option Meaning
meaning_in (Some (Use p m)) = Some m
meaning_in _ = None

abbrev pub type_in : Option Note → Option Ty
type_in (Some (Typed p t)) = Some t
type_in _ = None

abbrev pub declared_in : Option Note → Option Declared
declared_in (Some (Declares p d)) = Some d
declared_in _ = None

-- What a table answers at each place.
abbrev pub shown : Table → Names
shown table = record {
  meaning = λ p. meaning_in (numbered table.notes (get same_span table.meanings p));
  type_of = λ p. type_in (numbered table.notes (get same_span table.types p));
  declared = λ p. declared_in (numbered table.notes (get same_span table.declarations p));
}

-- ---- the number of the first note of a kind at a place, counted on from `number`

abbrev pub first_or : Option ℕ → Bool → ℕ → Option ℕ
first_or (Some found) here number = Some found
first_or None here number = if here then Some number else None

abbrev pub first_use : Span → Option ℕ → ℕ → List Note → Option ℕ
first_use p found number [] = found
first_use p found number (Use q m ∷ ns) = first_use p (first_or found (same_span q p) number) (number + 1) ns
first_use p found number (_ ∷ ns) = first_use p found (number + 1) ns

abbrev pub first_typed : Span → Option ℕ → ℕ → List Note → Option ℕ
first_typed p found number [] = found
first_typed p found number (Typed q t ∷ ns) = first_typed p (first_or found (same_span q p) number) (number + 1) ns
first_typed p found number (_ ∷ ns) = first_typed p found (number + 1) ns

abbrev pub first_declared : Span → Option ℕ → ℕ → List Note → Option ℕ
first_declared p found number [] = found
first_declared p found number (Declares q d ∷ ns) = first_declared p (first_or found (same_span q p) number) (number + 1) ns
first_declared p found number (_ ∷ ns) = first_declared p found (number + 1) ns
