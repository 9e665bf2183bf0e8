-- Notes with others between them, which stand where nothing of the source begins.
use Rattle.std.specs.Prelude.{List, [], ◌∷◌}
use Rattle.ix_text.specs.declared.span.Span.{Span}
use Rattle.ix_meaning.specs.declared.note.Note.{Note}
use Rattle.ix_meaning.specs.declared.note.Note.TheVariants.{Use, Typed, Declares, Wrong, WrongAnnot}
use Rattle.ix_guard_text.specs.Moved.{Move}
use Rattle.ix_guard_text.specs.TestParts.{IsNew}

-- where a note stands
abbrev pub place : Note → Span
place (Use span meaning) = span
place (Typed span ty) = span
place (Declares span declared) = span
place (Wrong error) = error.span
place (WrongAnnot error) = error.span

-- It begins where nothing of the source does.
abbrev pub IsNewNote : Move → Note → Type 0
IsNewNote move note = IsNew move (place note).from

-- The second list has the notes of the first in their order, and between them others that are new.
pub data WithNew (move : Move) : List Note → List Note → Type 0 where
  none : WithNew move [] []
  kept : {notes others : List Note} (note : Note) → WithNew move notes others → WithNew move (note ∷ notes) (note ∷ others)
  new : {notes others : List Note} (note : Note) → IsNewNote move note → WithNew move notes others → WithNew move notes (note ∷ others)
