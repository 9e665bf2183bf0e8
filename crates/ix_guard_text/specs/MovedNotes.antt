-- Notes whose places are moved: what a note says beside its place (what a use means, a type, what a declaration says, which rule is broken) stays.
use Rattle.std.specs.Prelude.{◌≡◌, List, map}
use Rattle.ix_text.specs.declared.span.Span.{Span}
use Rattle.ix_meaning.specs.declared.note.NameError.{NameError}
use Rattle.ix_meaning.specs.declared.note.Note.{Note}
use Rattle.ix_meaning.specs.declared.note.Note.TheVariants.{Use, Typed, Declares, Wrong, WrongAnnot}
use Rattle.ix_guard_text.specs.Bare.{nowhere}
use Rattle.ix_guard_text.specs.Moved.{Move, moved_span}

abbrev pub moved_error : Move → NameError → NameError
moved_error move error = record { rule = error.rule; span = moved_span move error.span }

abbrev pub moved_note : Move → Note → Note
moved_note move (Use span meaning) = Use (moved_span move span) meaning
moved_note move (Typed span ty) = Typed (moved_span move span) ty
moved_note move (Declares span declared) = Declares (moved_span move span) declared
moved_note move (Wrong error) = Wrong (moved_error move error)
moved_note move (WrongAnnot error) = WrongAnnot (moved_error move error)

-- No two places come to one.
pub record IsInjective (move : Move) : Type 0 where
  pub same : (p q : Span) → moved_span move p ≡ moved_span move q → p ≡ q

-- ---- notes beside those of a source, but for the places of errors: that of a `break` outside a loop is its keyword's, a part of its statement's

abbrev pub unplaced_error : NameError → NameError
unplaced_error error = record { rule = error.rule; span = nowhere }

-- an error without its place; each other note as it is
abbrev pub unplaced : Note → Note
unplaced (Use span meaning) = Use span meaning
unplaced (Typed span ty) = Typed span ty
unplaced (Declares span declared) = Declares span declared
unplaced (Wrong error) = Wrong (unplaced_error error)
unplaced (WrongAnnot error) = WrongAnnot (unplaced_error error)

-- as many, and each the other at its number, at its place moved, or an error like it
pub record AreMoved (move : Move) (notes others : List Note) : Type 0 where
  pub same : map unplaced (map (moved_note move) notes) ≡ map unplaced others
