-- Notes with one place everywhere: two notes are the same up to places where these are equal. A note has one place, and in a broken rule's note this
-- is the place of the error; what a note says beside it (what a use means, a type, what a declaration says, which rule is broken) holds no place.
use Rattle.std.specs.Prelude.{◌≡◌, Bool, false, Option, None, List, [], ◌∷◌, map}
use Rattle.ix_tree.specs.declared.decl.ClassDecl.{ClassDecl}
use Rattle.ix_tree.specs.declared.decl.LocalDecl.{LocalDecl}
use Rattle.ix_tree.specs.declared.decl.Member.{Member}
use Rattle.ix_tree.specs.declared.decl.Member.TheVariants as member
use Rattle.ix_tree.specs.declared.decl.Unit.{Unit as Source}
use Rattle.ix_meaning.specs.declared.note.NameError.{NameError}
use Rattle.ix_meaning.specs.declared.note.Note.{Note}
use Rattle.ix_meaning.specs.declared.note.Note.TheVariants.{Use, Typed, Declares, Wrong, WrongAnnot}
use Rattle.ix_meaning.specs.Declarators.{is_further, first_behind}
use Rattle.ix_guard_text.specs.Bare.{nowhere, bare_source}

abbrev pub bare_error : NameError → NameError
bare_error error = record { rule = error.rule; span = nowhere }

abbrev pub bare_note : Note → Note
bare_note (Use span meaning) = Use nowhere meaning
bare_note (Typed span ty) = Typed nowhere ty
bare_note (Declares span declared) = Declares nowhere declared
bare_note (Wrong error) = Wrong (bare_error error)
bare_note (WrongAnnot error) = WrongAnnot (bare_error error)

-- as many, and each the same as the other at its number, up to places
pub record AreAlike (notes others : List Note) : Type 0 where
  pub same : map bare_note notes ≡ map bare_note others

-- ---- which fields are declared together: fields of one declaration have one type, at one place

abbrev pub is_joined : Option LocalDecl → Member → Bool
is_joined first (member.Field d) = is_further first d
is_joined first (member.Method m) = false

-- of each member whether it is a further field of the declaration that a field before it began
abbrev pub joined_behind : Option LocalDecl → List Member → List Bool
joined_behind first [] = []
joined_behind first (m ∷ ms) = is_joined first m ∷ joined_behind (first_behind first m) ms

abbrev pub joined : ClassDecl → List Bool
joined class = joined_behind None class.members

-- Two sources are the same up to places where they are the same trees without places and the same fields are declared together.
pub record AreSame (unit other : Source) : Type 0 where
  pub bare : bare_source unit ≡ bare_source other
  pub joined : map joined unit.classes ≡ map joined other.classes
