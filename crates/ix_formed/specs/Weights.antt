-- Notes and the parts of a tree that they stand at, weighed.
use Rattle.std.specs.Prelude.{◌≡◌, ◌≤◌, ℕ, ◌+◌, List, [], ◌∷◌}
use Rattle.ix_text.specs.declared.span.Span.{Span}
use Rattle.ix_core.specs.declared.claim.Type_.{Type_}
use Rattle.ix_tree.specs.declared.annot.Ident.{Ident}
use Rattle.ix_tree.specs.Parts.{Part, expression, elsewhere, in_type}
use Rattle.ix_meaning.specs.declared.note.Declared.{Declared}
use Rattle.ix_meaning.specs.declared.note.Meaning.{Meaning}
use Rattle.ix_meaning.specs.declared.note.NameError.{NameError}
use Rattle.ix_meaning.specs.declared.note.Note.{Note}
use Rattle.ix_meaning.specs.declared.note.Note.TheVariants.{Use, Typed, Declares, Wrong, WrongAnnot}

abbrev pub total : {A : Type 0} → (A → ℕ) → List A → ℕ
total weight [] = 0
total weight (first ∷ rest) = weight first + total weight rest

-- A note weighs no more than the part that it is noted at, and an error nothing.
pub record IsWeighed (note : Note → ℕ) (part : Part → ℕ) : Type 0 where
  pub typed : (span : Span) (ty : Type_) → note (Typed span ty) ≤ part (expression span)
  pub used : (name : Ident) (m : Meaning) → note (Use name.span m) ≤ part (elsewhere name)
  pub used_in_type : (name : Ident) (m : Meaning) → note (Use name.span m) ≤ part (in_type name)
  pub declared : (name : Ident) (d : Declared) → note (Declares name.span d) ≤ part (elsewhere name)
  pub wrong : (error : NameError) → note (Wrong error) ≡ 0
  pub wrong_annot : (error : NameError) → note (WrongAnnot error) ≡ 0
