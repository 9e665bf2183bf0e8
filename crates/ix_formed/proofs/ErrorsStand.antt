-- Notes whose errors stand in a text of so many bytes: lists of them, and each rule at its place.
use Rattle.std.proofs.Common.{ℕ, Bool, true, false, List, [], ◌∷◌, ◌++◌, Option, Some, None}
use Rattle.std.specs.List.{AllByRecursion}
use Rattle.std.specs.Prelude.{not, is_some}
use Rattle.ix_text.specs.declared.span.Span.{Span}
use Rattle.ix_core.specs.declared.claim.Type_.{Type_}
use Rattle.ix_meaning.specs.declared.note.Meaning.{Meaning}
use Rattle.ix_meaning.specs.declared.note.Note.{Note}
use Rattle.ix_meaning.specs.declared.note.Note.TheVariants.{Use, Typed, Declares, Wrong, WrongAnnot}
use Rattle.ix_meaning.specs.declared.note.Rule.{Rule}
use Rattle.ix_meaning.specs.declared.note.Rule.TheVariants as rule
use Rattle.ix_meaning.specs.Members.{World}
use Rattle.ix_meaning.specs.Rules as rules
use Rattle.ix_meaning.specs.Types.{Need, unknown, never, printed, of, is_reference, element, type_note, wrong, wrong_if}
use Rattle.ix_formed.specs.EachNode.{InText}
use Rattle.ix_formed.proofs.ListsJoin.{all_joined}

-- where the note is an error, it stands in a text of so many bytes
abbrev pub NoteStands : ℕ → Note → Type 0
NoteStands end (Use span meaning) = Unit {0}
NoteStands end (Typed span ty) = Unit {0}
NoteStands end (Declares span declared) = Unit {0}
NoteStands end (Wrong error) = InText end error.span
NoteStands end (WrongAnnot error) = InText end error.span

abbrev pub AllStand : ℕ → List Note → Type 0
AllStand end notes = AllByRecursion (NoteStands end) notes

-- a record, so that a goal says which lists are joined
pub record Stand (end : ℕ) (notes : List Note) : Type 0 where
  pub all : AllStand end notes

-- ---- lists

pub none : {end : ℕ} → Stand end []
none = record { all = tt }

pub both : {end : ℕ} {xs ys : List Note} → Stand end xs → Stand end ys → Stand end (xs ++ ys)
both {end} {xs} {ys} a b = record { all = all_joined (NoteStands end) xs ys a.all b.all }

-- a use in front of them is no error
pub used : {end : ℕ} {ns : List Note} (span : Span) (m : Meaning) → Stand end ns → Stand end (Use span m ∷ ns)
used span m a = record { all = (tt, a.all) }

pub is_wrong : {end : ℕ} (r : Rule) (span : Span) → InText end span → Stand end (wrong r span)
is_wrong r span at = record { all = (at, tt) }

pub if_wrong : {end : ℕ} (b : Bool) (r : Rule) (span : Span) → InText end span → Stand end (wrong_if b r span)
if_wrong true r span at = is_wrong r span at
if_wrong false r span at = none

pub type_noted : {end : ℕ} (ty : Option Type_) (span : Span) → Stand end (type_note ty span)
type_noted None span = none
type_noted (Some ty) span = record { all = (tt, tt) }

-- ---- rules

pub mismatches : {end : ℕ} (w : World) (need : Need) (ty : Option Type_) (span : Span) → InText end span → Stand end (rules.type_mismatch w need ty span)
mismatches w need None span at = none
mismatches w need (Some ty) span at = if_wrong (not (rules.has_fitting_type w need ty)) rule.TypeMismatch span at

pub null_mismatches : {end : ℕ} (need : Need) (span : Span) → InText end span → Stand end (rules.null_mismatch need span)
null_mismatches unknown span at = none
null_mismatches (of need) span at = if_wrong (not (is_reference need)) rule.TypeMismatch span at
null_mismatches never span at = is_wrong rule.TypeMismatch span at
null_mismatches printed span at = is_wrong rule.TypeMismatch span at

pub list_mismatches : {end : ℕ} (need : Need) (span : Span) → InText end span → Stand end (rules.list_mismatch need span)
list_mismatches unknown span at = none
list_mismatches (of need) span at = if_wrong (not (is_some (element need))) rule.TypeMismatch span at
list_mismatches never span at = none
list_mismatches printed span at = none

pub not_compared : {end : ℕ} (w : World) (ty other : Option Type_) (span : Span) → InText end span → Stand end (rules.cannot_compare w ty other span)
not_compared w None other span at = none
not_compared w (Some ty) None span at = none
not_compared w (Some ty) (Some other) span at = if_wrong _ rule.TypeMismatch span at

pub without_value : {end : ℕ} (need : Option Need) (span : Span) → InText end span → Stand end (rules.no_value need span)
without_value None span at = none
without_value (Some need) span at = is_wrong rule.TypeMismatch span at

pub use_noted : {end : ℕ} (m : Option Meaning) (span : Span) → Stand end (rules.use_of m span)
use_noted None span = none
use_noted (Some m) span = used span m none
