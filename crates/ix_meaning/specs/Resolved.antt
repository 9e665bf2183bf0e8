-- What `resolve` answers.
use Rattle.std.specs.Prelude.{◌≡◌, ◌⊎◌, ◌≢◌, Bool, if◌then◌else◌, Option, Some, None, List, [], ◌∷◌}
use Rattle.ix_text.specs.declared.span.Span.{Span}
use Rattle.ix_tree.specs.declared.decl.Unit.{Unit as Source}
use Rattle.ix_core.specs.declared.claim.Type_.{Type_ as Ty}
use Rattle.ix_meaning.specs.declared.note.Meaning.{Meaning}
use Rattle.ix_meaning.specs.declared.note.Declared.{Declared}
use Rattle.ix_meaning.specs.declared.note.Note.{Note}
use Rattle.ix_meaning.specs.declared.note.Note.TheVariants.{Use, Typed, Declares}
use Rattle.ix_meaning.specs.declared.note.NameError.{NameError}
use Rattle.ix_meaning.specs.declared.note.NameErrors.{NameErrors}
use Rattle.ix_meaning.specs.declared.note.NameErrors.TheVariants.{Errors, Limit, Memory}
use Rattle.ix_meaning.specs.Source.{notes}
use Rattle.ix_meaning.specs.Limits.{Passed, limit, inheritance_limit}
use Rattle.ix_meaning.specs.Listed.{same_span, derived, IsListed}

-- ---- the table: what the notes say of a place. A tree in which names can be looked up by places has one note of each kind at a place.

abbrev pub or_found : {A : Type 0} → Bool → A → Option A → Option A
or_found is a later = if is then Some a else later

abbrev pub meaning_at : Span → List Note → Option Meaning
meaning_at p [] = None
meaning_at p (Use q m ∷ ns) = or_found (same_span q p) m (meaning_at p ns)
meaning_at p (_ ∷ ns) = meaning_at p ns

abbrev pub type_at : Span → List Note → Option Ty
type_at p [] = None
type_at p (Typed q t ∷ ns) = or_found (same_span q p) t (type_at p ns)
type_at p (_ ∷ ns) = type_at p ns

abbrev pub declared_at : Span → List Note → Option Declared
declared_at p [] = None
declared_at p (Declares q d ∷ ns) = or_found (same_span q p) d (declared_at p ns)
declared_at p (_ ∷ ns) = declared_at p ns

-- What a table of names answers at each place.
pub record Names : Type 0 where
  -- what the use there means
  pub meaning : Span → Option Meaning
  -- the type of the expression there
  pub type_of : Span → Option Ty
  -- what the declaration of the name there says
  pub declared : Span → Option Declared

abbrev pub names_in : List Note → Names
names_in ns = record {
  meaning = λ p. meaning_at p ns;
  type_of = λ p. type_at p ns;
  declared = λ p. declared_at p ns;
}

abbrev pub names : Source → Names
names unit = names_in (notes unit.classes)

-- ---- the three definitions on names

-- What the use at that place means.
abbrev pub Means : Source → Span → Meaning → Type 0
Means unit p m = meaning_at p (notes unit.classes) ≡ Some m

-- The type of the expression at that place.
abbrev pub TypeOf : Source → Span → Ty → Type 0
TypeOf unit p t = type_at p (notes unit.classes) ≡ Some t

-- All errors on names, types and annotations.
abbrev pub name_errors : Source → List NameError
name_errors unit = derived (notes unit.classes)

-- ---- the answer

abbrev pub IsPassed : Option Passed → NameErrors → Type 0
IsPassed None e = ⊥
IsPassed (Some p) e = e ≡ Limit p.which p.place

-- Limits that are passed before any rule is asked, then errors, then the limit of inheritance.
pub record IsRefused (unit : Source) (list : List NameError) : Type 0 where
  pub within : limit unit.classes ≡ None
  pub listed : IsListed (name_errors unit) list
  pub some : list ≢ []

abbrev pub Refuses : Source → NameErrors → Type 0
Refuses unit (Errors list) = IsRefused unit list
Refuses unit (Limit which place) = IsPassed (limit unit.classes) (Limit which place)
    ⊎ ((limit unit.classes ≡ None) × (name_errors unit ≡ []) × IsPassed (inheritance_limit unit.classes) (Limit which place))
Refuses unit Memory = Unit {0}

pub record Accepts (unit : Source) : Type 0 where
  pub within : limit unit.classes ≡ None
  pub no_errors : name_errors unit ≡ []
  pub few_inherited : inheritance_limit unit.classes ≡ None
