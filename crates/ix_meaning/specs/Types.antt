-- Types (JLS 4), what a place needs, and what a part of the tree says: its type and its notes, in the order of the text.
use Rattle.std.specs.Prelude.{ℕ, ◌-◌, ◌==◌, nat_lt, Bool, true, false, ◌&&◌, ◌||◌, if◌then◌else◌, Option, Some, None, List, [], ◌∷◌, ◌++◌}
use Rattle.ix_text.specs.declared.span.Span.{Span}
use Rattle.ix_core.specs.declared.claim.Base.{Base}
use Rattle.ix_core.specs.declared.claim.Base.TheVariants.{Int, Bool as Boolean, Class}
use Rattle.ix_core.specs.declared.claim.Type_.{Type_ as Ty}
use Rattle.ix_core.specs.declared.claim.Type_.TheVariants.{Void, Plain, Array}
use Rattle.ix_core.specs.declared.claim.Claim.{Claim}
use Rattle.ix_core.specs.SameClaims.{same_claim}
use Rattle.ix_meaning.specs.Classes.{is_among}
use Rattle.ix_meaning.specs.declared.note.Rule.{Rule}
use Rattle.ix_meaning.specs.declared.note.Note.{Note}
use Rattle.ix_meaning.specs.declared.note.Note.TheVariants.{Typed, Wrong}

abbrev pub int : Ty
int = Plain Int

abbrev pub boolean : Ty
boolean = Plain Boolean

abbrev pub same_base : Base → Base → Bool
same_base Int Int = true
same_base Boolean Boolean = true
same_base (Class a) (Class b) = a == b
same_base _ _ = false

abbrev pub same_claims : List Claim → List Claim → Bool
same_claims [] [] = true
same_claims (c ∷ cs) (d ∷ ds) = same_claim c d && same_claims cs ds
same_claims _ _ = false

-- Two array types are one where base, depth and the lists of element claims are.
abbrev pub same_type : Ty → Ty → Bool
same_type Void Void = true
same_type (Plain a) (Plain b) = same_base a b
same_type (Array a m cs) (Array b n ds) = m == n && (same_base a b && same_claims cs ds)
same_type _ _ = false

-- JLS 4.3
abbrev pub is_reference : Ty → Bool
is_reference (Plain (Class c)) = true
is_reference (Array b d cs) = true
is_reference _ = false

-- int or boolean
abbrev pub is_primitive : Ty → Bool
is_primitive (Plain Int) = true
is_primitive (Plain Boolean) = true
is_primitive _ = false

abbrev pub is_boolean : Option Ty → Bool
is_boolean (Some (Plain Boolean)) = true
is_boolean _ = false

-- the type of an array's elements
abbrev pub element : Ty → Option Ty
element (Array b d cs) = if nat_lt 1 d then Some (Array b (d - 1) cs) else Some (Plain b)
element _ = None

abbrev pub element_in : Option Ty → Option Ty
element_in None = None
element_in (Some t) = element t

-- a base, or an array of that depth with these claims on its ints
abbrev pub shaped : Base → ℕ → List Claim → Ty
shaped b d cs = if d == 0 then Plain b else Array b d cs

-- JLS 4.10.2: a class is a subtype of each of its superclasses.
abbrev pub is_subclass : (ℕ → List ℕ) → Ty → Ty → Bool
is_subclass supers (Plain (Class c)) (Plain (Class d)) = is_among d (supers c)
is_subclass supers _ _ = false

-- JLS 5.2: an expression of the first type fits where the second is needed.
abbrev pub fits : (ℕ → List ℕ) → Ty → Ty → Bool
fits supers t need = same_type t need || is_subclass supers t need

-- JLS 15.21: two ints, two booleans, or two references of which one fits the other.
abbrev pub can_compare : (ℕ → List ℕ) → Ty → Ty → Bool
can_compare supers t u = (is_primitive t && same_type t u) || ((is_reference t && is_reference u) && (fits supers t u || fits supers u t))

-- What a place needs of the expression that stands there.
pub data Need : Type 0 where
  -- it would be read off what has no type
  unknown : Need
  -- no type is right
  never : Need
  -- int or boolean
  printed : Need
  of : Ty → Need

abbrev pub need_like : Option Ty → Need
need_like None = unknown
need_like (Some t) = of t

abbrev pub wrong : Rule → Span → List Note
wrong rule p = Wrong (record { rule = rule; span = p }) ∷ []

abbrev pub wrong_if : Bool → Rule → Span → List Note
wrong_if broken rule p = if broken then wrong rule p else []

-- What an expression says at its place.
pub record Judged : Type 0 where
  -- none: it has no type
  pub ty : Option Ty
  pub notes : List Note

abbrev pub judged : Option Ty → List Note → Judged
judged t ns = record { ty = t; notes = ns }

abbrev pub type_note : Option Ty → Span → List Note
type_note None p = []
type_note (Some t) p = Typed p t ∷ []

-- and its place is noted with its type
abbrev pub typed : Span → Judged → Judged
typed p j = judged j.ty (j.notes ++ type_note j.ty p)
