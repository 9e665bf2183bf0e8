-- What a body stands in: what its names mean, and where its variables are.
use Rattle.std.specs.Prelude.{ℕ, ◌==◌, Bool, true, false, if◌then◌else◌, List, [], ◌∷◌, slice_get, Option, Some, None, unwrap_or}
use Rattle.ix_text.specs.declared.span.Span.{Span}
use Rattle.ix_core.specs.declared.claim.Base.TheVariants.{Class}
use Rattle.ix_core.specs.declared.claim.Claim.{Claim}
use Rattle.ix_core.specs.declared.claim.Post.{Post}
use Rattle.ix_core.specs.declared.claim.Type_.{Type_}
use Rattle.ix_core.specs.declared.claim.Type_.TheVariants.{Void, Plain}
use Rattle.ix_core.specs.declared.program.Local.{Local}
use Rattle.ix_meaning.specs.declared.note.Declared.{Declared}
use Rattle.ix_meaning.specs.declared.note.Meaning.{Meaning}
use Rattle.ix_meaning.specs.declared.note.Meaning.TheVariants as meaning
use Rattle.ix_meaning.specs.Resolved.{Names}
use Rattle.ix_plain.specs.declared.body.Head.{Head}

-- What stays the same in a body.
pub record Site : Type 0 where
  -- what each use means, the type of each expression, and what each declaration declares
  pub names : Names
  -- the methods of the source, by their numbers
  pub heads : List Head
  -- of each class the number of its constructor
  pub constructors : List ℕ
  -- the class that the body stands in
  pub class : ℕ
  -- the parameters of the method, by their numbers
  pub params : List Local
  -- whether it promises something of one answer, so that each answer is written out where it is returned
  pub answers : Bool

-- What a full expression stands in.
pub record Scope : Type 0 where
  pub site : Site
  -- the locals of the method so far, by their numbers
  pub locals : List (Local × Span)
  -- the slots of the variables that the full expression assigns
  pub assigned : List ℕ

-- A source without errors on names has a meaning at each use, a type at each expression and a declaration at each declared name. Of any other, what isn't there
-- counts as slot, number or class 0, as no type and as no claim.

abbrev pub slot_in_locals : Option (Local × Span) → ℕ
slot_in_locals None = 0
slot_in_locals (Some local) = local.0.slot

abbrev pub slot_in_params : Option Local → ℕ
slot_in_params None = 0
slot_in_params (Some param) = param.slot

-- the slot of a local or a parameter
abbrev pub slot_of : Scope → Option Meaning → ℕ
slot_of scope (Some (meaning.Local number)) = slot_in_locals (slice_get scope.locals number)
slot_of scope (Some (meaning.Param number)) = slot_in_params (slice_get scope.site.params number)
slot_of scope _ = 0

abbrev pub meaning_at : Scope → Span → Option Meaning
meaning_at scope span = scope.site.names.meaning span

abbrev pub or_void : Option Type_ → Type_
or_void None = Void
or_void (Some ty) = ty

-- the type of the expression at that place; of a null the type that its place needs
abbrev pub type_in : Site → Span → Type_
type_in site span = or_void (site.names.type_of span)

abbrev pub type_at : Scope → Span → Type_
type_at scope span = type_in scope.site span

-- the class that the type names
abbrev pub class_of : Type_ → ℕ
class_of (Plain (Class class)) = class
class_of _ = 0

abbrev pub no_head : Head
no_head = record { class = 0; is_static = false }

abbrev pub head_at : Site → ℕ → Head
head_at site method = unwrap_or (slice_get site.heads method) no_head

abbrev pub constructor_at : Site → ℕ → ℕ
constructor_at site class = unwrap_or (slice_get site.constructors class) 0

-- ---- declarations

abbrev pub declared_type : Option Declared → Type_
declared_type None = Void
declared_type (Some declared) = declared.ty

abbrev pub declared_claims : Option Declared → List Claim
declared_claims None = []
declared_claims (Some declared) = declared.claims.list

abbrev pub declared_posts : Option Declared → List Post
declared_posts None = []
declared_posts (Some declared) = declared.claims.posts

abbrev pub is_effect_free : Option Declared → Bool
is_effect_free None = false
is_effect_free (Some declared) = declared.claims.effect_free

-- ---- variables that are assigned

abbrev pub is_among : ℕ → List ℕ → Bool
is_among slot [] = false
is_among slot (first ∷ rest) = if first == slot then true else is_among slot rest
