-- What names mean at a place (JLS 6.3, 6.4).
use Rattle.std.specs.Prelude.{ℕ, ◌==◌, Bool, false, not, ◌&&◌, if◌then◌else◌, Option, Some, None, List, [], ◌∷◌, bytes_eq}
use Rattle.ix_core.specs.declared.claim.Name.{Name}
use Rattle.ix_core.specs.declared.claim.Type_.{Type_ as Ty}
use Rattle.ix_core.specs.declared.claim.Type_.TheVariants.{Void}
use Rattle.ix_core.specs.declared.claim.Name.TheVariants as name
use Rattle.ix_annot.specs.declared.scope.Found.{Found}
use Rattle.ix_annot.specs.declared.texts.Naming.{Naming}
use Rattle.ix_annot.specs.declared.texts.Naming.TheVariants.{Parameter, OfThis, Variable}
use Rattle.ix_annot.specs.Named.{Names, found_as, or_else}
use Rattle.ix_annot.specs.declared.scope.Target.TheVariants as on
use Rattle.ix_meaning.specs.declared.note.Meaning.{Meaning}
use Rattle.ix_meaning.specs.declared.note.Meaning.TheVariants.{Local, Param, FieldNamed}
use Rattle.ix_meaning.specs.declared.members.Field.{Field}
use Rattle.ix_meaning.specs.Types.{Need}
use Rattle.ix_meaning.specs.Members.{World, nearest}

-- A parameter or a local in scope.
pub record Known : Type 0 where
  pub name : List ℕ
  pub meaning : Meaning
  -- none where its type's class is unknown
  pub ty : Option Ty
  -- a final parameter, or a final local with an initialiser
  pub is_fixed : Bool

pub record Scope : Type 0 where
  pub world : World
  -- the class that the place stands in
  pub class : ℕ
  -- whether `this` can be used (JLS 8.4.3.2, 8.8.7.1)
  pub has_object : Bool
  pub in_constructor : Bool
  pub in_loop : Bool
  -- what a `return` needs; none where there is no result
  pub result : Option Need
  -- the local in whose initialiser the place stands
  pub pending : Option (List ℕ)
  -- the parameters and then the locals, in order of declaration
  pub names : List Known
  -- the number of the next local
  pub next : ℕ
  -- whether an annotation may name fields of `this`
  pub names_fields : Bool

-- The first with that name: of two declarations with one name the first stays the one that is meant.
abbrev pub meant : List ℕ → List Known → Option Known
meant name [] = None
meant name (k ∷ ks) = if bytes_eq k.name name then Some k else meant name ks

abbrev pub is_pending : Option (List ℕ) → List ℕ → Bool
is_pending None name = false
is_pending (Some local) name = bytes_eq local name

-- ---- what an annotation may name at the place

-- a variable without a type is neither an int nor an array
abbrev pub type_or_void : Option Ty → Ty
type_or_void None = Void
type_or_void (Some t) = t

-- an instance field, as class `c` sees it; a static field is none
abbrev pub instance_field : ℕ → Option Meaning → Field → Option Found
instance_field c (Some (FieldNamed k)) f = Some (found_as (name.FieldNamed k) (type_or_void f.ty) (not (f.class == c) && not f.is_final))
instance_field c _ f = None

abbrev pub instance_field_in : ℕ → Option Field → Option Found
instance_field_in c None = None
instance_field_in c (Some f) = instance_field c f.meaning f

-- The instance field of that name in the class, or else in the nearest superclass that declares one.
abbrev pub field_of_this : Scope → List ℕ → Option Found
field_of_this s text = if s.names_fields then nearest (λ a. instance_field_in s.class (s.world.field a text)) (s.class ∷ s.world.supers s.class) else None

abbrev pub known_as : Meaning → Option Ty → Option Found
known_as (Param k) ty = Some (found_as (name.Param k) (type_or_void ty) false)
known_as (Local k) ty = Some (found_as (name.Local k) (type_or_void ty) false)
known_as _ ty = None

abbrev pub known_found : Option Known → Option Found
known_found None = None
known_found (Some k) = known_as k.meaning k.ty

abbrev pub is_param : ℕ → Meaning → Bool
is_param number (Param k) = k == number
is_param number _ = false

abbrev pub param_numbered : ℕ → List Known → Option Known
param_numbered number [] = None
param_numbered number (k ∷ ks) = if is_param number k.meaning then Some k else param_numbered number ks

-- What a name in an annotation means. `own_local` is the name of the local that it stands on, which means nothing yet.
abbrev pub found_at : Scope → Option (List ℕ) → Naming → Option Found
found_at s own_local (Parameter number) = known_found (param_numbered number s.names)
found_at s own_local (OfThis text) = field_of_this s text
found_at s own_local (Variable text) = if is_pending own_local text then None else or_else (known_found (meant text s.names)) (field_of_this s text)

-- the target is given with each annotation
abbrev pub annot_names : Scope → Option Name → Option (List ℕ) → Names
annot_names s own own_local = record { found = λ naming. found_at s own_local naming; target = on.Other; own = own }
