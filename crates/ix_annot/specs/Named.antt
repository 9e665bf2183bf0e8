-- What the names in an annotation mean: parameters, locals in scope, and fields of `this`.
use Rattle.std.specs.Prelude.{ℕ, ◌+◌, ◌==◌, Bool, true, false, not, ◌&&◌, ◌||◌, if◌then◌else◌, Option, Some, None, option_map, List, [], ◌∷◌, slice_get, bytes_eq}
use Rattle.ix_core.specs.declared.claim.Base.TheVariants.{Int}
use Rattle.ix_core.specs.declared.claim.Type_.{Type_ as Ty}
use Rattle.ix_core.specs.declared.claim.Type_.TheVariants.{Plain, Array}
use Rattle.ix_core.specs.declared.claim.Name.{Name}
use Rattle.ix_core.specs.declared.claim.Name.TheVariants.{Param, Local, FieldNamed}
use Rattle.ix_core.specs.SameClaims.{same_name}
use Rattle.ix_annot.specs.declared.scope.Scope.{Scope}
use Rattle.ix_annot.specs.declared.scope.Target.{Target}
use Rattle.ix_annot.specs.declared.scope.Holds.{Holds}
use Rattle.ix_annot.specs.declared.scope.Holds.TheVariants as holds
use Rattle.ix_annot.specs.declared.scope.Found.{Found}
use Rattle.ix_annot.specs.declared.texts.Naming.{Naming}
use Rattle.ix_annot.specs.declared.texts.Naming.TheVariants.{Parameter, OfThis, Variable}

abbrev pub what_holds : Ty → Holds
what_holds (Plain Int) = holds.Int
what_holds (Array base depth element) = holds.Array
what_holds _ = holds.Other

abbrev pub found_as : Name → Ty → Bool → Found
found_as name ty may_change = record { name = name; holds = what_holds ty; may_change = may_change }

-- the parameter of that number, from 0
abbrev pub param_numbered : List (List ℕ × Ty) → ℕ → Option Found
param_numbered params k = option_map (λ param. found_as (Param k) param.1 false) (slice_get params k)

-- the first parameter of that name, where the first of the list has the number `k`
abbrev pub param_named : ℕ → List (List ℕ × Ty) → List ℕ → Option Found
param_named k [] name = None
param_named k (param ∷ params) name = if bytes_eq param.0 name then Some (found_as (Param k) param.1 false) else param_named (k + 1) params name

abbrev pub local_named : List (List ℕ × Ty × ℕ) → List ℕ → Option Found
local_named [] name = None
local_named (local ∷ locals) name = if bytes_eq local.0 name then Some (found_as (Local local.2) local.1 false) else local_named locals name

-- An inherited field that is not final may change without the class's knowing.
abbrev pub field_named : List (List ℕ × Ty × ℕ × Bool × Bool) → List ℕ → Option Found
field_named [] name = None
field_named (field ∷ fields) name =
    if bytes_eq field.0 name then Some (found_as (FieldNamed field.2) field.1 (field.3 && not field.4)) else field_named fields name

abbrev pub or_else : {A : Type 0} → Option A → Option A → Option A
or_else None other = other
or_else (Some a) other = Some a

-- An identifier means the local or the parameter in scope, else the field of that name.
abbrev pub variable_named : Scope → List ℕ → Option Found
variable_named scope name = or_else (local_named scope.locals name) (or_else (param_named 0 scope.params name) (field_named scope.fields name))

-- whether a local of that number has that name
abbrev pub has_local : List (List ℕ × Ty × ℕ) → ℕ → List ℕ → Bool
has_local [] number name = false
has_local (local ∷ locals) number name = (local.2 == number && bytes_eq local.0 name) || has_local locals number name

-- the name of the local that the annotation stands on
abbrev pub is_own_local : Scope → Option Name → List ℕ → Bool
is_own_local scope (Some (Local number)) name = has_local scope.locals number name
is_own_local scope _ name = false

-- What a name in an annotation means in a scope. The name of the local that the annotation stands on means nothing yet.
abbrev pub found_in : Scope → Naming → Option Found
found_in scope (Parameter k) = param_numbered scope.params k
found_in scope (OfThis name) = field_named scope.fields name
found_in scope (Variable name) = if is_own_local scope scope.own name then None else variable_named scope name

-- What an annotation may name and what it stands on, however a scope is kept.
pub record Names : Type 0 where
  pub found : Naming → Option Found
  pub target : Target
  -- the declaration that it stands on
  pub own : Option Name

abbrev pub names_in : Scope → Names
names_in scope = record { found = λ naming. found_in scope naming; target = scope.target; own = scope.own }

abbrev pub is_own : Option Name → Name → Bool
is_own None name = false
is_own (Some own) name = same_name own name

abbrev pub same_holding : Holds → Holds → Bool
same_holding holds.Int holds.Int = true
same_holding holds.Array holds.Array = true
same_holding holds.Other holds.Other = true
same_holding _ _ = false

-- RULE bad.name: the named thing doesn't exist, holds something else than the place needs, or is the declaration itself.
abbrev pub fitting : Holds → Option Name → Option Found → Option Name
fitting need own None = None
fitting need own (Some variable) = if same_holding need variable.holds && not (is_own own variable.name) then Some variable.name else None

abbrev pub named : Names → Holds → Naming → Option Name
named names need naming = fitting need names.own (names.found naming)
