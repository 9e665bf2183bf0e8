-- Types as values: when two are one, when a value of one is a value of another, and what each slot of a frame holds at a point of a body.
use Rattle.std.specs.Prelude.{ℕ, zero, suc, Bool, true, false, if◌then◌else◌, ◌==◌, nat_lt, ◌&&◌, List, [], ◌∷◌, length, Option, None, Some}
use Rattle.std.specs.List.{list_all}
use Rattle.ix_core.specs.declared.claim.Base.{Base}
use Rattle.ix_core.specs.declared.claim.Base.TheVariants as base
use Rattle.ix_core.specs.declared.claim.Claim.{Claim}
use Rattle.ix_core.specs.declared.claim.Claim.TheVariants as claim
use Rattle.ix_core.specs.declared.claim.Type_.{Type_}
use Rattle.ix_core.specs.declared.claim.Type_.TheVariants as type
use Rattle.ix_core.specs.declared.program.Program.{Program}
use Rattle.ix_core.specs.SameClaims.{same_claim}
use Rattle.ix_core.specs.Tables.{ancestors, is_among}

abbrev pub int_type : Type_
int_type = type.Plain base.Int

abbrev pub bool_type : Type_
bool_type = type.Plain base.Bool

abbrev pub class_type : ℕ → Type_
class_type class = type.Plain (base.Class class)

-- ---- when two types are one

abbrev pub same_base : Base → Base → Bool
same_base base.Int base.Int = true
same_base base.Bool base.Bool = true
same_base (base.Class class) (base.Class other) = class == other
same_base _ _ = false

abbrev pub same_claims : List Claim → List Claim → Bool
same_claims [] [] = true
same_claims (claim ∷ claims) (other ∷ others) = same_claim claim other && same_claims claims others
same_claims _ _ = false

-- two array types are one where base, depth and the claims on elements are
abbrev pub same_type : Type_ → Type_ → Bool
same_type type.Void type.Void = true
same_type (type.Plain of) (type.Plain other) = same_base of other
same_type (type.Array of depth element) (type.Array other deep others) = same_base of other && ((depth == deep) && same_claims element others)
same_type _ _ = false

abbrev pub is_void : Type_ → Bool
is_void type.Void = true
is_void _ = false

abbrev pub is_int_type : Type_ → Bool
is_int_type (type.Plain base.Int) = true
is_int_type _ = false

abbrev pub is_array_type : Type_ → Bool
is_array_type (type.Array of depth element) = true
is_array_type _ = false

-- a class or an array type (JLS 4.3)
abbrev pub is_reference_type : Type_ → Bool
is_reference_type (type.Plain (base.Class class)) = true
is_reference_type (type.Array of depth element) = true
is_reference_type _ = false

-- the type of a cell; only arrays have cells
abbrev pub cell_type : Type_ → Type_
cell_type (type.Array of (suc (suc depth)) element) = type.Array of (suc depth) element
cell_type (type.Array of depth element) = type.Plain of
cell_type _ = type.Void

-- ---- types of a program

-- The claims on elements bound an int by numbers.
abbrev pub is_element_claim : Claim → Bool
is_element_claim (claim.Range low high) = true
is_element_claim (claim.Low low) = true
is_element_claim _ = false

abbrev pub is_empty : List Claim → Bool
is_empty [] = true
is_empty _ = false

module _ (program : Program) where
  abbrev pub is_class : ℕ → Bool
  is_class class = nat_lt class (length program.classes)

  abbrev pub is_base : Base → Bool
  is_base (base.Class class) = is_class class
  is_base _ = true

  -- A type of a value: its class is there, an array has brackets, and only ints have claims on elements.
  abbrev pub is_type : Type_ → Bool
  is_type type.Void = false
  is_type (type.Plain of) = is_base of
  is_type (type.Array of depth element) = is_base of && (nat_lt 0 depth && (if is_int_type (type.Plain of) then list_all is_element_claim element else is_empty element))

  abbrev pub is_array : Type_ → Bool
  is_array ty = is_array_type ty && is_type ty

  -- a class is another, or below it (JLS 8.1.4)
  abbrev pub is_below : ℕ → ℕ → Bool
  is_below class other = is_among (ancestors program class) other

  -- a value of the first type is one of the second: the same type, or a class below (JLS 4.10, 5.2)
  abbrev pub is_of : Type_ → Type_ → Bool
  is_of (type.Plain (base.Class class)) (type.Plain (base.Class other)) = is_below class other
  is_of ty other = same_type ty other

-- ---- types of slots

-- The type of what each slot holds, where it was written on every way there.
abbrev pub Types : Type 0
Types = ℕ → Option Type_

-- the types at a point; none where no way leads there
abbrev pub Point : Type 0
Point = Option Types

abbrev pub with_type : ℕ → Type_ → Types → Types
with_type slot ty types other = if other == slot then Some ty else types other

abbrev pub if_same : Option Type_ → Option Type_ → Option Type_
if_same (Some ty) (Some other) = if same_type ty other then Some ty else None
if_same _ _ = None

-- where two ways meet: what both say
abbrev pub meeting : Point → Point → Point
meeting None other = other
meeting types None = types
meeting (Some types) (Some others) = Some (λ slot. if_same (types slot) (others slot))

-- of slots below a number
abbrev pub types_below : ℕ → Types → Types
types_below count types slot = if nat_lt slot count then types slot else None

abbrev pub point_below : ℕ → Point → Point
point_below count None = None
point_below count (Some types) = Some (types_below count types)

-- it says no less than the other of one slot
abbrev pub says : Option Type_ → Option Type_ → Bool
says known None = true
says None (Some ty) = false
says (Some known) (Some ty) = same_type known ty

-- of the slots below a number the first says no less than the second
abbrev pub says_below : ℕ → Types → Types → Bool
says_below zero types others = true
says_below (suc count) types others = says (types count) (others count) && says_below count types others

-- where there is a way, it says no less
abbrev pub keeps_types : ℕ → Point → Point → Bool
keeps_types count None kept = true
keeps_types count types None = true
keeps_types count (Some types) (Some kept) = says_below count types kept
