-- The tables of every program: a field has a cell of its own among those of an object, which begins with a default.
use Rattle.std.specs.Prelude.{◌≡◌, ℕ, zero, suc, ◌+◌, ◌<◌, ◌==◌, Bool, true, false, if◌then◌else◌, List, [], ◌∷◌, length, map, slice_get, option_map, Option, None, Some, unwrap_or, refl}
use Rattle.std.proofs.Common.{arith, sym, ap, ◌∙◌, subst}
use Rattle.std.proofs.lemmas.List.{length-map}
use Rattle.ix_core.specs.declared.claim.Base.TheVariants as base
use Rattle.ix_core.specs.declared.claim.Type_.{Type_}
use Rattle.ix_core.specs.declared.claim.Type_.TheVariants as type
use Rattle.ix_core.specs.declared.program.Program.{Program}
use Rattle.ix_core.specs.Heap.{value_at, default_of}
use Rattle.ix_core.specs.Analysis.{IsDefault}
use Rattle.ix_core.specs.Tables.{all_fields, field_at, place_among}
use Rattle.ix_core.specs.World.{World, world_of}
use Rattle.ix_core.proofs.Cases.{equal}

-- the place is one later, and the number stands there
abbrev pub IsThere : List ℕ → ℕ → ℕ → Type 0
IsThere numbers number place = (place < length numbers) × (unwrap_or (slice_get numbers place) 0 ≡ number)

later_there : (first : ℕ) (rest : List ℕ) (number place : ℕ) (found : Option ℕ) → ((at : ℕ) → found ≡ Some at → IsThere rest number at) → option_map (λ (at : ℕ). at + 1) found ≡ Some place → IsThere (first ∷ rest) number place
unfolding IsThere
later_there first rest number place None there e = absurd cc
later_there first rest number place (Some at) there e =
    let is : place ≡ suc at = let x : at + 1 ≡ place = ap (λ (o : Option ℕ). unwrap_or o 0) e in omega (arith, x) in
    let here = there at refl in
    subst (λ p. (p < suc (length rest)) × (unwrap_or (slice_get (first ∷ rest) p) 0 ≡ number)) (sym is) (let lt = here.0 in omega (arith, lt), here.1)

if_there : (t : Bool) (first : ℕ) (rest : List ℕ) (number place : ℕ) → (first == number) ≡ t → ((at : ℕ) → place_among rest number ≡ Some at → IsThere rest number at)
    → (if t then Some 0 else option_map (λ (at : ℕ). at + 1) (place_among rest number)) ≡ Some place → IsThere (first ∷ rest) number place
unfolding IsThere
if_there true first rest number place t rec e =
    let is : zero ≡ place = ap (λ (o : Option ℕ). unwrap_or o 0) e in
    subst (λ p. (p < suc (length rest)) × (unwrap_or (slice_get (first ∷ rest) p) 0 ≡ number)) is (omega (arith), equal first number t)
if_there false first rest number place t rec e = later_there first rest number place (place_among rest number) rec e

pub there : (numbers : List ℕ) (number place : ℕ) → place_among numbers number ≡ Some place → IsThere numbers number place
there [] number place e = absurd cc
there (first ∷ rest) number place e = if_there (first == number) first rest number place refl (λ at d. there rest number at d) e

default_is : (ty : Type_) → IsDefault (default_of ty)
default_is type.Void = refl
default_is (type.Plain base.Int) = refl
default_is (type.Plain base.Bool) = refl
default_is (type.Plain (base.Class class)) = tt
default_is (type.Array of depth element) = tt

defaults : (program : Program) (fields : List ℕ) (place : ℕ) → IsDefault (value_at (map (λ number. default_of (field_at program number).ty) fields) place)
defaults program [] place = refl
defaults program (field ∷ fields) zero = default_is (field_at program field).ty
defaults program (field ∷ fields) (suc place) = defaults program fields place

module _ (program : Program) where
  abbrev world : World
  world = world_of program

  pub world_room : (class field place : ℕ) → world.place class field ≡ Some place → place < length (world.fresh_fields class)
  unfolding IsThere
  world_room class field place e =
      subst (λ n. place < n) (sym (length-map (all_fields program class) (λ number. default_of (field_at program number).ty))) (there (all_fields program class) field place e).0

  pub world_apart : (class field other place : ℕ) → world.place class field ≡ Some place → world.place class other ≡ Some place → field ≡ other
  unfolding IsThere
  world_apart class field other place e d = sym (there (all_fields program class) field place e).1 ∙ (there (all_fields program class) other place d).1

  pub world_fresh : (class place : ℕ) → IsDefault (value_at (world.fresh_fields class) place)
  world_fresh class place = defaults program (all_fields program class) place
