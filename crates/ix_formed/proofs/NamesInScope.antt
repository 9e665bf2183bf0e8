-- What a claim that fits names has a type.
use Rattle.std.specs.Prelude.{◌≡◌, ℕ, zero, suc, true, List, [], ◌∷◌, slice_get, Option, None, Some, unwrap_or, refl}
use Rattle.std.specs.List.{list_all}
use Rattle.std.proofs.Common.{ap, subst}
use Rattle.std.proofs.lemmas.Bool.{and_parts, false≢true}
use Rattle.ix_core.specs.declared.claim.Claim.{Claim}
use Rattle.ix_core.specs.declared.claim.Claim.TheVariants as claim
use Rattle.ix_core.specs.declared.claim.Name.{Name}
use Rattle.ix_core.specs.declared.claim.Off.{Off}
use Rattle.ix_core.specs.declared.claim.Off.TheVariants as off
use Rattle.ix_core.specs.declared.claim.Type_.{Type_}
use Rattle.ix_core.specs.Formed.{claim_fits, offset_fits, is_int_of, is_array_of}
use Rattle.ix_core.specs.Objects.{Names, claim_names, offset_names}
use Rattle.ix_core.specs.Types.{is_int_type, is_array_type}

module _ (types : Name → Option Type_) where
  abbrev pub HasType : Name → Type 0
  HasType name = (ty : Type_) × (types name ≡ Some ty)

  abbrev AllTyped : List Name → Type 0
  AllTyped [] = Unit {0}
  AllTyped (name ∷ names) = HasType name × AllTyped names

  int_typed : (name : Name) → is_int_of (types name) ≡ true → HasType name
  int_typed name fits = by (types name) fits
    where
      by : (o : Option Type_) → is_int_of o ≡ true → (ty : Type_) × (o ≡ Some ty)
      by None e = absurd (false≢true e)
      by (Some ty) e = (ty, refl)

  array_typed : (name : Name) → is_array_of (types name) ≡ true → HasType name
  array_typed name fits = by (types name) fits
    where
      by : (o : Option Type_) → is_array_of o ≡ true → (ty : Type_) × (o ≡ Some ty)
      by None e = absurd (false≢true e)
      by (Some ty) e = (ty, refl)

  offset_typed : (offset : Off) → offset_fits types offset ≡ true → AllTyped (offset_names offset)
  offset_typed off.Nothing fits = tt
  offset_typed (off.Plus name) fits = (int_typed name fits, tt)
  offset_typed (off.Minus name) fits = (int_typed name fits, tt)

  claim_typed : (ty : Type_) (claim : Claim) → claim_fits ty types claim ≡ true → AllTyped (claim_names claim)
  claim_typed ty (claim.Range low high) fits = tt
  claim_typed ty (claim.Low low) fits = tt
  claim_typed ty (claim.Length least) fits = tt
  claim_typed ty (claim.Same other) fits = (array_typed other (and_parts (is_array_type ty) _ fits).1, tt)
  claim_typed ty (claim.Less name constant) fits = (int_typed name (and_parts (is_int_type ty) _ fits).1, tt)
  claim_typed ty (claim.Upper array offset constant) fits =
      let a = and_parts (is_array_of (types array)) (offset_fits types offset) (and_parts (is_int_type ty) _ fits).1 in
      (array_typed array a.0, offset_typed offset a.1)
  claim_typed ty (claim.Search array) fits = (array_typed array (and_parts (is_int_type ty) _ fits).1, tt)
  claim_typed ty (claim.Negative array) fits = (array_typed array (and_parts (is_int_type ty) _ fits).1, tt)

  typed_at : (names : List Name) (at : ℕ) (name : Name) → AllTyped names → slice_get names at ≡ Some name → HasType name
  typed_at [] at name all is = absurd cc
  typed_at (first ∷ names) zero name all is = subst HasType (ap (λ (o : Option Name). unwrap_or o first) is) all.0
  typed_at (first ∷ names) (suc at) name all is = typed_at names at name all.1 is

  pub names_typed : (ty : Type_) (claims : List Claim) (name : Name) → list_all (claim_fits ty types) claims ≡ true → Names claims name → HasType name
  names_typed ty [] name fits (k, at, claim, is, named) = absurd cc
  names_typed ty (first ∷ claims) name fits (zero, at, claim, is, named) =
      let same : first ≡ claim = ap (λ (o : Option Claim). unwrap_or o first) is in
      let one = (and_parts (claim_fits ty types first) (list_all (claim_fits ty types) claims) fits).0 in
      typed_at (claim_names claim) at name (claim_typed ty claim (subst (λ c. claim_fits ty types c ≡ true) same one)) named
  names_typed ty (first ∷ claims) name fits (suc k, at, claim, is, named) =
      names_typed ty claims name (and_parts (claim_fits ty types first) (list_all (claim_fits ty types) claims) fits).1 (k, at, claim, is, named)
