-- The claims of a formed program's parameters and results name no locals.
use Rattle.std.specs.Prelude.{◌≡◌, ℕ, zero, suc, ◌+◌, ◌<◌, ◌≤◌, ◌==◌, nat_lt, Bool, true, false, ◌&&◌, if◌then◌else◌, List, [], ◌∷◌, length, slice_get, Option, None, Some, unwrap_or, refl}
use Rattle.std.specs.List.{list_all}
use Rattle.std.proofs.Common.{arith, sym, ap, subst}
use Rattle.std.proofs.lemmas.Bool.{and_parts, false≢true}
use Rattle.std.proofs.lemmas.Bool.Decides.{nat_tests}
use Rattle.std.proofs.lemmas.Option.{slice_get_past}
use Rattle.ix_core.specs.declared.claim.Claim.{Claim}
use Rattle.ix_core.specs.declared.claim.Claim.TheVariants.{Range, Low, Length, Same, Less, Upper, Search, Negative}
use Rattle.ix_core.specs.declared.claim.Name.{Name}
use Rattle.ix_core.specs.declared.claim.Name.TheVariants.{Param, Local, FieldNamed}
use Rattle.ix_core.specs.declared.claim.Off.{Off}
use Rattle.ix_core.specs.declared.claim.Off.TheVariants as off
use Rattle.ix_core.specs.declared.claim.Type_.{Type_}
use Rattle.ix_core.specs.declared.program.Local.{Local as Variable}
use Rattle.ix_core.specs.declared.program.Method.{Method}
use Rattle.ix_core.specs.declared.program.Program.{Program}
use Rattle.ix_core.specs.Formed.{is_formed, claim_fits, offset_fits, is_int_of, is_array_of, others, named_type, params_fit}
use Rattle.ix_core.specs.Tables.{method_at, no_method, param_slot}
use Rattle.ix_core.specs.Types.{is_type, is_void, is_empty, is_int_type, is_array_type}
use Rattle.ix_core.proofs.Cases.{by_test}
use Rattle.ix_core.proofs.TypedCalls.{method_has}
use Rattle.ix_rules_hold.specs.MachineSteps.{IsDeclared}

abbrev pub OffsetDeclared : Off → Type 0
OffsetDeclared off.Nothing = Unit {0}
OffsetDeclared (off.Plus name) = IsDeclared name
OffsetDeclared (off.Minus name) = IsDeclared name

abbrev pub Declared : Claim → Type 0
Declared (Range low high) = Unit {0}
Declared (Low low) = Unit {0}
Declared (Length least) = Unit {0}
Declared (Same other) = IsDeclared other
Declared (Less name constant) = IsDeclared name
Declared (Upper array offset constant) = IsDeclared array × OffsetDeclared offset
Declared (Search array) = IsDeclared array
Declared (Negative array) = IsDeclared array

abbrev pub AllDeclared : List Claim → Type 0
AllDeclared [] = Unit {0}
AllDeclared (claim ∷ claims) = Declared claim × AllDeclared claims

abbrev pub ParamsDeclared : List Variable → Type 0
ParamsDeclared [] = Unit {0}
ParamsDeclared (param ∷ params) = AllDeclared param.claims × ParamsDeclared params

abbrev pub MethodDeclared : Method → Type 0
MethodDeclared method = ParamsDeclared method.params × AllDeclared method.result_claims

pub declared_at : (claims : List Claim) → AllDeclared claims → (k : ℕ) (claim : Claim) → slice_get claims k ≡ Some claim → Declared claim
declared_at [] all k claim at = absurd cc
declared_at (first ∷ claims) all zero claim at = subst Declared (some_is first claim at) all.0
  where
    some_is : (a b : Claim) → ◌≡◌ {A = Option Claim} (Some a) (Some b) → a ≡ b
    some_is a b e = cc
declared_at (first ∷ claims) all (suc k) claim at = declared_at claims all.1 k claim at

-- where no local has a type
module _ (types : Name → Option Type_) (none : (k : ℕ) → types (Local k) ≡ None) where
  int_declared : (name : Name) → is_int_of (types name) ≡ true → IsDeclared name
  int_declared (Param k) h = tt
  int_declared (FieldNamed k) h = tt
  int_declared (Local k) h = false≢true (subst (λ o. is_int_of o ≡ true) (none k) h)

  array_declared : (name : Name) → is_array_of (types name) ≡ true → IsDeclared name
  array_declared (Param k) h = tt
  array_declared (FieldNamed k) h = tt
  array_declared (Local k) h = false≢true (subst (λ o. is_array_of o ≡ true) (none k) h)

  offset_declared : (o : Off) → offset_fits types o ≡ true → OffsetDeclared o
  offset_declared off.Nothing h = tt
  offset_declared (off.Plus name) h = int_declared name h
  offset_declared (off.Minus name) h = int_declared name h

  claim_declared : (ty : Type_) (claim : Claim) → claim_fits ty types claim ≡ true → Declared claim
  claim_declared ty (Range low high) h = tt
  claim_declared ty (Low low) h = tt
  claim_declared ty (Length least) h = tt
  claim_declared ty (Same other) h = array_declared other (and_parts (is_array_type ty) (is_array_of (types other)) h).1
  claim_declared ty (Less name constant) h = int_declared name (and_parts (is_int_type ty) (is_int_of (types name)) h).1
  claim_declared ty (Upper array offset constant) h =
      let a = and_parts (is_int_type ty) (is_array_of (types array) && offset_fits types offset) h in
      let b = and_parts (is_array_of (types array)) (offset_fits types offset) a.1 in
      (array_declared array b.0, offset_declared offset b.1)
  claim_declared ty (Search array) h = array_declared array (and_parts (is_int_type ty) (is_array_of (types array)) h).1
  claim_declared ty (Negative array) h = array_declared array (and_parts (is_int_type ty) (is_array_of (types array)) h).1

  claims_declared : (ty : Type_) (claims : List Claim) → list_all (claim_fits ty types) claims ≡ true → AllDeclared claims
  claims_declared ty [] h = tt
  claims_declared ty (claim ∷ claims) h =
      let a = and_parts (claim_fits ty types claim) (list_all (claim_fits ty types) claims) h in (claim_declared ty claim a.0, claims_declared ty claims a.1)

module _ (program : Program) (locals : List (List Type_)) (formed : is_formed program locals ≡ true) where
  params_declared : (method : Method) (k : ℕ) (params : List Variable) (types : List Type_) → params_fit program method k params types ≡ true → ParamsDeclared params
  params_declared method k [] types h = tt
  params_declared method k (param ∷ params) [] h = absurd (false≢true h)
  params_declared method k (param ∷ params) (ty ∷ types) h =
      let a = and_parts (param.slot == param_slot method k) _ h in
      let b = and_parts (is_type program ty) _ a.1 in
      let c = and_parts (list_all (claim_fits ty (others (Param k) (named_type program method))) param.claims) (params_fit program method (k + 1) params types) b.1 in
      (claims_declared (others (Param k) (named_type program method)) (λ n. refl) ty param.claims c.0, params_declared method (k + 1) params types c.1)

  result_declared : (method : Method) (void : Bool)
      → (if void then is_empty method.result_claims else is_type program method.result && list_all (claim_fits method.result (named_type program method)) method.result_claims) ≡ true → AllDeclared method.result_claims
  result_declared method true h = empty method.result_claims h
    where
      empty : (claims : List Claim) → is_empty claims ≡ true → AllDeclared claims
      empty [] e = tt
      empty (claim ∷ claims) e = absurd (false≢true e)
  result_declared method false h = claims_declared (named_type program method) (λ n. refl) method.result method.result_claims (and_parts (is_type program method.result) _ h).1

  within : (number : ℕ) → number < length program.methods → MethodDeclared (method_at program number)
  within number lt =
      let has = method_has program locals formed number lt in
      let method = method_at program number in
      (params_declared method 0 method.params method.param_types has.params, result_declared method (is_void method.result) has.result)

  pub all_declared : (number : ℕ) → MethodDeclared (method_at program number)
  all_declared number =
      by_test (nat_lt number (length program.methods))
      (λ t. within number (grind (arith, nat_tests, t)))
      (λ t. let le : length program.methods ≤ number = grind (arith, nat_tests, t) in
      subst MethodDeclared (sym (ap (λ o. unwrap_or o no_method) (slice_get_past program.methods number le))) (tt, tt))
