-- What the claims of a method's parameters and result say is said of its signature.
use Rattle.std.specs.Prelude.{◌≡◌, ◌⊎◌, ℕ, zero, suc, List, [], ◌∷◌, ◌++◌, map, slice_get, Some, unwrap_or, refl}
use Rattle.std.proofs.Common.{sym, ap, subst, inl, inr, ⊎_elim}
use Rattle.ix_core.specs.declared.claim.Claim.{Claim}
use Rattle.ix_core.specs.declared.claim.Claim.TheVariants.{Range, Low, Length, Same, Less, Upper, Search, Negative}
use Rattle.ix_core.specs.declared.claim.Name.{Name}
use Rattle.ix_core.specs.declared.claim.Name.TheVariants.{Param, Local, FieldNamed}
use Rattle.ix_core.specs.declared.claim.Off.{Off}
use Rattle.ix_core.specs.declared.claim.Off.TheVariants as off
use Rattle.ix_core.specs.declared.claim.Type_.{Type_}
use Rattle.ix_core.specs.declared.error.Error.{Error}
use Rattle.ix_core.specs.declared.error.Subject.TheVariants as subject
use Rattle.ix_core.specs.declared.fact.Fact.{Fact}
use Rattle.ix_core.specs.declared.fact.Path.{Path}
use Rattle.ix_core.specs.declared.fact.Path.TheVariants.{Slot}
use Rattle.ix_core.specs.declared.program.Local.{Local as Variable}
use Rattle.ix_core.specs.declared.program.Method.{Method}
use Rattle.ix_core.specs.declared.program.Program.{Program}
use Rattle.ix_core.specs.Tables.{no_method, method_at, param_slot}
use Rattle.ix_facts.specs.Assume.{claim_facts}
use Rattle.ix_facts.specs.Stores.{Stored, IsAbove, Then}
use Rattle.ix_rules_hold.specs.MachineSteps.{IsDeclared, own_path, on_paths, path_offset}
use Rattle.ix_signatures.specs.Signs.{Adds, Forgets, claims_facts, params_facts, received, received_params}
use Rattle.ix_signatures.specs.SignErrors.{AllRefuse, Unproved, OverrideParameter, OverrideResult, OverrideEffect, result_slot, of_run}
use Rattle.ix_check.specs.Signatures.{signature_of, signatures}
use Rattle.ix_check.proofs.DeclaredNames.{Declared, OffsetDeclared, AllDeclared, ParamsDeclared, MethodDeclared, declared_at}

at_signature : (methods : List Method) (k : ℕ) → unwrap_or (slice_get (map signature_of methods) k) no_method ≡ signature_of (unwrap_or (slice_get methods k) no_method)
at_signature [] k = refl
at_signature (method ∷ methods) zero = refl
at_signature (method ∷ methods) (suc k) = at_signature methods k

pub signature_at : (program : Program) (k : ℕ) → method_at (signatures program) k ≡ signature_of (method_at program k)
signature_at program k = at_signature program.methods k

module _ (method : Method) where
  abbrev bare : Method
  bare = signature_of method

  own_same : (name : Name) → IsDeclared name → own_path bare name ≡ own_path method name
  own_same (Param k) is = refl
  own_same (FieldNamed k) is = refl
  own_same (Local k) is = absurd is

  offset_same : (o : Off) → OffsetDeclared o → path_offset (own_path bare) o ≡ path_offset (own_path method) o
  offset_same off.Nothing is = refl
  offset_same (off.Plus name) is = let e = own_same name is in cc
  offset_same (off.Minus name) is = let e = own_same name is in cc

  pub on_same : (claim : Claim) → Declared claim → on_paths (own_path bare) claim ≡ on_paths (own_path method) claim
  on_same (Range low high) is = refl
  on_same (Low low) is = refl
  on_same (Length least) is = refl
  on_same (Same other) is = let e = own_same other is in cc
  on_same (Less name constant) is = let e = own_same name is in cc
  on_same (Upper array offset constant) is = let e = own_same array is.0 in let f = offset_same offset is.1 in cc
  on_same (Search array) is = let e = own_same array is in cc
  on_same (Negative array) is = let e = own_same array is in cc

  claims_same : (p : Path) (claims : List Claim) → AllDeclared claims → claims_facts (own_path bare) p claims ≡ claims_facts (own_path method) p claims
  claims_same p [] all = refl
  claims_same p (claim ∷ claims) all =
      let first = ap (λ c. claim_facts c p) (on_same claim all.0) in let rest = claims_same p claims all.1 in cc

  pub params_same : (k : ℕ) (params : List Variable) → ParamsDeclared params → params_facts bare k params ≡ params_facts method k params
  params_same k [] all = refl
  params_same k (param ∷ params) all =
      let first = claims_same (Slot (param_slot method k)) param.claims all.0 in let rest = params_same (suc k) params all.1 in cc

  pub received_same : (k : ℕ) (types : List Type_) → received_params bare k types ≡ received_params method k types
  received_same k [] = refl
  received_same k (ty ∷ types) = let rest = received_same (suc k) types in cc

-- ---- overriding: the overridden method is its signature

module _ (program : Program) (method : Method) (number over : ℕ) (error : Error) (rank : ℕ) where
  -- the errors of a method that overrides this one
  abbrev pub Overrides : Method → Type 0
  Overrides upper = OverrideParameter method upper number error rank ⊎ (OverrideResult program method upper over error rank ⊎ OverrideEffect method upper error rank)

  module _ (upper : Method) (declared : MethodDeclared upper) where
    abbrev plain : Method
    plain = signature_of upper

    abbrev Asked : List Fact → ℕ → Variable → Type 0
    Asked facts k param = Unproved (λ claim. AllRefuse (IsAbove facts) (on_paths (own_path method) claim) (Slot (param_slot method k))) param.claims 10 method.span (subject.Param number k) error rank

    -- what is known where the overriding method has run
    abbrev RunBy : List Fact → Stored → Type 0
    RunBy facts store = (called : Stored) × IsAbove facts called
        × Then (Forgets (of_run program method)) (Adds (received method.result (Slot (result_slot method)) ++ claims_facts (own_path method) (Slot (result_slot method)) method.result_claims)) called store

    abbrev known : Method → List Fact
    known named = received_params named 0 upper.param_types ++ params_facts named 0 upper.params

    facts_same : known plain ≡ known upper
    facts_same = let a = received_same upper 0 upper.param_types in let b = params_same upper 0 upper.params declared.0 in cc

    parameter_of : OverrideParameter method plain number error rank → OverrideParameter method upper number error rank
    parameter_of e = record { k = e.k; param = e.param; declared = e.declared; of = subst (λ facts. Asked facts e.k e.param) (params_same upper 0 upper.params declared.0) e.of }

    to_parameter : OverrideParameter method upper number error rank → OverrideParameter method plain number error rank
    to_parameter e = record { k = e.k; param = e.param; declared = e.declared; of = subst (λ facts. Asked facts e.k e.param) (sym (params_same upper 0 upper.params declared.0)) e.of }

    claim_same : (claim : Claim) → slice_get upper.result_claims rank ≡ Some claim → on_paths (own_path plain) claim ≡ on_paths (own_path upper) claim
    claim_same claim claimed = on_same upper claim (declared_at upper.result_claims declared.1 rank claim claimed)

    result_of : OverrideResult program method plain over error rank → OverrideResult program method upper over error rank
    result_of e = record {
      claim = e.claim;
      claimed = e.claimed;
      refused = subst (λ c. AllRefuse (RunBy (known upper)) c (Slot (result_slot method))) (claim_same e.claim e.claimed)
          (subst (λ facts. AllRefuse (RunBy facts) (on_paths (own_path plain) e.claim) (Slot (result_slot method))) facts_same e.refused);
      is = e.is;
    }

    to_result : OverrideResult program method upper over error rank → OverrideResult program method plain over error rank
    to_result e = record {
      claim = e.claim;
      claimed = e.claimed;
      refused = subst (λ c. AllRefuse (RunBy (known plain)) c (Slot (result_slot method))) (sym (claim_same e.claim e.claimed))
          (subst (λ facts. AllRefuse (RunBy facts) (on_paths (own_path upper) e.claim) (Slot (result_slot method))) (sym facts_same) e.refused);
      is = e.is;
    }

    pub overrides_of : Overrides plain → Overrides upper
    overrides_of e = ⊎_elim (λ p. inl (parameter_of p)) (λ r. ⊎_elim (λ a. inr (inl (result_of a))) (λ b. inr (inr (record { marked = b.marked; unmarked = b.unmarked; is = b.is; first = b.first }))) r) e

    pub to_overrides : Overrides upper → Overrides plain
    to_overrides e = ⊎_elim (λ p. inl (to_parameter p)) (λ r. ⊎_elim (λ a. inr (inl (to_result a))) (λ b. inr (inr (record { marked = b.marked; unmarked = b.unmarked; is = b.is; first = b.first }))) r) e
