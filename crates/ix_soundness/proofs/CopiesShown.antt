-- Behind a copy into a variable without errors the variable meets its claims.
use Rattle.std.specs.Prelude.{◌≡◌, ℕ, zero, suc, ◌+◌, ◌<◌, ◌≤◌, nat_lt, ◌==◌, Bool, true, false, not, ◌&&◌, if◌then◌else◌, List, [], ◌∷◌, length, slice_get, Option, None, Some, unwrap_or, refl}
use Rattle.std.specs.List.{list_all}
use Rattle.std.proofs.Common.{arith, sym, ap, ◌∙◌, subst}
use Rattle.std.proofs.lemmas.Bool.{and_parts, false≢true}
use Rattle.std.proofs.lemmas.Bool.Decides.{nat_tests}
use Rattle.std.proofs.lemmas.Option.{slice_get_within}
use Rattle.ix_text.specs.declared.span.Span.{Span}
use Rattle.ix_core.specs.declared.claim.Claim.{Claim}
use Rattle.ix_core.specs.declared.claim.Name.{Name}
use Rattle.ix_core.specs.declared.claim.Name.TheVariants.{Param, Local, FieldNamed}
use Rattle.ix_core.specs.declared.claim.Type_.{Type_}
use Rattle.ix_core.specs.declared.error.Error.{Error}
use Rattle.ix_core.specs.declared.fact.Path.{Path}
use Rattle.ix_core.specs.declared.fact.Path.TheVariants.{Slot}
use Rattle.ix_core.specs.declared.program.Local.{Local as Variable}
use Rattle.ix_core.specs.declared.program.Method.{Method}
use Rattle.ix_core.specs.declared.program.Program.{Program}
use Rattle.ix_core.specs.Formed.{is_formed, at_most, is_slot, is_target, claim_fits, others, local_named_type, locals_fit, params_fit}
use Rattle.ix_core.specs.Numbers.{Numbers}
use Rattle.ix_core.specs.Objects.{Names}
use Rattle.ix_core.specs.SameClaims.{same_name}
use Rattle.ix_core.specs.Tables.{method_at, param_slot, param_slots}
use Rattle.ix_core.specs.Types.{is_type, is_class}
use Rattle.ix_core.proofs.Cases.{by_test, equal, differ}
use Rattle.ix_core.proofs.FormedParts.{locals_of, method_is}
use Rattle.ix_facts.specs.Facts.{AllHold}
use Rattle.ix_facts.specs.Forget.{SameBut, of_slot}
use Rattle.ix_facts.specs.Stores.{Stored, Meets}
use Rattle.ix_rules_hold.specs.MachineSteps.{on_paths, own_path, reading_at}
use Rattle.ix_core.specs.Ready.{local_slot, LocalsApart}
use Rattle.ix_signatures.specs.Names.{variable_at, param_in, local_in, or_else}
use Rattle.ix_signatures.specs.SignErrors.{Refuses}
use Rattle.ix_signatures.specs.Signs.{claims_facts}
use Rattle.ix_sign.specs.MethodRules.{variable_claims, copied_claims}
use Rattle.ix_sign.specs.RuleErrors.{AssignClaim, subject_of}
use Rattle.ix_soundness.proofs.ClaimTruths.{claims_hold, each_true, none_fails}
use Rattle.ix_soundness.proofs.NamedClaims.{HasType, MayName, claims_named, param_names, count_params, other_type, no_type}
use Rattle.ix_soundness.proofs.Stable.{unrefused}

-- ---- the variable that a copy goes into

-- a parameter, or a local
pub data IsVariable (method : Method) (slot : ℕ) (claims : List Claim) : Type 0 where
  AParam : (k : ℕ) (param : Variable) → slice_get method.params k ≡ Some param → claims ≡ param.claims → slot ≡ param_slot method k → IsVariable method slot claims
  ALocal : (k : ℕ) (local : Variable × Span) → slice_get method.locals k ≡ Some local → claims ≡ local.0.claims → slot ≡ local.0.slot → IsVariable method slot claims

some_claims : {a b : Name × List Claim} → ◌≡◌ {A = Option (Name × List Claim)} (Some a) (Some b) → a.1 ≡ b.1
some_claims {a} e = ap (λ (o : Option (Name × List Claim)). (unwrap_or o a).1) e

param_found : (method : Method) (slot first : ℕ) (params : List Variable) (found : Name × List Claim) → param_in method slot first params ≡ Some found
    → (k : ℕ) × (param : Variable) × (slice_get params k ≡ Some param) × (found.1 ≡ param.claims) × (slot ≡ param_slot method (first + k))
param_found method slot first [] found is = absurd cc
param_found method slot first (param ∷ params) found is =
    by_test (slot == param_slot method first)
    (λ t.
    let here : ◌≡◌ {A = Option (Name × List Claim)} (Some (Param first, param.claims)) (Some found) = subst (λ b. (if b then Some (Param first, param.claims) else param_in method slot (suc first) params) ≡ Some found) t is in
    let e : first ≡ first + 0 = omega arith in
    (0, param, refl, sym (some_claims here), subst (λ n. slot ≡ param_slot method n) e (equal slot (param_slot method first) t)))
    (λ t.
    let rest = param_found method slot (suc first) params found (subst (λ b. (if b then Some (Param first, param.claims) else param_in method slot (suc first) params) ≡ Some found) t is) in
    let e : suc first + rest.0 ≡ first + suc rest.0 = omega arith in
    (suc rest.0, rest.1, rest.2, rest.3, subst (λ n. slot ≡ param_slot method n) e rest.4))

local_found : (slot place first : ℕ) (locals : List (Variable × Span)) (found : Name × List Claim) → local_in slot place first locals ≡ Some found
    → (k : ℕ) × (local : Variable × Span) × (slice_get locals k ≡ Some local) × (found.1 ≡ local.0.claims) × (slot ≡ local.0.slot)
local_found slot place first [] found is = absurd cc
local_found slot place first (local ∷ locals) found is =
    let within = not (nat_lt place local.1.from) && nat_lt place local.1.to in
    by_test ((local.0.slot == slot) && within)
    (λ t.
    let here : ◌≡◌ {A = Option (Name × List Claim)} (Some (Local first, local.0.claims)) (Some found) = subst (λ b. (if b then Some (Local first, local.0.claims) else local_in slot place (suc first) locals) ≡ Some found) t is in
    (0, local, refl, sym (some_claims here), sym (equal local.0.slot slot (and_parts (local.0.slot == slot) within t).0)))
    (λ t. let rest = local_found slot place (suc first) locals found (subst (λ b. (if b then Some (Local first, local.0.claims) else local_in slot place (suc first) locals) ≡ Some found) t is) in (suc rest.0, rest.1, rest.2, rest.3, rest.4))

variable_is : (method : Method) (slot place : ℕ) (found : Name × List Claim) → variable_at method slot place ≡ Some found → IsVariable method slot found.1
variable_is method slot place found is = by_param (param_in method slot 0 method.params) (λ x e. param_found method slot 0 method.params x e) is
  where
    by_param : (o : Option (Name × List Claim)) → ((x : Name × List Claim) → o ≡ Some x → (k : ℕ) × (param : Variable) × (slice_get method.params k ≡ Some param) × (x.1 ≡ param.claims) × (slot ≡ param_slot method (0 + k)))
        → or_else o (local_in slot place 0 method.locals) ≡ Some found → IsVariable method slot found.1
    by_param None each e = let l = local_found slot place 0 method.locals found e in ALocal l.0 l.1 l.2 l.3 l.4
    by_param (Some x) each e =
        let p = each x refl in
        let z : 0 + p.0 ≡ p.0 = omega arith in
        AParam p.0 p.1 p.2 (sym (some_claims e) ∙ p.3) (subst (λ n. slot ≡ param_slot method n) z p.4)

-- ---- what its claims name

module _ (program : Program) (locals : List (List Type_)) (formed : is_formed program locals ≡ true) (number : ℕ) (lt : number < length program.methods) (apart : LocalsApart program) where
  abbrev method : Method
  method = method_at program number

  local_types : List Type_
  local_types = locals_of program locals formed number

  all_locals : locals_fit program method (locals_of program locals formed number) 0 method.locals (locals_of program locals formed number) ≡ true
  all_locals =
      let a = and_parts (is_class program method.class) _ (method_is program locals formed number lt) in
      let b = and_parts (params_fit program method 0 method.params method.param_types) _ a.1 in
      let c = and_parts (at_most (param_slots method) method.slots) _ b.1 in
      let d = and_parts (at_most method.slots 512) _ c.1 in
      (and_parts (locals_fit program method (locals_of program locals formed number) 0 method.locals (locals_of program locals formed number)) _ d.1).0

  local_fits : (all types : List Type_) (first : ℕ) (items : List (Variable × Span)) (k : ℕ) (local : Variable × Span) → locals_fit program method all first items types ≡ true → slice_get items k ≡ Some local
      → (is_target program method local.0.slot ≡ true) × (ty : Type_) × (list_all (claim_fits ty (others (Local (first + k)) (local_named_type program method all local.1))) local.0.claims ≡ true)
  local_fits all types first [] k local fits is = absurd cc
  local_fits all [] first (one ∷ items) k local fits is = absurd (false≢true fits)
  local_fits all (ty ∷ types) first (one ∷ items) zero local fits is =
      let a = and_parts (is_target program method one.0.slot) _ fits in
      let b = and_parts (is_type program ty) _ a.1 in
      let c = and_parts (list_all (claim_fits ty (others (Local first) (local_named_type program method all one.1))) one.0.claims) _ b.1 in
      let same : one ≡ local = ap (λ (o : Option (Variable × Span)). unwrap_or o one) is in
      let e : first ≡ first + 0 = omega arith in (
        subst (λ (l : Variable × Span). is_target program method l.0.slot ≡ true) same a.0,
        ty,
        subst (λ n. list_all (claim_fits ty (others (Local n) (local_named_type program method all local.1))) local.0.claims ≡ true) e
            (subst (λ (l : Variable × Span). list_all (claim_fits ty (others (Local first) (local_named_type program method all l.1))) l.0.claims ≡ true) same c.0),
      )
  local_fits all (ty ∷ types) first (one ∷ items) (suc k) local fits is =
      let a = and_parts (is_target program method one.0.slot) _ fits in
      let b = and_parts (is_type program ty) _ a.1 in
      let c = and_parts (list_all (claim_fits ty (others (Local first) (local_named_type program method all one.1))) one.0.claims) (locals_fit program method all (first + 1) items types) b.1 in
      let rest = local_fits all types (first + 1) items k local c.1 is in
      let e : first + 1 + k ≡ first + suc k = omega arith in
      (rest.0, rest.1, subst (λ n. list_all (claim_fits rest.1 (others (Local n) (local_named_type program method all local.1))) local.0.claims ≡ true) e rest.2)

  -- the path is of another slot
  abbrev Other : ℕ → Name → Type 0
  Other t name = of_slot t (own_path method name) ≡ false

  apart_of : (s t : ℕ) → (s ≡ t → ⊥) → (s == t) ≡ false
  apart_of s t other = by_test (s == t) (λ e. absurd (other (equal s t e))) (λ e. e)

  slot_of : (n : ℕ) (static : Bool) → method.is_static ≡ static → param_slot method n ≡ n + (if static then 0 else 1)
  slot_of n true s = rw s omega arith
  slot_of n false s = rw s refl

  param_other : (k : ℕ) (name : Name) → MayName method name × (same_name (Param k) name ≡ false) → (t : ℕ) → t ≡ param_slot method k → Other t name
  param_other k (Param j) may t is = apart_of (param_slot method j) t (λ e. let a = slot_of j method.is_static refl in let b = slot_of k method.is_static refl in let d = differ k j may.1 in d (let f : param_slot method j ≡ param_slot method k = e ∙ is in omega (arith, a, b, f)))
  param_other k (Local j) may t is = absurd may.0
  param_other k (FieldNamed f) may t is = apart_of 0 t (λ e. let b = slot_of k method.is_static refl in let s = may.0.0 in let c : param_slot method k ≡ k + 1 = subst (λ x. param_slot method k ≡ k + (if x then 0 else 1)) s b in omega (arith, c, e, is))

  past_params : (count slot : ℕ) (static : Bool) → at_most (if static then count else count + 1) slot ≡ true → count + (if static then 0 else 1) ≤ slot
  past_params count slot true e = grind (arith, nat_tests)
  past_params count slot false e = grind (arith, nat_tests)

  local_other : (k : ℕ) (local : Variable × Span) → slice_get method.locals k ≡ Some local → (name : Name) → Names local.0.claims name → HasType (local_named_type program method (locals_of program locals formed number) local.1) name → is_target program method local.0.slot ≡ true
      → (t : ℕ) → t ≡ local.0.slot → Other t name
  local_other k local is (Param j) named (ty, typed) target t e =
      let past = past_params (length method.params) local.0.slot method.is_static (and_parts (is_slot program method local.0.slot) _ target).1 in
      let within = slice_get_within method.param_types j ty typed in
      let count = count_params program locals formed number lt in
      let a = slot_of j method.is_static refl in
      apart_of (param_slot method j) t (λ same. omega (arith, past, within, count, a, same, e))
  local_other k local is (Local j) named typed target t e = subst (λ n. (local_slot method j == n) ≡ false) (sym e) (apart number k j local is named)
  local_other k local is (FieldNamed f) named (ty, typed) target t e =
      let past = past_params (length method.params) local.0.slot method.is_static (and_parts (is_slot program method local.0.slot) _ target).1 in
      apart_of 0 t (λ same. by_test method.is_static
      (λ s. no_type program locals formed ty (sym (rw s refl) ∙ typed))
      (λ s. let past_one : length method.params + 1 ≤ local.0.slot = subst (λ x. length method.params + (if x then 0 else 1) ≤ local.0.slot) s past in omega (arith, past_one, same, e)))

  claims_other : (t : ℕ) (claims : List Claim) → IsVariable method t claims → (name : Name) → Names claims name → Other t name
  claims_other t claims (AParam k param is same at) name named = param_other k name (param_names program locals formed number lt k param is name (subst (λ c. Names c name) same named)) t at
  claims_other t claims (ALocal k local is same at) name named =
      let fits = local_fits (locals_of program locals formed number) (locals_of program locals formed number) 0 method.locals k local all_locals is in
      let here = subst (λ c. Names c name) same named in
      let typed = other_type program locals formed (Local (0 + k)) (local_named_type program method (locals_of program locals formed number) local.1) name (claims_named fits.1 _ local.0.claims name fits.2 here) in
      local_other k local is name here typed.0 fits.0 t at

  -- ---- behind the copy

  module _ (t s place : ℕ) (span : Span) (v w : Numbers) (store : Stored) (meets : Meets store v) (same : SameBut (of_slot t) v w) (int : w.int (Slot t) ≡ v.int (Slot s)) (size : w.size (Slot t) ≡ v.size (Slot s)) where
    reads_same : reading_at v (Slot s) ≡ reading_at w (Slot t)
    reads_same i = record { int = sym int i; size = sym size i }

    path_same : (p : Path) → of_slot t p ≡ false → reading_at v p ≡ reading_at w p
    path_same p other i = record { int = sym (same p other).0 i; size = sym (same p other).1 i }

    pub copied_hold : ((error : Error) (rank : ℕ) → AssignClaim method number s span (variable_at method t place) store error rank → ⊥) → AllHold (copied_claims method t place) w
    copied_hold none = by_variable (variable_at method t place) (variable_is method t place) none
      where
        by_variable : (o : Option (Name × List Claim)) → ((x : Name × List Claim) → o ≡ Some x → IsVariable method t x.1) → ((error : Error) (rank : ℕ) → AssignClaim method number s span o store error rank → ⊥)
            → AllHold (claims_facts (own_path method) (Slot t) (variable_claims o)) w
        by_variable None each none = tt
        by_variable (Some x) each none =
            claims_hold (own_path method) (Slot t) x.1 w (reading_at v (Slot s)) (λ name. reading_at v (own_path method name)) reads_same
            (λ name named. path_same (own_path method name) (claims_other t x.1 (each x refl) name named))
            (each_true (own_path method) (Slot s) x.1 v
            (λ k c is. unrefused store v (on_paths (own_path method) c) (Slot s) (none_fails (λ claim. Refuses store (on_paths (own_path method) claim) (Slot s)) x.1 4 span (subject_of number x.0) none k c is) meets))
