-- The tests of parameters tell which the claims of a result and the posts name.
use Rattle.std.specs.Prelude.{◌≡◌, ◌⊎◌, ◌↔◌, ℕ, zero, suc, ◌+◌, Bool, true, false, if◌then◌else◌, slice_get, Option, Some, None, List, [], ◌∷◌, refl}
use Rattle.std.proofs.Common.{arith, inl, inr, ap, sym, ◌∙◌, subst, ⊎_elim}
use Rattle.std.proofs.lemmas.Bool.{false≢true, eq-eqb, eqb-true, or_cases, or_left, or_right}
use Rattle.ix_core.specs.declared.claim.Claim.{Claim}
use Rattle.ix_core.specs.declared.claim.Name.{Name}
use Rattle.ix_core.specs.declared.claim.Name.TheVariants.{Param, Local, FieldNamed}
use Rattle.ix_core.specs.declared.claim.Post.{Post}
use Rattle.ix_core.specs.declared.claim.Type_.{Type_}
use Rattle.ix_core.specs.declared.op.Op.{Op}
use Rattle.ix_core.specs.declared.op.OpKind.TheVariants as op
use Rattle.ix_core.specs.declared.program.Method.{Method}
use Rattle.ix_core.specs.Objects.{claim_names, post_names, Names, PostsName}
use Rattle.ix_core.specs.Tables.{param_slot}
use Rattle.ix_errors.specs.declared.ranked.Ranked.{Ranked}
use Rattle.ix_errors.specs.Exactly.{AreExactly}
use Rattle.ix_signatures.specs.SignErrors.{plain, part}
use Rattle.ix_errors.proofs.Refused.{exactly_none}
use Rattle.ix_sign.specs.RuleErrors.{AssignsNamed}
use Rattle.ix_errors.specs.Parameters.{is_param, some_param, names_param, some_names_param, post_names_param, some_post_names_param, param_of, is_named_by, is_named}

param_is : (number : ℕ) (name : Name) → (is_param number name ≡ true) ↔ (name ≡ Param number)
param_is number (Param other) = (λ t. ap Param (eqb-true other number t), λ e. let same : other ≡ number = cc in eq-eqb other number same)
param_is number (Local other) = (λ t. absurd (false≢true t), λ e. absurd cc)
param_is number (FieldNamed field) = (λ t. absurd (false≢true t), λ e. absurd cc)

-- a name of the list is that of the parameter
abbrev Among : ℕ → List Name → Type 0
Among number names = (at : ℕ) × (slice_get names at ≡ Some (Param number))

some_among : (number : ℕ) (names : List Name) → some_param number names ≡ true → Among number names
some_among number [] t = absurd (false≢true t)
some_among number (name ∷ names) t =
    ⊎_elim
    (λ first. (0, ap Some ((param_is number name).0 first)))
    (λ later. let d = some_among number names later in (suc d.0, d.1))
    (or_cases (is_param number name) (some_param number names) t)

among_some : (number : ℕ) (names : List Name) (at : ℕ) → slice_get names at ≡ Some (Param number) → some_param number names ≡ true
among_some number [] at here = absurd cc
among_some number (name ∷ names) zero here = let same : name ≡ Param number = cc in or_left (is_param number name) (some_param number names) ((param_is number name).1 same)
among_some number (name ∷ names) (suc at) here = or_right (is_param number name) (some_param number names) (among_some number names at here)

claims_named : (number : ℕ) (claims : List Claim) → some_names_param number claims ≡ true → Names claims (Param number)
claims_named number [] t = absurd (false≢true t)
claims_named number (claim ∷ claims) t =
    ⊎_elim
    (λ first. let d = some_among number (claim_names claim) first in (0, d.0, claim, refl, d.1))
    (λ later. let d = claims_named number claims later in (suc d.0, d.1, d.2, d.3, d.4))
    (or_cases (names_param number claim) (some_names_param number claims) t)

named_claims : (number : ℕ) (claims : List Claim) (k at : ℕ) (claim : Claim) → slice_get claims k ≡ Some claim → slice_get (claim_names claim) at ≡ Some (Param number) → some_names_param number claims ≡ true
named_claims number [] k at claim has here = absurd cc
named_claims number (first ∷ claims) zero at claim has here =
    let same : first ≡ claim = cc in
    or_left (names_param number first) (some_names_param number claims) (subst (λ c. names_param number c ≡ true) (sym same) (among_some number (claim_names claim) at here))
named_claims number (first ∷ claims) (suc k) at claim has here = or_right (names_param number first) (some_names_param number claims) (named_claims number claims k at claim has here)

posts_named : (number : ℕ) (posts : List Post) → some_post_names_param number posts ≡ true → PostsName posts (Param number)
posts_named number [] t = absurd (false≢true t)
posts_named number (post ∷ posts) t =
    ⊎_elim
    (λ first. let d = some_among number (post_names post) first in (0, d.0, post, refl, d.1))
    (λ later. let d = posts_named number posts later in (suc d.0, d.1, d.2, d.3, d.4))
    (or_cases (post_names_param number post) (some_post_names_param number posts) t)

named_posts : (number : ℕ) (posts : List Post) (k at : ℕ) (post : Post) → slice_get posts k ≡ Some post → slice_get (post_names post) at ≡ Some (Param number) → some_post_names_param number posts ≡ true
named_posts number [] k at post has here = absurd cc
named_posts number (first ∷ posts) zero at post has here =
    let same : first ≡ post = cc in
    or_left (post_names_param number first) (some_post_names_param number posts) (subst (λ p. post_names_param number p ≡ true) (sym same) (among_some number (post_names post) at here))
named_posts number (first ∷ posts) (suc k) at post has here = or_right (post_names_param number first) (some_post_names_param number posts) (named_posts number posts k at post has here)

-- ---- slots

abbrev slot_by : Bool → ℕ → ℕ
slot_by static number = if static then number else number + 1

param_slots : (static : Bool) (slot number : ℕ) → param_of static slot ≡ Some number → slot ≡ slot_by static number
param_slots true slot number e = cc
param_slots false zero number e = absurd cc
param_slots false (suc slot) number e = let same : slot ≡ number = cc in ap suc same ∙ omega arith

slots_param : (static : Bool) (number : ℕ) → param_of static (slot_by static number) ≡ Some number
slots_param true number = refl
slots_param false number = let e : suc number ≡ number + 1 = omega arith in subst (λ slot. param_of false slot ≡ Some number) e refl

-- a claim of the result or a post names the parameter
abbrev IsNamed : Method → ℕ → Type 0
IsNamed method number = Names method.result_claims (Param number) ⊎ PostsName method.posts (Param number)

-- the parameter that has the slot is named
abbrev NamedAt : Method → ℕ → Type 0
NamedAt method slot = (number : ℕ) × IsNamed method number × (slot ≡ param_slot method number)

named_by : (method : Method) (number : ℕ) → is_named_by method (Some number) ≡ true → IsNamed method number
named_by method number t =
    ⊎_elim (λ claims. inl (claims_named number method.result_claims claims)) (λ posts. inr (posts_named number method.posts posts))
    (or_cases (some_names_param number method.result_claims) (some_post_names_param number method.posts) t)

by_named : (method : Method) (number : ℕ) → IsNamed method number → is_named_by method (Some number) ≡ true
by_named method number named =
    ⊎_elim
    (λ n. or_left (some_names_param number method.result_claims) (some_post_names_param number method.posts) (named_claims number method.result_claims n.0 n.1 n.2 n.3 n.4))
    (λ n. or_right (some_names_param number method.result_claims) (some_post_names_param number method.posts) (named_posts number method.posts n.0 n.1 n.2 n.3 n.4))
    named

named_from : (method : Method) (slot : ℕ) (found : Option ℕ) → param_of method.is_static slot ≡ found → is_named_by method found ≡ true → NamedAt method slot
named_from method slot None of t = absurd (false≢true t)
named_from method slot (Some number) of t = (number, named_by method number t, param_slots method.is_static slot number of)

named_at : (method : Method) (slot : ℕ) → is_named method slot ≡ true → NamedAt method slot
named_at method slot t = named_from method slot (param_of method.is_static slot) refl t

named_is : (method : Method) (number : ℕ) → IsNamed method number → is_named method (param_slot method number) ≡ true
named_is method number n = subst (λ found. is_named_by method found ≡ true) (sym (slots_param method.is_static number)) (by_named method number n)

-- ---- errors

module _ (method : Method) (done : Op) where
  pub named_error : (target source : ℕ) (ty : Type_) → done.kind ≡ op.Copy target source ty → is_named method target ≡ true
      → AreExactly (AssignsNamed method done) (record { error = plain 15 (part done 0); rank = 0 } ∷ [])
  named_error target source ty copies t =
      let d = named_at method target t in
      let assigns : done.kind ≡ op.Copy (param_slot method d.0) source ty = copies ∙ ap (λ slot. op.Copy slot source ty) d.2 in
      record {
        all = λ error rank a. let e = a.is in let f = a.first in inl cc;
        only = λ found i. ⊎_elim (λ same. record { number = d.0; named = d.1; source = source; ty = ty; assigns = assigns; is = ap (λ (r : Ranked). r.error) same; first = ap (λ (r : Ranked). r.rank) same }) (λ none. absurd none) i;
      }

  pub not_named : (target source : ℕ) (ty : Type_) → done.kind ≡ op.Copy target source ty → is_named method target ≡ false → AreExactly (AssignsNamed method done) []
  not_named target source ty copies f =
      exactly_none (AssignsNamed method done)
      (λ error rank a.
      let e : op.Copy target source ty ≡ op.Copy (param_slot method a.number) a.source a.ty = sym copies ∙ a.assigns in
      let same : target ≡ param_slot method a.number = cc in
      false≢true (sym f ∙ subst (λ slot. is_named method slot ≡ true) (sym same) (named_is method a.number a.named)))
