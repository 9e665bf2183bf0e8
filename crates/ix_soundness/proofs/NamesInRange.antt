-- The claims of a formed program name parameters that are there.
use Rattle.std.specs.Prelude.{◌≡◌, ℕ, zero, suc, ◌+◌, ◌≤◌, ◌<◌, ◌^◌, ◌==◌, Bool, true, false, not, ◌&&◌, ◌||◌, if◌then◌else◌, List, [], ◌∷◌, length, slice_get, Option, None, Some, unwrap_or, refl}
use Rattle.std.specs.List.{list_all}
use Rattle.std.proofs.Common.{arith, ap, subst}
use Rattle.std.proofs.lemmas.Bool.{and_parts, false≢true}
use Rattle.std.proofs.lemmas.Bool.Decides.{nat_tests}
use Rattle.std.proofs.lemmas.Option.{slice_get_within}
use Rattle.ix_text.specs.declared.span.Span.{Span}
use Rattle.ix_core.specs.declared.claim.Claim.{Claim}
use Rattle.ix_core.specs.declared.claim.Claim.TheVariants as claim
use Rattle.ix_core.specs.declared.claim.Name.{Name}
use Rattle.ix_core.specs.declared.claim.Name.TheVariants.{Param, Local, FieldNamed}
use Rattle.ix_core.specs.declared.claim.Off.{Off}
use Rattle.ix_core.specs.declared.claim.Off.TheVariants as off
use Rattle.ix_core.specs.declared.claim.Post.{Post}
use Rattle.ix_core.specs.declared.claim.Type_.{Type_}
use Rattle.ix_core.specs.declared.program.Field.{Field}
use Rattle.ix_core.specs.declared.program.Local.{Local as Variable}
use Rattle.ix_core.specs.declared.program.Method.{Method}
use Rattle.ix_core.specs.declared.program.Program.{Program}
use Rattle.ix_core.specs.Formed.{at_most, is_int_of, is_array_of, claim_fits, offset_fits, others, named_type, local_named_type, params_fit, locals_fit, result_fits, fields_fit, field_type_of_name, is_target, has_no_posts, post_fits, posts_fit}
use Rattle.ix_core.specs.Objects.{claim_names, offset_names}
use Rattle.ix_core.specs.SameClaims.{same_name}
use Rattle.ix_core.specs.Tables.{no_field, param_slot, param_slots}
use Rattle.ix_core.specs.Types.{int_type, is_class, is_type, is_empty, is_void, is_int_type, is_array_type}
use Rattle.ix_core.proofs.Cases.{by_test}
use Rattle.ix_signatures.specs.Naming.{IsSmallName, AreSmallNames, AreSmallClaims, AreSmallParams, AreSmallLocals, AreSmallPosts}

pub most_is : (count most : ℕ) → at_most count most ≡ true → count ≤ most
most_is count most e = grind (arith, nat_tests)

-- ---- claims

-- a name is of a type where it is an int or an array
int_there : (ty : Option Type_) → is_int_of ty ≡ true → (held : Type_) × (ty ≡ Some held)
int_there None e = absurd (false≢true e)
int_there (Some ty) e = (ty, refl)

array_there : (ty : Option Type_) → is_array_of ty ≡ true → (held : Type_) × (ty ≡ Some held)
array_there None e = absurd (false≢true e)
array_there (Some ty) e = (ty, refl)

-- where each name that has a type is a small one, the names of a claim that fits are small ones
abbrev AreSmall : (Name → Option Type_) → Type 0
AreSmall types = (name : Name) (ty : Type_) → types name ≡ Some ty → IsSmallName name

module _ (types : Name → Option Type_) (small : AreSmall types) where
  int_small : (name : Name) → is_int_of (types name) ≡ true → IsSmallName name
  int_small name e = let t = int_there (types name) e in small name t.0 t.1

  array_small : (name : Name) → is_array_of (types name) ≡ true → IsSmallName name
  array_small name e = let t = array_there (types name) e in small name t.0 t.1

  offset_small : (offset : Off) → offset_fits types offset ≡ true → AreSmallNames (offset_names offset)
  offset_small off.Nothing fits = tt
  offset_small (off.Plus name) fits = (int_small name fits, tt)
  offset_small (off.Minus name) fits = (int_small name fits, tt)

  claim_small : (ty : Type_) (claim : Claim) → claim_fits ty types claim ≡ true → AreSmallNames (claim_names claim)
  claim_small ty (claim.Range low high) fits = tt
  claim_small ty (claim.Low low) fits = tt
  claim_small ty (claim.Length least) fits = tt
  claim_small ty (claim.Same other) fits = (array_small other (and_parts (is_array_type ty) _ fits).1, tt)
  claim_small ty (claim.Less name constant) fits = (int_small name (and_parts (is_int_type ty) _ fits).1, tt)
  claim_small ty (claim.Upper array offset constant) fits =
      let a = and_parts (is_array_of (types array)) (offset_fits types offset) (and_parts (is_int_type ty) _ fits).1 in
      (array_small array a.0, offset_small offset a.1)
  claim_small ty (claim.Search array) fits = (array_small array (and_parts (is_int_type ty) _ fits).1, tt)
  claim_small ty (claim.Negative array) fits = (array_small array (and_parts (is_int_type ty) _ fits).1, tt)

  claims_small : (ty : Type_) (claims : List Claim) → list_all (claim_fits ty types) claims ≡ true → AreSmallClaims claims
  claims_small ty [] fits = tt
  claims_small ty (claim ∷ claims) fits =
      let a = and_parts (claim_fits ty types claim) (list_all (claim_fits ty types) claims) fits in
      (claim_small ty claim a.0, claims_small ty claims a.1)

-- but for the declaration itself
others_small : (itself : Name) (types : Name → Option Type_) → AreSmall types → AreSmall (others itself types)
others_small itself types small name ty is =
    by_test (same_name itself name)
    (λ t. let none : ◌≡◌ {A = Option Type_} None (Some ty) = subst (λ b. (if b then None else types name) ≡ Some ty) t is in absurd cc)
    (λ t. small name ty (subst (λ b. (if b then None else types name) ≡ Some ty) t is))

-- ---- methods

module _ (program : Program) (method : Method) (few : length method.param_types ≤ 512) where
  param_there : (number : ℕ) (ty : Type_) → slice_get method.param_types number ≡ Some ty → number + 1 < 2 ^ 32
  param_there number ty is = let within = slice_get_within method.param_types number ty is in omega (arith, within, few)

  named_small : AreSmall (named_type program method)
  named_small (Param number) ty is = param_there number ty is
  named_small (Local number) ty is = tt
  named_small (FieldNamed field) ty is = tt

  local_named_small : (locals : List Type_) (span : Span) → AreSmall (local_named_type program method locals span)
  local_named_small locals span (Param number) ty is = param_there number ty is
  local_named_small locals span (Local number) ty is = tt
  local_named_small locals span (FieldNamed field) ty is = tt

  pub params_small : (number : ℕ) (params : List Variable) (types : List Type_) → params_fit program method number params types ≡ true → AreSmallParams params
  params_small number [] types fits at param is = absurd cc
  params_small number (first ∷ params) [] fits at param is = absurd (false≢true fits)
  params_small number (first ∷ params) (ty ∷ types) fits zero param is =
      let a = and_parts (first.slot == param_slot method number) _ fits in
      let b = and_parts (is_type program ty) _ a.1 in
      let c = and_parts (list_all (claim_fits ty (others (Param number) (named_type program method))) first.claims) (params_fit program method (number + 1) params types) b.1 in
      subst (λ (p : Variable). AreSmallClaims p.claims) (ap (λ (o : Option Variable). unwrap_or o first) is)
      (claims_small (others (Param number) (named_type program method)) (others_small (Param number) (named_type program method) named_small) ty first.claims c.0)
  params_small number (first ∷ params) (ty ∷ types) fits (suc at) param is =
      let a = and_parts (first.slot == param_slot method number) _ fits in
      let b = and_parts (is_type program ty) _ a.1 in
      let c = and_parts (list_all (claim_fits ty (others (Param number) (named_type program method))) first.claims) (params_fit program method (number + 1) params types) b.1 in
      params_small (number + 1) params types c.1 at param is

  pub locals_small : (held : List Type_) (number : ℕ) (locals : List (Variable × Span)) (types : List Type_) → locals_fit program method held number locals types ≡ true → AreSmallLocals locals
  locals_small held number [] types fits at local is = absurd cc
  locals_small held number (first ∷ locals) [] fits at local is = absurd (false≢true fits)
  locals_small held number (first ∷ locals) (ty ∷ types) fits zero local is =
      let named = local_named_type program method held first.1 in
      let a = and_parts (is_target program method first.0.slot) _ fits in
      let b = and_parts (is_type program ty) _ a.1 in
      let c = and_parts (list_all (claim_fits ty (others (Local number) named)) first.0.claims) (locals_fit program method held (number + 1) locals types) b.1 in
      subst (λ (l : Variable × Span). AreSmallClaims l.0.claims) (ap (λ (o : Option (Variable × Span)). unwrap_or o first) is)
      (claims_small (others (Local number) named) (others_small (Local number) named (local_named_small held first.1)) ty first.0.claims c.0)
  locals_small held number (first ∷ locals) (ty ∷ types) fits (suc at) local is =
      let a = and_parts (is_target program method first.0.slot) _ fits in
      let b = and_parts (is_type program ty) _ a.1 in
      let c = and_parts (list_all (claim_fits ty (others (Local number) (local_named_type program method held first.1))) first.0.claims) (locals_fit program method held (number + 1) locals types) b.1 in
      locals_small held (number + 1) locals types c.1 at local is

  pub result_small : result_fits program method ≡ true → AreSmallClaims method.result_claims
  result_small fits =
      by_test (is_void method.result)
      (λ t. none_small method.result_claims (subst (λ b. (if b then is_empty method.result_claims else is_type program method.result && list_all (claim_fits method.result (named_type program method)) method.result_claims) ≡ true) t fits))
      (λ t.
      let f = subst (λ b. (if b then is_empty method.result_claims else is_type program method.result && list_all (claim_fits method.result (named_type program method)) method.result_claims) ≡ true) t fits in
      claims_small (named_type program method) named_small method.result method.result_claims (and_parts (is_type program method.result) _ f).1)
    where
      none_small : (claims : List Claim) → is_empty claims ≡ true → AreSmallClaims claims
      none_small [] e = tt
      none_small (claim ∷ claims) e = absurd (false≢true e)

  posts_small : (posts : List Post) → list_all (post_fits program method) posts ≡ true → AreSmallPosts posts
  posts_small [] fits = tt
  posts_small (post ∷ posts) fits =
      let one = and_parts (post_fits program method post) (list_all (post_fits program method) posts) fits in
      let two = and_parts (is_int_of (named_type program method post.on)) (claim_fits int_type (named_type program method) post.claim) one.0 in
      ((int_small (named_type program method) named_small post.on two.0, claim_small (named_type program method) named_small int_type post.claim two.1), posts_small posts one.1)

  pub promises_small : posts_fit program method ≡ true → AreSmallPosts method.posts
  promises_small fits =
      let one = and_parts (not method.constructor || has_no_posts method.posts) _ fits in
      posts_small method.posts (and_parts (list_all (post_fits program method) method.posts) _ one.1).0

-- ---- how many parameters there are

module _ (program : Program) (method : Method) where
  pub as_many_types : (number : ℕ) (params : List Variable) (types : List Type_) → params_fit program method number params types ≡ true → length params ≡ length types
  as_many_types number [] [] fits = refl
  as_many_types number [] (ty ∷ types) fits = absurd (false≢true fits)
  as_many_types number (param ∷ params) [] fits = absurd (false≢true fits)
  as_many_types number (param ∷ params) (ty ∷ types) fits =
      let a = and_parts (param.slot == param_slot method number) _ fits in
      let b = and_parts (is_type program ty) _ a.1 in
      let c = and_parts (list_all (claim_fits ty (others (Param number) (named_type program method))) param.claims) (params_fit program method (number + 1) params types) b.1 in
      let rest = as_many_types (number + 1) params types c.1 in omega (arith, rest)

  pub few_params : at_most (param_slots method) method.slots ≡ true → at_most method.slots 512 ≡ true → length method.params ≤ 512
  few_params room few =
      let a = slots_from method.is_static (length method.params) in
      let b = most_is (param_slots method) method.slots room in
      let c = most_is method.slots 512 few in
      omega (arith, a, b, c)
    where
      slots_from : (is_static : Bool) (count : ℕ) → count ≤ (if is_static then count else count + 1)
      slots_from true count = omega arith
      slots_from false count = omega arith

-- ---- fields

module _ (program : Program) where
  no_params : (field : Field) → AreSmall (field_type_of_name program field)
  no_params field (Param number) ty is = absurd cc
  no_params field (Local number) ty is = tt
  no_params field (FieldNamed other) ty is = tt

  pub fields_small : (number : ℕ) (fields : List Field) (at : ℕ) → fields_fit program number fields ≡ true → AreSmallClaims (unwrap_or (slice_get fields at) no_field).claims
  fields_small number [] at fits = tt
  fields_small number (field ∷ fields) zero fits =
      let a = and_parts (is_class program field.class) _ fits in
      let b = and_parts (is_type program field.ty) _ a.1 in
      let types = others (FieldNamed number) (field_type_of_name program field) in
      let c = and_parts (list_all (claim_fits field.ty types) field.claims) (fields_fit program (number + 1) fields) b.1 in
      claims_small types (others_small (FieldNamed number) (field_type_of_name program field) (no_params field)) field.ty field.claims c.0
  fields_small number (field ∷ fields) (suc at) fits =
      let a = and_parts (is_class program field.class) _ fits in
      let b = and_parts (is_type program field.ty) _ a.1 in
      let c = and_parts (list_all (claim_fits field.ty (others (FieldNamed number) (field_type_of_name program field))) field.claims) (fields_fit program (number + 1) fields) b.1 in
      fields_small (number + 1) fields at c.1
