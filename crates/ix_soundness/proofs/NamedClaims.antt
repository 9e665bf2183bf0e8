-- What the claims of a formed program name: each name has a type, so parameters and results name parameters that are there, and fields of `this`.
use Rattle.std.specs.Prelude.{◌≡◌, ℕ, zero, suc, ◌+◌, ◌<◌, ◌≤◌, nat_lt, ◌==◌, Bool, true, false, not, ◌&&◌, ◌||◌, if◌then◌else◌, List, [], ◌∷◌, length, slice_get, Option, None, Some, unwrap_or, refl}
use Rattle.std.specs.List.{list_all}
use Rattle.std.proofs.Common.{arith, sym, ap, subst, ◌∙◌}
use Rattle.std.proofs.lemmas.Bool.{and_parts, false≢true}
use Rattle.std.proofs.lemmas.Bool.Decides.{nat_tests}
use Rattle.std.proofs.lemmas.Option.{slice_get_past, slice_get_within}
use Rattle.ix_core.specs.declared.claim.Claim.{Claim}
use Rattle.ix_core.specs.declared.claim.Claim.TheVariants.{Range, Low, Length, Same, Less, Upper, Search, Negative}
use Rattle.ix_core.specs.declared.claim.Name.{Name}
use Rattle.ix_core.specs.declared.claim.Name.TheVariants.{Param, Local, FieldNamed}
use Rattle.ix_core.specs.declared.claim.Off.{Off}
use Rattle.ix_core.specs.declared.claim.Post.{Post}
use Rattle.ix_core.specs.declared.claim.Off.TheVariants.{Nothing, Plus, Minus}
use Rattle.ix_core.specs.declared.claim.Type_.{Type_}
use Rattle.ix_core.specs.declared.program.Field.{Field}
use Rattle.ix_core.specs.declared.program.Local.{Local as Variable}
use Rattle.ix_core.specs.declared.program.Method.{Method}
use Rattle.ix_core.specs.declared.program.Program.{Program}
use Rattle.ix_core.specs.Formed.{is_formed, claim_fits, offset_fits, is_int_of, is_array_of, named_type, others, params_fit, fields_fit, field_type_of_name, post_fits, has_no_posts}
use Rattle.ix_core.specs.Objects.{Names, PostsName, post_names, claim_names, offset_names}
use Rattle.ix_core.specs.SameClaims.{same_name}
use Rattle.ix_core.specs.Tables.{no_field, field_at, method_at, param_slot, all_fields, is_among}
use Rattle.ix_core.specs.Types.{int_type, is_void, is_type, is_int_type, is_array_type, is_empty, is_class}
use Rattle.ix_core.proofs.Cases.{by_test, equal}
use Rattle.ix_core.proofs.FormedParts.{fields_all, posts_are}
use Rattle.ix_core.proofs.TypedCalls.{method_has, params_count}

-- ---- each name of a claim that fits has a type

abbrev pub HasType : (Name → Option Type_) → Name → Type 0
HasType types name = (ty : Type_) × (types name ≡ Some ty)

some_int : (o : Option Type_) → is_int_of o ≡ true → (ty : Type_) × (o ≡ Some ty)
some_int None fits = absurd (false≢true fits)
some_int (Some ty) fits = (ty, refl)

some_array : (o : Option Type_) → is_array_of o ≡ true → (ty : Type_) × (o ≡ Some ty)
some_array None fits = absurd (false≢true fits)
some_array (Some ty) fits = (ty, refl)

int_named : (types : Name → Option Type_) (other name : Name) → is_int_of (types other) ≡ true → ◌≡◌ {A = Option Name} (Some other) (Some name) → HasType types name
int_named types other name fits is = subst (HasType types) (ap (λ (o : Option Name). unwrap_or o other) is) (some_int (types other) fits)

array_named : (types : Name → Option Type_) (other name : Name) → is_array_of (types other) ≡ true → ◌≡◌ {A = Option Name} (Some other) (Some name) → HasType types name
array_named types other name fits is = subst (HasType types) (ap (λ (o : Option Name). unwrap_or o other) is) (some_array (types other) fits)

offset_named : (types : Name → Option Type_) (offset : Off) (name : Name) (at : ℕ) → offset_fits types offset ≡ true → slice_get (offset_names offset) at ≡ Some name → HasType types name
offset_named types Nothing name at fits is = absurd cc
offset_named types (Plus other) name zero fits is = int_named types other name fits is
offset_named types (Plus other) name (suc at) fits is = absurd cc
offset_named types (Minus other) name zero fits is = int_named types other name fits is
offset_named types (Minus other) name (suc at) fits is = absurd cc

claim_named : (ty : Type_) (types : Name → Option Type_) (claim : Claim) (name : Name) (at : ℕ) → claim_fits ty types claim ≡ true → slice_get (claim_names claim) at ≡ Some name → HasType types name
claim_named ty types (Range low high) name at fits is = absurd cc
claim_named ty types (Low low) name at fits is = absurd cc
claim_named ty types (Length least) name at fits is = absurd cc
claim_named ty types (Same other) name zero fits is = array_named types other name (and_parts (is_array_type ty) (is_array_of (types other)) fits).1 is
claim_named ty types (Same other) name (suc at) fits is = absurd cc
claim_named ty types (Less other constant) name zero fits is = int_named types other name (and_parts (is_int_type ty) (is_int_of (types other)) fits).1 is
claim_named ty types (Less other constant) name (suc at) fits is = absurd cc
claim_named ty types (Upper array offset constant) name zero fits is =
    array_named types array name (and_parts (is_array_of (types array)) (offset_fits types offset) (and_parts (is_int_type ty) (is_array_of (types array) && offset_fits types offset) fits).1).0 is
claim_named ty types (Upper array offset constant) name (suc at) fits is =
    offset_named types offset name at (and_parts (is_array_of (types array)) (offset_fits types offset) (and_parts (is_int_type ty) (is_array_of (types array) && offset_fits types offset) fits).1).1 is
claim_named ty types (Search array) name zero fits is = array_named types array name (and_parts (is_int_type ty) (is_array_of (types array)) fits).1 is
claim_named ty types (Search array) name (suc at) fits is = absurd cc
claim_named ty types (Negative array) name zero fits is = array_named types array name (and_parts (is_int_type ty) (is_array_of (types array)) fits).1 is
claim_named ty types (Negative array) name (suc at) fits is = absurd cc

pub claims_named : (ty : Type_) (types : Name → Option Type_) (claims : List Claim) (name : Name) → list_all (claim_fits ty types) claims ≡ true → Names claims name → HasType types name
claims_named ty types [] name fits (k, at, claim, is, named) = absurd cc
claims_named ty types (first ∷ claims) name fits (zero, at, claim, is, named) =
    let same : first ≡ claim = ap (λ (o : Option Claim). unwrap_or o first) is in
    claim_named ty types claim name at (subst (λ c. claim_fits ty types c ≡ true) same (and_parts (claim_fits ty types first) (list_all (claim_fits ty types) claims) fits).0) named
claims_named ty types (first ∷ claims) name fits (suc k, at, claim, is, named) =
    claims_named ty types claims name (and_parts (claim_fits ty types first) (list_all (claim_fits ty types) claims) fits).1 (k, at, claim, is, named)

-- ---- what may be named

-- a parameter that is there, or a field of a built `this`
abbrev pub MayName : Method → Name → Type 0
MayName method (Param number) = number < length method.params
MayName method (Local number) = ⊥
MayName method (FieldNamed field) = (method.is_static ≡ false) × (method.constructor ≡ false)

module _ (program : Program) (locals : List (List Type_)) (formed : is_formed program locals ≡ true) where
  pub no_type : {A : Type 0} (ty : Type_) → ◌≡◌ {A = Option Type_} None (Some ty) → A
  no_type ty is = absurd cc

  field_this : (method : Method) (static constructor : Bool) → method.is_static ≡ static → method.constructor ≡ constructor → (field : ℕ) (ty : Type_) → named_type program method (FieldNamed field) ≡ Some ty → (static ≡ false) × (constructor ≡ false)
  field_this method false false s c field ty is = (refl, refl)
  field_this method true constructor s c field ty is = no_type ty (sym (rw s refl) ∙ is)
  field_this method false true s c field ty is = no_type ty (sym (rw (s, c) refl) ∙ is)

  may_name : (method : Method) → length method.params ≡ length method.param_types → (name : Name) → HasType (named_type program method) name → MayName method name
  may_name method count (Param number) (ty, is) = (let lt = slice_get_within method.param_types number ty is in omega (arith, lt, count))
  may_name method count (Local number) (ty, is) = no_type ty is
  may_name method count (FieldNamed field) (ty, is) = field_this method method.is_static method.constructor refl refl field ty is

  pub other_type : (itself : Name) (types : Name → Option Type_) (name : Name) → HasType (others itself types) name → HasType types name × (same_name itself name ≡ false)
  other_type itself types name (ty, is) = by_test (same_name itself name)
      (λ t. no_type ty (sym (rw t refl) ∙ is))
      (λ t. ((ty, sym (rw t refl) ∙ is), t))

  pub count_params : (number : ℕ) → number < length program.methods → length (method_at program number).params ≡ length (method_at program number).param_types
  count_params number lt = params_count program locals formed (method_at program number) 0 (method_at program number).params (method_at program number).param_types (method_has program locals formed number lt).params

  param_fits : (method : Method) (first : ℕ) (params : List Variable) (types : List Type_) (k : ℕ) (param : Variable) → params_fit program method first params types ≡ true → slice_get params k ≡ Some param
      → (ty : Type_) × (list_all (claim_fits ty (others (Param (first + k)) (named_type program method))) param.claims ≡ true)
  param_fits method first [] types k param fits is = absurd cc
  param_fits method first (one ∷ params) [] k param fits is = absurd (false≢true fits)
  param_fits method first (one ∷ params) (ty ∷ types) zero param fits is =
      let a = and_parts (one.slot == param_slot method first) _ fits in
      let b = and_parts (is_type program ty) _ a.1 in
      let c = and_parts (list_all (claim_fits ty (others (Param first) (named_type program method))) one.claims) (params_fit program method (first + 1) params types) b.1 in
      let same : one ≡ param = ap (λ (o : Option Variable). unwrap_or o one) is in
      let e : first ≡ first + 0 = omega arith in
      (ty, subst (λ n. list_all (claim_fits ty (others (Param n) (named_type program method))) param.claims ≡ true) e (subst (λ (v : Variable). list_all (claim_fits ty (others (Param first) (named_type program method))) v.claims ≡ true) same c.0))
  param_fits method first (one ∷ params) (ty ∷ types) (suc k) param fits is =
      let a = and_parts (one.slot == param_slot method first) _ fits in
      let b = and_parts (is_type program ty) _ a.1 in
      let c = and_parts (list_all (claim_fits ty (others (Param first) (named_type program method))) one.claims) (params_fit program method (first + 1) params types) b.1 in
      let rest = param_fits method (first + 1) params types k param c.1 is in
      let e : first + 1 + k ≡ first + suc k = omega arith in
      (rest.0, subst (λ n. list_all (claim_fits rest.0 (others (Param n) (named_type program method))) param.claims ≡ true) e rest.1)

  -- the claims of a parameter
  pub param_names : (number : ℕ) → number < length program.methods → (k : ℕ) (param : Variable) → slice_get (method_at program number).params k ≡ Some param → (name : Name) → Names param.claims name
      → MayName (method_at program number) name × (same_name (Param k) name ≡ false)
  param_names number lt k param is name named =
      let method = method_at program number in
      let fits = param_fits method 0 method.params method.param_types k param (method_has program locals formed number lt).params is in
      let e : 0 + k ≡ k = omega arith in
      let other = other_type (Param k) (named_type program method) name (claims_named fits.0 _ param.claims name (subst (λ n. list_all (claim_fits fits.0 (others (Param n) (named_type program method))) param.claims ≡ true) e fits.1) named) in
      (may_name method (count_params number lt) name other.0, other.1)

  -- and of a result
  pub result_names : (number : ℕ) → number < length program.methods → (name : Name) → Names (method_at program number).result_claims name → MayName (method_at program number) name
  result_names number lt name named = by_void (is_void method.result) (method_has program locals formed number lt).result
    where
      method : Method
      method = method_at program number

      no_name : (claims : List Claim) → is_empty claims ≡ true → Names claims name → MayName method name
      no_name [] e (k, at, claim, is, more) = absurd cc
      no_name (claim ∷ claims) e more = absurd (false≢true e)

      by_void : (t : Bool) → (if t then is_empty method.result_claims else is_type program method.result && list_all (claim_fits method.result (named_type program method)) method.result_claims) ≡ true → MayName method name
      by_void true e = no_name method.result_claims e named
      by_void false e = may_name method (count_params number lt) name (claims_named method.result (named_type program method) method.result_claims name (and_parts (is_type program method.result) _ e).1 named)

  -- and of posts
  post_named : (method : Method) (post : Post) (name : Name) (at : ℕ) → post_fits program method post ≡ true → slice_get (post_names post) at ≡ Some name → HasType (named_type program method) name
  post_named method post name zero fits is = int_named (named_type program method) post.on name (and_parts (is_int_of (named_type program method post.on)) (claim_fits int_type (named_type program method) post.claim) fits).0 is
  post_named method post name (suc at) fits is = claim_named int_type (named_type program method) post.claim name at (and_parts (is_int_of (named_type program method post.on)) (claim_fits int_type (named_type program method) post.claim) fits).1 is

  posts_named : (method : Method) (posts : List Post) (name : Name) → list_all (post_fits program method) posts ≡ true → PostsName posts name → HasType (named_type program method) name
  posts_named method [] name fits (k, at, post, is, named) = absurd cc
  posts_named method (first ∷ posts) name fits (zero, at, post, is, named) =
      let same : first ≡ post = ap (λ (o : Option Post). unwrap_or o first) is in
      post_named method post name at (subst (λ p. post_fits program method p ≡ true) same (and_parts (post_fits program method first) (list_all (post_fits program method) posts) fits).0) named
  posts_named method (first ∷ posts) name fits (suc k, at, post, is, named) =
      posts_named method posts name (and_parts (post_fits program method first) (list_all (post_fits program method) posts) fits).1 (k, at, post, is, named)

  pub promised_names : (number : ℕ) → number < length program.methods → (name : Name) → PostsName (method_at program number).posts name → MayName (method_at program number) name
  promised_names number lt name named =
      let method = method_at program number in
      let one = and_parts (not method.constructor || has_no_posts method.posts) _ (posts_are program locals formed number lt) in
      let two = and_parts (list_all (post_fits program method) method.posts) _ one.1 in
      may_name method (count_params number lt) name (posts_named method method.posts name two.0 named)

  -- ---- fields

  field_fits_at : (first : ℕ) (fields : List Field) (k : ℕ) → fields_fit program first fields ≡ true → k < length fields
      → list_all (claim_fits (unwrap_or (slice_get fields k) no_field).ty (others (FieldNamed (first + k)) (field_type_of_name program (unwrap_or (slice_get fields k) no_field)))) (unwrap_or (slice_get fields k) no_field).claims ≡ true
  field_fits_at first [] k fits lt = absurd (omega (arith, lt))
  field_fits_at first (field ∷ fields) zero fits lt =
      let a = and_parts (is_class program field.class) _ fits in
      let b = and_parts (is_type program field.ty) _ a.1 in
      let c = and_parts (list_all (claim_fits field.ty (others (FieldNamed first) (field_type_of_name program field))) field.claims) (fields_fit program (first + 1) fields) b.1 in
      let e : first ≡ first + 0 = omega arith in
      subst (λ n. list_all (claim_fits field.ty (others (FieldNamed n) (field_type_of_name program field))) field.claims ≡ true) e c.0
  field_fits_at first (field ∷ fields) (suc k) fits lt =
      let a = and_parts (is_class program field.class) _ fits in
      let b = and_parts (is_type program field.ty) _ a.1 in
      let c = and_parts (list_all (claim_fits field.ty (others (FieldNamed first) (field_type_of_name program field))) field.claims) (fields_fit program (first + 1) fields) b.1 in
      let e : first + 1 + k ≡ first + suc k = omega arith in
      let there : Field = unwrap_or (slice_get fields k) no_field in
      subst (λ n. list_all (claim_fits there.ty (others (FieldNamed n) (field_type_of_name program there))) there.claims ≡ true) e (field_fits_at (first + 1) fields k c.1 (omega (arith, lt)))

  -- what a claim of a field names: a field of its class, or one that is final
  pub record NamesField (field : ℕ) (name : Name) : Type 0 where
    pub other : ℕ
    pub is : name ≡ FieldNamed other
    pub same : ((field_at program other).is_final ≡ false) → (field_at program other).class ≡ (field_at program field).class

  field_named : (field : Field) (name : Name) → HasType (field_type_of_name program field) name → (other : ℕ) × (name ≡ FieldNamed other) × (((field_at program other).is_final ≡ false) → (field_at program other).class ≡ field.class)
  field_named field (Param number) (ty, is) = no_type ty is
  field_named field (Local number) (ty, is) = no_type ty is
  field_named field (FieldNamed other) (ty, is) = (
    other,
    refl,
    λ plain. by_test (is_among (all_fields program field.class) other && (((field_at program other).class == field.class) || (field_at program other).is_final))
        (λ t. same_class (and_parts (is_among (all_fields program field.class) other) _ t).1 plain)
        (λ t. no_type ty (sym (rw t refl) ∙ is)),
  )
    where
      same_class : (((field_at program other).class == field.class) || (field_at program other).is_final) ≡ true → (field_at program other).is_final ≡ false → (field_at program other).class ≡ field.class
      same_class e plain = by_test ((field_at program other).class == field.class)
          (λ t. equal (field_at program other).class field.class t)
          (λ t. absurd (false≢true (sym (rw (t, plain) refl) ∙ e)))

  pub field_names : (field : ℕ) (name : Name) → Names (field_at program field).claims name → NamesField field name
  field_names field name named =
      by_test (nat_lt field (length program.fields))
      (λ t.
      let within : field < length program.fields = grind (arith, nat_tests) in
      let fits = field_fits_at 0 program.fields field (fields_all program locals formed) within in
      let found = field_named (field_at program field) name (other_type (FieldNamed (0 + field)) (field_type_of_name program (field_at program field)) name (claims_named _ _ (field_at program field).claims name fits named)).0 in
      record { other = found.0; is = found.1; same = found.2 })
      (λ t.
      let le : length program.fields ≤ field = grind (arith, nat_tests) in
      none_named (ap (λ (o : Option Field). (unwrap_or o no_field).claims) (slice_get_past program.fields field le)) named)
    where
      none_named : {A : Type 0} → (field_at program field).claims ≡ [] → Names (field_at program field).claims name → A
      none_named e named = let n = subst (λ claims. Names claims name) e named in none_there n.0 n.2 n.3
        where
          none_there : {A : Type 0} (k : ℕ) (claim : Claim) → slice_get [] k ≡ Some claim → A
          none_there k claim is = absurd cc
