-- What the claims of a formed program's variables, fields and results add is within.
use Rattle.std.specs.Prelude.{◌≡◌, ℕ, zero, suc, ◌+◌, ◌<◌, nat_lt, ◌==◌, Bool, true, false, not, ◌&&◌, if◌then◌else◌, List, [], ◌∷◌, length, slice_get, Option, None, Some, option_map, unwrap_or}
use Rattle.std.specs.List.{list_all}
use Rattle.std.proofs.Common.{arith, sym, subst}
use Rattle.std.proofs.lemmas.Bool.{and_parts, false≢true}
use Rattle.std.proofs.lemmas.Bool.Decides.{nat_tests}
use Rattle.ix_text.specs.declared.span.Span.{Span}
use Rattle.ix_core.specs.declared.claim.Claim.{Claim}
use Rattle.ix_core.specs.declared.claim.Name.{Name}
use Rattle.ix_core.specs.declared.claim.Name.TheVariants.{Param, Local, FieldNamed}
use Rattle.ix_core.specs.declared.claim.Type_.{Type_}
use Rattle.ix_core.specs.declared.fact.Path.{Path}
use Rattle.ix_core.specs.declared.fact.Path.TheVariants.{Slot, FieldOf}
use Rattle.ix_core.specs.declared.fact.Fact.TheVariants.{Same}
use Rattle.ix_core.specs.declared.op.Arg.{Arg}
use Rattle.ix_core.specs.declared.op.CallOp.{CallOp}
use Rattle.ix_core.specs.declared.program.Field.{Field}
use Rattle.ix_core.specs.declared.program.Local.{Local as Variable}
use Rattle.ix_core.specs.declared.program.Method.{Method}
use Rattle.ix_core.specs.declared.program.Program.{Program}
use Rattle.ix_core.specs.Formed.{is_formed, is_slot, is_target, reads, named_type, local_named_type, has_this, field_type_of_name, locals_fit, params_fit, fields_fit, args_fit, claim_fits, others}
use Rattle.ix_core.specs.Tables.{method_at, field_at, no_field, param_slot, is_among}
use Rattle.ix_core.specs.Types.{Point, is_type, is_void, is_empty, is_class}
use Rattle.ix_core.proofs.Ancestors.{first_among, rest_among}
use Rattle.ix_core.proofs.Cases.{by_test}
use Rattle.ix_core.proofs.FormedParts.{fields_all, posts_are}
use Rattle.ix_core.proofs.TypedCalls.{method_has}
use Rattle.ix_facts.specs.AfterOperation.{is_int, is_array}
use Rattle.ix_rules_hold.specs.MachineSteps.{own_path}
use Rattle.ix_signatures.specs.Names.{call_path, object_path, names_field, param_in, local_in, or_else}
use Rattle.ix_signatures.specs.Signs.{claims_facts, posts_facts, params_facts, received, received_params, zero_facts, zero_fields, fields_facts, dependent_facts}
use Rattle.ix_sign.specs.MethodRules.{variable_claims, copied_claims}
use Rattle.ix_certify.proofs.Claims.{AllNamed, claims_in, posts_in, filtered_in, others_named}
use Rattle.ix_certify.proofs.Inside.{method, local_types, In, field_is, field_within, slot_of_param, names_inside, local_names_inside, field_names_inside}
use Rattle.ix_certify.proofs.ListsWithin.{Each, none, one, both, if_within}

pub received_within : (Of : Path → Type 0) (ty : Type_) (p : Path) → Of p → Each Of (received ty p)
received_within Of ty p i = if_within Of (is_array ty) (Same p p ∷ []) (one Of _ (i, i))

zero_within : (Of : Path → Type 0) (ty : Type_) (p : Path) → Of p → Each Of (zero_facts ty p)
zero_within Of ty p i = both Of _ _ (if_within Of (is_int ty) _ (one Of _ i)) (if_within Of (is_array ty) _ (one Of _ i))

module _ (program : Program) (locals : List (List Type_)) (formed : is_formed program locals ≡ true) (number : ℕ) (lt : number < length program.methods) where
  abbrev own : Method
  own = method program locals formed number lt

  abbrev types_of : List Type_
  types_of = local_types program locals formed number lt

  abbrev Inside : Path → Type 0
  Inside = In program locals formed number lt

  -- ---- parameters and locals

  param_claims : (k : ℕ) (params : List Variable) (types : List Type_) (slot : ℕ) (p : Path) → Inside p → params_fit program own k params types ≡ true
      → Each Inside (claims_facts (own_path own) p (variable_claims (param_in own slot k params)))
  param_claims k [] types slot p i fits = none
  param_claims k (param ∷ params) [] slot p i fits = absurd (false≢true fits)
  param_claims k (param ∷ params) (ty ∷ types) slot p i fits =
      let a = and_parts (param.slot == param_slot own k) _ fits in
      let b = and_parts (is_type program ty) _ a.1 in
      let c = and_parts (list_all (claim_fits ty (others (Param k) (named_type program own))) param.claims) (params_fit program own (k + 1) params types) b.1 in
      let e : suc k ≡ k + 1 = omega arith in
      by_test (slot == param_slot own k)
      (λ t. rw t (claims_in Inside (others (Param k) (named_type program own)) (own_path own) (others_named Inside (Param k) (named_type program own) (own_path own) (names_inside program locals formed number lt)) ty param.claims p c.0 i))
      (λ t. rw t (subst (λ n. Each Inside (claims_facts (own_path own) p (variable_claims (param_in own slot n params)))) (sym e) (param_claims (k + 1) params types slot p i c.1)))

  local_claims : (k : ℕ) (list : List (Variable × Span)) (types : List Type_) (slot place : ℕ) (p : Path) → Inside p → locals_fit program own types_of k list types ≡ true
      → Each Inside (claims_facts (own_path own) p (variable_claims (local_in slot place k list)))
  local_claims k [] types slot place p i fits = none
  local_claims k (local ∷ list) [] slot place p i fits = absurd (false≢true fits)
  local_claims k (local ∷ list) (ty ∷ types) slot place p i fits =
      let named = local_named_type program own types_of local.1 in
      let a = and_parts (is_target program own local.0.slot) _ fits in
      let b = and_parts (is_type program ty) _ a.1 in
      let c = and_parts (list_all (claim_fits ty (others (Local k) named)) local.0.claims) (locals_fit program own types_of (k + 1) list types) b.1 in
      let e : suc k ≡ k + 1 = omega arith in
      by_test ((local.0.slot == slot) && (not (nat_lt place local.1.from) && nat_lt place local.1.to))
      (λ t. rw t (claims_in Inside (others (Local k) named) (own_path own) (others_named Inside (Local k) named (own_path own) (local_names_inside program locals formed number lt local.1)) ty local.0.claims p c.0 i))
      (λ t. rw t (subst (λ n. Each Inside (claims_facts (own_path own) p (variable_claims (local_in slot place n list)))) (sym e) (local_claims (k + 1) list types slot place p i c.1)))

  either : (first second : Option (Name × List Claim)) (p : Path) → Each Inside (claims_facts (own_path own) p (variable_claims first)) → Each Inside (claims_facts (own_path own) p (variable_claims second))
      → Each Inside (claims_facts (own_path own) p (variable_claims (or_else first second)))
  either None second p one two = two
  either (Some variable) second p one two = one

  pub copied_within : (slot place : ℕ) → Inside (Slot slot) → Each Inside (copied_claims own slot place)
  copied_within slot place i =
      either (param_in own slot 0 own.params) (local_in slot place 0 own.locals) (Slot slot)
      (param_claims 0 own.params own.param_types slot (Slot slot) i (method_has program locals formed number lt).params)
      (local_claims 0 own.locals types_of slot place (Slot slot) i (Rattle.ix_certify.proofs.Inside.locals_fit_all program locals formed number lt))

  pub params_within : (k : ℕ) (params : List Variable) (types : List Type_) → params_fit program own k params types ≡ true → k + length params ≡ length own.params → Each Inside (params_facts own k params)
  params_within k [] types fits count = none
  params_within k (param ∷ params) [] fits count = absurd (false≢true fits)
  params_within k (param ∷ params) (ty ∷ types) fits count =
      let a = and_parts (param.slot == param_slot own k) _ fits in
      let b = and_parts (is_type program ty) _ a.1 in
      let c = and_parts (list_all (claim_fits ty (others (Param k) (named_type program own))) param.claims) (params_fit program own (k + 1) params types) b.1 in
      let e : suc k ≡ k + 1 = omega arith in
      both Inside (claims_facts (own_path own) (Slot (param_slot own k)) param.claims) (params_facts own (suc k) params)
      (claims_in Inside (others (Param k) (named_type program own)) (own_path own) (others_named Inside (Param k) (named_type program own) (own_path own) (names_inside program locals formed number lt)) ty param.claims (Slot (param_slot own k)) c.0
      (slot_of_param program locals formed number lt k (omega (arith, count))))
      (subst (λ n. Each Inside (params_facts own n params)) (sym e) (params_within (k + 1) params types c.1 (omega (arith, count))))

  pub received_all : (k : ℕ) (types : List Type_) → k + length types ≡ length own.params → Each Inside (received_params own k types)
  received_all k [] count = none
  received_all k (ty ∷ types) count =
      both Inside (received ty (Slot (param_slot own k))) (received_params own (suc k) types)
      (received_within Inside ty (Slot (param_slot own k)) (slot_of_param program locals formed number lt k (omega (arith, count))))
      (received_all (suc k) types (omega (arith, count)))

  -- ---- fields

  module _ (object : ℕ) (is : is_slot program own object ≡ true) where
    field_claims : (first : ℕ) (fields : List Field) (k : ℕ) (p : Path) → Inside p → fields_fit program first fields ≡ true → Each Inside (claims_facts (object_path object) p (unwrap_or (slice_get fields k) no_field).claims)
    field_claims first [] k p i fits = none
    field_claims first (field ∷ fields) zero p i fits =
        let a = and_parts (is_class program field.class) _ fits in
        let b = and_parts (is_type program field.ty) _ a.1 in
        let named = field_type_of_name program field in
        let c = and_parts (list_all (claim_fits field.ty (others (FieldNamed first) named)) field.claims) (fields_fit program (first + 1) fields) b.1 in
        claims_in Inside (others (FieldNamed first) named) (object_path object) (others_named Inside (FieldNamed first) named (object_path object) (field_names_inside program locals formed number lt field object is)) field.ty field.claims p c.0 i
    field_claims first (field ∷ fields) (suc k) p i fits =
        let a = and_parts (is_class program field.class) _ fits in
        let b = and_parts (is_type program field.ty) _ a.1 in
        let c = and_parts (list_all (claim_fits field.ty (others (FieldNamed first) (field_type_of_name program field))) field.claims) (fields_fit program (first + 1) fields) b.1 in
        field_claims (first + 1) fields k p i c.1

    pub field_facts : (field : ℕ) → nat_lt field (length program.fields) ≡ true → Each Inside (claims_facts (object_path object) (FieldOf object field) (field_at program field).claims)
    field_facts field f = field_claims 0 program.fields field (FieldOf object field) (field_within program locals formed number lt object field is f) (fields_all program locals formed)

    dependent : (field first : ℕ) (fields : List Field) → fields_fit program first fields ≡ true → first + length fields ≡ length program.fields → Each Inside (dependent_facts object field first fields)
    dependent field first [] fits count = none
    dependent field first (other ∷ fields) fits count =
        let a = and_parts (is_class program other.class) _ fits in
        let b = and_parts (is_type program other.ty) _ a.1 in
        let named = field_type_of_name program other in
        let c = and_parts (list_all (claim_fits other.ty (others (FieldNamed first) named)) other.claims) (fields_fit program (first + 1) fields) b.1 in
        let e : suc first ≡ first + 1 = omega arith in
        let before : nat_lt first (length program.fields) ≡ true = (let h : first < length program.fields = omega (arith, count) in grind (arith, nat_tests, h)) in
        both Inside _ (dependent_facts object field (suc first) fields)
        (if_within Inside (not (first == field)) _
        (filtered_in Inside (others (FieldNamed first) named) (object_path object) (others_named Inside (FieldNamed first) named (object_path object) (field_names_inside program locals formed number lt other object is))
        (names_field field) other.ty other.claims (FieldOf object first) c.0 (field_within program locals formed number lt object first is before)))
        (subst (λ n. Each Inside (dependent_facts object field n fields)) (sym e) (dependent field (first + 1) fields c.1 (omega (arith, count))))

    pub dependent_within : (field : ℕ) → Each Inside (dependent_facts object field 0 program.fields)
    dependent_within field = dependent field 0 program.fields (fields_all program locals formed) (omega (arith))

  -- fields of the program, of `this`
  module _ (this : is_slot program own 0 ≡ true) where
    pub zero_fields_within : (fields : List ℕ) → ((field : ℕ) → is_among fields field ≡ true → nat_lt field (length program.fields) ≡ true) → Each Inside (zero_fields program fields)
    zero_fields_within [] all = none
    zero_fields_within (field ∷ fields) all =
        both Inside (zero_facts (field_at program field).ty (FieldOf 0 field)) (zero_fields program fields)
        (zero_within Inside (field_at program field).ty (FieldOf 0 field) (field_within program locals formed number lt 0 field this (all field (first_among field field fields (same field)))))
        (zero_fields_within fields (λ other among. all other (rest_among field other fields among)))
      where
        same : (n : ℕ) → (n == n) ≡ true
        same n = grind (arith, nat_tests)

    pub fields_within : (fields : List ℕ) → ((field : ℕ) → is_among fields field ≡ true → nat_lt field (length program.fields) ≡ true) → Each Inside (fields_facts program fields)
    fields_within [] all = none
    fields_within (field ∷ fields) all =
        both Inside (claims_facts (object_path 0) (FieldOf 0 field) (field_at program field).claims) (fields_facts program fields)
        (field_facts 0 this field (all field (first_among field field fields (same field))))
        (fields_within fields (λ other among. all other (rest_among field other fields among)))
      where
        same : (n : ℕ) → (n == n) ≡ true
        same n = grind (arith, nat_tests)

  -- ---- results of calls

  arg_is : (types : Point) (args : List Arg) (params : List Type_) (k : ℕ) (ty : Type_) → args_fit program own types args params ≡ true → slice_get params k ≡ Some ty
      → is_slot program own (unwrap_or (option_map (λ (arg : Arg). arg.slot) (slice_get args k)) 0) ≡ true
  arg_is types [] [] k ty fits is = absurd cc
  arg_is types [] (param ∷ params) k ty fits is = absurd (false≢true fits)
  arg_is types (arg ∷ args) [] k ty fits is = absurd (false≢true fits)
  arg_is types (arg ∷ args) (param ∷ params) zero ty fits is =
      let a = and_parts (reads program own types arg.slot param) (args_fit program own types args params) fits in (and_parts (is_slot program own arg.slot) _ a.0).0
  arg_is types (arg ∷ args) (param ∷ params) (suc k) ty fits is =
      let a = and_parts (reads program own types arg.slot param) (args_fit program own types args params) fits in arg_is types args params k ty a.1 is

  module _ (types : Point) (call : CallOp) (callee : call.method < length program.methods) (args : args_fit program own types call.args (method_at program call.method).param_types ≡ true)
      (receiver : has_this program (method_at program call.method) ≡ true → is_slot program own (unwrap_or call.receiver 0) ≡ true) where
    call_named : AllNamed Inside (named_type program (method_at program call.method)) (call_path call)
    call_named (Param k) ty is = arg_is types call.args (method_at program call.method).param_types k ty args is
    call_named (Local k) ty is = Rattle.ix_certify.proofs.Inside.no_type ty is
    call_named (FieldNamed field) ty is =
        let found = Rattle.ix_certify.proofs.Inside.if_allowed program locals formed (has_this program (method_at program call.method)) (method_at program call.method).class field ty (field_at program field).ty is in
        field_within program locals formed number lt (unwrap_or call.receiver 0) field (receiver found.0) (field_is program locals formed (method_at program call.method).class field found.1)

    pub result_within : (p : Path) → Inside p → Each Inside (claims_facts (call_path call) p (method_at program call.method).result_claims)
    result_within p i = by_void (is_void (method_at program call.method).result) (method_has program locals formed call.method callee).result
      where
        empty : (claims : List Claim) → is_empty claims ≡ true → Each Inside (claims_facts (call_path call) p claims)
        empty [] e = none
        empty (claim ∷ claims) e = absurd (false≢true e)

        by_void : (t : Bool) → (if t then is_empty (method_at program call.method).result_claims else is_type program (method_at program call.method).result && list_all (claim_fits (method_at program call.method).result (named_type program (method_at program call.method))) (method_at program call.method).result_claims) ≡ true
            → Each Inside (claims_facts (call_path call) p (method_at program call.method).result_claims)
        by_void true e = empty (method_at program call.method).result_claims e
        by_void false e =
            claims_in Inside (named_type program (method_at program call.method)) (call_path call) call_named (method_at program call.method).result (method_at program call.method).result_claims p (and_parts (is_type program (method_at program call.method).result) _ e).1 i

    -- what the named method promises where it returns
    pub posts_within : (wanted : Option Bool) → Each Inside (posts_facts (call_path call) wanted (method_at program call.method).posts)
    posts_within wanted =
        let a = and_parts _ _ (posts_are program locals formed call.method callee) in
        posts_in Inside (named_type program (method_at program call.method)) (call_path call) call_named wanted (method_at program call.method).posts (and_parts _ _ a.1).0
