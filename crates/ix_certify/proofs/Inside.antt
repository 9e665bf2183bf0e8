-- The names of a formed program's claims stand for slots of the method, and for fields of the program of the objects in them.
use Rattle.std.specs.Prelude.{◌≡◌, ℕ, zero, suc, ◌+◌, ◌<◌, ◌≤◌, nat_lt, ◌==◌, Bool, true, false, not, ◌&&◌, ◌||◌, if◌then◌else◌, List, [], ◌∷◌, length, reverse, slice_get, Option, None, Some, option_map, unwrap_or, refl}
use Rattle.std.specs.List.{list_all}
use Rattle.std.proofs.Common.{arith, sym, ap, subst, ◌∙◌}
use Rattle.std.proofs.lemmas.Bool.{and_parts, false≢true, not-true}
use Rattle.std.proofs.lemmas.Bool.Decides.{nat_tests}
use Rattle.std.proofs.lemmas.Option.{slice_get_within}
use Rattle.ix_text.specs.declared.span.Span.{Span}
use Rattle.ix_core.specs.declared.claim.Name.TheVariants.{Param, Local, FieldNamed}
use Rattle.ix_core.specs.declared.claim.Type_.{Type_}
use Rattle.ix_core.specs.declared.fact.Path.{Path}
use Rattle.ix_core.specs.declared.fact.Path.TheVariants.{Slot, FieldOf}
use Rattle.ix_core.specs.declared.program.Field.{Field}
use Rattle.ix_core.specs.declared.program.Local.{Local as Variable}
use Rattle.ix_core.specs.declared.program.Method.{Method}
use Rattle.ix_core.specs.declared.program.Program.{Program}
use Rattle.ix_core.specs.Formed.{is_formed, at_most, is_slot, is_target, named_type, local_named_type, type_of_field, in_scope_type, has_this, field_type_of_name, locals_fit, params_fit, claim_fits, others}
use Rattle.ix_core.specs.Tables.{method_at, class_at, field_at, param_slot, param_slots, all_fields, ancestors, is_among}
use Rattle.ix_core.specs.Types.{is_type}
use Rattle.ix_core.proofs.Cases.{by_test}
use Rattle.ix_core.proofs.FormedParts.{locals_of, method_is, field_listed, flat_parts}
use Rattle.ix_core.proofs.TypedCalls.{method_has, params_count}
use Rattle.ix_rules_hold.specs.MachineSteps.{own_path}
use Rattle.ix_core.specs.Ready.{local_slot}
use Rattle.ix_signatures.specs.Names.{object_path}
use Rattle.ix_certify.specs.Within.{is_inside}
use Rattle.ix_certify.proofs.Claims.{AllNamed}

pub no_type : {A : Type 0} (ty : Type_) → ◌≡◌ {A = Option Type_} None (Some ty) → A
no_type ty is = absurd cc

pub less : (a b : ℕ) → a < b → nat_lt a b ≡ true
less a b lt = grind (arith, nat_tests)

most_is : (a b : ℕ) → at_most a b ≡ true → a ≤ b
most_is a b h = grind (arith, nat_tests)

-- a field that a class has is one of the program's
module _ (program : Program) (locals : List (List Type_)) (formed : is_formed program locals ≡ true) where
  pub field_is : (class field : ℕ) → is_among (all_fields program class) field ≡ true → nat_lt field (length program.fields) ≡ true
  field_is class field among =
      let place = flat_parts (λ above. (class_at program above).fields) (reverse (ancestors program class)) field among in
      less field (length program.fields) (field_listed program locals formed place.0 field place.2).0

  pub own_field_is : (class field : ℕ) → is_among (class_at program class).fields field ≡ true → nat_lt field (length program.fields) ≡ true
  own_field_is class field among = less field (length program.fields) (field_listed program locals formed class field among).0

  pub if_allowed : (allowed : Bool) (class field : ℕ) (ty : Type_) (field_type : Type_) → (if allowed && is_among (all_fields program class) field then Some field_type else None) ≡ Some ty
      → (allowed ≡ true) × (is_among (all_fields program class) field ≡ true)
  if_allowed allowed class field ty field_type is =
      by_test (allowed && is_among (all_fields program class) field) (λ t. and_parts allowed (is_among (all_fields program class) field) t) (λ t. no_type ty (sym (rw t refl) ∙ is))

  module _ (number : ℕ) (lt : number < length program.methods) where
    abbrev pub method : Method
    method = method_at program number

    abbrev pub local_types : List Type_
    local_types = locals_of program locals formed number

    abbrev pub In : Path → Type 0
    In p = is_inside method.slots (length program.fields) p ≡ true

    room : param_slots method ≤ method.slots
    room = most_is (param_slots method) method.slots (method_has program locals formed number lt).room

    pub slot_of_param : (k : ℕ) → k < length method.params → is_slot program method (param_slot method k) ≡ true
    slot_of_param k before = of_static method.is_static refl
      where
        of_static : (s : Bool) → method.is_static ≡ s → is_slot program method (param_slot method k) ≡ true
        of_static true s =
            let h : length method.params ≤ method.slots = subst (λ b. (if b then length method.params else length method.params + 1) ≤ method.slots) s room in
            subst (λ b. nat_lt (if b then k else k + 1) method.slots ≡ true) (sym s) (less k method.slots (omega (arith, h, before)))
        of_static false s =
            let h : length method.params + 1 ≤ method.slots = subst (λ b. (if b then length method.params else length method.params + 1) ≤ method.slots) s room in
            subst (λ b. nat_lt (if b then k else k + 1) method.slots ≡ true) (sym s) (less (k + 1) method.slots (omega (arith, h, before)))

    pub this_is : method.is_static ≡ false → is_slot program method 0 ≡ true
    this_is s =
        let h : length method.params + 1 ≤ method.slots = subst (λ b. (if b then length method.params else length method.params + 1) ≤ method.slots) s room in
        less 0 method.slots (omega (arith, h))

    pub field_within : (object field : ℕ) → is_slot program method object ≡ true → nat_lt field (length program.fields) ≡ true → In (FieldOf object field)
    field_within object field o f = rw (o, f) refl

    own_field : (allowed : Bool) → (allowed ≡ true → method.is_static ≡ false) → (field : ℕ) (ty : Type_) → type_of_field program method allowed field ≡ Some ty → In (FieldOf 0 field)
    own_field allowed static field ty is =
        let found = if_allowed allowed method.class field ty (field_at program field).ty is in
        field_within 0 field (this_is (static found.0)) (field_is method.class field found.1)

    of_param : (k : ℕ) (ty : Type_) → slice_get method.param_types k ≡ Some ty → In (Slot (param_slot method k))
    of_param k ty is =
        let count = params_count program locals formed method 0 method.params method.param_types (method_has program locals formed number lt).params in
        let before = slice_get_within method.param_types k ty is in
        slot_of_param k (omega (arith, count, before))

    -- what claims on parameters and on the result name
    pub names_inside : AllNamed In (named_type program method) (own_path method)
    names_inside (Param k) ty is = of_param k ty is
    names_inside (Local k) ty is = no_type ty is
    names_inside (FieldNamed field) ty is = own_field (has_this program method) (λ t. not-true method.is_static (and_parts (not method.is_static) (not method.constructor) t).0) field ty is

    pub locals_fit_all : locals_fit program method local_types 0 method.locals local_types ≡ true
    locals_fit_all =
        let a = and_parts _ _ (method_is program locals formed number lt) in
        let b = and_parts (params_fit program method 0 method.params method.param_types) _ a.1 in
        let c = and_parts (at_most (param_slots method) method.slots) _ b.1 in
        let d = and_parts (at_most method.slots 512) _ c.1 in
        (and_parts (locals_fit program method local_types 0 method.locals local_types) _ d.1).0

    local_found : (first : ℕ) (list : List (Variable × Span)) (types : List Type_) (k : ℕ) (local : Variable × Span) → locals_fit program method local_types first list types ≡ true → slice_get list k ≡ Some local
        → is_slot program method local.0.slot ≡ true
    local_found first [] types k local fits is = absurd cc
    local_found first (one ∷ list) [] k local fits is = absurd (false≢true fits)
    local_found first (one ∷ list) (ty ∷ types) zero local fits is =
        let a = and_parts (is_target program method one.0.slot) _ fits in
        let b = and_parts (is_slot program method one.0.slot) (at_most (param_slots method) one.0.slot) a.0 in
        subst (λ (l : Variable × Span). is_slot program method l.0.slot ≡ true) (ap (λ (o : Option (Variable × Span)). unwrap_or o one) is) b.0
    local_found first (one ∷ list) (ty ∷ types) (suc k) local fits is =
        let a = and_parts (is_target program method one.0.slot) _ fits in
        let b = and_parts (is_type program ty) _ a.1 in
        let c = and_parts (list_all (claim_fits ty (others (Local first) (local_named_type program method local_types one.1))) one.0.claims) (locals_fit program method local_types (first + 1) list types) b.1 in
        local_found (first + 1) list types k local c.1 is

    of_local : (k : ℕ) (o : Option (Variable × Span)) → slice_get method.locals k ≡ o → (span : Span) (held : Option Type_) (ty : Type_) → in_scope_type span o held ≡ Some ty → In (Slot (local_slot method k))
    of_local k None e span held ty is = no_type ty is
    of_local k (Some local) e span held ty is =
        subst (λ o. nat_lt (unwrap_or (option_map (λ (l : Variable × Span). l.0.slot) o) 0) method.slots ≡ true) (sym e) (local_found 0 method.locals local_types k local locals_fit_all e)

    -- and claims on a local
    pub local_names_inside : (span : Span) → AllNamed In (local_named_type program method local_types span) (own_path method)
    local_names_inside span (Param k) ty is = of_param k ty is
    local_names_inside span (Local k) ty is = of_local k (slice_get method.locals k) refl span (slice_get local_types k) ty is
    local_names_inside span (FieldNamed field) ty is = own_field (not method.is_static) (λ t. not-true method.is_static t) field ty is

    -- and claims on a field, of the object in a slot
    pub field_names_inside : (field : Field) (object : ℕ) → is_slot program method object ≡ true → AllNamed In (field_type_of_name program field) (object_path object)
    field_names_inside field object o (Param k) ty is = no_type ty is
    field_names_inside field object o (Local k) ty is = no_type ty is
    field_names_inside field object o (FieldNamed other) ty is =
        let allowed = ((field_at program other).class == field.class) || (field_at program other).is_final in
        by_test (is_among (all_fields program field.class) other)
        (λ t. field_within object other o (field_is field.class other t))
        (λ t. no_type ty (sym (rw t refl) ∙ is))
