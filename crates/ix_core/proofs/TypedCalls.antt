-- A call of a formed program enters a frame that is typed.
use Rattle.std.specs.Prelude.{◌≡◌, ℕ, zero, suc, ◌+◌, ◌<◌, ◌==◌, nat_lt, Bool, true, false, not, ◌&&◌, ◌||◌, if◌then◌else◌, List, [], ◌∷◌, length, map, flat_map, Option, None, Some, unwrap_or, refl}
use Rattle.std.specs.List.{list_all}
use Rattle.std.proofs.Common.{arith, sym, ap, subst, ◌∙◌, ⊎_elim}
use Rattle.std.proofs.lemmas.Bool.{and_parts, false≢true}
use Rattle.std.proofs.lemmas.Bool.Decides.{nat_tests}
use Rattle.ix_core.specs.declared.claim.Base.TheVariants as base
use Rattle.ix_core.specs.declared.claim.Name.TheVariants.{Param}
use Rattle.ix_core.specs.declared.claim.Type_.{Type_}
use Rattle.ix_core.specs.declared.claim.Type_.TheVariants as type
use Rattle.ix_core.specs.declared.op.Arg.{Arg}
use Rattle.ix_core.specs.declared.program.Local.{Local as Variable}
use Rattle.ix_core.specs.declared.program.Method.{Method}
use Rattle.ix_core.specs.declared.program.Program.{Program}
use Rattle.ix_core.specs.Formed.{is_formed, params_fit, result_fits, constructor_fits, overrides_fit, is_proper_ancestor, same_types, body_fits, entry_type, this_type, has_parent, first_type, param_type_from, args_fit, reads, at_most, is_there, code_size, loop_numbers, same_numbers, numbers_from, locals_fit, super_calls_fit, claim_fits, others, named_type}
use Rattle.ix_core.specs.Heap.{Held, Heap, value_at, default_of}
use Rattle.ix_core.specs.Tables.{param_slot, param_slots, method_at, class_at, most_on_way, way_up, overridden, ancestors, found_method, first_where, is_among, body_of, default_result, routine_of}
use Rattle.ix_core.specs.Tasks.{Empty, code_then}
use Rattle.ix_core.specs.Typed.{IsOfType, SlotsTyped}
use Rattle.ix_core.specs.TypedStates.{Nothing, Lead, ResultTyped}
use Rattle.ix_core.specs.Types.{is_class, is_empty, Types, class_type, is_void, is_type, is_below, same_type}
use Rattle.ix_core.specs.Machine.{slots_with, result_of, returned_or}
use Rattle.ix_core.proofs.Ancestors.{among_parts}
use Rattle.ix_core.proofs.Cases.{by_test, equal}
use Rattle.ix_core.proofs.Entered.{slots_are}
use Rattle.ix_core.proofs.FormedParts.{locals_of, method_is, ways_end, method_listed, flat_parts, first_is}
use Rattle.ix_core.proofs.TypeLaws.{type_is}
use Rattle.ix_core.proofs.TypedTasks.{itself, straight_leads}
use Rattle.ix_core.proofs.TypedValues.{read_typed}

types_are : (types others : List Type_) → same_types types others ≡ true → types ≡ others
types_are [] [] e = refl
types_are (ty ∷ types) (other ∷ others) e =
    let parts = and_parts (same_type ty other) (same_types types others) e in
    let first = type_is ty other parts.0 in
    let rest = types_are types others parts.1 in
    cc
types_are [] (other ∷ others) e = absurd (false≢true e)
types_are (ty ∷ types) [] e = absurd (false≢true e)

pub is_false : (t : Bool) → not t ≡ true → t ≡ false
is_false true e = absurd (false≢true e)
is_false false e = refl

-- methods that are called in the same way
pub record SameKind (method named : Method) : Type 0 where
  pub params : method.param_types ≡ named.param_types
  pub result : method.result ≡ named.result
  pub static : method.is_static ≡ named.is_static
  pub constructor : method.constructor ≡ named.constructor

module _ (program : Program) (locals : List (List Type_)) (formed : is_formed program locals ≡ true) where
  abbrev at : ℕ → Method
  at number = method_at program number

  -- ---- the parts of a method

  pub record MethodHas (number : ℕ) : Type 0 where
    pub params : params_fit program (at number) 0 (at number).params (at number).param_types ≡ true
    pub room : at_most (param_slots (at number)) (at number).slots ≡ true
    pub result : result_fits program (at number) ≡ true
    pub constructor : constructor_fits program (at number) ≡ true
    pub overrides : overrides_fit program (at number) (at number).overrides ≡ true
    pub body : body_fits program (at number) (locals_of program locals formed number) ≡ true

  pub method_has : (number : ℕ) → number < length program.methods → MethodHas number
  method_has number lt =
      let method = at number in
      let types = locals_of program locals formed number in
      let numbers = loop_numbers (body_of method) in
      let a = and_parts (is_class program method.class) _ (method_is program locals formed number lt) in
      let b = and_parts (params_fit program method 0 method.params method.param_types) _ a.1 in
      let c = and_parts (at_most (param_slots method) method.slots) _ b.1 in
      let d = and_parts (at_most method.slots 512) _ c.1 in
      let e = and_parts (locals_fit program method types 0 method.locals types) _ d.1 in
      let f = and_parts (result_fits program method) _ e.1 in
      let g = and_parts (constructor_fits program method) _ f.1 in
      let h = and_parts (overrides_fit program method method.overrides) _ g.1 in
      let i = and_parts (same_numbers numbers (numbers_from 0 (length numbers))) _ h.1 in
      let j = and_parts (at_most (length numbers) 128) _ i.1 in
      let k = and_parts (nat_lt (code_size (body_of method)) 268435456) _ j.1 in
      let l = and_parts (super_calls_fit program method) (body_fits program method types) k.1 in
      record { params = b.0; room = c.0; result = f.0; constructor = g.0; overrides = h.0; body = l.1 }

  -- a constructor isn't static
  pub not_static : (number : ℕ) → number < length program.methods → (at number).constructor ≡ true → (at number).is_static ≡ false
  not_static number lt c = of_fits (at number).constructor (at number).is_static (is_void (at number).result) (method_has number lt).constructor c
    where
      of_fits : (constructor static void : Bool) → (not constructor || (not static && void)) ≡ true → constructor ≡ true → static ≡ false
      of_fits true true void e c = absurd (false≢true e)
      of_fits true false void e c = refl
      of_fits false static void e c = absurd (false≢true c)

  pub params_count : (method : Method) (number : ℕ) (params : List Variable) (types : List Type_) → params_fit program method number params types ≡ true → length params ≡ length types
  params_count method number [] [] e = refl
  params_count method number (param ∷ params) (ty ∷ types) e =
      let a = and_parts (param.slot == param_slot method number) _ e in
      let b = and_parts (is_type program ty) _ a.1 in
      let c = and_parts (list_all (claim_fits ty (others (Param number) (named_type program method))) param.claims) (params_fit program method (number + 1) params types) b.1 in
      ap suc (params_count method (number + 1) params types c.1)
  params_count method number [] (ty ∷ types) e = absurd (false≢true e)
  params_count method number (param ∷ params) [] e = absurd (false≢true e)

  -- ---- what is overridden is called in the same way

  pub same_itself : (number : ℕ) → SameKind (at number) (at number)
  same_itself number = record { params = refl; result = refl; static = refl; constructor = refl }

  abbrev over_of : ℕ → Option ℕ
  over_of number = (at number).overrides

  over_same : (number over : ℕ) → (at number).overrides ≡ Some over → number < length program.methods → (over < length program.methods) × SameKind (at number) (at over)
  over_same number over is lt =
      let fits : overrides_fit program (at number) (Some over) ≡ true = subst (λ o. overrides_fit program (at number) o ≡ true) is (method_has number lt).overrides in
      let a = and_parts (is_there program.methods over) _ fits in
      let b = and_parts (not (at number).is_static) _ a.1 in
      let c = and_parts (not (at number).constructor) _ b.1 in
      let d = and_parts (not (at over).is_static) _ c.1 in
      let e = and_parts (not (at over).constructor) _ d.1 in
      let f = and_parts (is_proper_ancestor program (at number) (at over).class) _ e.1 in
      let g = and_parts (same_types (at number).param_types (at over).param_types) (same_type (at number).result (at over).result) f.1 in
      let there : over < length program.methods = (let h = a.0 in grind (arith, nat_tests)) in (
        there,
        record {
          params = types_are (at number).param_types (at over).param_types g.0;
          result = type_is (at number).result (at over).result g.1;
          static = is_false (at number).is_static b.0 ∙ sym (is_false (at over).is_static d.0);
          constructor = is_false (at number).constructor c.0 ∙ sym (is_false (at over).constructor e.0);
        },
      )

  same_through : (a b c : ℕ) → SameKind (at a) (at b) → SameKind (at b) (at c) → SameKind (at a) (at c)
  same_through a b c one two = record { params = one.params ∙ two.params; result = one.result ∙ two.result; static = one.static ∙ two.static; constructor = one.constructor ∙ two.constructor }

  none_over : (most named : ℕ) {A : Type 0} → is_among (way_up over_of most None) named ≡ true → A
  none_over zero named e = absurd (false≢true e)
  none_over (suc most) named e = absurd (false≢true e)

  above_same : (most number named : ℕ) (over : Option ℕ) → over_of number ≡ over → number < length program.methods
      → ((next : ℕ) → next < length program.methods → is_among (way_up over_of most (Some next)) named ≡ true → SameKind (at next) (at named))
      → is_among (way_up over_of most over) named ≡ true → SameKind (at number) (at named)
  above_same most number named None is lt rest e = none_over most named e
  above_same most number named (Some over) is lt rest e = let next = over_same number over is lt in same_through number over named next.1 (rest over next.0 e)

  pub overridden_same : (most number named : ℕ) → number < length program.methods → is_among (way_up over_of most (Some number)) named ≡ true → SameKind (at number) (at named)
  overridden_same zero number named lt e = absurd (false≢true e)
  overridden_same (suc most) number named lt e =
      ⊎_elim
      (λ here. subst (λ n. SameKind (at number) (at n)) (equal number named here) (same_itself number))
      (λ rest. above_same most number named (over_of number) refl lt (λ next there h. overridden_same most next named there h) rest)
      (among_parts number named (way_up over_of most (over_of number)) e)

  -- ---- dispatch

  -- The method that runs for an object of a class is there, is called as the named one, and is one of the class or of an ancestor.
  pub found_fits : (of named : ℕ) → named < length program.methods → is_below program of (at named).class ≡ true
      → (found_method program of named < length program.methods) × SameKind (at (found_method program of named)) (at named) × (is_below program of (at (found_method program of named)).class ≡ true)
  found_fits of named lt below = by_found (first_where (λ method. is_among (overridden program method) named) (flat_map (λ above. (class_at program above).methods) (ancestors program of))) refl
    where
      by_found : (found : Option ℕ) → first_where (λ method. is_among (overridden program method) named) (flat_map (λ above. (class_at program above).methods) (ancestors program of)) ≡ found
          → (unwrap_or found named < length program.methods) × SameKind (at (unwrap_or found named)) (at named) × (is_below program of (at (unwrap_or found named)).class ≡ true)
      by_found None is = (lt, same_itself named, below)
      by_found (Some method) is =
          let parts = first_is (λ m. is_among (overridden program m) named) (flat_map (λ above. (class_at program above).methods) (ancestors program of)) method is in
          let place = flat_parts (λ above. (class_at program above).methods) (ancestors program of) method parts.1 in
          let listed = method_listed program locals formed place.0 method place.2 in
          (listed.0, overridden_same most_on_way method named listed.0 parts.0, subst (λ c. is_below program of c ≡ true) (sym listed.1) place.1)

  -- ---- defaults and results

  pub default_of_type : (heap : Heap) (ty : Type_) → is_type program ty ≡ true → IsOfType program heap ty (default_of ty)
  default_of_type heap (type.Plain base.Int) e = tt
  default_of_type heap (type.Plain base.Bool) e = tt
  default_of_type heap (type.Plain (base.Class class)) e = tt
  default_of_type heap (type.Array of depth element) e = tt
  default_of_type heap type.Void e = absurd (false≢true e)

  default_there : (ty : Type_) → is_void ty ≡ false → default_result ty ≡ Some (default_of ty)
  default_there (type.Plain of) e = refl
  default_there (type.Array of depth element) e = refl
  default_there type.Void e = absurd (false≢true (sym e))

  result_type : (number : ℕ) → number < length program.methods → is_void (at number).result ≡ false → is_type program (at number).result ≡ true
  result_type number lt e = of_result (is_void (at number).result) e (method_has number lt).result
    where
      of_result : (t : Bool) → t ≡ false → (if t then is_empty (at number).result_claims else is_type program (at number).result && list_all (claim_fits (at number).result (named_type program (at number))) (at number).result_claims) ≡ true
          → is_type program (at number).result ≡ true
      of_result true no_ fits = absurd (false≢true (sym no_))
      of_result false no_ fits = (and_parts (is_type program (at number).result) (list_all (claim_fits (at number).result (named_type program (at number))) (at number).result_claims) fits).0

  -- what a frame ends with is typed, where a value that is returned is
  pub ends_typed : (number : ℕ) (slots : List Held) (heap : Heap) (returned : Option ℕ) → number < length program.methods → ((at number).is_static ≡ false → IsOfType program heap (class_type (at number).class) (value_at slots 0))
      → ((slot : ℕ) → returned ≡ Some slot → IsOfType program heap (at number).result (value_at slots slot)) → ResultTyped program (at number) heap (result_of (routine_of (at number)) slots returned)
  ends_typed number slots heap returned lt this given = record {
    made = λ c. (value_at slots 0, (rw c refl), this (not_static number lt c));
    given = λ c v.
        let default = default_there (at number).result v in
        (returned_or (default_of (at number).result) slots returned, (rw (c, default) refl), one returned given (default_of_type heap (at number).result (result_type number lt v)));
  }
    where
      one : (returned : Option ℕ) → ((slot : ℕ) → returned ≡ Some slot → IsOfType program heap (at number).result (value_at slots slot)) → IsOfType program heap (at number).result (default_of (at number).result)
          → IsOfType program heap (at number).result (returned_or (default_of (at number).result) slots returned)
      one None given default = default
      one (Some slot) given default = given slot refl

  -- ---- a new frame

  -- the values of arguments that fit, by the slots of their parameters
  pub args_given : (caller : Method) (types : Types) (slots : List Held) (heap : Heap) (size : length slots ≡ caller.slots) (typed : SlotsTyped program types slots heap) (args : List Arg) (params : List Type_) (first slot : ℕ) (ty : Type_)
      → args_fit program caller (Some types) args params ≡ true → param_type_from first params slot ≡ Some ty → (k : ℕ) × (slot ≡ first + k) × IsOfType program heap ty (value_at (map (λ (arg : Arg). value_at slots arg.slot) args) k)
  args_given caller types slots heap size typed [] [] first slot ty e is = absurd (no_type is)
    where
      no_type : ◌≡◌ {A = Option Type_} None (Some ty) → ⊥
      no_type is = absurd cc
  args_given caller types slots heap size typed (arg ∷ args) (param ∷ params) first slot ty e is =
      let parts = and_parts (reads program caller (Some types) arg.slot param) (args_fit program caller (Some types) args params) e in
      by_test (first == slot)
      (λ t.
      let here : ◌≡◌ {A = Option Type_} (Some param) (Some ty) = subst (λ b. (if b then Some param else param_type_from (first + 1) params slot) ≡ Some ty) t is in
      let same : param ≡ ty = ap (λ (o : Option Type_). unwrap_or o param) here in
      let at_first = equal first slot t in
      (0, omega (arith, at_first), subst (λ y. IsOfType program heap y (value_at slots arg.slot)) same (read_typed program (ways_end program locals formed) caller types slots heap size typed arg.slot param parts.0).1))
      (λ t.
      let rest : param_type_from (first + 1) params slot ≡ Some ty = subst (λ b. (if b then Some param else param_type_from (first + 1) params slot) ≡ Some ty) t is in
      let more = args_given caller types slots heap size typed args params (first + 1) slot ty parts.1 rest in
      let a = more.1 in
      (suc more.0, omega (arith, a), more.2))
  args_given caller types slots heap size typed [] (param ∷ params) first slot ty e is = absurd (false≢true e)
  args_given caller types slots heap size typed (arg ∷ args) [] first slot ty e is = absurd (false≢true e)

  pub args_count : (caller : Method) (types : Types) (args : List Arg) (params : List Type_) → args_fit program caller (Some types) args params ≡ true → length args ≡ length params
  args_count caller types [] [] e = refl
  args_count caller types (arg ∷ args) (param ∷ params) e = ap suc (args_count caller types args params (and_parts (reads program caller (Some types) arg.slot param) (args_fit program caller (Some types) args params) e).1)
  args_count caller types [] (param ∷ params) e = absurd (false≢true e)
  args_count caller types (arg ∷ args) [] e = absurd (false≢true e)

  -- the slots of a new frame are typed as its method's entry says
  pub entry_typed : (number : ℕ) (values : List Held) (heap : Heap)
      → ((slot : ℕ) (ty : Type_) → param_type_from (param_slot (at number) 0) (at number).param_types slot ≡ Some ty → IsOfType program heap ty (value_at values slot))
      → ((at number).is_static ≡ false → IsOfType program heap (class_type (at number).class) (value_at values 0))
      → SlotsTyped program (entry_type program (at number)) (slots_with (at number).slots values) heap
  entry_typed number values heap params this slot ty e =
      subst (λ v. IsOfType program heap ty v) (sym (slots_are (at number).slots values slot)) (by_param (param_type_from (param_slot (at number) 0) (at number).param_types slot) refl e)
    where
      by_this : (static : Bool) (first hidden : Bool) → (at number).is_static ≡ static → (slot == 0) ≡ first → (if not static && (first && not hidden) then Some (class_type (at number).class) else None) ≡ Some ty → IsOfType program heap ty (value_at values slot)
      by_this false true false static first is =
          let same : class_type (at number).class ≡ ty = ap (λ (o : Option Type_). unwrap_or o type.Void) is in
          subst (λ n. IsOfType program heap ty (value_at values n)) (sym (equal slot 0 first)) (subst (λ y. IsOfType program heap y (value_at values 0)) same (this static))
      by_this false true true static first is = absurd cc
      by_this false false hidden static first is = absurd cc
      by_this true first hidden static at_first is = absurd cc

      by_param : (found : Option Type_) → param_type_from (param_slot (at number) 0) (at number).param_types slot ≡ found → first_type found (this_type program (at number) slot) ≡ Some ty → IsOfType program heap ty (value_at values slot)
      by_param (Some param) is found = params slot ty (is ∙ found)
      by_param None is found = by_this (at number).is_static (slot == 0) ((at number).constructor && has_parent program (at number)) refl refl found

  -- its body fits from there
  pub body_lead : (number : ℕ) → number < length program.methods → Lead program (at number) (locals_of program locals formed number) (code_then (body_of (at number)) Empty) (entry_type program (at number))
  body_lead number lt =
      straight_leads program (at number) (locals_of program locals formed number) (body_of (at number)) Empty (Some (entry_type program (at number))) (method_has number lt).body
      (λ types is. itself program (at number) (locals_of program locals formed number) Empty types (Nothing types)) (entry_type program (at number)) refl
