-- A method's entry: the store there is met where the claims of the parameters are, and a constructor begins before its parent's.
use Rattle.std.specs.Prelude.{◌≡◌, ℕ, suc, ◌+◌, ◌<◌, ◌≤◌, nat_lt, ◌==◌, Bool, true, false, ◌&&◌, if◌then◌else◌, pos, List, [], ◌∷◌, length, map, Option, None, Some, unwrap_or, refl}
use Rattle.std.specs.List.{list_all}
use Rattle.std.proofs.Common.{arith, sym, ap, ◌∙◌, subst}
use Rattle.std.proofs.lemmas.Bool.{and_parts, false≢true}
use Rattle.std.proofs.lemmas.Bool.Decides.{nat_tests}
use Rattle.std.proofs.lemmas.List.{length-map}
use Rattle.ix_core.specs.declared.claim.Type_.{Type_}
use Rattle.ix_core.specs.declared.fact.Path.TheVariants.{FieldOf}
use Rattle.ix_core.specs.declared.fact.Profile.{Profile}
use Rattle.ix_core.specs.declared.program.Local.{Local as Variable}
use Rattle.ix_core.specs.declared.program.Method.{Method}
use Rattle.ix_core.specs.declared.program.Program.{Program}
use Rattle.ix_core.specs.Formed.{is_formed, at_most, claim_fits, others, named_type, params_fit, entry_type, this_type, has_parent, first_type, param_type_from, super_calls, own_super_calls, one_if, super_calls_fit, locals_fit, result_fits, constructor_fits, overrides_fit, same_numbers, numbers_from, loop_numbers, code_size}
use Rattle.ix_core.specs.Heap.{Held, At, Heap, ObjectOf, value_at, default_of, no_reading}
use Rattle.ix_core.specs.Machine.{slots_with}
use Rattle.ix_core.specs.Numbers.{Numbers, HasInts, numbers_of}
use Rattle.ix_core.specs.Objects.{HasField}
use Rattle.ix_core.specs.Tables.{method_at, class_at, param_slot, param_slots, body_of}
use Rattle.ix_core.specs.Tasks.{Empty, code_then}
use Rattle.ix_core.specs.Typed.{IsOfType}
use Rattle.ix_core.specs.Types.{is_type, is_class}
use Rattle.ix_core.specs.Waits.{MeetParams, AreFresh}
use Rattle.ix_core.specs.World.{World}
use Rattle.ix_core.proofs.Ancestors.{first_among}
use Rattle.ix_core.proofs.Cases.{by_test, equal}
use Rattle.ix_core.proofs.Entered.{slots_are, slots_length}
use Rattle.ix_core.proofs.FormedParts.{locals_of, method_is}
use Rattle.ix_core.proofs.LawsAreSafe.{types_in}
use Rattle.ix_core.proofs.TypedCalls.{method_has, not_static, default_of_type, entry_typed, body_lead}
use Rattle.ix_core.specs.declared.claim.Name.TheVariants.{Param}
use Rattle.ix_facts.specs.Exact.{if_so}
use Rattle.ix_facts.specs.Facts.{AllHold}
use Rattle.ix_facts.proofs.FactLists.{all_hold_app}
use Rattle.ix_rules_hold.specs.MachineSteps.{reading_at}
use Rattle.ix_rules_hold.proofs.MachineTests.{field_is}
use Rattle.ix_facts.specs.Stores.{Stored}
use Rattle.ix_signatures.specs.Signs.{EntryGives, entry_facts, received_params, params_facts, zero_fields, own_fields, has_no_parent}
use Rattle.ix_soundness.specs.Direct.{direct}
use Rattle.ix_soundness.specs.Known.{stage_if, entry_stage, known_at, HoldsFor}
use Rattle.ix_soundness.specs.Making.{Making, Tracks, StageFits, StageHolds}
use Rattle.ix_soundness.specs.Supers.{SuperEnds}
use Rattle.ix_soundness.proofs.FieldPlaces.{at_among, own_has}
use Rattle.ix_soundness.proofs.LastDone.{nothing_done}
use Rattle.ix_soundness.proofs.NamedClaims.{count_params}
use Rattle.ix_soundness.proofs.Overriding.{above_met, received_all, params_hold}
use Rattle.ix_soundness.proofs.SuperMoves.{code_supers}
use Rattle.ix_soundness.proofs.SuperReturns.{zeros_hold, reads_zero}

module _ (program : Program) (locals : List (List Type_)) (formed : is_formed program locals ≡ true) (profile : Profile) where
  abbrev world : World
  world = direct program

  -- ---- the store

  abbrev IsNew : ℕ → List Held → Heap → Type 0
  IsNew number slots heap = (method_at program number).constructor ≡ true → (object : ℕ) × (value_at slots 0 ≡ At object) × AreFresh world heap object (method_at program number).class

  module _ (number : ℕ) (lt : number < length program.methods) (slots : List Held) (heap : Heap) (met : MeetParams world (method_at program number) slots heap) (new : IsNew number slots heap) (ints_ : HasInts world.place slots heap) where
    abbrev method : Method
    method = method_at program number

    abbrev v : Numbers
    v = numbers_of world.place slots heap ints_

    -- the fields of a new object
    field_zero : (made : method.constructor ≡ true) (field : ℕ) → HasField world (ObjectOf method.class) field → (v.int (FieldOf 0 field) ≡ pos 0) × (v.size (FieldOf 0 field) ≡ pos 0)
    field_zero made field has =
        let this = new made in
        let read : reading_at v (FieldOf 0 field) ≡ no_reading = sym (field_is world slots heap ints_ 0 this.0 field this.1) ∙ this.2 field has in
        reads_zero (reading_at v (FieldOf 0 field)) read

    zero_hold : (b : Bool) → ((b ≡ true) → method.constructor ≡ true) → AllHold (if_so b (zero_fields program (own_fields program method))) v
    zero_hold true made = zeros_hold program (own_fields program method) v (λ k field is. field_zero (made refl) field (own_has program locals formed method.class field (at_among (class_at program method.class).fields field k is)))
    zero_hold false made = tt

    entry_holds : AllHold (entry_facts program method) v
    entry_holds =
        all_hold_app v (received_params method 0 method.param_types) _ (received_all method 0 method.param_types v)
        (all_hold_app v (params_facts method 0 method.params) _ (params_hold program locals formed number lt slots slots heap ints_ (λ k within. refl) met)
        (zero_hold (method.constructor && has_no_parent (class_at program method.class).parent) (λ e. (and_parts method.constructor _ e).0)))

    stage_holds : (b : Bool) → method.constructor ≡ b → StageHolds world (stage_if program profile (types_in program locals formed) b method) v
    stage_holds false e = tt
    stage_holds true e = by_parent (has_parent program method)
      where
        by_parent : (parent : Bool) → StageHolds world (Making method.class parent (entry_type program method)) v
        by_parent true = λ field has. field_zero e field has
        by_parent false = tt

  abbrev Entries : Type 0
  Entries = (number : ℕ) → nat_lt number (length program.methods) ≡ true → Stored

  abbrev pub EntriesGive : Entries → Type 0
  EntriesGive entries = (number : ℕ) (there : nat_lt number (length program.methods) ≡ true) → EntryGives program (method_at program number) (entries number there)

  pub entry_met : (entries : Entries) → EntriesGive entries → (number : ℕ) (slots : List Held) (heap : Heap) → MeetParams world (method_at program number) slots heap → IsNew number slots heap
      → (t : Bool) (e : nat_lt number (length program.methods) ≡ t) → HoldsFor program profile (types_in program locals formed) (known_at program profile (types_in program locals formed) entries number t e) slots heap
  entry_met entries gives number slots heap met new false e = tt
  entry_met entries gives number slots heap met new true e = λ ints.
      let lt : number < length program.methods = grind (arith, nat_tests) in (
        above_met (entry_facts program (method_at program number)) (entries number e) (numbers_of world.place slots heap ints) (entry_holds number lt slots heap met new ints) (gives number e),
        stage_holds number lt slots heap met new ints (method_at program number).constructor refl,
        nothing_done program slots (numbers_of world.place slots heap ints),
      )

  -- ---- the stage

  module _ (number : ℕ) (lt : number < length program.methods) where
    abbrev at : Method
    at = method_at program number

    params_typed : (first : ℕ) (params : List Variable) (types : List Type_) → params_fit program at first params types ≡ true → list_all (is_type program) types ≡ true
    params_typed first [] [] e = refl
    params_typed first [] (ty ∷ types) e = absurd (false≢true e)
    params_typed first (param ∷ params) [] e = absurd (false≢true e)
    params_typed first (param ∷ params) (ty ∷ types) e =
        let a = and_parts (param.slot == param_slot at first) _ e in
        let b = and_parts (is_type program ty) _ a.1 in
        let c = and_parts (list_all (claim_fits ty (others (Param first) (named_type program at))) param.claims) _ b.1 in
        both b.0 (params_typed (first + 1) params types c.1)
      where
        both : {x y : Bool} → x ≡ true → y ≡ true → (x && y) ≡ true
        both e f = rw (e, f) refl

    -- a value of each parameter's type
    defaults_typed : (heap : Heap) (first : ℕ) (types : List Type_) (slot : ℕ) (ty : Type_) → list_all (is_type program) types ≡ true → param_type_from first types slot ≡ Some ty
        → (k : ℕ) × (slot ≡ first + k) × IsOfType program heap ty (value_at (map default_of types) k)
    defaults_typed heap first [] slot ty all is = absurd cc
    defaults_typed heap first (one ∷ types) slot ty all is =
        let parts = and_parts (is_type program one) (list_all (is_type program) types) all in
        by_test (first == slot)
        (λ t.
        let here : ◌≡◌ {A = Option Type_} (Some one) (Some ty) = subst (λ b. (if b then Some one else param_type_from (first + 1) types slot) ≡ Some ty) t is in
        let same : one ≡ ty = ap (λ (o : Option Type_). unwrap_or o one) here in
        let e = equal first slot t in
        (0, omega (arith, e), subst (λ y. IsOfType program heap y (default_of one)) same (default_of_type program locals formed heap one parts.0)))
        (λ t.
        let rest = defaults_typed heap (first + 1) types slot ty parts.1 (subst (λ b. (if b then Some one else param_type_from (first + 1) types slot) ≡ Some ty) t is) in
        let e = rest.1 in
        (suc rest.0, omega (arith, e), rest.2))

    module _ (made : at.constructor ≡ true) where
      static : at.is_static ≡ false
      static = not_static program locals formed number lt made

      abbrev heap_of : Heap
      heap_of = record { kind = ObjectOf at.class; cells = [] } ∷ []

      abbrev values : List Held
      values = At 0 ∷ map default_of at.param_types

      within : length values ≤ at.slots
      within =
          let a = length-map at.param_types default_of in
          let b = count_params program locals formed number lt in
          let c : param_slots at ≡ length at.params + 1 = rw static refl in
          let d : param_slots at ≤ at.slots = (let h = (method_has program locals formed number lt).room in grind (arith, nat_tests)) in
          omega (arith, a, b, c, d)

      entry_tracks : Tracks program at (entry_type program at)
      entry_tracks = record {
        slots = slots_with at.slots values;
        heap = heap_of;
        size = slots_length at.slots values within;
        this = slots_are at.slots values 0;
        kind = refl;
        typed = entry_typed program locals formed number values heap_of
            (λ slot ty is.
            let first : param_slot at 0 ≡ 1 = rw static refl in
            let found = defaults_typed heap_of 1 at.param_types slot ty (params_typed 0 at.params at.param_types (method_has program locals formed number lt).params) (subst (λ n. param_type_from n at.param_types slot ≡ Some ty) first is) in
            let e = found.1 in
            let same : slot ≡ suc found.0 = omega (arith, e) in
            subst (λ n. IsOfType program heap_of ty (value_at values n)) (sym same) found.2)
            (λ s. (at.class, refl, first_among at.class at.class _ (let h : (at.class == at.class) ≡ true = grind (arith, nat_tests) in h)));
      }

      -- nothing is known of the object before the parent's constructor has run
      entry_hidden : has_parent program at ≡ true → entry_type program at 0 ≡ None
      entry_hidden parent = ap (λ o. first_type o (this_type program at 0)) (no_param at.param_types) ∙ rw (static, made, parent) refl
        where
          past : (first : ℕ) (types : List Type_) → 0 < first → param_type_from first types 0 ≡ None
          past first [] lt_ = refl
          past first (ty ∷ types) lt_ = (let e : (first == 0) ≡ false = grind (arith, nat_tests) in rw e (past (first + 1) types (omega (arith, lt_))))

          no_param : (types : List Type_) → param_type_from (param_slot at 0) types 0 ≡ None
          no_param types = (let first : param_slot at 0 ≡ 1 = rw static refl in subst (λ n. param_type_from n types 0 ≡ None) (sym first) (past 1 types (omega (arith))))

    -- a constructor of a class with a parent calls the parent's once, in its body itself
    calls_once : super_calls_fit program at ≡ true
    calls_once =
        let numbers = loop_numbers (body_of at) in
        let types = locals_of program locals formed number in
        let a = and_parts (is_class program at.class) _ (method_is program locals formed number lt) in
        let b = and_parts (params_fit program at 0 at.params at.param_types) _ a.1 in
        let c = and_parts (at_most (param_slots at) at.slots) _ b.1 in
        let d = and_parts (at_most at.slots 512) _ c.1 in
        let e = and_parts (locals_fit program at types 0 at.locals types) _ d.1 in
        let f = and_parts (result_fits program at) _ e.1 in
        let g = and_parts (constructor_fits program at) _ f.1 in
        let h = and_parts (overrides_fit program at at.overrides) _ g.1 in
        let i = and_parts (same_numbers numbers (numbers_from 0 (length numbers))) _ h.1 in
        let j = and_parts (at_most (length numbers) 128) _ i.1 in
        let k = and_parts (nat_lt (code_size (body_of at)) 268435456) _ j.1 in
        (and_parts (super_calls_fit program at) _ k.1).0

    body_supers : at.constructor ≡ true → (parent : Bool) → has_parent program at ≡ parent → SuperEnds parent (body_of at) Empty
    body_supers made parent is =
        let both = and_parts (super_calls (body_of at) == one_if (at.constructor && has_parent program at)) _ calls_once in
        let all = equal (super_calls (body_of at)) _ both.0 in
        let own = equal (own_super_calls (body_of at)) _ both.1 in
        by_parent parent (all ∙ ap (λ b. one_if (b && has_parent program at)) made ∙ ap one_if is) (own ∙ ap (λ b. one_if (b && has_parent program at)) made ∙ ap one_if is)
      where
        by_parent : (parent : Bool) → super_calls (body_of at) ≡ one_if parent → own_super_calls (body_of at) ≡ one_if parent → SuperEnds parent (body_of at) Empty
        by_parent true all own = (all ∙ sym own, omega (arith, own))
        by_parent false all own = all

    pub entry_fits : StageFits program (types_in program locals formed) number (code_then (body_of at) Empty) (entry_stage program profile (types_in program locals formed) number)
    entry_fits = by_made at.constructor refl
      where
        by_made : (b : Bool) → at.constructor ≡ b → StageFits program (types_in program locals formed) number (code_then (body_of at) Empty) (stage_if program profile (types_in program locals formed) b at)
        by_made false e = e
        by_made true e = record {
          constructor = e;
          of = refl;
          tracks = entry_tracks e;
          lead = body_lead program locals formed number lt;
          hidden = entry_hidden e;
          supers = code_supers (has_parent program at) (body_of at) Empty (body_supers e (has_parent program at) refl) tt;
        }
