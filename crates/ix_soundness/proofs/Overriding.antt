-- A method that overrides another without errors stands for it.
use Rattle.std.specs.Prelude.{◌≡◌, ◌⊎◌, ℕ, suc, ◌+◌, ◌<◌, ◌==◌, Bool, true, false, not, ◌&&◌, ◌||◌, if◌then◌else◌, pos, List, [], ◌∷◌, ◌++◌, length, slice_get, Option, Some, refl}
use Rattle.std.specs.List.{list_all}
use Rattle.std.proofs.Common.{arith, sym, ap, ◌∙◌, subst, inl, inr, ⊎_elim}
use Rattle.std.proofs.lemmas.Bool.{and_parts, false≢true}
use Rattle.std.proofs.lemmas.Bool.Decides.{nat_tests}
use Rattle.std.proofs.lemmas.Option.{slice_get_within}
use Rattle.ix_core.specs.declared.claim.Name.{Name}
use Rattle.ix_core.specs.declared.claim.Name.TheVariants.{Param, Local, FieldNamed}
use Rattle.ix_core.specs.declared.claim.Type_.{Type_}
use Rattle.ix_core.specs.declared.error.Error.{Error}
use Rattle.ix_core.specs.declared.error.Subject.TheVariants as subject
use Rattle.ix_core.specs.declared.fact.Fact.{Fact}
use Rattle.ix_core.specs.declared.fact.Path.{Path}
use Rattle.ix_core.specs.declared.fact.Path.TheVariants.{Slot, FieldOf}
use Rattle.ix_core.specs.declared.program.Local.{Local as Variable}
use Rattle.ix_core.specs.declared.program.Method.{Method}
use Rattle.ix_core.specs.declared.program.Program.{Program}
use Rattle.ix_core.specs.Claims.{AreTrue}
use Rattle.ix_core.specs.Formed.{is_formed, is_there, is_proper_ancestor, same_types, overrides_fit, has_no_posts, ends_with, post_fits, upper_posts}
use Rattle.ix_core.specs.Heap.{Held, Num, Boolean, Null, At, Heap, Reading, value_at, object_at, place_in, field_value, reading_of, int_of, size_of}
use Rattle.ix_core.specs.Numbers.{Numbers, HasInts, numbers_of, field_of}
use Rattle.ix_core.specs.Posts.{PostsHold}
use Rattle.ix_core.specs.Objects.{IsOn, AllOn, KeepsInts, IsIntHeld, Later, IsSame}
use Rattle.ix_core.specs.Tables.{method_at, param_slot, param_slots}
use Rattle.ix_core.specs.Types.{same_type}
use Rattle.ix_core.specs.Waits.{MeetParams, param_readings, reading_through}
use Rattle.ix_core.specs.World.{World}
use Rattle.ix_core.proofs.Cases.{by_test}
use Rattle.ix_core.proofs.Entered.{reading_later, cell_each}
use Rattle.ix_core.proofs.FormedParts.{posts_are}
use Rattle.ix_core.proofs.Kept.{has_ints}
use Rattle.ix_core.proofs.TypeLaws.{type_is}
use Rattle.ix_core.proofs.TypedCalls.{method_has}
use Rattle.ix_core.specs.declared.fact.Fact.TheVariants.{Same}
use Rattle.ix_facts.specs.AfterOperation.{is_array}
use Rattle.ix_facts.specs.Facts.{AllHold}
use Rattle.ix_facts.specs.Forget.{SameBut, without}
use Rattle.ix_facts.specs.Stores.{Stored, Reached, Meets, IsAbove}
use Rattle.ix_facts.specs.Exact.{if_so}
use Rattle.ix_facts.proofs.FactLists.{all_hold_app}
use Rattle.ix_facts.proofs.Frame.{without_stays, without_holds}
use Rattle.ix_facts.proofs.StepLaws.{gives_meets}
use Rattle.ix_rules_hold.specs.MachineSteps.{on_paths, own_path, reading_at, IsDeclared}
use Rattle.ix_rules_hold.proofs.MachineTests.{parameter_is}
use Rattle.ix_signatures.specs.Signs.{received, received_params, params_facts, claims_facts}
use Rattle.ix_signatures.specs.SignErrors.{AllRefuse, OverrideErrors, of_run, HasRun, plain}
use Rattle.ix_soundness.proofs.FieldsShown.{adds_hold}
use Rattle.ix_rules_hold.proofs.ReturnedCalls.{or_parts}
use Rattle.ix_soundness.specs.Direct.{direct}
use Rattle.ix_soundness.specs.Stands.{StandsFor}
use Rattle.ix_soundness.proofs.ClaimTruths.{claims_hold, claims_true, none_fails}
use Rattle.ix_soundness.proofs.ResultSlots.{with_result, front_same, result_at, same_but, each_held, zero_int}
use Rattle.ix_soundness.proofs.Promises.{posts_read, posts_end}
use Rattle.ix_soundness.proofs.NamedClaims.{MayName, param_names, result_names, count_params}
use Rattle.ix_soundness.proofs.Stable.{unrefused_by}

-- stores above facts that hold are met
pub above_met : (facts : List Fact) (t : Stored) (v : Numbers) → AllHold facts v → IsAbove facts t → Meets t v
above_met facts t v h above = gives_meets (λ (f : List Fact). facts) v v (λ f k. h) (Reached []) t above tt

-- an array that is there has its own length
pub received_holds : (ty : Type_) (p : Path) (v : Numbers) → AllHold (received ty p) v
received_holds ty p v = by_array (is_array ty)
  where
    by_array : (b : Bool) → AllHold (if_so b (Same p p ∷ [])) v
    by_array true = (refl, tt)
    by_array false = tt

pub received_all : (method : Method) (first : ℕ) (types : List Type_) (v : Numbers) → AllHold (received_params method first types) v
received_all method first [] v = tt
received_all method first (ty ∷ types) v = all_hold_app v (received ty (Slot (param_slot method first))) (received_params method (suc first) types) (received_holds ty (Slot (param_slot method first)) v) (received_all method (suc first) types v)

module _ (program : Program) (locals : List (List Type_)) (formed : is_formed program locals ≡ true) where
  abbrev world : World
  world = direct program

  -- ---- claims of parameters, as facts of any slots that have the values

  -- the slots of the parameters and of `this` have the values
  abbrev HasValues : Method → List Held → List Held → Type 0
  HasValues method slots values = (k : ℕ) → k < param_slots method → value_at slots k ≡ value_at values k

  param_within : (method : Method) (k : ℕ) → k < length method.params → param_slot method k < param_slots method
  param_within method k lt = by_static method.is_static
    where
      by_static : (s : Bool) → (if s then k else k + 1) < (if s then length method.params else length method.params + 1)
      by_static true = lt
      by_static false = omega (arith, lt)

  this_within : (method : Method) → method.is_static ≡ false → 0 < param_slots method
  this_within method s = (let e : param_slots method ≡ length method.params + 1 = rw s refl in omega (arith, e))

  declared : (method : Method) (name : Name) → MayName method name → IsDeclared name
  declared method (Param n) may = tt
  declared method (Local n) may = absurd may
  declared method (FieldNamed f) may = tt

  -- what a name stands for is the same in both
  readings_same : (method : Method) (slots values : List Held) (heap : Heap) → HasValues method slots values → (name : Name) → MayName method name → param_readings world method values heap name ≡ param_readings world method slots heap name
  readings_same method slots values heap same (Param k) may = ap (reading_of heap) (sym (same (param_slot method k) (param_within method k may)))
  readings_same method slots values heap same (Local k) may = absurd may
  readings_same method slots values heap same (FieldNamed f) may = ap (λ held. reading_through world heap held f) (sym (same 0 (this_within method may.0)))

  module _ (n : ℕ) (lt : n < length program.methods) (slots values : List Held) (heap : Heap) (ints_ : HasInts world.place slots heap) (same : HasValues (method_at program n) slots values) where
    abbrev named : Method
    named = method_at program n

    abbrev v : Numbers
    v = numbers_of world.place slots heap ints_

    pub name_read : (name : Name) → MayName named name → param_readings world named values heap name ≡ reading_at v (own_path named name)
    name_read name may = readings_same named slots values heap same name may ∙ parameter_is world named slots heap ints_ name (declared named name may)

    param_read : (k : ℕ) → k < length named.params → reading_of heap (value_at values (param_slot named k)) ≡ reading_at v (Slot (param_slot named k))
    param_read k within = name_read (Param k) within

    abbrev Good : ℕ → Variable → Type 0
    Good k param = AllHold (claims_facts (own_path named) (Slot (param_slot named k)) param.claims) v

    pub params_hold : MeetParams world named values heap → AllHold (params_facts named 0 named.params) v
    params_hold met = from 0 named.params (λ k param is. let e : 0 + k ≡ k = omega arith in subst (λ m. Good m param) (sym e) (good k param is))
      where
        good : (k : ℕ) (param : Variable) → slice_get named.params k ≡ Some param → Good k param
        good k param is =
            claims_hold (own_path named) (Slot (param_slot named k)) param.claims v (reading_of heap (value_at values (param_slot named k))) (param_readings world named values heap) (param_read k (slice_get_within named.params k param is))
            (λ name named_. name_read name (param_names program locals formed n lt k param is name named_).0) (met k param is)

        from : (first : ℕ) (params : List Variable) → ((k : ℕ) (param : Variable) → slice_get params k ≡ Some param → Good (first + k) param) → AllHold (params_facts named first params) v
        from first [] each = tt
        from first (param ∷ params) each =
            let e : first + 0 ≡ first = omega arith in
            all_hold_app v (claims_facts (own_path named) (Slot (param_slot named first)) param.claims) (params_facts named (suc first) params)
            (subst (λ m. AllHold (claims_facts (own_path named) (Slot (param_slot named m)) param.claims) v) e (each 0 param refl))
            (from (suc first) params (λ k other is. let d : first + suc k ≡ suc first + k = omega arith in subst (λ m. AllHold (claims_facts (own_path named) (Slot (param_slot named m)) other.claims) v) d (each (suc k) other is)))

  -- ---- one method over another

  module _ (number over : ℕ) (lt : number < length program.methods) (is_over : (method_at program number).overrides ≡ Some over) (none : (error : Error) (rank : ℕ) → OverrideErrors program (method_at program number) number over error rank → ⊥) where
    abbrev runs : Method
    runs = method_at program number

    abbrev upper : Method
    upper = method_at program over

    is_false : (t : Bool) → not t ≡ true → t ≡ false
    is_false true e = absurd (false≢true e)
    is_false false e = refl

    pub record Parts : Type 0 where
      pub there : over < length program.methods
      pub static : runs.is_static ≡ false
      pub plain : runs.constructor ≡ false
      pub over_static : upper.is_static ≡ false
      pub over_plain : upper.constructor ≡ false
      pub types : same_types runs.param_types upper.param_types ≡ true
      pub result : same_type runs.result upper.result ≡ true

    parts : Parts
    parts =
        let e = subst (λ o. overrides_fit program runs o ≡ true) is_over (method_has program locals formed number lt).overrides in
        let a = and_parts (is_there program.methods over) _ e in
        let b = and_parts (not runs.is_static) _ a.1 in
        let c = and_parts (not runs.constructor) _ b.1 in
        let d = and_parts (not upper.is_static) _ c.1 in
        let f = and_parts (not upper.constructor) _ d.1 in
        let g = and_parts (is_proper_ancestor program runs upper.class) _ f.1 in
        let h = and_parts (same_types runs.param_types upper.param_types) (same_type runs.result upper.result) g.1 in
        record { there = (let t = a.0 in grind (arith, nat_tests)); static = is_false runs.is_static b.0; plain = is_false runs.constructor c.0; over_static = is_false upper.is_static d.0; over_plain = is_false upper.constructor f.0; types = h.0; result = h.1 }

    same_count : (types others : List Type_) → same_types types others ≡ true → length types ≡ length others
    same_count [] [] e = refl
    same_count [] (ty ∷ others) e = absurd (false≢true e)
    same_count (ty ∷ types) [] e = absurd (false≢true e)
    same_count (ty ∷ types) (other ∷ others) e = ap suc (same_count types others (and_parts (same_type ty other) (same_types types others) e).1)

    as_many : length upper.params ≡ length runs.params
    as_many = count_params program locals formed over parts.there ∙ (sym (same_count runs.param_types upper.param_types parts.types) ∙ sym (count_params program locals formed number lt))

    as_many_slots : param_slots upper ≡ param_slots runs
    as_many_slots = (let a : param_slots upper ≡ length upper.params + 1 = rw parts.over_static refl in let b : param_slots runs ≡ length runs.params + 1 = rw parts.static refl in let c = as_many in omega (arith, a, b, c))

    -- what it asks is shown of what the other asks
    demands : (values : List Held) (heap : Heap) → KeepsInts values heap → MeetParams world upper values heap → MeetParams world runs values heap
    demands values heap kept met k param is =
        let ints_ = has_ints world.place values heap kept in
        let facts = params_hold over parts.there values values heap ints_ (λ j within. refl) met in
        let v = numbers_of world.place values heap ints_ in
        claims_true (own_path runs) (Slot (param_slot runs k)) param.claims v (reading_of heap (value_at values (param_slot runs k))) (param_readings world runs values heap) refl
        (λ name named. name_read number lt values values heap ints_ (λ j within. refl) name (param_names program locals formed number lt k param is name named).0)
        (λ j c at. unrefused_by (IsAbove (params_facts upper 0 upper.params)) v (on_paths (own_path runs) c) (Slot (param_slot runs k))
        (none_fails (λ claim. AllRefuse (IsAbove (params_facts upper 0 upper.params)) (on_paths (own_path runs) claim) (Slot (param_slot runs k))) param.claims 10 runs.span (subject.Param number k)
        (λ error rank failed. none error rank (inl (record { k = k; param = param; declared = is; of = failed }))) j c at)
        (λ t above. above_met (params_facts upper 0 upper.params) t v facts above))

    effect : upper.effect_free ≡ true → runs.effect_free ≡ true
    effect marked = by_test runs.effect_free (λ t. t) (λ t. absurd (none (plain 12 runs.span) 0 (inr (inr (record { marked = marked; unmarked = t; is = refl; first = refl })))))

    -- ---- what it gives

    module _ (values : List Held) (began heap : Heap) (value : Held) (on : AllOn values began) (kept : KeepsInts values began) (kept_after : KeepsInts values heap) (int : IsIntHeld value) (later : Later began heap)
        (same : (slot field object : ℕ) → value_at values slot ≡ At object → (runs.effect_free ≡ true) ⊎ (world.is_final field ≡ true) → IsSame world began heap object field)
        (met : MeetParams world upper values began) (is : AreTrue runs.result_claims (reading_of heap value) (param_readings world runs values heap)) where
      abbrev r : ℕ
      r = param_slots runs

      abbrev called_slots : List Held
      called_slots = with_result r values (Num (pos 0))

      abbrev run_slots : List Held
      run_slots = with_result r values value

      called_ints : HasInts world.place called_slots began
      called_ints = has_ints world.place called_slots began (record { held = each_held IsIntHeld r values (Num (pos 0)) zero_int zero_int kept.held; within = kept.within; sizes = kept.sizes })

      run_ints : HasInts world.place run_slots heap
      run_ints = has_ints world.place run_slots heap (record { held = each_held IsIntHeld r values value zero_int int kept.held; within = kept_after.within; sizes = kept_after.sizes })

      abbrev before : Numbers
      before = numbers_of world.place called_slots began called_ints

      abbrev w : Numbers
      w = numbers_of world.place run_slots heap run_ints

      called_values : HasValues upper called_slots values
      called_values k lt_ = front_same r values (Num (pos 0)) k (let e = as_many_slots in omega (arith, lt_, e))

      run_values : (method : Method) → param_slots method ≡ r → HasValues method run_slots values
      run_values method e k lt_ = front_same r values value k (omega (arith, lt_, e))

      -- only what it may have changed has changed
      slot_same : (k : ℕ) → (k == r) ≡ false → value_at run_slots k ≡ value_at called_slots k
      slot_same k apart = same_but r values value (Num (pos 0)) k apart

      slot_on : (k : ℕ) → IsOn began (value_at called_slots k)
      slot_on = each_held (IsOn began) r values (Num (pos 0)) tt tt on.held

      -- a slot of the call's has a value that was given, or none that refers
      from_values : (k object : ℕ) → value_at called_slots k ≡ At object → (slot : ℕ) × (value_at values slot ≡ At object)
      from_values k object = each_held (λ held. held ≡ At object → (slot : ℕ) × (value_at values slot ≡ At object)) r values (Num (pos 0)) (λ e. absurd cc) (λ e. absurd cc) (λ j e. (j, e)) k

      field_same : (k field : ℕ) (held : Held) → value_at called_slots k ≡ held → (runs.effect_free ≡ true) ⊎ (world.is_final field ≡ true)
          → reading_of began (field_of world.place began field held) ≡ reading_of heap (field_of world.place heap field held)
      field_same k field (Num n) e why = refl
      field_same k field (Boolean answer) e why = refl
      field_same k field Null e why = refl
      field_same k field (At object) e why =
          let found = from_values k object e in
          reading_later began heap (field_value world.place began object field) later (cell_each (IsOn began) (object_at began object).cells (place_in world.place (object_at began object).kind field) tt (on.within object))
          ∙ ap (reading_of heap) (same found.0 field object found.1 why)

      why_same : (quiet final : Bool) → (not quiet && not final) ≡ false → (quiet ≡ true) ⊎ (final ≡ true)
      why_same true final e = inl refl
      why_same false true e = inr refl
      why_same false false e = absurd (false≢true (sym e))

      run_same : SameBut (of_run program runs) before w
      run_same (Slot k) e =
          let apart = (or_parts (k == r) (not runs.effect_free && false) e).0 in
          let now = slot_same k apart in
          let was = reading_later began heap (value_at called_slots k) later (slot_on k) in
          (ap int_of now, ap (size_of heap) now ∙ sym (ap (λ (x : Reading). x.size) was))
      run_same (FieldOf k field) e =
          let both = or_parts (k == r) (not runs.effect_free && not (world.is_final field)) e in
          let now = ap (field_of world.place heap field) (slot_same k both.0) in
          let was = field_same k field (value_at called_slots k) refl (why_same runs.effect_free (world.is_final field) both.1) in
          (ap int_of now ∙ sym (ap (λ (x : Reading). x.int) was), ap (size_of heap) now ∙ sym (ap (λ (x : Reading). x.size) was))

      called_met : (t : Stored) → IsAbove (received_params upper 0 upper.param_types ++ params_facts upper 0 upper.params) t → Meets t before
      called_met t above =
          above_met (received_params upper 0 upper.param_types ++ params_facts upper 0 upper.params) t before
          (all_hold_app before (received_params upper 0 upper.param_types) (params_facts upper 0 upper.params) (received_all upper 0 upper.param_types before) (params_hold over parts.there called_slots values began called_ints called_values met)) above

      value_read : reading_of heap value ≡ reading_at w (Slot r)
      value_read = ap (reading_of heap) (sym (result_at r values value))

      run_facts : AllHold (received runs.result (Slot r) ++ claims_facts (own_path runs) (Slot r) runs.result_claims) w
      run_facts =
          all_hold_app w (received runs.result (Slot r)) (claims_facts (own_path runs) (Slot r) runs.result_claims) (received_holds runs.result (Slot r) w)
          (claims_hold (own_path runs) (Slot r) runs.result_claims w (reading_of heap value) (param_readings world runs values heap) value_read
          (λ name named. name_read number lt run_slots values heap run_ints (run_values runs refl) name (result_names program locals formed number lt name named)) is)

      run_met : (t : Stored) → HasRun program runs upper t → Meets t w
      run_met t has =
          let one = called_met has.0 has.1 in
          let two = gives_meets (without (of_run program runs)) before w (λ facts h. without_stays (of_run program runs) before w run_same facts (without_holds (of_run program runs) before facts h)) has.0 has.2.0 has.2.1 one in
          adds_hold (received runs.result (Slot r) ++ claims_facts (own_path runs) (Slot r) runs.result_claims) has.2.0 t w run_facts has.2.2 two

      promises : AreTrue upper.result_claims (reading_of heap value) (param_readings world upper values heap)
      promises =
          claims_true (own_path upper) (Slot r) upper.result_claims w (reading_of heap value) (param_readings world upper values heap) value_read
          (λ name named. name_read over parts.there run_slots values heap run_ints (run_values upper as_many_slots) name (result_names program locals formed over parts.there name named))
          (λ j c at. unrefused_by (HasRun program runs upper) w (on_paths (own_path upper) c) (Slot r)
          (none_fails (λ claim. AllRefuse (HasRun program runs upper) (on_paths (own_path upper) claim) (Slot r)) upper.result_claims 11 runs.span (subject.Result over)
          (λ error rank failed. none error rank (inr (inl failed))) j c at)
          run_met)

    -- the posts of the overridden method stand behind those of its own
    ends : ends_with runs.posts upper.posts ≡ true
    ends =
        let one = and_parts (not runs.constructor || has_no_posts runs.posts) _ (posts_are program locals formed number lt) in
        let two = and_parts (list_all (post_fits program runs) runs.posts) _ one.1 in
        subst (λ o. ends_with runs.posts (upper_posts program runs o) ≡ true) is_over (and_parts (ends_with runs.posts (upper_posts program runs runs.overrides)) _ two.1).0

    read_alike : (values : List Held) (heap : Heap) (name : Name) → param_readings world runs values heap name ≡ param_readings world upper values heap name
    read_alike values heap (Param n) = ap (λ b. reading_of heap (value_at values (if b then n else n + 1))) (parts.static ∙ sym parts.over_static)
    read_alike values heap (Local n) = refl
    read_alike values heap (FieldNamed f) = refl

    posts : (values : List Held) (heap : Heap) (value : Option Held) → PostsHold runs.posts (param_readings world runs values heap) value → PostsHold upper.posts (param_readings world upper values heap) value
    posts values heap value is = posts_read upper.posts (param_readings world runs values heap) (param_readings world upper values heap) value (read_alike values heap) (posts_end runs.posts upper.posts (param_readings world runs values heap) value ends is)

    pub over_stands : StandsFor world upper runs
    over_stands = record {
      params = as_many;
      static = parts.over_static ∙ sym parts.static;
      constructor = parts.over_plain ∙ sym parts.plain;
      result = sym (type_is runs.result upper.result parts.result);
      effect = effect;
      demands = demands;
      promises = λ values began heap value on kept kept_after int later same met is. promises values began heap value on kept kept_after int later same met is;
      posts = posts;
    }

-- ---- and over several

pub itself_stands : (of : World) (method : Method) → StandsFor of method method
itself_stands of method = record {
  params = refl;
  static = refl;
  constructor = refl;
  result = refl;
  effect = λ e. e;
  demands = λ values heap kept met. met;
  promises = λ values began heap value on kept kept_after int later same met is. is;
  posts = λ values heap value is. is;
}

pub stands_stands : (of : World) (first second third : Method) → StandsFor of first second → StandsFor of second third → StandsFor of first third
stands_stands of first second third one two = record {
  params = one.params ∙ two.params;
  static = one.static ∙ two.static;
  constructor = one.constructor ∙ two.constructor;
  result = one.result ∙ two.result;
  effect = λ e. two.effect (one.effect e);
  demands = λ values heap kept met. two.demands values heap kept (one.demands values heap kept met);
  promises = λ values began heap value on kept kept_after int later same met is.
      one.promises values began heap value on kept kept_after int later (λ slot field object at why. same slot field object at (⊎_elim (λ q. inl (two.effect q)) (λ f. inr f) why)) met
      (two.promises values began heap value on kept kept_after int later same (one.demands values began kept met) is);
  posts = λ values heap value is. one.posts values heap value (two.posts values heap value is);
}
