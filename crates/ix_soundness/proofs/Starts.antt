-- A run begins well: no object is under construction, and what the entry's store may say is true of inputs that meet their method.
use Rattle.std.specs.Prelude.{◌≡◌, ℕ, zero, suc, ◌<◌, ◌≤◌, true, false, List, [], ◌∷◌, length, slice_get, Option, None, Some, unwrap_or, refl}
use Rattle.std.proofs.Common.{arith, sym, ap, subst, ◌∙◌}
use Rattle.std.proofs.lemmas.Bool.{false≢true}
use Rattle.std.proofs.lemmas.Bool.Decides.{nat_tests}
use Rattle.std.proofs.lemmas.Option.{slice_get_within}
use Rattle.ix_core.specs.declared.claim.Name.{Name}
use Rattle.ix_core.specs.declared.claim.Name.TheVariants.{Param, Local, FieldNamed}
use Rattle.ix_core.specs.declared.claim.Type_.{Type_}
use Rattle.ix_core.specs.declared.fact.Profile.{Profile}
use Rattle.ix_core.specs.declared.program.Local.{Local as Variable}
use Rattle.ix_core.specs.declared.program.Method.{Method}
use Rattle.ix_core.specs.declared.program.Program.{Program}
use Rattle.ix_core.specs.Formed.{is_formed}
use Rattle.ix_core.specs.Analysis.{Laws}
use Rattle.ix_core.specs.Claims.{AreTrue}
use Rattle.ix_core.specs.Heap.{Held, Num, Boolean, Null, At, Heap, Kind, ObjectOf, ArrayOf, Reading, no_reading, reading_of, value_at, object_at, place_in, field_value, cell_of}
use Rattle.ix_core.specs.Machine.{slots_with}
use Rattle.ix_core.specs.Objects.{HeapKeeps, FrameKeeps, IsFree, HasField}
use Rattle.ix_core.specs.Safe.{Input, HaveTypes, Begins, Meets, MeetEach, input_values, input_heap, input_reading, reading_in, input_names, start}
use Rattle.ix_core.specs.Tables.{no_method, method_at, param_slot, param_slots}
use Rattle.ix_core.specs.Waits.{Knowledge, MeetParams, param_readings, reading_through, Good, Runs}
use Rattle.ix_core.specs.World.{World}
use Rattle.ix_soundness.specs.Direct.{direct}
use Rattle.ix_core.proofs.Entered.{true_same, slots_are, slots_length}
use Rattle.ix_core.proofs.GoodStarts.{inputs_free, inputs_elements, inputs_arrays, IsInstance, values_free, values_read}
use Rattle.ix_core.proofs.Kept.{all_on, start_keeps}
use Rattle.ix_core.specs.TypedStates.{NowTyped}
use Rattle.ix_core.proofs.LawsAreSafe.{types_in}
use Rattle.ix_core.proofs.Cases.{by_test}
use Rattle.ix_core.proofs.TypedCalls.{method_has, params_count, not_static}
use Rattle.ix_core.proofs.TypedStarts.{inputs_count, values_count}

module _ (program : Program) where
  abbrev world : World
  world = direct program

  -- an input array has no fields, and neither has what is no object
  no_field : (heap : Heap) (held : Held) (field : ℕ) → ((number : ℕ) → IsInstance (object_at heap number).kind → ⊥) → reading_through world heap held field ≡ no_reading
  no_field heap (Num n) field arrays = refl
  no_field heap (Boolean answer) field arrays = refl
  no_field heap Null field arrays = refl
  no_field heap (At number) field arrays = of_kind (object_at heap number).kind refl
    where
      of_kind : (kind : Kind) → (object_at heap number).kind ≡ kind → reading_of heap (field_value world.place heap number field) ≡ no_reading
      of_kind (ObjectOf class) is = absurd (arrays number (subst IsInstance (sym is) tt))
      of_kind (ArrayOf ty) is = ap (λ kind. reading_of heap (cell_of (object_at heap number).cells (place_in world.place kind field))) is

  module _ (method : ℕ) (inputs : List Input) (found : Method) (is : method_at program method ≡ found) (static : found.is_static ≡ true) (have : HaveTypes inputs found.param_types) (meets : Meets found inputs)
      (params : length found.params ≡ length found.param_types) (room : length found.params ≤ found.slots) where
    abbrev heap : Heap
    heap = input_heap inputs found.param_types

    abbrev slots : List Held
    slots = slots_with found.slots (input_values 0 inputs)

    first_param : (number : ℕ) → param_slot found number ≡ number
    first_param number = rw static refl

    read_slot : (number : ℕ) → reading_of heap (value_at slots (param_slot found number)) ≡ reading_in (slice_get inputs number)
    read_slot number =
        ap (λ n. reading_of heap (value_at slots n)) (first_param number) ∙ (ap (reading_of heap) (slots_are found.slots (input_values 0 inputs) number) ∙ values_read inputs found.param_types have number)

    names_same : (name : Name) → input_names inputs name ≡ param_readings world found slots heap name
    names_same (Param number) = sym (read_slot number)
    names_same (Local number) = refl
    names_same (FieldNamed field) = sym (no_field heap (value_at slots 0) field (inputs_arrays inputs found.param_types))

    each_met : (all : List Input) (vars : List Variable) (types : List Type_) (names : Name → Reading) (number : ℕ) (param : Variable) → MeetEach all vars types names → HaveTypes all types → length vars ≡ length types → slice_get vars number ≡ Some param
        → (input : Input) × (slice_get all number ≡ Some input) × AreTrue param.claims (input_reading input) names
    each_met all [] types names number param met have_all count at = absurd cc
    each_met [] (var ∷ vars) [] names number param met have_all count at = absurd (omega (arith, count))
    each_met (input ∷ all) (var ∷ vars) [] names number param met have_all count at = absurd have_all
    each_met [] (var ∷ vars) (ty ∷ types) names number param met have_all count at = absurd have_all
    each_met (input ∷ all) (var ∷ vars) (ty ∷ types) names zero param met have_all count at =
        let same : var ≡ param = ap (λ (o : Option Variable). unwrap_or o var) at in
        (input, refl, subst (λ (v : Variable). AreTrue v.claims (input_reading input) names) same met.0)
    each_met (input ∷ all) (var ∷ vars) (ty ∷ types) names (suc number) param met have_all count at = each_met all vars types names number param met.2 have_all.1 (omega (arith, count)) at

    params_met : MeetParams world found slots heap
    params_met number param at =
        let met = each_met inputs found.params found.param_types (input_names inputs) number param meets have params at in
        true_same param.claims (input_reading met.0) (reading_of heap (value_at slots (param_slot found number))) (input_names inputs) (param_readings world found slots heap)
        (sym (read_slot number ∙ ap reading_in met.1)) names_same met.2

    heap_keeps : HeapKeeps world (λ object. ⊥) heap
    heap_keeps = record {
      bound = λ object is. absurd is;
      free = λ number place. inputs_free heap inputs found.param_types number place;
      built = λ object other field has. absurd (no_instance object field has);
      elements = λ array place lt. inputs_elements inputs found.params found.param_types (input_names inputs) meets params array place lt;
      room = λ object field place e. absurd (no_instance object field (place, e));
    }
      where
        by_kind : (kind : Kind) (field : ℕ) → HasField world kind field → IsInstance kind
        by_kind (ObjectOf class) field has = tt
        by_kind (ArrayOf ty) field has = absurd (none has.1)
          where
            none : {place : ℕ} → ◌≡◌ {A = Option ℕ} None (Some place) → ⊥
            none e = absurd cc

        no_instance : (object field : ℕ) → HasField world (object_at heap object).kind field → ⊥
        no_instance object field has = inputs_arrays inputs found.param_types object (by_kind (object_at heap object).kind field has)

    frame_keeps : found.constructor ≡ false → FrameKeeps (λ object. ⊥) found slots heap
    frame_keeps plain =
        let a = values_count program 0 inputs in
        let b = inputs_count program inputs found.param_types have in record {
          size = slots_length found.slots (input_values 0 inputs) (omega (arith, a, b, params, room));
          made = λ c. absurd (false≢true (sym plain ∙ c));
          this = λ c object at. absurd (false≢true (sym plain ∙ c));
          free = λ slot other. subst (IsFree (λ object. ⊥) heap) (sym (slots_are found.slots (input_values 0 inputs) slot)) (values_free inputs found.param_types have slot);
        }

pub starts_good : (program : Program) (locals : List (List Type_)) (formed : is_formed program locals ≡ true) (profile : Profile) (know : Knowledge) → Laws profile (direct program) (NowTyped program (types_in program locals formed)) know
    → (method : ℕ) (inputs : List Input) → Begins program method inputs → Good (direct program) know profile (start program method inputs)
starts_good program locals formed profile know laws method inputs begins =
    let here = method_at program method in
    let is : here ≡ begins.entry.found = ap (λ o. unwrap_or o no_method) begins.entry.at in
    let lt : method < length program.methods = slice_get_within program.methods method begins.entry.found begins.entry.at in
    let static : here.is_static ≡ true = ap (λ (m : Method). m.is_static) is ∙ begins.entry.static in
    let have : HaveTypes inputs here.param_types = subst (λ (m : Method). HaveTypes inputs m.param_types) (sym is) begins.entry.typed in
    let meets : Meets here inputs = subst (λ (m : Method). Meets m inputs) (sym is) begins.meets in
    let parts = method_has program locals formed method lt in
    let params = params_count program locals formed here 0 here.params here.param_types parts.params in
    let all : param_slots here ≡ length here.params = rw static refl in
    let within : param_slots here ≤ here.slots = (let h = parts.room in grind (arith, nat_tests)) in
    let room : length here.params ≤ here.slots = omega (arith, all, within) in
    let plain : here.constructor ≡ false = by_test here.constructor (λ c. absurd (false≢true (sym (not_static program locals formed method lt c) ∙ static))) (λ c. c) in
    let heap_fits = heap_keeps program method inputs here refl static have meets params room in
    let frame_fits = frame_keeps program method inputs here refl static have meets params room plain in
    let ints = start_keeps here.slots inputs here.param_types have in
    Runs refl (record {
      building = λ object. ⊥;
      heap_keeps = heap_fits;
      frame_keeps = frame_fits;
      ints = ints;
      store = know.entry method;
      holds = laws.entry method (slots_with here.slots (input_values 0 inputs)) (input_heap inputs here.param_types) (params_met program method inputs here refl static have meets params room)
          (all_on (direct program) (λ object. ⊥) here (slots_with here.slots (input_values 0 inputs)) (input_heap inputs here.param_types) heap_fits frame_fits) ints
          (λ c. absurd (false≢true (sym plain ∙ c)));
      fine = laws.body method;
      waits = tt;
    })
