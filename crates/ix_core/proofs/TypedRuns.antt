-- Every state of a run of a formed program is typed.
use Rattle.std.specs.Prelude.{◌≡◌, ℕ, zero, suc, ◌+◌, ◌<◌, ◌≤◌, ◌==◌, Bool, true, false, not, if◌then◌else◌, List, [], ◌∷◌, ◌++◌, length, map, reverse, slice_get, slice_set, option_map, Option, None, Some, unwrap_or, refl}
use Rattle.std.proofs.Common.{arith, sym, ap, subst, ◌∙◌}
use Rattle.std.proofs.lemmas.Bool.{and_parts, false≢true}
use Rattle.std.proofs.lemmas.Bool.Decides.{nat_tests}
use Rattle.std.proofs.lemmas.List.{length-set, length-map}
use Rattle.ix_core.specs.declared.claim.Type_.{Type_}
use Rattle.ix_core.specs.declared.claim.Type_.TheVariants as type
use Rattle.ix_core.specs.declared.op.Arg.{Arg}
use Rattle.ix_core.specs.declared.op.CallOp.{CallOp}
use Rattle.ix_core.specs.declared.program.Method.{Method}
use Rattle.ix_core.specs.declared.program.Program.{Program}
use Rattle.ix_core.specs.Formed.{is_formed, reads, args_fit, call_fits, static_fits, instance_fits, new_fits, super_fits, receiver_fits, is_target, is_argument, is_there, is_some_of, is_this, is_parent, with_result, param_type_from}
use Rattle.ix_core.specs.Heap.{Held, Num, Boolean, Null, At, Heap, Object, ObjectOf, value_at, object_at, default_of}
use Rattle.ix_core.specs.Machine.{Limits, Ending, Frame, Waiting, State, is_past, CallKind, Static, Instance, New, Super, Move, Go, Wrap, Tell, Enter, Leave, Stop, frame, stopped, receiver_slot, call_values, call_heap, lacks_cells, target_of, found_at, found_for, callee_of, entered, called, result_of, set_target, resumed, moved, next_move, step_from, step, run}
use Rattle.ix_core.specs.Objects.{Later}
use Rattle.ix_core.specs.Tables.{Tables, most_on_way, way_up, is_among, ancestors, all_fields, place_among, tables_of, method_at, class_at, field_at, param_slot, param_slots, found_method, default_result, routine_of}
use Rattle.ix_core.specs.Tasks.{Tasks}
use Rattle.ix_core.specs.Typed.{IsOfType, HeapTyped, SlotsTyped}
use Rattle.ix_core.specs.TypedStates.{ResultTyped, SlotsFit, FrameTyped, Resumes, WaitingTyped, WaitsTyped, StateTyped, Lead}
use Rattle.ix_core.specs.Types.{Types, class_type, is_void, is_below, is_class, is_type, with_type}
use Rattle.ix_core.proofs.Ancestors.{first_among, rest_among, above}
use Rattle.ix_core.proofs.Cases.{by_test, equal}
use Rattle.ix_core.proofs.Entered.{none_some, slots_length}
use Rattle.ix_core.proofs.FormedParts.{locals_of, ways_end, field_listed, field_type_is, flat_parts}
use Rattle.ix_core.proofs.Heaps.{value_other, grown_new}
use Rattle.ix_core.proofs.TypeLaws.{of_above}
use Rattle.ix_core.proofs.TypedCalls.{default_of_type, ends_typed, entry_typed, body_lead, found_fits, args_given, args_count, params_count, method_has, not_static, is_false, SameKind, same_itself}
use Rattle.ix_core.proofs.TypedMoves.{EnterFits, enter_types, MoveTyped, move_typed}
use Rattle.ix_core.proofs.TypedOperations.{Became, CanTake, target_there}
use Rattle.ix_core.proofs.TypedSteps.{ObjectTyped, grown_typed}
use Rattle.ix_core.proofs.TypedValues.{later_typed, slots_later, assign_typed, read_typed}
use Rattle.ix_core.proofs.Waiting.{later_refl, later_push}
use Rattle.ix_core.proofs.WorldTables.{there, world_room}

module _ (program : Program) (locals : List (List Type_)) (formed : is_formed program locals ≡ true) where
  abbrev at : ℕ → Method
  at number = method_at program number

  abbrev types_in : ℕ → List Type_
  types_in number = locals_of program locals formed number

  abbrev IsTyped : State → Type 0
  IsTyped state = StateTyped program types_in state

  -- ---- later heaps

  slots_fit_later : (f : Frame) (types : Types) (heap after : Heap) → Later heap after → SlotsFit program types_in f types heap → SlotsFit program types_in f types after
  slots_fit_later f types heap after later fit = record {
    there = fit.there;
    size = fit.size;
    this = λ s. later_typed program heap after (class_type (at f.method).class) (value_at f.slots 0) later (fit.this s);
    typed = slots_later program types f.slots heap after later fit.typed;
  }

  waits_later : (below : List Waiting) (callee : ℕ) (heap after : Heap) → Later heap after → WaitsTyped program types_in below callee heap → WaitsTyped program types_in below callee after
  waits_later [] callee heap after later all = tt
  waits_later (w ∷ below) callee heap after later all = (
    record { types = all.0.types; slots = slots_fit_later w.frame all.0.types heap after later all.0.slots; resumes = all.0.resumes },
    waits_later below w.frame.method heap after later all.1,
  )

  -- ---- moves within a frame

  goes_typed : (state : State) → IsTyped state → (tasks : Tasks) (later : List Held) (after : Heap) (wrapped : Bool) (types : Types) → Became program (at state.now.method) state.now.slots state.heap types later after
      → Lead program (at state.now.method) (types_in state.now.method) tasks types → IsTyped (record state { now = frame state.now.method tasks later; heap = after; wrapped = wrapped })
  goes_typed state typed tasks later after wrapped types became lead = record {
    heap = became.heap_typed;
    now = record {
      types = types;
      slots = record {
        there = typed.now.slots.there;
        size = became.size ∙ typed.now.slots.size;
        this = λ s. subst (IsOfType program after (class_type (at state.now.method).class)) (sym (became.this s))
            (later_typed program state.heap after (class_type (at state.now.method).class) (value_at state.now.slots 0) became.heap_later (typed.now.slots.this s));
        typed = became.typed;
      };
      fits = lead;
    };
    below = waits_later state.below state.now.method state.heap after became.heap_later typed.below;
  }

  -- ---- returns

  resumed_slots : (w : Waiting) (callee : Method) (heap : Heap) (result : Option Held) → ResultTyped program callee heap result → WaitingTyped program types_in w callee heap
      → FrameTyped program types_in (frame w.frame.method w.frame.tasks (set_target w.target result w.frame.slots)) heap
  resumed_slots w callee heap result is waiting = by_target w.target waiting.resumes
    where
      by_target : (target : Option ℕ) → Resumes program types_in w.frame waiting.types callee target → FrameTyped program types_in (frame w.frame.method w.frame.tasks (set_target target result w.frame.slots)) heap
      by_target None lead = record {
        types = waiting.types;
        slots = record { there = waiting.slots.there; size = waiting.slots.size; this = waiting.slots.this; typed = waiting.slots.typed };
        fits = lead;
      }
      by_target (Some t) resumes =
          let given = resumes.3 heap result is in
          let set : set_target (Some t) result w.frame.slots ≡ slice_set w.frame.slots t given.0 = ap (λ r. set_target (Some t) r w.frame.slots) given.1 in
          subst (λ slots. FrameTyped program types_in (frame w.frame.method w.frame.tasks slots) heap) (sym set) (record {
            types = with_type t resumes.2 waiting.types;
            slots = record {
              there = waiting.slots.there;
              size = length-set w.frame.slots t given.0 ∙ waiting.slots.size;
              this = λ s. subst (IsOfType program heap (class_type (at w.frame.method).class)) (sym (value_other w.frame.slots t 0 given.0 (resumes.1 s))) (waiting.slots.this s);
              typed = assign_typed program waiting.types w.frame.slots heap t resumes.2 given.0 resumes.0 given.2 waiting.slots.typed;
            };
            fits = resumes.4;
          })

  leaves_typed : (state : State) → IsTyped state → (returned : Option ℕ) → ((slot : ℕ) → returned ≡ Some slot → IsOfType program state.heap (at state.now.method).result (value_at state.now.slots slot))
      → (below : List Waiting) → WaitsTyped program types_in below state.now.method state.heap → IsTyped (resumed (result_of (routine_of (at state.now.method)) state.now.slots returned) state below)
  leaves_typed state typed returned given [] all = record { heap = typed.heap; now = typed.now; below = typed.below }
  leaves_typed state typed returned given (w ∷ below) all = record {
    heap = typed.heap;
    now = resumed_slots w (at state.now.method) state.heap (result_of (routine_of (at state.now.method)) state.now.slots returned)
        (ends_typed program locals formed state.now.method state.now.slots state.heap returned typed.now.slots.there typed.now.slots.this given) all.0;
    below = all.1;
  }

  -- ---- calls

  -- what each kind of call shows of the method that runs
  record EnterTyped (state : State) (kind : CallKind) (call : CallOp) (tasks : Tasks) (number : ℕ) : Type 0 where
    pub there : number < length program.methods
    pub later : Later state.heap (call_heap (tables_of program) kind state.heap)
    pub heap_typed : HeapTyped program (call_heap (tables_of program) kind state.heap)
    pub count : length (call_values kind call (length state.heap) state.now.slots) ≡ param_slots (at number)
    pub params : (slot : ℕ) (ty : Type_) → param_type_from (param_slot (at number) 0) (at number).param_types slot ≡ Some ty
        → IsOfType program (call_heap (tables_of program) kind state.heap) ty (value_at (call_values kind call (length state.heap) state.now.slots) slot)
    pub this : (at number).is_static ≡ false → IsOfType program (call_heap (tables_of program) kind state.heap) (class_type (at number).class) (value_at (call_values kind call (length state.heap) state.now.slots) 0)
    pub types : Types
    pub typed : SlotsTyped program types state.now.slots state.heap
    pub resumes : Resumes program types_in (frame state.now.method tasks state.now.slots) types (at number) (target_of (tables_of program) kind call)

  enters_typed : (state : State) → IsTyped state → (kind : CallKind) (call : CallOp) (tasks : Tasks) (number : ℕ) → EnterTyped state kind call tasks number → IsTyped (entered (tables_of program) kind call number tasks state)
  enters_typed state typed kind call tasks number e =
      let after = call_heap (tables_of program) kind state.heap in
      let values = call_values kind call (length state.heap) state.now.slots in
      let room : param_slots (at number) ≤ (at number).slots = (let h = (method_has program locals formed number e.there).room in grind (arith, nat_tests)) in record {
        heap = e.heap_typed;
        now = record {
          types = Rattle.ix_core.specs.Formed.entry_type program (at number);
          slots = record {
            there = e.there;
            size = slots_length (at number).slots values (let c = e.count in omega (arith, c, room));
            this = λ s. subst (IsOfType program after (class_type (at number).class)) (sym (Rattle.ix_core.proofs.Entered.slots_are (at number).slots values 0)) (e.this s);
            typed = entry_typed program locals formed number values after e.params e.this;
          };
          fits = body_lead program locals formed number e.there;
        };
        below = (
          record {
            types = e.types;
            slots = slots_fit_later (frame state.now.method tasks state.now.slots) e.types state.heap after e.later
                (record { there = typed.now.slots.there; size = typed.now.slots.size; this = typed.now.slots.this; typed = e.typed });
            resumes = e.resumes;
          },
          waits_later state.below state.now.method state.heap after e.later typed.below,
        );
      }

  -- ---- each kind of call

  module _ (state : State) (typed : IsTyped state) (call : CallOp) (tasks : Tasks) (types : Types) (slots_typed : SlotsTyped program types state.now.slots state.heap) where
    abbrev caller : Method
    caller = at state.now.method

    abbrev named : Method
    named = at call.method

    abbrev slots : List Held
    slots = state.now.slots

    can_take : is_target program caller call.target ≡ true → CanTake caller slots call.target
    can_take e = target_there program (ways_end program locals formed) caller (types_in state.now.method) types slots state.heap typed.now.slots.size slots_typed typed.heap call.target e

    record CallHas : Type 0 where
      pub there : call.method < length program.methods
      pub args : args_fit program caller (Some types) call.args named.param_types ≡ true
      pub target : is_target program caller call.target ≡ true

    call_has : call_fits program caller (Some types) call ≡ true → CallHas
    call_has e =
        let a = and_parts (is_there program.methods call.method) _ e in
        let b = and_parts (is_class program call.class) _ a.1 in
        let c = and_parts (args_fit program caller (Some types) call.args named.param_types) _ b.1 in
        let d = and_parts (is_target program caller call.target) (not (is_argument call.args call.target)) c.1 in
        record { there = (let h = a.0 in grind (arith, nat_tests)); args = c.0; target = d.0 }

    -- the arguments, behind so many values
    arg_typed : (first slot : ℕ) (ty : Type_) → args_fit program caller (Some types) call.args named.param_types ≡ true → param_type_from first named.param_types slot ≡ Some ty
        → (k : ℕ) × (slot ≡ first + k) × IsOfType program state.heap ty (value_at (map (λ (arg : Arg). value_at slots arg.slot) call.args) k)
    arg_typed first slot ty e is = args_given program locals formed caller types slots state.heap typed.now.slots.size slots_typed call.args named.param_types first slot ty e is

    arg_count : args_fit program caller (Some types) call.args named.param_types ≡ true → length (map (λ (arg : Arg). value_at slots arg.slot) call.args) ≡ length named.param_types
    arg_count e = length-map call.args (λ (arg : Arg). value_at slots arg.slot) ∙ args_count program locals formed caller types call.args named.param_types e

    param_count : (number : ℕ) → number < length program.methods → length (at number).params ≡ length (at number).param_types
    param_count number lt = params_count program locals formed (at number) 0 (at number).params (at number).param_types (method_has program locals formed number lt).params

    -- a method that is called gives a value of its result's type to the target, if it has a result
    method_resumes : (number : ℕ) → SameKind (at number) named → named.constructor ≡ false → is_target program caller call.target ≡ true
        → ((behind : Types) → with_result program caller call (Some types) ≡ Some behind → Lead program caller (types_in state.now.method) tasks behind)
        → Resumes program types_in (frame state.now.method tasks slots) types (at number) (option_map (λ default. call.target) (default_result named.result))
    method_resumes number same plain target leads = by_result named.result refl
      where
        found : is_void named.result ≡ false → Lead program caller (types_in state.now.method) tasks (with_type call.target named.result types)
        found v = leads (with_type call.target named.result types) (rw v refl)

        given : is_void named.result ≡ false → (heap : Heap) (result : Option Held) → ResultTyped program (at number) heap result → (value : Held) × (result ≡ Some value) × IsOfType program heap named.result value
        given v heap result is =
            let r = is.given (same.constructor ∙ plain) (ap is_void same.result ∙ v) in
            (r.0, r.1, subst (λ ty. IsOfType program heap ty r.0) same.result r.2)

        some_target : is_void named.result ≡ false → Resumes program types_in (frame state.now.method tasks slots) types (at number) (Some call.target)
        some_target v = let can = can_take target in (can.within, can.apart, named.result, given v, found v)

        by_result : (ty : Type_) → named.result ≡ ty → Resumes program types_in (frame state.now.method tasks slots) types (at number) (option_map (λ default. call.target) (default_result ty))
        by_result type.Void is = leads types (rw is refl)
        by_result (type.Plain of) is = some_target (ap is_void is)
        by_result (type.Array of depth element) is = some_target (ap is_void is)

    static_typed : static_fits program caller (Some types) call ≡ true → ((behind : Types) → with_result program caller call (Some types) ≡ Some behind → Lead program caller (types_in state.now.method) tasks behind)
        → EnterTyped state Static call tasks call.method
    static_typed e leads =
        let one = and_parts (call_fits program caller (Some types) call) _ e in
        let has = call_has one.0 in
        let two = and_parts named.is_static (not (is_some_of call.receiver)) one.1 in
        let zero_first : param_slot named 0 ≡ 0 = rw two.0 refl in
        let plain : named.constructor ≡ false = by_test named.constructor (λ c. absurd (false≢true (sym (not_static program locals formed call.method has.there c) ∙ two.0))) (λ c. c) in record {
          there = has.there;
          later = later_refl state.heap;
          heap_typed = typed.heap;
          count = arg_count has.args ∙ (sym (param_count call.method has.there) ∙ (let h : param_slots named ≡ length named.params = rw two.0 refl in sym h));
          params = λ slot ty is.
              let r = arg_typed (param_slot named 0) slot ty has.args is in
              let same : slot ≡ r.0 = (let a = r.1 in omega (arith, a, zero_first)) in
              subst (λ n. IsOfType program state.heap ty (value_at (map (λ (arg : Arg). value_at slots arg.slot) call.args) n)) (sym same) r.2;
          this = λ s. absurd (false≢true (sym s ∙ two.0));
          types = types;
          typed = slots_typed;
          resumes = method_resumes call.method (same_itself program locals formed call.method) plain has.target leads;
        }

    -- behind a receiver
    behind_typed : (heap : Heap) (first : Held) (number : ℕ) → Later state.heap heap → (at number).is_static ≡ false → (at number).param_types ≡ named.param_types → args_fit program caller (Some types) call.args named.param_types ≡ true
        → (slot : ℕ) (ty : Type_) → param_type_from (param_slot (at number) 0) (at number).param_types slot ≡ Some ty → IsOfType program heap ty (value_at (first ∷ map (λ (arg : Arg). value_at slots arg.slot) call.args) slot)
    behind_typed heap first number later instance_ same args slot ty is =
        let one_first : param_slot (at number) 0 ≡ 1 = rw instance_ refl in
        let r = arg_typed (param_slot (at number) 0) slot ty args (subst (λ params. param_type_from (param_slot (at number) 0) params slot ≡ Some ty) same is) in
        let here : slot ≡ suc r.0 = (let a = r.1 in omega (arith, a, one_first)) in
        subst (λ n. IsOfType program heap ty (value_at (first ∷ map (λ (arg : Arg). value_at slots arg.slot) call.args) n)) (sym here)
        (later_typed program state.heap heap ty (value_at (map (λ (arg : Arg). value_at slots arg.slot) call.args) r.0) later r.2)

    behind_count : (first : Held) (number : ℕ) → number < length program.methods → (at number).is_static ≡ false → (at number).param_types ≡ named.param_types → args_fit program caller (Some types) call.args named.param_types ≡ true
        → length (first ∷ map (λ (arg : Arg). value_at slots arg.slot) call.args) ≡ param_slots (at number)
    behind_count first number lt instance_ same args =
        let a = arg_count args in
        let b = param_count number lt in
        let c : length (at number).param_types ≡ length named.param_types = ap length same in
        let d : param_slots (at number) ≡ length (at number).params + 1 = rw instance_ refl in
        omega (arith, a, b, c, d)

    -- the method that runs for the receiver
    found_is : (heap : Heap) (held : Held) (number : ℕ) → IsOfType program heap (class_type call.class) held → found_at (tables_of program) call.method heap held ≡ Some number
        → (k : ℕ) × (held ≡ At k) × (of : ℕ) × ((object_at heap k).kind ≡ ObjectOf of) × (is_below program of call.class ≡ true) × (found_method program of call.method ≡ number)
    found_is heap (Num n) number is e = absurd is
    found_is heap (Boolean answer) number is e = absurd is
    found_is heap Null number is e = none_some number e
    found_is heap (At k) number is e =
        let same : ◌≡◌ {A = Option ℕ} (Some (found_method program is.0 call.method)) (Some number) = subst (λ kind. found_for (tables_of program) call.method kind ≡ Some number) is.1 e in
        (k, refl, is.0, is.1, is.2, ap (λ (o : Option ℕ). unwrap_or o number) same)

    instance_typed : (number : ℕ) → instance_fits program caller (Some types) call ≡ true → callee_of (tables_of program) Instance call slots state.heap ≡ Some number
        → ((behind : Types) → with_result program caller call (Some types) ≡ Some behind → Lead program caller (types_in state.now.method) tasks behind)
        → EnterTyped state Instance call tasks number
    instance_typed number e runs leads =
        let one = and_parts (call_fits program caller (Some types) call) _ e in
        let has = call_has one.0 in
        let two = and_parts (receiver_fits program caller (Some types) call.receiver call.target call.class) _ one.1 in
        let three = and_parts (not named.is_static) _ two.1 in
        let four = and_parts (not named.constructor) (is_below program call.class named.class) three.1 in
        let held : IsOfType program state.heap (class_type call.class) (value_at slots (receiver_slot call.receiver)) = receiver_typed call.receiver two.0 in
        let found = found_is state.heap (value_at slots (receiver_slot call.receiver)) number held runs in
        let of : ℕ = found.2 in
        let below : is_below program of named.class ≡ true = above program most_on_way most_on_way (Some of) call.class named.class (ways_end program locals formed of) found.4 four.1 in
        let fits = found_fits program locals formed of call.method has.there below in
        let there : number < length program.methods = subst (λ n. n < length program.methods) found.5 fits.0 in
        let same : SameKind (at number) named = subst (λ n. SameKind (at n) named) found.5 fits.1 in
        let class_below : is_below program of (at number).class ≡ true = subst (λ n. is_below program of (at n).class ≡ true) found.5 fits.2 in
        let instance_ : (at number).is_static ≡ false = same.static ∙ is_false named.is_static three.0 in record {
          there = there;
          later = later_refl state.heap;
          heap_typed = typed.heap;
          count = behind_count (value_at slots (receiver_slot call.receiver)) number there instance_ same.params has.args;
          params = behind_typed state.heap (value_at slots (receiver_slot call.receiver)) number (later_refl state.heap) instance_ same.params has.args;
          this = λ s. subst (IsOfType program state.heap (class_type (at number).class)) (sym found.1) (of, found.3, class_below);
          types = types;
          typed = slots_typed;
          resumes = method_resumes number same (is_false named.constructor four.0) has.target leads;
        }
      where
        receiver_typed : (receiver : Option ℕ) → receiver_fits program caller (Some types) receiver call.target call.class ≡ true → IsOfType program state.heap (class_type call.class) (value_at slots (receiver_slot receiver))
        receiver_typed None e = absurd (false≢true e)
        receiver_typed (Some slot) e =
            (read_typed program (ways_end program locals formed) caller types slots state.heap typed.now.slots.size slots_typed slot (class_type call.class) (and_parts (reads program caller (Some types) slot (class_type call.class)) (not (slot == call.target)) e).0).1

    -- the parent's constructor runs on the same object
    super_typed : super_fits program caller (Some types) call ≡ true → Lead program caller (types_in state.now.method) tasks (with_type 0 (class_type caller.class) types) → EnterTyped state Super call tasks call.method
    super_typed e lead =
        let one = and_parts (call_fits program caller (Some types) call) _ e in
        let has = call_has one.0 in
        let two = and_parts (is_this call.receiver) _ one.1 in
        let three = and_parts caller.constructor _ two.1 in
        let four = and_parts named.constructor (is_parent (class_at program caller.class).parent named.class) three.1 in
        let own : IsOfType program state.heap (class_type caller.class) (value_at slots 0) = typed.now.slots.this (not_static program locals formed state.now.method typed.now.slots.there three.0) in
        let instance_ : named.is_static ≡ false = not_static program locals formed call.method has.there four.0 in
        let this_is : value_at slots (receiver_slot call.receiver) ≡ value_at slots 0 = ap (value_at slots) (first_receiver call.receiver two.0) in record {
          there = has.there;
          later = later_refl state.heap;
          heap_typed = typed.heap;
          count = behind_count (value_at slots (receiver_slot call.receiver)) call.method has.there instance_ refl has.args;
          params = behind_typed state.heap (value_at slots (receiver_slot call.receiver)) call.method (later_refl state.heap) instance_ refl has.args;
          this = λ s. subst (IsOfType program state.heap (class_type named.class)) (sym this_is)
              (of_above program (ways_end program locals formed) state.heap (class_type caller.class) (class_type named.class) (value_at slots 0) (parent_above caller.class named.class four.1) own);
          types = with_type 0 (class_type caller.class) types;
          typed = λ slot ty is. own_typed slot ty own is;
          resumes = lead;
        }
      where
        first_receiver : (receiver : Option ℕ) → is_this receiver ≡ true → receiver_slot receiver ≡ 0
        first_receiver None e = absurd (false≢true e)
        first_receiver (Some slot) e = equal slot 0 e

        own_typed : (slot : ℕ) (ty : Type_) → IsOfType program state.heap (class_type caller.class) (value_at slots 0) → with_type 0 (class_type caller.class) types slot ≡ Some ty → IsOfType program state.heap ty (value_at slots slot)
        own_typed slot ty own is =
            by_test (slot == 0)
            (λ t.
            let here : ◌≡◌ {A = Option Type_} (Some (class_type caller.class)) (Some ty) = subst (λ b. (if b then Some (class_type caller.class) else types slot) ≡ Some ty) t is in
            let same : class_type caller.class ≡ ty = ap (λ (o : Option Type_). unwrap_or o ty) here in
            subst (λ n. IsOfType program state.heap ty (value_at slots n)) (sym (equal slot 0 t)) (subst (λ y. IsOfType program state.heap y (value_at slots 0)) same own))
            (λ t. slots_typed slot ty (subst (λ b. (if b then Some (class_type caller.class) else types slot) ≡ Some ty) t is))

        parent_above : (class parent : ℕ) → is_parent (class_at program class).parent parent ≡ true → is_below program class parent ≡ true
        parent_above class parent e = by_parent (class_at program class).parent refl e
          where
            by_parent : (found : Option ℕ) → (class_at program class).parent ≡ found → is_parent found parent ≡ true → is_below program class parent ≡ true
            by_parent None is e = absurd (false≢true e)
            by_parent (Some up) is e =
                rest_among class parent (way_up (λ below. (class_at program below).parent) 31 (class_at program class).parent)
                (subst (λ o. is_among (way_up (λ below. (class_at program below).parent) 31 o) parent ≡ true) (sym is) (first_among up parent (way_up (λ below. (class_at program below).parent) 30 (class_at program up).parent) e))

  -- ---- new instances

  map_at : (of : ℕ → Held) (numbers : List ℕ) (place : ℕ) → place < length numbers → value_at (map of numbers) place ≡ of (unwrap_or (slice_get numbers place) 0)
  map_at of [] place lt = absurd (omega (arith, lt))
  map_at of (number ∷ numbers) zero lt = refl
  map_at of (number ∷ numbers) (suc place) lt = map_at of numbers place (omega (arith, lt))

  one_on : (found : Option ℕ) (place : ℕ) → option_map (λ (at : ℕ). at + 1) found ≡ Some place → (at : ℕ) × (found ≡ Some at)
  one_on None place e = none_some place e
  one_on (Some at) place e = (at, refl)

  among_place : (numbers : List ℕ) (number place : ℕ) → place_among numbers number ≡ Some place → is_among numbers number ≡ true
  among_place [] number place e = none_some place e
  among_place (first ∷ numbers) number place e =
      by_test (first == number)
      (λ t. first_among first number numbers t)
      (λ t.
      let rest : option_map (λ (at : ℕ). at + 1) (place_among numbers number) ≡ Some place = subst (λ b. (if b then Some 0 else option_map (λ (at : ℕ). at + 1) (place_among numbers number)) ≡ Some place) t e in
      let found = one_on (place_among numbers number) place rest in
      rest_among first number numbers (among_place numbers number found.0 found.1))

  -- the fields of an instance have types of values
  field_typed : (class field place : ℕ) → place_among (all_fields program class) field ≡ Some place → is_type program (field_at program field).ty ≡ true
  field_typed class field place e =
      let found = flat_parts (λ above. (class_at program above).fields) (reverse (ancestors program class)) field (among_place (all_fields program class) field place e) in
      field_type_is program locals formed field (field_listed program locals formed found.0 field found.2).0

  new_object : (heap : Heap) (class : ℕ) → ObjectTyped program heap (record { kind = ObjectOf class; cells = (tables_of program).fresh_fields class })
  new_object heap class = record {
    room = λ field place e. world_room program class field place e;
    fields = λ field place e.
        let there_ = there (all_fields program class) field place e in
        let value : value_at ((tables_of program).fresh_fields class) place ≡ default_of (field_at program field).ty
        = map_at (λ number. default_of (field_at program number).ty) (all_fields program class) place there_.0 ∙ ap (λ number. default_of (field_at program number).ty) there_.1 in
        subst (IsOfType program heap (field_at program field).ty) (sym value) (default_of_type program locals formed heap (field_at program field).ty (field_typed class field place e));
    cells = λ place ty e lt. absurd cc;
  }

  module _ (state : State) (typed : IsTyped state) (call : CallOp) (tasks : Tasks) (types : Types) (slots_typed : SlotsTyped program types state.now.slots state.heap) where
    new_typed : (class : ℕ) → new_fits program (at state.now.method) (Some types) call ≡ true → class ≡ call.class
        → Lead program (at state.now.method) (types_in state.now.method) tasks (with_type call.target (class_type call.class) types) → EnterTyped state (New class) call tasks call.method
    new_typed class e same lead =
        let named = at call.method in
        let made : Object = record { kind = ObjectOf class; cells = (tables_of program).fresh_fields class } in
        let after : Heap = state.heap ++ made ∷ [] in
        let later : Later state.heap after = later_push state.heap made in
        let one = and_parts (call_fits program (at state.now.method) (Some types) call) _ e in
        let has = call_has state typed call tasks types slots_typed one.0 in
        let two = and_parts named.constructor _ one.1 in
        let three = and_parts (named.class == call.class) (not (is_some_of call.receiver)) two.1 in
        let instance_ : named.is_static ≡ false = not_static program locals formed call.method has.there two.0 in
        let class_is : named.class ≡ call.class = equal named.class call.class three.0 in
        let can = can_take state typed call tasks types slots_typed has.target in
        let itself_below : is_below program class named.class ≡ true
        = subst (λ n. is_below program class n ≡ true) (same ∙ sym class_is) (first_among class class (way_up (λ below. (class_at program below).parent) 31 (class_at program class).parent) (let h : (class == class) ≡ true = grind (arith, nat_tests) in h)) in record {
          there = has.there;
          later = later;
          heap_typed = grown_typed program state.heap made typed.heap (new_object after class);
          count = behind_count state typed call tasks types slots_typed (At (length state.heap)) call.method has.there instance_ refl has.args;
          params = behind_typed state typed call tasks types slots_typed after (At (length state.heap)) call.method later instance_ refl has.args;
          this = λ s. (class, ap (λ (o : Object). o.kind) (grown_new state.heap made), itself_below);
          types = types;
          typed = slots_typed;
          resumes = (
            can.within,
            can.apart,
            class_type call.class,
            (λ heap result is. let r = is.made two.0 in (r.0, r.1, subst (λ n. IsOfType program heap (class_type n) r.0) class_is r.2)),
            lead,
          );
        }

  -- ---- every move

  module _ (limits : Limits) where
    abbrev tables : Tables
    tables = tables_of program

    if_typed : (t : Bool) (first second : State) → IsTyped first → IsTyped second → IsTyped (if t then first else second)
    if_typed true first second a b = a
    if_typed false first second a b = b

    stopped_typed : (state : State) (ending : Ending) → IsTyped state → IsTyped (stopped ending state)
    stopped_typed state ending typed = record { heap = typed.heap; now = typed.now; below = typed.below }

    called_typed : (state : State) → IsTyped state → (kind : CallKind) (call : CallOp) (place : ℕ) (tasks : Tasks) (found : Option ℕ) → ((number : ℕ) → found ≡ Some number → EnterTyped state kind call tasks number)
        → IsTyped (called limits tables kind call place tasks state found)
    called_typed state typed kind call place tasks None enters = stopped_typed state _ typed
    called_typed state typed kind call place tasks (Some number) enters =
        if_typed (lacks_cells limits tables kind state.heap) _ _ (stopped_typed state _ typed)
        (if_typed (is_past limits.frames (length state.below + 2)) _ _ (stopped_typed state _ typed) (enters_typed state typed kind call tasks number (enters number refl)))

    enter_typed : (state : State) → IsTyped state → (kind : CallKind) (call : CallOp) (tasks : Tasks) (types : Types) → SlotsTyped program types state.now.slots state.heap
        → EnterFits program (ways_end program locals formed) (at state.now.method) (types_in state.now.method) kind call types
        → ((behind : Types) → enter_types program (ways_end program locals formed) (at state.now.method) (types_in state.now.method) kind call types ≡ Some behind → Lead program (at state.now.method) (types_in state.now.method) tasks behind)
        → (number : ℕ) → callee_of tables kind call state.now.slots state.heap ≡ Some number → EnterTyped state kind call tasks number
    enter_typed state typed Static call tasks types slots_typed fits leads number runs = subst (EnterTyped state Static call tasks) (some_is runs) (static_typed state typed call tasks types slots_typed fits leads)
      where
        some_is : {a b : ℕ} → ◌≡◌ {A = Option ℕ} (Some a) (Some b) → a ≡ b
        some_is {a} e = ap (λ (o : Option ℕ). unwrap_or o a) e
    enter_typed state typed Instance call tasks types slots_typed fits leads number runs = instance_typed state typed call tasks types slots_typed number fits runs leads
    enter_typed state typed (New class) call tasks types slots_typed fits leads number runs =
        subst (EnterTyped state (New class) call tasks) (some_is runs) (new_typed state typed call tasks types slots_typed class fits.0 fits.1 (leads (with_type call.target (class_type call.class) types) refl))
      where
        some_is : {a b : ℕ} → ◌≡◌ {A = Option ℕ} (Some a) (Some b) → a ≡ b
        some_is {a} e = ap (λ (o : Option ℕ). unwrap_or o a) e
    enter_typed state typed Super call tasks types slots_typed fits leads number runs =
        subst (EnterTyped state Super call tasks) (some_is runs) (super_typed state typed call tasks types slots_typed fits (leads (with_type 0 (class_type (at state.now.method).class) types) refl))
      where
        some_is : {a b : ℕ} → ◌≡◌ {A = Option ℕ} (Some a) (Some b) → a ≡ b
        some_is {a} e = ap (λ (o : Option ℕ). unwrap_or o a) e

    moved_typed : (state : State) → IsTyped state → (move : Move) → MoveTyped program (ways_end program locals formed) (at state.now.method) (types_in state.now.method) state.now.slots state.heap move → IsTyped (moved limits tables move state)
    moved_typed state typed (Go tasks later after) move = goes_typed state typed tasks later after state.wrapped move.0 move.1 move.2
    moved_typed state typed (Wrap tasks later after) move = goes_typed state typed tasks later after true move.0 move.1 move.2
    moved_typed state typed (Tell value tasks) move =
        goes_typed state typed tasks state.now.slots state.heap state.wrapped move.0 (record { size = refl; this = λ e. refl; typed = move.1; heap_typed = typed.heap; heap_later = later_refl state.heap }) move.2
    moved_typed state typed (Enter kind call place tasks) move =
        called_typed state typed kind call place tasks (callee_of tables kind call state.now.slots state.heap) (enter_typed state typed kind call tasks move.0 move.1 move.2 move.3)
    moved_typed state typed (Leave returned) move = leaves_typed state typed returned move state.below typed.below
    moved_typed state typed (Stop ending) move = stopped_typed state ending typed

    step_from_typed : (ended : Option Ending) (state : State) → IsTyped state → IsTyped (step_from limits tables ended state)
    step_from_typed None state typed =
        moved_typed state typed (next_move limits tables state)
        (move_typed program (ways_end program locals formed) (at state.now.method) (types_in state.now.method) state.now.slots state.heap typed.now.slots.size typed.heap limits typed.now.types state.now.tasks typed.now.slots.typed typed.now.fits)
    step_from_typed (Some ending) state typed = typed

    -- a step from a state that is typed gives one that is
    pub step_typed : (state : State) → IsTyped state → IsTyped (step limits tables state)
    step_typed state typed = step_from_typed state.ended state typed

    pub run_typed : (steps : ℕ) (state : State) → IsTyped state → IsTyped (run limits tables steps state)
    run_typed zero state typed = typed
    run_typed (suc steps) state typed = run_typed steps (step limits tables state) (step_typed state typed)
