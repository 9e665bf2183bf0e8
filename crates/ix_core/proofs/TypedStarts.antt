-- A run of a formed program starts typed, and so stays: what its operations read is of the types that they need.
use Rattle.std.specs.Prelude.{◌≡◌, ℕ, zero, suc, ◌+◌, ◌<◌, ◌≤◌, ◌==◌, ℤ, Bool, true, false, if◌then◌else◌, List, [], ◌∷◌, ◌++◌, length, map, slice_get, Option, None, Some, unwrap_or, refl}
use Rattle.std.proofs.Common.{arith, sym, ap, subst, ◌∙◌}
use Rattle.std.proofs.lemmas.Bool.{and_parts, false≢true}
use Rattle.std.proofs.lemmas.Bool.Decides.{nat_tests}
use Rattle.std.proofs.lemmas.Option.{slice_get_within}
use Rattle.std.proofs.lemmas.List.{length-append}
use Rattle.std.proofs.Math.Seq.{get_or-append_seam}
use Rattle.ix_core.specs.declared.claim.Base.TheVariants as base
use Rattle.ix_core.specs.declared.claim.Type_.{Type_}
use Rattle.ix_core.specs.declared.claim.Type_.TheVariants as type
use Rattle.ix_core.specs.declared.op.Op.{Op}
use Rattle.ix_core.specs.declared.program.Method.{Method}
use Rattle.ix_core.specs.declared.program.Program.{Program}
use Rattle.ix_core.specs.Code.{Code, Do}
use Rattle.ix_core.specs.Formed.{is_formed, op_fits, param_type_from, entry_type}
use Rattle.ix_core.specs.Heap.{Held, Num, Heap, Object, ArrayOf, nothing, value_at, object_at}
use Rattle.ix_core.specs.Machine.{Limits, State}
use Rattle.ix_core.specs.Safe.{Input, Whole, Flag, Ints, HaveTypes, CanRun, input_values, input_heap, start, state_after}
use Rattle.ix_core.specs.Tables.{method_at, param_slot, param_slots, no_method}
use Rattle.ix_core.specs.Tasks.{Tasks, Run}
use Rattle.ix_core.specs.Typed.{IsOfType, HeapTyped, SlotsTyped}
use Rattle.ix_core.specs.TypedStates.{Fit, Running, Lead, Giving, StateTyped}
use Rattle.ix_core.specs.Types.{Types}
use Rattle.ix_core.proofs.Cases.{by_test, equal}
use Rattle.ix_core.proofs.Entered.{slots_length}
use Rattle.ix_core.proofs.FormedParts.{locals_of}
use Rattle.ix_core.proofs.Heaps.{object_is}
use Rattle.ix_core.proofs.TypedCalls.{entry_typed, body_lead, params_count, method_has}
use Rattle.ix_core.proofs.TypedRuns.{run_typed}
use Rattle.ix_core.proofs.TypedSteps.{ObjectTyped}

-- ---- heaps

pub kind_at : (before : Heap) (object : Object) (rest : Heap) → object_at (before ++ object ∷ rest) (length before) ≡ object
kind_at before object rest = object_is (before ++ object ∷ rest) (length before) ∙ get_or-append_seam before object rest nothing

pub one_more : (before : Heap) (object : Object) (rest : Heap) → ((before ++ object ∷ []) ++ rest) ≡ (before ++ object ∷ rest)
one_more [] object rest = refl
one_more (first ∷ before) object rest = ap (λ l. first ∷ l) (one_more before object rest)

-- ---- inputs

module _ (program : Program) where
  ints_typed : (ns : List ℤ) (heap : Heap) (place : ℕ) → place < length (map Num ns) → IsOfType program heap (type.Plain base.Int) (value_at (map Num ns) place)
  ints_typed [] heap place lt = absurd (omega (arith, lt))
  ints_typed (n ∷ ns) heap zero lt = tt
  ints_typed (n ∷ ns) heap (suc place) lt = ints_typed ns heap place (omega (arith, lt))

  same_array : {ty other : Type_} → ArrayOf ty ≡ ArrayOf other → ty ≡ other
  same_array e = cc

  input_typed : (heap : Heap) (ns : List ℤ) (depth : ℕ) (element : _) → depth ≡ 1 → ObjectTyped program heap (record { kind = ArrayOf (type.Array base.Int depth element); cells = map Num ns })
  input_typed heap ns depth element one = record {
    room = λ field place e. absurd cc;
    fields = λ field place e. absurd cc;
    cells = λ place ty e lt.
        subst (λ t. IsOfType program heap (Rattle.ix_core.specs.Types.cell_type t) (value_at (map Num ns) place)) (same_array e)
        (subst (λ d. IsOfType program heap (Rattle.ix_core.specs.Types.cell_type (type.Array base.Int d element)) (value_at (map Num ns) place)) (sym one) (ints_typed ns heap place lt));
  }

  nothing_typed : (heap : Heap) → ObjectTyped program heap nothing
  nothing_typed heap = record {
    room = λ field place e. absurd cc;
    fields = λ field place e. absurd cc;
    cells = λ place ty e lt. absurd (omega (arith, lt));
  }

  inputs_heap : (inputs : List Input) (types : List Type_) (heap : Heap) → HaveTypes inputs types → (number : ℕ) → ObjectTyped program heap (object_at (input_heap inputs types) number)
  inputs_heap [] types heap have number = nothing_typed heap
  inputs_heap (Whole n ∷ inputs) (ty ∷ types) heap have number = inputs_heap inputs types heap have.1 number
  inputs_heap (Flag answer ∷ inputs) (ty ∷ types) heap have number = inputs_heap inputs types heap have.1 number
  inputs_heap (Ints ns ∷ inputs) (type.Array base.Int depth element ∷ types) heap have zero = input_typed heap ns depth element have.0.0
  inputs_heap (Ints ns ∷ inputs) (type.Array base.Int depth element ∷ types) heap have (suc number) = inputs_heap inputs types heap have.1 number
  inputs_heap (Ints ns ∷ inputs) (type.Array base.Bool depth element ∷ types) heap have number = absurd have.0
  inputs_heap (Ints ns ∷ inputs) (type.Array (base.Class class) depth element ∷ types) heap have number = absurd have.0
  inputs_heap (Ints ns ∷ inputs) (type.Plain of ∷ types) heap have number = absurd have.0
  inputs_heap (Ints ns ∷ inputs) (type.Void ∷ types) heap have number = absurd have.0
  inputs_heap (Whole n ∷ inputs) [] heap have number = nothing_typed heap
  inputs_heap (Flag answer ∷ inputs) [] heap have number = nothing_typed heap
  inputs_heap (Ints ns ∷ inputs) [] heap have number = nothing_typed heap

  pub inputs_count : (inputs : List Input) (types : List Type_) → HaveTypes inputs types → length inputs ≡ length types
  inputs_count [] [] have = refl
  inputs_count (input ∷ inputs) (ty ∷ types) have = ap suc (inputs_count inputs types have.1)
  inputs_count [] (ty ∷ types) have = absurd have
  inputs_count (input ∷ inputs) [] have = absurd have

  pub values_count : (number : ℕ) (inputs : List Input) → length (input_values number inputs) ≡ length inputs
  values_count number [] = refl
  values_count number (Whole n ∷ inputs) = ap suc (values_count number inputs)
  values_count number (Flag answer ∷ inputs) = ap suc (values_count number inputs)
  values_count number (Ints ns ∷ inputs) = ap suc (values_count (number + 1) inputs)

  -- the value of an input is of its parameter's type, where arrays stand before it
  abbrev Given : List Input → List Type_ → Heap → ℕ → ℕ → Type_ → Type 0
  Given inputs types before first slot ty = (k : ℕ) × (slot ≡ first + k) × IsOfType program (before ++ input_heap inputs types) ty (value_at (input_values (length before) inputs) k)

  later_given : (input : Input) (inputs : List Input) (param : Type_) (types : List Type_) (before : Heap) (first slot : ℕ) (ty : Type_) → param_type_from first (param ∷ types) slot ≡ Some ty
      → IsOfType program (before ++ input_heap (input ∷ inputs) (param ∷ types)) param (value_at (input_values (length before) (input ∷ inputs)) 0)
      → (param_type_from (first + 1) types slot ≡ Some ty → (k : ℕ) × (slot ≡ (first + 1) + k) × IsOfType program (before ++ input_heap (input ∷ inputs) (param ∷ types)) ty (value_at (input_values (length before) (input ∷ inputs)) (suc k)))
      → Given (input ∷ inputs) (param ∷ types) before first slot ty
  later_given input inputs param types before first slot ty is here rest =
      by_test (first == slot)
      (λ t.
      let found : ◌≡◌ {A = Option Type_} (Some param) (Some ty) = subst (λ b. (if b then Some param else param_type_from (first + 1) types slot) ≡ Some ty) t is in
      let same : param ≡ ty = ap (λ (o : Option Type_). unwrap_or o param) found in
      let at_first = equal first slot t in
      (0, omega (arith, at_first), subst (λ y. IsOfType program (before ++ input_heap (input ∷ inputs) (param ∷ types)) y (value_at (input_values (length before) (input ∷ inputs)) 0)) same here))
      (λ t.
      let more = rest (subst (λ b. (if b then Some param else param_type_from (first + 1) types slot) ≡ Some ty) t is) in
      let a = more.1 in
      (suc more.0, omega (arith, a), more.2))

  inputs_given : (inputs : List Input) (types : List Type_) (before : Heap) (first slot : ℕ) (ty : Type_) → HaveTypes inputs types → param_type_from first types slot ≡ Some ty → Given inputs types before first slot ty
  inputs_given [] [] before first slot ty have is = absurd (no_type is)
    where
      no_type : ◌≡◌ {A = Option Type_} None (Some ty) → ⊥
      no_type is = absurd cc
  inputs_given (Whole n ∷ inputs) (type.Plain base.Int ∷ types) before first slot ty have is =
      later_given (Whole n) inputs (type.Plain base.Int) types before first slot ty is tt (λ e. inputs_given inputs types before (first + 1) slot ty have.1 e)
  inputs_given (Flag answer ∷ inputs) (type.Plain base.Bool ∷ types) before first slot ty have is =
      later_given (Flag answer) inputs (type.Plain base.Bool) types before first slot ty is tt (λ e. inputs_given inputs types before (first + 1) slot ty have.1 e)
  inputs_given (Ints ns ∷ inputs) (type.Array base.Int depth element ∷ types) before first slot ty have is =
      let array : Object = record { kind = ArrayOf (type.Array base.Int depth element); cells = map Num ns } in
      let count : length (before ++ array ∷ []) ≡ length before + 1 = length-append before (array ∷ []) in
      later_given (Ints ns) inputs (type.Array base.Int depth element) types before first slot ty is (ap (λ (o : Object). o.kind) (kind_at before array (input_heap inputs types)))
      (λ e.
      let more = inputs_given inputs types (before ++ array ∷ []) (first + 1) slot ty have.1 e in (
        more.0,
        more.1,
        subst (λ h. IsOfType program h ty (value_at (input_values (length before + 1) inputs) more.0)) (one_more before array (input_heap inputs types))
            (subst (λ n. IsOfType program ((before ++ array ∷ []) ++ input_heap inputs types) ty (value_at (input_values n inputs) more.0)) count more.2),
      ))
  inputs_given (Whole n ∷ inputs) (type.Plain base.Bool ∷ types) before first slot ty have is = absurd have.0
  inputs_given (Whole n ∷ inputs) (type.Plain (base.Class class) ∷ types) before first slot ty have is = absurd have.0
  inputs_given (Whole n ∷ inputs) (type.Array of depth element ∷ types) before first slot ty have is = absurd have.0
  inputs_given (Whole n ∷ inputs) (type.Void ∷ types) before first slot ty have is = absurd have.0
  inputs_given (Flag answer ∷ inputs) (type.Plain base.Int ∷ types) before first slot ty have is = absurd have.0
  inputs_given (Flag answer ∷ inputs) (type.Plain (base.Class class) ∷ types) before first slot ty have is = absurd have.0
  inputs_given (Flag answer ∷ inputs) (type.Array of depth element ∷ types) before first slot ty have is = absurd have.0
  inputs_given (Flag answer ∷ inputs) (type.Void ∷ types) before first slot ty have is = absurd have.0
  inputs_given (Ints ns ∷ inputs) (type.Array base.Bool depth element ∷ types) before first slot ty have is = absurd have.0
  inputs_given (Ints ns ∷ inputs) (type.Array (base.Class class) depth element ∷ types) before first slot ty have is = absurd have.0
  inputs_given (Ints ns ∷ inputs) (type.Plain of ∷ types) before first slot ty have is = absurd have.0
  inputs_given (Ints ns ∷ inputs) (type.Void ∷ types) before first slot ty have is = absurd have.0
  inputs_given (input ∷ inputs) [] before first slot ty have is = absurd have
  inputs_given [] (param ∷ types) before first slot ty have is = absurd have

module _ (program : Program) (locals : List (List Type_)) (formed : is_formed program locals ≡ true) where
  abbrev IsTyped : State → Type 0
  IsTyped state = StateTyped program (λ number. locals_of program locals formed number) state

  -- ---- the start of a run

  found_is : (method : ℕ) (found : Method) → slice_get program.methods method ≡ Some found → method_at program method ≡ found
  found_is method found e = ap (λ o. unwrap_or o no_method) e

  static_slot : (static : Bool) (count : ℕ) → static ≡ true → (if static then count else count + 1) ≡ count
  static_slot static count e = rw e refl

  pub start_typed : (method : ℕ) (inputs : List Input) → CanRun program method inputs → IsTyped (start program method inputs)
  start_typed method inputs entry =
      let here = method_at program method in
      let is = found_is method entry.found entry.at in
      let lt : method < length program.methods = slice_get_within program.methods method entry.found entry.at in
      let static : here.is_static ≡ true = ap (λ (m : Method). m.is_static) is ∙ entry.static in
      let have : HaveTypes inputs here.param_types = subst (λ (m : Method). HaveTypes inputs m.param_types) (sym is) entry.typed in
      let heap = input_heap inputs here.param_types in
      let values = input_values 0 inputs in
      let none : param_slot here 0 ≡ 0 = static_slot here.is_static 0 static in
      let all : param_slots here ≡ length here.params = static_slot here.is_static (length here.params) static in
      let counted = params_count program locals formed here 0 here.params here.param_types (method_has program locals formed method lt).params in
      let room : param_slots here ≤ here.slots = (let h = (method_has program locals formed method lt).room in grind (arith, nat_tests)) in
      let a = values_count program 0 inputs in
      let b = inputs_count program inputs here.param_types have in
      let not_this : here.is_static ≡ false → ⊥ = λ s. false≢true (sym s ∙ static) in record {
        heap = record {
          room = λ object. (inputs_heap program inputs here.param_types heap have object).room;
          fields = λ object. (inputs_heap program inputs here.param_types heap have object).fields;
          cells = λ array. (inputs_heap program inputs here.param_types heap have array).cells;
        };
        now = record {
          types = entry_type program here;
          slots = record {
            there = lt;
            size = slots_length here.slots values (omega (arith, a, b, counted, all, room));
            this = λ s. absurd (not_this s);
            typed = entry_typed program locals formed method values heap
                (λ slot ty e.
                let given = inputs_given program inputs here.param_types [] (param_slot here 0) slot ty have e in
                let same : slot ≡ given.0 = (let c = given.1 in omega (arith, c, none)) in
                subst (λ n. IsOfType program heap ty (value_at values n)) (sym same) given.2)
                (λ s. absurd (not_this s));
          };
          fits = body_lead program locals formed method lt;
        };
        below = tt;
      }

  -- Every state of every run is typed.
  pub states_typed : (limits : Limits) (method : ℕ) (inputs : List Input) (steps : ℕ) → CanRun program method inputs → IsTyped (state_after program limits method inputs steps)
  states_typed limits method inputs steps entry = run_typed program locals formed limits steps (start program method inputs) (start_typed method inputs entry)

  -- ---- what the next operation reads

  -- an operation that is done fits the types of the slots that it is done on
  pub record OperationFits (state : State) (done : Op) : Type 0 where
    pub types : Types
    pub fits : op_fits program (method_at program state.now.method) (locals_of program locals formed state.now.method) (Some types) done done.kind ≡ true
    pub size : length state.now.slots ≡ (method_at program state.now.method).slots
    pub typed : SlotsTyped program types state.now.slots state.heap
    pub heap_typed : HeapTyped program state.heap

  fit_code : (number : ℕ) (done : Op) (rest : Code) (tasks : Tasks) (types : Types) → Fit program (method_at program number) (locals_of program locals formed number) (Run (Do done rest) tasks) types
      → op_fits program (method_at program number) (locals_of program locals formed number) (Some types) done done.kind ≡ true
  fit_code number done rest tasks types (Running in_loop _ _ _ fits ends breaks turns) =
      (and_parts (op_fits program (method_at program number) (locals_of program locals formed number) (Some types) done done.kind) _ fits).0

  lead_code : (number : ℕ) (done : Op) (rest : Code) (tasks : Tasks) (types : Types) (slots : List Held) (heap : Heap) → SlotsTyped program types slots heap
      → Lead program (method_at program number) (locals_of program locals formed number) (Run (Do done rest) tasks) types
      → (needed : Types) × SlotsTyped program needed slots heap × (op_fits program (method_at program number) (locals_of program locals formed number) (Some needed) done done.kind ≡ true)
  lead_code number done rest tasks types slots heap typed (Giving _ _ needed gives fit) = (needed, gives slots heap typed, fit_code number done rest tasks needed fit)

  -- In a state that is typed the next operation fits: each slot that it names lies in the frame, and each operand is of the type that it needs.
  pub next_fits : (state : State) (done : Op) (rest : Code) (tasks : Tasks) → IsTyped state → state.now.tasks ≡ Run (Do done rest) tasks → OperationFits state done
  next_fits state done rest tasks typed is =
      let lead = subst (λ ts. Lead program (method_at program state.now.method) (locals_of program locals formed state.now.method) ts typed.now.types) is typed.now.fits in
      let found = lead_code state.now.method done rest tasks typed.now.types state.now.slots state.heap typed.now.slots.typed lead in
      record { types = found.0; fits = found.2; size = typed.now.slots.size; typed = found.1; heap_typed = typed.heap }
