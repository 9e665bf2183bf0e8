-- What a step of a frame that is typed does: each of its moves is one that types allow.
use Rattle.std.specs.Prelude.{◌≡◌, ℕ, Bool, true, false, not, if◌then◌else◌, List, length, Option, None, Some, unwrap_or, refl}
use Rattle.std.proofs.Common.{ap, subst}
use Rattle.std.proofs.lemmas.Bool.{and_parts}
use Rattle.ix_core.specs.declared.claim.Type_.{Type_}
use Rattle.ix_core.specs.declared.op.CallOp.{CallOp}
use Rattle.ix_core.specs.declared.op.Op.{Op}
use Rattle.ix_core.specs.declared.op.OpKind.{OpKind}
use Rattle.ix_core.specs.declared.op.OpKind.TheVariants as op
use Rattle.ix_core.specs.declared.program.Method.{Method}
use Rattle.ix_core.specs.declared.program.Program.{Program}
use Rattle.ix_core.specs.Code.{Code, Condition, End, Do, If, Break, Continue, Return, Throw, Loop}
use Rattle.ix_core.specs.Formed.{code_ways, op_fits, op_types, return_fits, reads, assigned, with_result, new_fits, static_fits, instance_fits, super_fits}
use Rattle.ix_core.specs.Heap.{Held, Heap, value_at}
use Rattle.ix_core.specs.Machine.{Limits, Effect, Done, Wrapped, Printed, Called, Stopped, CallKind, Static, Instance, New, Super, Move, Go, Wrap, Tell, Enter, Leave, Stop, operate, effect_then, step_code, step_tasks, is_true, test_of}
use Rattle.ix_core.specs.Tables.{tables_of, method_at}
use Rattle.ix_core.specs.Tasks.{Tasks, Empty, Run, Ask, Decide, DecideTruth, Head, Again, Out, code_then, followed_by}
use Rattle.ix_core.specs.Typed.{IsOfType, HeapTyped, SlotsTyped}
use Rattle.ix_core.specs.TypedStates.{Fit, Nothing, Running, Asking, Comparing, Reading, Turning, Returning, Leaving, Lead, Giving, Leads}
use Rattle.ix_core.specs.Types.{Types, Point, class_type, is_void, with_type}
use Rattle.ix_core.proofs.Cases.{by_test}
use Rattle.ix_core.proofs.TypeLaws.{WaysEnd}
use Rattle.ix_core.proofs.TypedOperations.{Became, Leaves, IsNoCall, types_of, operation_good}
use Rattle.ix_core.proofs.TypedTasks.{itself, code_leads, condition_step, head_step, again_step, if_step, loop_step, leads_first}
use Rattle.ix_core.proofs.TypedValues.{read_typed}
use Rattle.ix_core.proofs.Waiting.{later_refl}

module _ (program : Program) (ends : WaysEnd program) (method : Method) (local_types : List Type_) where
  -- a call that fits the types, and the types behind it
  abbrev pub EnterFits : CallKind → CallOp → Types → Type 0
  EnterFits Static call types = static_fits program method (Some types) call ≡ true
  EnterFits Instance call types = instance_fits program method (Some types) call ≡ true
  EnterFits (New class) call types = (new_fits program method (Some types) call ≡ true) × (class ≡ call.class)
  EnterFits Super call types = super_fits program method (Some types) call ≡ true

  abbrev pub enter_types : CallKind → CallOp → Types → Point
  enter_types Static call types = with_result program method call (Some types)
  enter_types Instance call types = with_result program method call (Some types)
  enter_types (New class) call types = assigned call.target (class_type call.class) (Some types)
  enter_types Super call types = assigned 0 (class_type method.class) (Some types)

  -- the moves that types allow
  abbrev pub MoveTyped : List Held → Heap → Move → Type 0
  MoveTyped slots heap (Go tasks later after) = (types : Types) × Became program method slots heap types later after × Lead program method local_types tasks types
  MoveTyped slots heap (Wrap tasks later after) = (types : Types) × Became program method slots heap types later after × Lead program method local_types tasks types
  MoveTyped slots heap (Tell value tasks) = (types : Types) × SlotsTyped program types slots heap × Lead program method local_types tasks types
  MoveTyped slots heap (Enter kind call place tasks) = (types : Types) × SlotsTyped program types slots heap × EnterFits kind call types × Leads program method local_types (enter_types kind call types) tasks
  MoveTyped slots heap (Leave returned) = (slot : ℕ) → returned ≡ Some slot → IsOfType program heap method.result (value_at slots slot)
  MoveTyped slots heap (Stop ending) = Unit {0}

  module _ (slots : List Held) (heap : Heap) (size : length slots ≡ method.slots) (heap_typed : HeapTyped program heap) where
    as_it_is : (types : Types) → SlotsTyped program types slots heap → Became program method slots heap types slots heap
    as_it_is types typed = record { size = refl; this = λ e. refl; typed = typed; heap_typed = heap_typed; heap_later = later_refl heap }

    goes : (tasks : Tasks) (types : Types) → SlotsTyped program types slots heap → Lead program method local_types tasks types → MoveTyped slots heap (Go tasks slots heap)
    goes tasks types typed lead = (types, as_it_is types typed, lead)

    -- ---- operations

    with_result_is : (call : CallOp) (types : Types) → (at : Types) × (with_result program method call (Some types) ≡ Some at)
    with_result_is call types = by_test (is_void (method_at program call.method).result)
        (λ t. (types, (rw t refl)))
        (λ t. (with_type call.target (method_at program call.method).result types, (rw t refl)))

    effect_typed : (effect : Effect) (place : ℕ) (tasks : Tasks) (after : Types) → Leaves program method slots heap after effect → Lead program method local_types tasks after → MoveTyped slots heap (effect_then effect place tasks)
    effect_typed (Done later heap_after) place tasks after left lead = (after, left, lead)
    effect_typed (Wrapped later heap_after) place tasks after left lead = (after, left, lead)
    effect_typed (Printed value) place tasks after left lead = (after, left, lead)
    effect_typed (Called kind call) place tasks after left lead = absurd left
    effect_typed (Stopped ending) place tasks after left lead = tt

    module _ (limits : Limits) (types : Types) (typed : SlotsTyped program types slots heap) where
      plain_typed : (done : Op) (kind : OpKind) (tasks : Tasks) (after : Types) → IsNoCall kind → op_fits program method local_types (Some types) done kind ≡ true → op_types program method local_types (Some types) done kind ≡ Some after
          → Leads program method local_types (op_types program method local_types (Some types) done kind) tasks → MoveTyped slots heap (effect_then (operate limits (tables_of program) done.span.from slots heap kind) done.span.from tasks)
      plain_typed done kind tasks after plain fits is leads =
          effect_typed (operate limits (tables_of program) done.span.from slots heap kind) done.span.from tasks after
          (subst (λ p. Leaves program method slots heap (types_of p types) (operate limits (tables_of program) done.span.from slots heap kind)) is
          (operation_good program ends method local_types types slots heap size typed heap_typed limits done.span.from done kind plain fits))
          (leads after is)

      operation_typed : (done : Op) (kind : OpKind) (tasks : Tasks) → op_fits program method local_types (Some types) done kind ≡ true
          → Leads program method local_types (op_types program method local_types (Some types) done kind) tasks → MoveTyped slots heap (effect_then (operate limits (tables_of program) done.span.from slots heap kind) done.span.from tasks)
      operation_typed done (op.Const t value) tasks fits leads = plain_typed done (op.Const t value) tasks _ tt fits refl leads
      operation_typed done (op.Copy t source ty) tasks fits leads = plain_typed done (op.Copy t source ty) tasks _ tt fits refl leads
      operation_typed done (op.Num t arith left right) tasks fits leads = plain_typed done (op.Num t arith left right) tasks _ tt fits refl leads
      operation_typed done (op.Unary t unary operand) tasks fits leads = plain_typed done (op.Unary t unary operand) tasks _ tt fits refl leads
      operation_typed done (op.Length t array) tasks fits leads = plain_typed done (op.Length t array) tasks _ tt fits refl leads
      operation_typed done (op.NewArray t ty count) tasks fits leads = plain_typed done (op.NewArray t ty count) tasks _ tt fits refl leads
      operation_typed done (op.Fill t ty entries) tasks fits leads = plain_typed done (op.Fill t ty entries) tasks _ tt fits refl leads
      operation_typed done (op.Load t array index ty) tasks fits leads = plain_typed done (op.Load t array index ty) tasks _ tt fits refl leads
      operation_typed done (op.Store array index value ty) tasks fits leads = plain_typed done (op.Store array index value ty) tasks _ tt fits refl leads
      operation_typed done (op.ReadField t object field) tasks fits leads = plain_typed done (op.ReadField t object field) tasks _ tt fits refl leads
      operation_typed done (op.WriteField object field value) tasks fits leads = plain_typed done (op.WriteField object field value) tasks _ tt fits refl leads
      operation_typed done (op.Print value) tasks fits leads = plain_typed done (op.Print value) tasks _ tt fits refl leads
      operation_typed done (op.NewObject call) tasks fits leads = (types, typed, ((and_parts (new_fits program method (Some types) call) _ fits).0, refl), leads)
      operation_typed done (op.StaticCall call) tasks fits leads = (types, typed, (and_parts (static_fits program method (Some types) call) _ fits).0, leads)
      operation_typed done (op.InstanceCall call) tasks fits leads = (types, typed, (and_parts (instance_fits program method (Some types) call) _ fits).0, leads)
      operation_typed done (op.SuperCall call) tasks fits leads = (types, typed, (and_parts (super_fits program method (Some types) call) _ fits).0, leads)

      -- ---- statements and conditions

      code_typed : (in_loop : Bool) (code : Code) (tasks : Tasks) → (code_ways program method local_types in_loop code (Some types)).fits ≡ true
          → Leads program method local_types (code_ways program method local_types in_loop code (Some types)).ends tasks
          → Leads program method local_types (code_ways program method local_types in_loop code (Some types)).breaks (Rattle.ix_core.specs.Tasks.behind_loop tasks)
          → Leads program method local_types (code_ways program method local_types in_loop code (Some types)).turns (Rattle.ix_core.specs.Tasks.next_turn tasks)
          → MoveTyped slots heap (step_code limits (tables_of program) slots heap code tasks)
      code_typed in_loop End tasks fits ends_ breaks turns = goes tasks types typed (ends_ types refl)
      code_typed in_loop (Do done rest) tasks fits ends_ breaks turns =
          let point = op_types program method local_types (Some types) done done.kind in
          let parts = and_parts (op_fits program method local_types (Some types) done done.kind) (code_ways program method local_types in_loop rest point).fits fits in
          operation_typed done done.kind (code_then rest tasks) parts.0 (code_leads program method local_types in_loop rest tasks point parts.1 ends_ breaks turns)
      code_typed in_loop (If asked first second rest) tasks fits ends_ breaks turns =
          goes (Ask asked (code_then first Empty) (code_then second Empty) (code_then rest tasks)) types typed (if_step program method local_types in_loop asked first second rest tasks types fits ends_ breaks turns)
      code_typed in_loop (Break rest) tasks fits ends_ breaks turns =
          goes _ types typed (leads_first program method local_types (Some types) (code_ways program method local_types in_loop rest None).breaks _ breaks types refl)
      code_typed in_loop (Continue rest) tasks fits ends_ breaks turns =
          goes _ types typed (leads_first program method local_types (Some types) (code_ways program method local_types in_loop rest None).turns _ turns types refl)
      code_typed in_loop (Return None span rest) tasks fits ends_ breaks turns = λ slot is. absurd (no_slot slot is)
        where
          no_slot : (slot : ℕ) → ◌≡◌ {A = Option ℕ} None (Some slot) → ⊥
          no_slot slot is = absurd cc
      code_typed in_loop (Return (Some value) span rest) tasks fits ends_ breaks turns = λ slot is.
          let parts = and_parts (return_fits program method (Some types) (Some value)) (code_ways program method local_types in_loop rest None).fits fits in
          let more = and_parts (not (is_void method.result)) (reads program method (Some types) value method.result) parts.0 in
          let same : value ≡ slot = ap (λ (o : Option ℕ). unwrap_or o value) is in
          subst (λ s. IsOfType program heap method.result (value_at slots s)) same (read_typed program ends method types slots heap size typed value method.result more.1).1
      code_typed in_loop (Throw name span rest) tasks fits ends_ breaks turns = tt
      code_typed in_loop (Loop test_first asked body next number scope rest) tasks fits ends_ breaks turns =
          let lead = loop_step program method local_types in_loop test_first asked body next number scope rest tasks types fits ends_ breaks turns in
          loop_typed test_first asked body next (code_then rest tasks) lead
        where
          loop_typed : (test_first : Bool) (asked : Condition) (body next : Code) (behind : Tasks) → Lead program method local_types (if test_first then Head asked body next (Out behind) else code_then body (Again asked body next (Out behind))) types
              → MoveTyped slots heap (if test_first then Go (Head asked body next (Out behind)) slots heap else Go (code_then body (Again asked body next (Out behind))) slots heap)
          loop_typed true asked body next behind lead = goes (Head asked body next (Out behind)) types typed lead
          loop_typed false asked body next behind lead = goes (code_then body (Again asked body next (Out behind))) types typed lead

      chosen_typed : (answer : Bool) (first second tasks : Tasks) → Lead program method local_types (followed_by first tasks) types → Lead program method local_types (followed_by second tasks) types
          → MoveTyped slots heap (Go (followed_by (if answer then first else second) tasks) slots heap)
      chosen_typed true first second tasks one two = goes (followed_by first tasks) types typed one
      chosen_typed false first second tasks one two = goes (followed_by second tasks) types typed two

      fit_typed : (tasks : Tasks) → Fit program method local_types tasks types → MoveTyped slots heap (step_tasks limits (tables_of program) slots heap tasks)
      fit_typed Empty (Nothing _) = λ slot is. absurd (no_slot slot is)
        where
          no_slot : (slot : ℕ) → ◌≡◌ {A = Option ℕ} None (Some slot) → ⊥
          no_slot slot is = absurd cc
      fit_typed (Run code tasks) (Running in_loop _ _ _ fits ends_ breaks turns) = code_typed in_loop code tasks fits ends_ breaks turns
      fit_typed (Ask asked first second tasks) (Asking _ _ _ _ _ fits holds fails) =
          goes _ types typed (condition_step program method local_types asked first second tasks (Some types) fits holds fails types refl)
      fit_typed (Decide test first second tasks) (Comparing _ _ _ _ _ left right holds fails) = chosen_typed (test_of test.ty test.rel (value_at slots test.left) (value_at slots test.right)) first second tasks holds fails
      fit_typed (DecideTruth slot first second tasks) (Reading _ _ _ _ _ read holds fails) = chosen_typed (is_true (value_at slots slot)) first second tasks holds fails
      fit_typed (Head asked body next tasks) (Turning _ _ _ _ _ turn fails breaks) = goes _ types typed (head_step program method local_types asked body next tasks types turn fails breaks)
      fit_typed (Again asked body next tasks) (Returning _ _ _ _ _ turn fails breaks) = goes _ types typed (again_step program method local_types asked body next tasks types turn fails breaks)
      fit_typed (Out tasks) (Leaving _ _ fit) = goes tasks types typed (itself program method local_types tasks types fit)

    -- the move of a frame whose tasks fit
    pub move_typed : (limits : Limits) (types : Types) (tasks : Tasks) → SlotsTyped program types slots heap → Lead program method local_types tasks types → MoveTyped slots heap (step_tasks limits (tables_of program) slots heap tasks)
    move_typed limits types tasks typed (Giving _ _ needed gives fit) = fit_typed limits needed (gives slots heap typed) tasks fit
