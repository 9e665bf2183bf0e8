-- An analysis that keeps the laws where each call runs the method that it names makes a program safe, if a call that runs another method may be taken for a call
-- of that one.
use Rattle.std.specs.Prelude.{◌≡◌, ℕ, zero, suc, ◌+◌, Bool, true, false, if◌then◌else◌, List, [], ◌∷◌, length, option_map, Option, None, Some, unwrap_or, refl}
use Rattle.std.proofs.Common.{sym, ap, subst, ◌∙◌}
use Rattle.std.proofs.lemmas.Bool.{false≢true}
use Rattle.ix_core.specs.declared.fact.Profile.{Profile}
use Rattle.ix_core.specs.declared.fact.Profile.TheVariants.{Ideal, Int32}
use Rattle.ix_core.specs.declared.op.CallOp.{CallOp}
use Rattle.ix_core.specs.declared.op.OpKind.{OpKind}
use Rattle.ix_core.specs.declared.op.OpKind.TheVariants as op
use Rattle.ix_core.specs.declared.program.Program.{Program}
use Rattle.ix_core.specs.Analysis.{Laws, Shows, Calls}
use Rattle.ix_core.specs.Code.{Code, End, Do, If, Break, Continue, Return, Throw, Loop}
use Rattle.ix_core.specs.Heap.{Held, Num, Boolean, Null, At, Heap, Kind, ObjectOf, ArrayOf, value_at, object_at}
use Rattle.ix_core.specs.Machine.{CallKind, Static, Instance, New, Super, Limits, State, Ending, NullUsed, HeapFull, FrameFull, Move, Go, Wrap, Tell, Enter, Leave, Stop, frame, is_past, operate, step_code, step_tasks, next_move, step, step_from, moved, called, entered, stopped, resumed, result_of, lacks_cells, callee_of, found_at, found_for, receiver_slot, target_of, call_values, slots_with, run, Waiting, effect_then}
use Rattle.ix_core.specs.Objects.{HeapKeeps, FrameKeeps, KeepsInts}
use Rattle.ix_core.specs.Safe.{Begins, Counts, IsBad, Safe, start, state_after}
use Rattle.ix_core.specs.Tables.{Tables, tables_of, method_at, found_method, default_result, body_of}
use Rattle.ix_core.specs.Tasks.{Tasks, Empty, Run, Ask, Decide, DecideTruth, Head, Again, Out, code_then}
use Rattle.ix_core.specs.Waits.{Knowledge, Running, Uncounted, Runs, Ends}
use Rattle.ix_core.specs.Waits as waits
use Rattle.ix_core.specs.World.{World, tables_in}
use Rattle.ix_core.proofs.Entered.{none_some}
use Rattle.ix_core.proofs.LawsAreSafe.{good_next}
use Rattle.ix_core.proofs.Stack.{enters_instance, enter_with}
use Rattle.ix_rules_hold.proofs.CallStack.{step_is}
use Rattle.ix_soundness.specs.Direct.{direct}

-- ---- what wrapped stays so

module _ (limits : Limits) (tables : Tables) where
  wrapped_resumed : (value : Option Held) (state : State) (below : List Waiting) → (resumed value state below).wrapped ≡ state.wrapped
  wrapped_resumed value state [] = refl
  wrapped_resumed value state (w ∷ below) = refl

  wrapped_if : (b : Bool) (one other : State) (t : Bool) → one.wrapped ≡ t → other.wrapped ≡ t → (if b then one else other).wrapped ≡ t
  wrapped_if true one other t x y = x
  wrapped_if false one other t x y = y

  wrapped_called : (kind : CallKind) (call : CallOp) (place : ℕ) (tasks : Tasks) (state : State) (found : Option ℕ) → (called limits tables kind call place tasks state found).wrapped ≡ state.wrapped
  wrapped_called kind call place tasks state None = refl
  wrapped_called kind call place tasks state (Some m) =
      wrapped_if (lacks_cells limits tables kind state.heap) (stopped (HeapFull place) state) _ state.wrapped refl
      (wrapped_if (is_past limits.frames (length state.below + 2)) (stopped (FrameFull place) state) (entered tables kind call m tasks state) state.wrapped refl refl)

  wrapped_moved : (move : Move) (state : State) → (moved limits tables move state).wrapped ≡ false → state.wrapped ≡ false
  wrapped_moved (Go tasks slots heap) state clear = clear
  wrapped_moved (Wrap tasks slots heap) state clear = absurd (false≢true (sym clear))
  wrapped_moved (Tell value tasks) state clear = clear
  wrapped_moved (Enter kind call place tasks) state clear = sym (wrapped_called kind call place tasks state (callee_of tables kind call state.now.slots state.heap)) ∙ clear
  wrapped_moved (Leave returned) state clear = sym (wrapped_resumed (result_of (tables.routines state.now.method) state.now.slots returned) state state.below) ∙ clear
  wrapped_moved (Stop ending) state clear = clear

  wrapped_step : (ended : Option Ending) (state : State) → (step_from limits tables ended state).wrapped ≡ false → state.wrapped ≡ false
  wrapped_step None state clear = wrapped_moved (next_move limits tables state) state clear
  wrapped_step (Some ending) state clear = clear

  uncounted : (profile : Profile) (state : State) → Counts profile (step limits tables state) → Counts profile state
  uncounted Ideal state counts = wrapped_step state.ended state counts
  uncounted Int32 state counts = tt

module _ (program : Program) where
  abbrev world : World
  world = direct program

  -- ---- a frame's move is the same in both worlds

  same_operation : (limits : Limits) (place : ℕ) (slots : List Held) (heap : Heap) (kind : OpKind) → operate limits (tables_of program) place slots heap kind ≡ operate limits (tables_in world) place slots heap kind
  same_operation limits place slots heap (op.Const t value) = refl
  same_operation limits place slots heap (op.Copy t s ty) = refl
  same_operation limits place slots heap (op.Num t arith y z) = refl
  same_operation limits place slots heap (op.Unary t unary y) = refl
  same_operation limits place slots heap (op.Length t a) = refl
  same_operation limits place slots heap (op.NewArray t ty n) = refl
  same_operation limits place slots heap (op.Fill t ty entries) = refl
  same_operation limits place slots heap (op.Load t a i ty) = refl
  same_operation limits place slots heap (op.Store a i v ty) = refl
  same_operation limits place slots heap (op.ReadField t o f) = refl
  same_operation limits place slots heap (op.WriteField o f v) = refl
  same_operation limits place slots heap (op.NewObject call) = refl
  same_operation limits place slots heap (op.StaticCall call) = refl
  same_operation limits place slots heap (op.InstanceCall call) = refl
  same_operation limits place slots heap (op.SuperCall call) = refl
  same_operation limits place slots heap (op.Print value) = refl

  same_code : (limits : Limits) (slots : List Held) (heap : Heap) (code : Code) (tasks : Tasks) → step_code limits (tables_of program) slots heap code tasks ≡ step_code limits (tables_in world) slots heap code tasks
  same_code limits slots heap End tasks = refl
  same_code limits slots heap (Do done rest) tasks = ap (λ effect. effect_then effect done.span.from (code_then rest tasks)) (same_operation limits done.span.from slots heap done.kind)
  same_code limits slots heap (If asked first second rest) tasks = refl
  same_code limits slots heap (Break rest) tasks = refl
  same_code limits slots heap (Continue rest) tasks = refl
  same_code limits slots heap (Return value span rest) tasks = refl
  same_code limits slots heap (Throw name span rest) tasks = refl
  same_code limits slots heap (Loop test_first asked body next number scope rest) tasks = refl

  same_move : (limits : Limits) (slots : List Held) (heap : Heap) (tasks : Tasks) → step_tasks limits (tables_of program) slots heap tasks ≡ step_tasks limits (tables_in world) slots heap tasks
  same_move limits slots heap Empty = refl
  same_move limits slots heap (Run code tasks) = same_code limits slots heap code tasks
  same_move limits slots heap (Ask asked first second tasks) = refl
  same_move limits slots heap (Decide test first second tasks) = refl
  same_move limits slots heap (DecideTruth slot first second tasks) = refl
  same_move limits slots heap (Head asked body next tasks) = refl
  same_move limits slots heap (Again asked body next tasks) = refl
  same_move limits slots heap (Out tasks) = refl

  -- ---- calls that run another method

  -- the object whose class has the method that runs
  pub record IsFound (slots : List Held) (heap : Heap) (call : CallOp) (m : ℕ) : Type 0 where
    pub object : ℕ
    pub class : ℕ
    pub at : value_at slots (receiver_slot call.receiver) ≡ At object
    pub kind : (object_at heap object).kind ≡ ObjectOf class
    pub is : found_method program class call.method ≡ m

  in_kind : (heap : Heap) (named object m : ℕ) (kind : Kind) → (object_at heap object).kind ≡ kind → found_for (tables_of program) named kind ≡ Some m → (class : ℕ) × ((object_at heap object).kind ≡ ObjectOf class) × (found_method program class named ≡ m)
  in_kind heap named object m (ObjectOf class) e is = (class, e, ap (λ (o : Option ℕ). unwrap_or o 0) is)
  in_kind heap named object m (ArrayOf ty) e is = none_some m is

  found_is : (slots : List Held) (heap : Heap) (call : CallOp) (m : ℕ) → callee_of (tables_of program) Instance call slots heap ≡ Some m → IsFound slots heap call m
  found_is slots heap call m is = by_held (value_at slots (receiver_slot call.receiver)) refl is
    where
      by_held : (held : Held) → value_at slots (receiver_slot call.receiver) ≡ held → found_at (tables_of program) call.method heap held ≡ Some m → IsFound slots heap call m
      by_held (Num n) e is = none_some m is
      by_held (Boolean answer) e is = none_some m is
      by_held Null e is = none_some m is
      by_held (At object) e is = let found = in_kind heap call.method object m (object_at heap object).kind refl is in record { object = object; class = found.0; at = e; kind = found.1; is = found.2 }

  runs_itself : (slots : List Held) (heap : Heap) (call : CallOp) (m : ℕ) → IsFound slots heap call m → callee_of (tables_in world) Instance (record call { method = m }) slots heap ≡ Some m
  runs_itself slots heap call m found = ap (found_at (tables_in world) m heap) found.at ∙ ap (found_for (tables_in world) m) found.kind

  module _ (profile : Profile) (Typed : ℕ → Tasks → List Held → Heap → Type 0) (know : Knowledge) (laws : Laws profile world Typed know) where
    -- A call of an instance method may be taken for a call of the method that runs.
    abbrev pub Dispatches : Type 1
    Dispatches = (building : ℕ → Type 0) (number : ℕ) (slots : List Held) (heap : Heap) (call : CallOp) (tasks : Tasks) (m : ℕ) → HeapKeeps world building heap → FrameKeeps building (method_at program number) slots heap → KeepsInts slots heap
        → IsFound slots heap call m → Calls profile world know number Instance call tasks slots heap
        → Calls profile world know number Instance (record call { method = m }) tasks slots heap × ((method_at program m).result ≡ (method_at program call.method).result)

    module _ (dispatches : Dispatches) (limits : Limits) (state : State) (typed : Typed state.now.method state.now.tasks state.now.slots state.heap) (runs : state.ended ≡ None) (r : Running world know state) where
      abbrev IsGood : State → Type 1
      IsGood state = waits.Good world know profile state

      abbrev number : ℕ
      number = state.now.method

      good_if : (full : Bool) (ending : Ending) (one other : State) → (IsBad (Some ending) → ⊥) → IsGood other → IsGood (if full then stopped ending one else other)
      good_if true ending one other fine good = Ends ending refl fine
      good_if false ending one other fine good = good

      entered_good : (call : CallOp) (tasks : Tasks) (m : ℕ) → IsFound state.now.slots state.heap call m → Calls profile world know number Instance call tasks state.now.slots state.heap
          → Running world know (entered (tables_of program) Instance call m tasks state)
      entered_good call tasks m found good =
          let taken = dispatches r.building number state.now.slots state.heap call tasks m r.heap_keeps r.frame_keeps r.ints found good in
          let other : CallOp = record call { method = m } in
          let there = runs_itself state.now.slots state.heap call m found in
          let running : Running world know (entered (tables_in world) Instance other m tasks state)
          = enter_with profile world Typed know laws state r Instance other tasks taken.0 m there (enters_instance profile world Typed know laws state r other tasks taken.0 m (laws.stands 0 m)) in
          let same : target_of (tables_in world) Instance other ≡ target_of (tables_of program) Instance call = ap (λ ty. option_map (λ (d : Held). call.target) (default_result ty)) taken.1 in
          subst
          (λ target. Running world know
          (record state {
            now = frame m (code_then (body_of (method_at program m)) Empty) (slots_with (method_at program m).slots (call_values Instance call (length state.heap) state.now.slots));
            below = record { frame = frame number tasks state.now.slots; target = target } ∷ state.below;
          }))
          same running

      instance_good : (call : CallOp) (place : ℕ) (tasks : Tasks) → Calls profile world know number Instance call tasks state.now.slots state.heap → (found : Option ℕ) → callee_of (tables_of program) Instance call state.now.slots state.heap ≡ found
          → IsGood (called limits (tables_of program) Instance call place tasks state found)
      instance_good call place tasks good None is = Ends (NullUsed place) refl (λ bad. bad)
      instance_good call place tasks good (Some m) is =
          good_if (is_past limits.frames (length state.below + 2)) (FrameFull place) state (entered (tables_of program) Instance call m tasks state) (λ bad. bad)
          (Runs runs (entered_good call tasks m (found_is state.now.slots state.heap call m is) good))

      -- what the direct world's step gives
      direct_good : (move : Move) → next_move limits (tables_in world) state ≡ move → IsGood (moved limits (tables_in world) move state)
      direct_good move is = subst IsGood (step_is limits (tables_in world) state runs move is) (good_next profile world Typed know laws limits state typed (Runs runs r))

      move_good : (move : Move) → next_move limits (tables_in world) state ≡ move → Shows profile world know r.building number state.now.slots state.heap move → IsGood (moved limits (tables_of program) move state)
      move_good (Go tasks later after) is shows = direct_good (Go tasks later after) is
      move_good (Wrap tasks later after) is shows = direct_good (Wrap tasks later after) is
      move_good (Tell value tasks) is shows = direct_good (Tell value tasks) is
      move_good (Leave returned) is shows = direct_good (Leave returned) is
      move_good (Stop ending) is shows = direct_good (Stop ending) is
      move_good (Enter Static call place tasks) is shows = direct_good (Enter Static call place tasks) is
      move_good (Enter (New class) call place tasks) is shows = direct_good (Enter (New class) call place tasks) is
      move_good (Enter Super call place tasks) is shows = direct_good (Enter Super call place tasks) is
      move_good (Enter Instance call place tasks) is shows = instance_good call place tasks shows (callee_of (tables_of program) Instance call state.now.slots state.heap) refl

      running_good : IsGood (step limits (tables_of program) state)
      running_good =
          subst IsGood (sym (step_is limits (tables_of program) state runs (next_move limits (tables_in world) state) (same_move limits state.now.slots state.heap state.now.tasks)))
          (move_good (next_move limits (tables_in world) state) refl
          (laws.step limits r.building number state.now.tasks r.store state.now.slots state.heap typed r.heap_keeps r.frame_keeps r.ints r.holds r.fine))

    good_step : Dispatches → (limits : Limits) (state : State) → Typed state.now.method state.now.tasks state.now.slots state.heap → waits.Good world know profile state → waits.Good world know profile (step limits (tables_of program) state)
    good_step dispatches limits state typed (Uncounted past) = Uncounted (λ counts. past (uncounted limits (tables_of program) profile state counts))
    good_step dispatches limits state typed (Runs is running) = running_good dispatches limits state typed is running
    good_step dispatches limits state typed (Ends ending is fine) = Ends ending (ap (λ (s : State). s.ended) (ap (λ e. step_from limits (tables_of program) e state) is) ∙ is) fine

    -- ---- runs

    not_bad : (state : State) → waits.Good world know profile state → Counts profile state → IsBad state.ended → ⊥
    not_bad state (Uncounted past) counts bad = past counts
    not_bad state (Runs is running) counts bad = subst IsBad is bad
    not_bad state (Ends ending is fine) counts bad = fine (subst IsBad is bad)

    run_good : Dispatches → (limits : Limits) (IsKept : State → Type 0) → ((state : State) → IsKept state → IsKept (step limits (tables_of program) state)) → ((state : State) → IsKept state → Typed state.now.method state.now.tasks state.now.slots state.heap)
        → (steps : ℕ) (state : State) → IsKept state → waits.Good world know profile state → waits.Good world know profile (run limits (tables_of program) steps state)
    run_good dispatches limits IsKept stays typed zero state kept good = good
    run_good dispatches limits IsKept stays typed (suc steps) state kept good = run_good dispatches limits IsKept stays typed steps (step limits (tables_of program) state) (stays state kept) (good_step dispatches limits state (typed state kept) good)

    pub dispatched_safe : Dispatches → (IsKept : State → Type 0) → ((limits : Limits) (state : State) → IsKept state → IsKept (step limits (tables_of program) state)) → ((state : State) → IsKept state → Typed state.now.method state.now.tasks state.now.slots state.heap)
        → ((method : ℕ) (inputs : _) → Begins program method inputs → IsKept (start program method inputs) × waits.Good world know profile (start program method inputs)) → Safe program profile
    dispatched_safe dispatches IsKept stays typed starts method inputs begins limits steps =
        not_bad (state_after program limits method inputs steps) (run_good dispatches limits IsKept (stays limits) typed steps (start program method inputs) (starts method inputs begins).0 (starts method inputs begins).1)
