-- A run stops where an operation or a statement of the program starts.
use Rattle.std.proofs.Common.{ℕ, zero, suc, ℤ, pos, negsuc, Bool, true, false, List, [], ◌∷◌, length, Option, Some, None, ◌+◌, ◌++◌}
use Rattle.std.specs.Prelude.{if◌then◌else◌, slice_get, unwrap_or, slice_set}
use Rattle.std.specs.List.{AllByRecursion}
use Rattle.ix_text.specs.declared.span.Span.{Span}
use Rattle.ix_num.specs.Arithmetic.{exact_of}
use Rattle.ix_core.specs.declared.claim.Type_.{Type_}
use Rattle.ix_core.specs.declared.op.CallOp.{CallOp}
use Rattle.ix_core.specs.declared.op.OpKind.{OpKind}
use Rattle.ix_core.specs.declared.op.OpKind.TheVariants as op
use Rattle.ix_core.specs.declared.program.Method.{Method}
use Rattle.ix_core.specs.declared.program.Program.{Program}
use Rattle.ix_core.specs.Code.{Code, Condition, Known, Compare, Truth, Both, Either, Opposite}
use Rattle.ix_core.specs.Code as code
use Rattle.ix_core.specs.Heap.{Held, Num, Boolean, Null, At, Heap, ArrayOf, value_at, array_at, write_at, cells_used, object_at, place_in, is_within}
use Rattle.ix_core.specs.Machine as machine
use Rattle.ix_core.specs.Machine.{Ending, Limits, State, Waiting, Effect, Move, CallKind, Go, Wrap, Tell, Enter, Leave, Stop, Done, Wrapped, Printed, Called, Stopped, step_condition, effect_then, operate, step_code, step_tasks, called, resumed, moved, step, step_from, run, is_past, is_int, test_of, is_true}
use Rattle.ix_core.specs.Safe.{Input, start, state_after}
use Rattle.ix_core.specs.Tables.{Tables, tables_of, method_at, no_method, body_of}
use Rattle.ix_core.specs.Tasks.{Tasks, Empty, Run, Ask, Decide, DecideTruth, Head, Again, Out, code_then}
use Rattle.ix_core.specs.CodePlaces.{CodePlaces, AskedPlaces, MethodPlaces, ProgramPlaces}
use Rattle.ix_core.specs.EndingPlaces.{EndingPlace, EndPlace}
use Rattle.ix_core.proofs.TaskPlaces.{TaskPlaces, then_places, followed_places, behind_places, turn_places}

-- What holds of a place also holds of where it starts.
module _ (P : Span → Type 0) (Q : ℕ → Type 0) (starts : (span : Span) → P span → Q span.from) where
  -- ---- one operation

  abbrev EffectPlace : Effect → Type 0
  EffectPlace (Stopped ending) = EndingPlace Q ending
  EffectPlace _ = Unit {0}

  chosen_place : (b : Bool) (first second : Effect) → EffectPlace first → EffectPlace second → EffectPlace (if b then first else second)
  chosen_place true first second a c = a
  chosen_place false first second a c = c

  module _ (limits : Limits) (tables : Tables) (place : ℕ) (slots : List Held) (heap : Heap) (q : Q place) where
    int_place : (target : ℕ) (exact : ℤ) → EffectPlace (machine.assign_int limits tables place slots heap target exact)
    int_place target exact = chosen_place (is_int exact) _ _ tt tt

    result_place : (target : ℕ) (exact : Option ℤ) → EffectPlace (machine.assign_result limits tables place slots heap target exact)
    result_place target None = q
    result_place target (Some exact) = int_place target exact

    through_place : (held : Held) (next : ℕ → Effect) → ((number : ℕ) → EffectPlace (next number)) → EffectPlace (machine.through limits tables place slots heap held next)
    through_place (At number) next on = on number
    through_place (Num n) next on = q
    through_place (Boolean answer) next on = q
    through_place Null next on = q

    length_place : (target : ℕ) (held : Held) → EffectPlace (machine.assign_length limits tables place slots heap target held)
    length_place target (At number) = tt
    length_place target (Num n) = tt
    length_place target (Boolean answer) = tt
    length_place target Null = q

    index_place : (index : ℤ) (cells : List Held) (next : ℕ → Effect) → ((cell : ℕ) → EffectPlace (next cell)) → EffectPlace (machine.at_index limits tables place slots heap index cells next)
    index_place index cells next on = chosen_place (is_within index (length cells)) _ _ (on _) q

    cell_place : (cell : Option ℕ) (next : ℕ → Effect) → ((cell : ℕ) → EffectPlace (next cell)) → EffectPlace (machine.at_place limits tables place slots heap cell next)
    cell_place None next on = q
    cell_place (Some cell) next on = on cell

    allocate_place : (target : ℕ) (ty : Type_) (size : ℕ) (cells : List Held) → EffectPlace (machine.allocate limits tables place slots heap target ty size cells)
    allocate_place target ty size cells = chosen_place (is_past limits.cells (cells_used heap + (size + 1))) (Stopped (machine.HeapFull place)) (Done (slice_set slots target (At (length heap))) (heap ++ record { kind = ArrayOf ty; cells = cells } ∷ [])) q tt

    new_place : (target : ℕ) (ty : Type_) (size : ℤ) → EffectPlace (machine.new_array limits tables place slots heap target ty size)
    new_place target ty (negsuc n) = q
    new_place target ty (pos size) = allocate_place target ty size _

    operate_place : (kind : OpKind) → EffectPlace (operate limits tables place slots heap kind)
    operate_place (op.Const target value) = tt
    operate_place (op.Copy target source ty) = tt
    operate_place (op.Num target arith left right) = result_place target (exact_of arith (machine.int_at slots left) (machine.int_at slots right))
    operate_place (op.Unary target unary operand) = int_place target (machine.unary_of unary (machine.int_at slots operand))
    operate_place (op.Length target array) = length_place target (value_at slots array)
    operate_place (op.NewArray target ty size) = new_place target ty _
    operate_place (op.Fill target ty entries) = allocate_place target ty _ _
    operate_place (op.Load target array index ty) =
        through_place (value_at slots array) _ (λ number. index_place (machine.int_at slots index) (array_at heap number) (λ cell. machine.assign limits tables place slots heap target (value_at (array_at heap number) cell)) (λ cell. tt))
    operate_place (op.Store array index value ty) =
        through_place (value_at slots array) _ (λ number. index_place (machine.int_at slots index) (array_at heap number) (λ cell. Done slots (write_at heap number cell (value_at slots value))) (λ cell. tt))
    operate_place (op.ReadField target object field) =
        through_place (value_at slots object) _ (λ number. cell_place (place_in tables.place (object_at heap number).kind field) (λ cell. machine.assign limits tables place slots heap target (value_at (object_at heap number).cells cell)) (λ cell. tt))
    operate_place (op.WriteField object field value) =
        through_place (value_at slots object) _ (λ number. cell_place (place_in tables.place (object_at heap number).kind field) (λ cell. Done slots (write_at heap number cell (value_at slots value))) (λ cell. tt))
    operate_place (op.NewObject call) = tt
    operate_place (op.StaticCall call) = tt
    operate_place (op.InstanceCall call) = tt
    operate_place (op.SuperCall call) = tt
    operate_place (op.Print value) = tt

  -- ---- one frame

  abbrev MovePlaces : Move → Type 0
  MovePlaces (Go tasks slots heap) = TaskPlaces P tasks
  MovePlaces (Wrap tasks slots heap) = TaskPlaces P tasks
  MovePlaces (Tell value tasks) = TaskPlaces P tasks
  MovePlaces (Enter kind call place tasks) = Q place × TaskPlaces P tasks
  MovePlaces (Leave returned) = Unit {0}
  MovePlaces (Stop ending) = EndingPlace Q ending

  effect_places : (effect : Effect) (place : ℕ) (tasks : Tasks) → EffectPlace effect → Q place → TaskPlaces P tasks → MovePlaces (effect_then effect place tasks)
  effect_places (Done slots heap) place tasks e q t = t
  effect_places (Wrapped slots heap) place tasks e q t = t
  effect_places (Printed value) place tasks e q t = t
  effect_places (Called kind call) place tasks e q t = (q, t)
  effect_places (Stopped ending) place tasks e q t = e

  either_tasks : (b : Bool) (first second : Tasks) → TaskPlaces P first → TaskPlaces P second → TaskPlaces P (if b then first else second)
  either_tasks true first second a c = a
  either_tasks false first second a c = c

  either_move : (b : Bool) (first second : Move) → MovePlaces first → MovePlaces second → MovePlaces (if b then first else second)
  either_move true first second a c = a
  either_move false first second a c = c

  condition_places : (asked : Condition) (first second tasks : Tasks) → AskedPlaces P asked → TaskPlaces P first → TaskPlaces P second → TaskPlaces P tasks
      → TaskPlaces P (step_condition asked first second tasks)
  condition_places (Known answer) first second tasks a f s t = followed_places P (if answer then first else second) tasks (either_tasks answer first second f s) t
  condition_places (Compare code test) first second tasks a f s t = then_places P code _ a.0 (f, s, t)
  condition_places (Truth code slot) first second tasks a f s t = then_places P code _ a (f, s, t)
  condition_places (Both asked later) first second tasks a f s t = (a.0, (a.1, f, s, tt), s, t)
  condition_places (Either asked later) first second tasks a f s t = (a.0, f, (a.1, f, s, tt), t)
  condition_places (Opposite asked) first second tasks a f s t = (a, s, f, t)

  module _ (limits : Limits) (tables : Tables) (slots : List Held) (heap : Heap) where
    code_places : (c : Code) (tasks : Tasks) → CodePlaces P c → TaskPlaces P tasks → MovePlaces (step_code limits tables slots heap c tasks)
    code_places code.End tasks c t = t
    code_places (code.Do done rest) tasks c t =
        let q = starts done.span c.0.0 in
        effect_places _ done.span.from (code_then rest tasks) (operate_place limits tables done.span.from slots heap q done.kind) q (then_places P rest tasks c.1 t)
    code_places (code.If asked first second rest) tasks c t = (c.0, then_places P first Empty c.1 tt, then_places P second Empty c.2 tt, then_places P rest tasks c.3 t)
    code_places (code.Break rest) tasks c t = behind_places P tasks t
    code_places (code.Continue rest) tasks c t = turn_places P tasks t
    code_places (code.Return value span rest) tasks c t = tt
    code_places (code.Throw name span rest) tasks c t = starts span c.0
    code_places (code.Loop test_first asked body next number scope rest) tasks c t =
        let behind = then_places P rest tasks c.3 t in
        either_move test_first _ _ (c.0, c.1, c.2, behind) (then_places P body (Again asked body next (Out (code_then rest tasks))) c.1 (c.0, c.1, c.2, behind))

    tasks_places : (tasks : Tasks) → TaskPlaces P tasks → MovePlaces (step_tasks limits tables slots heap tasks)
    tasks_places Empty t = tt
    tasks_places (Run code tasks) t = code_places code tasks t.0 t.1
    tasks_places (Ask asked first second tasks) t = condition_places asked first second tasks t.0 t.1 t.2 t.3
    tasks_places (Decide test first second tasks) t =
        let so = test_of test.ty test.rel (value_at slots test.left) (value_at slots test.right) in
        followed_places P (if so then first else second) tasks (either_tasks so first second t.0 t.1) t.2
    tasks_places (DecideTruth slot first second tasks) t =
        let so = is_true (value_at slots slot) in
        followed_places P (if so then first else second) tasks (either_tasks so first second t.0 t.1) t.2
    tasks_places (Head asked body next tasks) t = (t.0, then_places P body (Again asked body next Empty) t.1 (t.0, t.1, t.2, tt), tt, t.3)
    tasks_places (Again asked body next tasks) t = then_places P next (Head asked body next tasks) t.2 t
    tasks_places (Out tasks) t = t

  -- ---- states

  abbrev BelowPlaces : List Waiting → Type 0
  BelowPlaces [] = Unit {0}
  BelowPlaces (waiting ∷ below) = TaskPlaces P waiting.frame.tasks × BelowPlaces below

  pub record StatePlaces (state : State) : Type 0 where
    pub now : TaskPlaces P state.now.tasks
    pub below : BelowPlaces state.below
    pub ended : EndPlace Q state.ended

  stopped_places : (ending : Ending) (state : State) → StatePlaces state → EndingPlace Q ending → StatePlaces (machine.stopped ending state)
  stopped_places ending state s e = record { now = s.now; below = s.below; ended = e }

  module _ (limits : Limits) (tables : Tables) (bodies : (number : ℕ) → CodePlaces P (tables.routines number).body) where
    entered_places : (kind : CallKind) (call : CallOp) (method : ℕ) (tasks : Tasks) (state : State) → TaskPlaces P tasks → StatePlaces state → StatePlaces (machine.entered tables kind call method tasks state)
    entered_places kind call method tasks state t s = record {
      now = then_places P (tables.routines method).body Empty (bodies method) tt;
      below = (t, s.below);
      ended = s.ended;
    }

    either_state : (b : Bool) (first second : State) → StatePlaces first → StatePlaces second → StatePlaces (if b then first else second)
    either_state true first second a c = a
    either_state false first second a c = c

    called_places : (kind : CallKind) (call : CallOp) (place : ℕ) (tasks : Tasks) (state : State) (callee : Option ℕ) → Q place → TaskPlaces P tasks → StatePlaces state
        → StatePlaces (called limits tables kind call place tasks state callee)
    called_places kind call place tasks state None q t s = stopped_places (machine.NullUsed place) state s q
    called_places kind call place tasks state (Some method) q t s =
        either_state _ _ _ (stopped_places (machine.HeapFull place) state s q)
        (either_state _ _ _ (stopped_places (machine.FrameFull place) state s q) (entered_places kind call method tasks state t s))

    resumed_places : (result : Option Held) (state : State) (below : List Waiting) → BelowPlaces below → StatePlaces state → StatePlaces (resumed result state below)
    resumed_places result state [] b s = stopped_places _ state s tt
    resumed_places result state (waiting ∷ below) b s = record { now = b.0; below = b.1; ended = s.ended }

    moved_places : (move : Move) (state : State) → MovePlaces move → StatePlaces state → StatePlaces (moved limits tables move state)
    moved_places (Go tasks slots heap) state m s = record { now = m; below = s.below; ended = s.ended }
    moved_places (Wrap tasks slots heap) state m s = record { now = m; below = s.below; ended = s.ended }
    moved_places (Tell value tasks) state m s = record { now = m; below = s.below; ended = s.ended }
    moved_places (Enter kind call place tasks) state m s = called_places kind call place tasks state _ m.0 m.1 s
    moved_places (Leave returned) state m s = resumed_places _ state state.below s.below s
    moved_places (Stop ending) state m s = stopped_places ending state s m

    from_places : (ended : Option Ending) (state : State) → StatePlaces state → StatePlaces (step_from limits tables ended state)
    from_places None state s = moved_places _ state (tasks_places limits tables state.now.slots state.heap state.now.tasks s.now) s
    from_places (Some ending) state s = s

    pub run_places : (steps : ℕ) (state : State) → StatePlaces state → StatePlaces (run limits tables steps state)
    run_places zero state s = s
    run_places (suc steps) state s = run_places steps (step limits tables state) (from_places state.ended state s)

  -- ---- runs of a program

  pub body_places : (methods : List Method) (number : ℕ) → AllByRecursion (MethodPlaces P) methods → CodePlaces P (body_of (unwrap_or (slice_get methods number) no_method))
  body_places [] number all = tt
  body_places (method ∷ methods) zero all = all.0.1
  body_places (method ∷ methods) (suc number) all = body_places methods number all.1

  start_places : (program : Program) (method : ℕ) (inputs : List Input) → ProgramPlaces P program → StatePlaces (start program method inputs)
  start_places program method inputs all = record { now = then_places P (body_of (method_at program method)) Empty (body_places program.methods method all) tt; below = tt; ended = tt }

  -- a run that has stopped stopped at a place of the program
  pub run_stops_at : (limits : Limits) (program : Program) (method : ℕ) (inputs : List Input) (steps : ℕ) → ProgramPlaces P program → EndPlace Q (state_after program limits method inputs steps).ended
  run_stops_at limits program method inputs steps all =
      (run_places limits (tables_of program) (λ number. body_places program.methods number all) steps (start program method inputs) (start_places program method inputs all)).ended
