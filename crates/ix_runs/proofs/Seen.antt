-- What is seen of steps, one after another.
use Rattle.std.proofs.Common.{◌≡◌, ◌≤◌, ℕ, zero, suc, ◌+◌, ℤ, pos, negsuc, Bool, true, false, List, [], ◌∷◌, ◌++◌, length, append_assoc, append-nil, Option, None, Some, refl, ap, sym, ◌∙◌, subst}
use Rattle.std.specs.Prelude.{if◌then◌else◌, unsigned_abs}
use Rattle.std.specs.List.{AllByRecursion}
use Rattle.ix_num.specs.Arithmetic.{exact_of}
use Rattle.ix_core.specs.declared.claim.Type_.{Type_}
use Rattle.ix_core.specs.declared.op.OpKind.{OpKind}
use Rattle.ix_core.specs.declared.op.OpKind.TheVariants as op
use Rattle.ix_core.specs.Code as code
use Rattle.ix_core.specs.Heap.{Held, Num, Boolean, Null, At, Heap, value_at, array_at, object_at, place_in, cells_used, is_within}
use Rattle.ix_core.specs.Machine as machine
use Rattle.ix_core.specs.Machine.{Ending, Limits, State, Move, Effect, Went, Go, Wrap, Tell, Enter, Leave, Stop, is_int, is_past, int_at, unary_of, assign_result, through, at_place, new_array, effect_then, operate, step_tasks, moved, move_event, event_from, event_values, step, step_from, step_event, next_move, run}
use Rattle.ix_core.specs.Tables.{Tables}
use Rattle.ix_core.specs.Tasks.{Tasks, Empty, Run, Ask, Decide, DecideTruth, Head, Again, Out, code_then}
use Rattle.ix_core.specs.Traces.{Observation, Printed, accessed, next_access, op_seen, op_access, task_access, task_seen, access_from, seen_from, step_seen, trace}
use Rattle.ix_core.specs.Traces as traces
use Rattle.ix_machine.specs.declared.access.Access.{Access}
use Rattle.ix_machine.specs.Accesses.{access_of, HasSize}
use Rattle.ix_machine.proofs.ManySteps.{final_stays}
use Rattle.ix_report.specs.Runs.{access}
use Rattle.ix_runs.specs.Ends.{IsSeenIn}
use Rattle.ix_runs.specs.Texts.{value_line, seen_line, seen_lines, trace_lines}

-- ---- a step shows the access that it makes, and then what it prints

abbrev pub printed_seen : List Held → List Observation
printed_seen [] = []
printed_seen (value ∷ values) = Printed value ∷ printed_seen values

-- what a move prints
abbrev tells : Move → List Held
tells (Tell value tasks) = value ∷ []
tells _ = []

-- what an operation prints
abbrev prints : Effect → List Held
prints (machine.Printed value) = value ∷ []
prints _ = []

effect_tells : (effect : Effect) (place : ℕ) (tasks : Tasks) → tells (effect_then effect place tasks) ≡ prints effect
effect_tells (machine.Done slots heap) place tasks = refl
effect_tells (machine.Wrapped slots heap) place tasks = refl
effect_tells (machine.Printed value) place tasks = refl
effect_tells (machine.Called kind call) place tasks = refl
effect_tells (machine.Stopped ending) place tasks = refl

either_prints : (b : Bool) (first second : Effect) → prints first ≡ [] → prints second ≡ [] → prints (if b then first else second) ≡ []
either_prints true first second a c = a
either_prints false first second a c = c

module _ (limits : Limits) (tables : Tables) (place : ℕ) (slots : List Held) (heap : Heap) where
  result_prints : (target : ℕ) (exact : Option ℤ) → prints (assign_result limits tables place slots heap target exact) ≡ []
  result_prints target None = refl
  result_prints target (Some exact) = either_prints (is_int exact) _ _ refl refl

  through_prints : (held : Held) (next : ℕ → Effect) → ((number : ℕ) → prints (next number) ≡ []) → prints (through limits tables place slots heap held next) ≡ []
  through_prints (At number) next quiet = quiet number
  through_prints (Num n) next quiet = refl
  through_prints (Boolean b) next quiet = refl
  through_prints Null next quiet = refl

  length_prints : (target : ℕ) (held : Held) → prints (machine.assign_length limits tables place slots heap target held) ≡ []
  length_prints target (At number) = refl
  length_prints target (Num n) = refl
  length_prints target (Boolean b) = refl
  length_prints target Null = refl

  place_prints : (cell : Option ℕ) (next : ℕ → Effect) → ((cell : ℕ) → prints (next cell) ≡ []) → prints (at_place limits tables place slots heap cell next) ≡ []
  place_prints None next quiet = refl
  place_prints (Some cell) next quiet = quiet cell

  array_prints : (target : ℕ) (ty : Type_) (size : ℤ) → prints (new_array limits tables place slots heap target ty size) ≡ []
  array_prints target ty (negsuc n) = refl
  array_prints target ty (pos size) = either_prints (is_past limits.cells (cells_used heap + (size + 1))) _ _ refl refl

  -- an operation shows its access, and what it prints
  op_shows : (kind : OpKind) → op_seen kind slots heap place ≡ accessed (op_access kind slots heap place) ++ printed_seen (prints (operate limits tables place slots heap kind))
  op_shows (op.Const target value) = refl
  op_shows (op.Copy target source ty) = refl
  op_shows (op.Num target arith left right) = sym (ap printed_seen (result_prints target (exact_of arith (int_at slots left) (int_at slots right))))
  op_shows (op.Unary target unary operand) = sym (ap printed_seen (result_prints target (Some (unary_of unary (int_at slots operand)))))
  op_shows (op.Length target array) = sym (ap printed_seen (length_prints target (value_at slots array)))
  op_shows (op.NewArray target ty size) = sym (ap printed_seen (array_prints target ty (int_at slots size)))
  op_shows (op.Fill target ty entries) = sym (ap printed_seen (either_prints (is_past limits.cells (cells_used heap + (length entries + 1))) _ _ refl refl))
  op_shows (op.Load target array index ty) =
      sym (ap (λ values. accessed (op_access (op.Load target array index ty) slots heap place) ++ printed_seen values) (through_prints (value_at slots array) _ (λ number. either_prints (is_within (int_at slots index) (length (array_at heap number))) _ _ refl refl)) ∙ append-nil _)
  op_shows (op.Store array index value ty) =
      sym (ap (λ values. accessed (op_access (op.Store array index value ty) slots heap place) ++ printed_seen values) (through_prints (value_at slots array) _ (λ number. either_prints (is_within (int_at slots index) (length (array_at heap number))) _ _ refl refl)) ∙ append-nil _)
  op_shows (op.ReadField target object field) = sym (ap printed_seen (through_prints (value_at slots object) _ (λ number. place_prints (place_in tables.place (object_at heap number).kind field) _ (λ cell. refl))))
  op_shows (op.WriteField object field value) = sym (ap printed_seen (through_prints (value_at slots object) _ (λ number. place_prints (place_in tables.place (object_at heap number).kind field) _ (λ cell. refl))))
  op_shows (op.NewObject call) = refl
  op_shows (op.StaticCall call) = refl
  op_shows (op.InstanceCall call) = refl
  op_shows (op.SuperCall call) = refl
  op_shows (op.Print value) = refl

module _ (limits : Limits) (tables : Tables) (slots : List Held) (heap : Heap) where
  loop_tells : (b : Bool) (first second : Tasks) → tells (if b then Go first slots heap else Go second slots heap) ≡ []
  loop_tells true first second = refl
  loop_tells false first second = refl

  -- so does a frame's next task
  task_shows : (tasks : Tasks) → task_seen tasks slots heap ≡ accessed (task_access tasks slots heap) ++ printed_seen (tells (step_tasks limits tables slots heap tasks))
  task_shows Empty = refl
  task_shows (Run code.End tasks) = refl
  task_shows (Run (code.Do done rest) tasks) =
      op_shows limits tables done.span.from slots heap done.kind
      ∙ ap (λ values. accessed (op_access done.kind slots heap done.span.from) ++ printed_seen values) (sym (effect_tells (operate limits tables done.span.from slots heap done.kind) done.span.from (code_then rest tasks)))
  task_shows (Run (code.If asked first second rest) tasks) = refl
  task_shows (Run (code.Break rest) tasks) = refl
  task_shows (Run (code.Continue rest) tasks) = refl
  task_shows (Run (code.Return value span rest) tasks) = refl
  task_shows (Run (code.Throw name span rest) tasks) = refl
  task_shows (Run (code.Loop test_first asked body next number scope rest) tasks) = sym (ap printed_seen (loop_tells test_first _ _))
  task_shows (Ask asked first second tasks) = refl
  task_shows (Decide test first second tasks) = refl
  task_shows (DecideTruth slot first second tasks) = refl
  task_shows (Head asked body next tasks) = refl
  task_shows (Again asked body next tasks) = refl
  task_shows (Out tasks) = refl

-- ---- steps

went_values : (move : Move) → move_event move ≡ Went → (ended : Option Ending) → event_values (event_from move ended) ≡ []
went_values move is None = ap event_values is
went_values move is (Some ending) = refl

module _ (limits : Limits) (tables : Tables) where
  moved_tells : (move : Move) (state : State) → state.ended ≡ None → event_values (event_from move (moved limits tables move state).ended) ≡ tells move
  moved_tells (Go tasks slots heap) state goes = went_values (Go tasks slots heap) refl (moved limits tables (Go tasks slots heap) state).ended
  moved_tells (Wrap tasks slots heap) state goes = went_values (Wrap tasks slots heap) refl (moved limits tables (Wrap tasks slots heap) state).ended
  moved_tells (Tell value tasks) state goes = ap (λ ended. event_values (event_from (Tell value tasks) ended)) goes
  moved_tells (Enter kind call place tasks) state goes = went_values (Enter kind call place tasks) refl (moved limits tables (Enter kind call place tasks) state).ended
  moved_tells (Leave returned) state goes = went_values (Leave returned) refl (moved limits tables (Leave returned) state).ended
  moved_tells (Stop ending) state goes = went_values (Stop ending) refl (moved limits tables (Stop ending) state).ended

  shows_from : (state : State) (ended : Option Ending) → state.ended ≡ ended → ended ≡ None
      → seen_from ended state ≡ accessed (access_from ended state) ++ printed_seen (event_values (event_from (next_move limits tables state) (step_from limits tables ended state).ended))
  shows_from state None is goes =
      task_shows limits tables state.now.slots state.heap state.now.tasks
      ∙ ap (λ values. accessed (access_from None state) ++ printed_seen values) (sym (moved_tells (next_move limits tables state) state is))
  shows_from state (Some ending) is goes = absurd (cc)

  -- A step shows the access that it makes, and then the value that it prints.
  pub step_shows : (state : State) → state.ended ≡ None → step_seen state ≡ accessed (next_access state) ++ printed_seen (event_values (step_event limits tables state))
  step_shows state goes = shows_from state state.ended refl goes

  seen_final : (state : State) (ended : Option Ending) (how : Ending) → ended ≡ Some how → seen_from ended state ≡ []
  seen_final state None how is = absurd (cc)
  seen_final state (Some other) how is = refl

  -- a final state shows nothing
  trace_final : (steps : ℕ) (state : State) (how : Ending) → state.ended ≡ Some how → trace limits tables steps state ≡ []
  trace_final zero state how is = refl
  trace_final (suc steps) state how is =
      ap (λ seen. seen ++ trace limits tables steps (step limits tables state)) (seen_final state state.ended how is)
      ∙ (ap (trace limits tables steps) (final_stays limits tables 1 state how is) ∙ trace_final steps state how is)

-- ---- their lines

lines_append : (text : List ℕ) (first second : List Observation) → seen_lines text (first ++ second) ≡ seen_lines text first ++ seen_lines text second
lines_append text [] second = refl
lines_append text (seen ∷ first) second = ap (λ rest. seen_line text seen ++ rest) (lines_append text first second) ∙ sym (append_assoc (seen_line text seen) (seen_lines text first) (seen_lines text second))

pub final_lines : (text : List ℕ) (limits : Limits) (tables : Tables) (steps : ℕ) (state : State) (how : Ending) → state.ended ≡ Some how → trace_lines text limits tables steps state ≡ []
final_lines text limits tables steps state how is = ap (seen_lines text) (trace_final limits tables steps state how is)

-- those of the next step, and then of the others
pub lines_next : (text : List ℕ) (limits : Limits) (tables : Tables) (left less : ℕ) (state next : State) → left ≡ suc less → next ≡ step limits tables state
    → trace_lines text limits tables left state ≡ seen_lines text (step_seen state) ++ trace_lines text limits tables less next
lines_next text limits tables left less state next is went =
    ap (λ n. trace_lines text limits tables n state) is ∙ (lines_append text (step_seen state) (trace limits tables less (step limits tables state))
    ∙ ap (λ s. seen_lines text (step_seen state) ++ trace_lines text limits tables less s) (sym went))

pub step_next : (limits : Limits) (tables : Tables) (left less : ℕ) (state next : State) → left ≡ suc less → next ≡ step limits tables state → run limits tables less next ≡ run limits tables left state
step_next limits tables left less state next is went = ap (run limits tables less) went ∙ sym (ap (λ n. run limits tables n state) is)

-- what a step shows is the line of its access and that of what it prints
pub step_lines : (text : List ℕ) (limits : Limits) (tables : Tables) (state : State) → state.ended ≡ None
    → seen_lines text (step_seen state) ≡ seen_lines text (accessed (next_access state)) ++ seen_lines text (printed_seen (event_values (step_event limits tables state)))
step_lines text limits tables state goes =
    ap (seen_lines text) (step_shows limits tables state goes) ∙ lines_append text (accessed (next_access state)) (printed_seen (event_values (step_event limits tables state)))

pub value_seen : (text : List ℕ) (value : Held) → seen_lines text (printed_seen (value ∷ [])) ≡ value_line value
value_seen text value = append-nil (value_line value)

-- ---- within a text

all_first : {A : Type 0} (P : A → Type 0) (first second : List A) → AllByRecursion P (first ++ second) → AllByRecursion P first
all_first P [] second all = tt
all_first P (x ∷ first) second all = (all.0, all_first P first second all.1)

all_behind : {A : Type 0} (P : A → Type 0) (first second : List A) → AllByRecursion P (first ++ second) → AllByRecursion P second
all_behind P [] second all = all
all_behind P (x ∷ first) second all = all_behind P first second all.1

pub within_access : (end : ℕ) (limits : Limits) (tables : Tables) (state : State) → state.ended ≡ None → AllByRecursion (IsSeenIn end) (step_seen state) → AllByRecursion (IsSeenIn end) (accessed (next_access state))
within_access end limits tables state goes all =
    all_first (IsSeenIn end) (accessed (next_access state)) (printed_seen (event_values (step_event limits tables state))) (subst (AllByRecursion (IsSeenIn end)) (step_shows limits tables state goes) all)

pub within_step : (end : ℕ) (limits : Limits) (tables : Tables) (left less : ℕ) (state : State) → left ≡ suc less → AllByRecursion (IsSeenIn end) (trace limits tables left state) → AllByRecursion (IsSeenIn end) (step_seen state)
within_step end limits tables left less state is all =
    all_first (IsSeenIn end) (step_seen state) (trace limits tables less (step limits tables state)) (subst (λ n. AllByRecursion (IsSeenIn end) (trace limits tables n state)) is all)

pub within_next : (end : ℕ) (limits : Limits) (tables : Tables) (left less : ℕ) (state next : State) → left ≡ suc less → next ≡ step limits tables state
    → AllByRecursion (IsSeenIn end) (trace limits tables left state) → AllByRecursion (IsSeenIn end) (trace limits tables less next)
within_next end limits tables left less state next is went all =
    subst (λ s. AllByRecursion (IsSeenIn end) (trace limits tables less s)) (sym went)
    (all_behind (IsSeenIn end) (step_seen state) (trace limits tables less (step limits tables state)) (subst (λ n. AllByRecursion (IsSeenIn end) (trace limits tables n state)) is all))

-- ---- the access that the machine tells

pub no_access : (text : List ℕ) (next : Option traces.Access) → None ≡ next → seen_lines text (accessed next) ≡ []
no_access text next is = ap (λ n. seen_lines text (accessed n)) (sym is)

pub one_access : (text : List ℕ) (found : Access) (next : Option traces.Access) → Some (access_of found) ≡ next → HasSize found → seen_lines text (accessed next) ≡ access text found.index found.length found.at
one_access text found next is size =
    ap (λ n. seen_lines text (accessed n)) (sym is) ∙ (append-nil (access text found.index (pos (unsigned_abs found.length)) found.at) ∙ ap (λ n. access text found.index n found.at) size)

pub access_within : (end : ℕ) (found : Access) (next : Option traces.Access) → Some (access_of found) ≡ next → AllByRecursion (IsSeenIn end) (accessed next) → found.at ≤ end
access_within end found next is all = (subst (λ n. AllByRecursion (IsSeenIn end) (accessed n)) (sym is) all).0
