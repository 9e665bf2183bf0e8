-- Calls keep their meaning where the methods and constructors that they run do (JLS 15.12, 15.9): static calls, calls on an object, and new objects.
use Rattle.std.proofs.Common.{◌≡◌, ◌≤◌, ◌<◌, ℕ, ◌+◌, pos, true, false, List, [], ◌∷◌, ◌++◌, length, map, Option, Some, None, refl, sym, ap, subst, ◌∙◌}
use Rattle.std.specs.Prelude.{is_some, unwrap_or}
use Rattle.std.proofs.lemmas.List.{append-nil}
use Rattle.ix_text.specs.declared.span.Span.{Span}
use Rattle.ix_core.specs.declared.op.Arg.{Arg}
use Rattle.ix_core.specs.declared.op.CallOp.{CallOp}
use Rattle.ix_core.specs.declared.op.OpKind.TheVariants as op
use Rattle.ix_core.specs.Code as code
use Rattle.ix_core.specs.Code.{Code}
use Rattle.ix_core.specs.Heap.{Held, Num, Null, At, Kind, Object, ObjectOf, ArrayOf, value_at, object_at}
use Rattle.ix_core.specs.Machine.{State, NullUsed, no_limits, step, called, found_at, found_for, set_target, target_of, receiver_slot, Static, Instance}
use Rattle.ix_core.specs.Tables.{Tables}
use Rattle.ix_core.specs.Tasks.{Tasks, Run, code_then}
use Rattle.ix_plain.specs.Scope.{constructor_at}
use Rattle.ix_source.specs.Runs.{Now, Result, Gives, Stops, Cuts, ◌>>=◌, go_on, gives, with_heap}
use Rattle.ix_source.specs.Context.{Context, Members, Calls}
use Rattle.ix_source.specs.Values.{made, value_of, through, called_on, call_on, object_of}
use Rattle.ix_source.specs.Seen.{Frame, Decides}
use Rattle.ix_source.specs.Along.{Setting, IsSet, Agrees, Along}
use Rattle.ix_source.specs.Kept.{IsIn, context}
use Rattle.ix_source.specs.Sound.{is_method, is_class}
use Rattle.ix_source.specs.Called.{GoesBack, RunsMethod, entered}
use Rattle.ix_source.specs.Calling.{AreIn, ResultIn, CallDoes, CallsKept, at_call}
use Rattle.ix_source.proofs.Paths.{one_step}
use Rattle.ix_source.specs.Callees.{AreMembers, CalleesRun, with_object}
use Rattle.ix_source.proofs.Calls.{Lands, came_back, lands_in, lands_result}

-- what is shown and what the caller's variables hold is the same where only the heap is another
same_caller : (tables : Tables) (depth : ℕ) (start : State) (f : Frame) (tasks : Tasks) (slots : List Held) (target : Option ℕ) (now later : Now) → later.events ≡ now.events → later.variables ≡ now.variables → (r : Result (Option Held))
    → GoesBack tables depth start f tasks slots target later r → GoesBack tables depth start f tasks slots target now r
same_caller tables depth start f tasks slots target now later e v (Gives result last) a = record { shows = a.shows; leads = a.leads; events = a.events ∙ ap (λ es. es ++ a.shows) e; variables = a.variables ∙ v }
same_caller tables depth start f tasks slots target now later e v (Stops ending last) a = record { final = a.final; shows = a.shows; leads = a.leads; ended = a.ended; wrapped = a.wrapped; events = a.events ∙ ap (λ es. es ++ a.shows) e }
same_caller tables depth start f tasks slots target now later e v (Cuts last) a = record { state = a.state; shows = a.shows; leads = a.leads; far = a.far; ended = a.ended; wrapped = a.wrapped; events = a.events ∙ ap (λ es. es ++ a.shows) e }

given_object : (o : Held) (r : Result (Unit {0})) → go_on (λ result. gives (unwrap_or result (Num (pos 0)))) (go_on (with_object o) r) ≡ go_on (λ done. gives o) r
given_object o (Gives done now) = refl
given_object o (Stops ending now) = refl
given_object o (Cuts now) = refl

is_object : (o : Held) (r : Result (Unit {0})) (later : Now) (result : Option Held) → go_on (with_object o) r ≡ Gives result later → result ≡ Some o
is_object o (Gives done now) later result e = given e
  where
    given : Gives (Some o) now ≡ Gives result later → result ≡ Some o
    given e = cc e
is_object o (Stops ending now) later result e = absurd (cc e)
is_object o (Cuts now) later result e = absurd (cc e)

module _ (z : Setting) (set : IsSet z) (members : Members) (calls : Calls) (turns depth : ℕ) (deep : z.depth ≤ depth + 1) (are : AreMembers z.tables z.scope.site members) (run : CalleesRun z.tables z.scope.site members depth calls) where
  abbrev here : Context
  here = context z members calls turns

  abbrev finish : Option Held → Held
  finish result = unwrap_or result (Num (pos 0))

  -- ---- static methods

  static_does : (call : CallOp) (given : List Held) → is_method z.tables z.scope.site call.method ≡ true → members.is_static call.method ≡ true
      → CallDoes z (op.StaticCall call) call (λ span. calls.method call.method Null given >>= value_of) (AreIn call.args given) (ResultIn z call.method call.target)
  static_does call given is static f span rest tasks slots now le room agrees args decides =
      let target = target_of z.tables Static call in
      let runs : RunsMethod z.tables depth call.method true (λ this given. calls.method call.method this given) Null = subst (λ b. RunsMethod z.tables depth call.method b (λ this given. calls.method call.method this given) Null) static (run.method call.method is Null) in
      came_back z depth deep finish (ResultIn z call.method call.target) f (Run (code.Do (record { kind = op.StaticCall call; span = span; parts = [] }) rest) tasks) rest tasks call.target slots now (entered z.tables depth call.method f (code_then rest tasks) slots target given now) target
      (ap (λ values. entered z.tables depth call.method f (code_then rest tasks) slots target values now) args) refl decides (calls.method call.method Null given now)
      (λ later result e. lands_result z depth deep set slots now call.target (z.tables.routines call.method).default result le room agrees (run.gives_back call.method is Null given now later result e))
      (λ decides_then. runs f (code_then rest tasks) slots target given now decides_then)

  -- ---- methods of an object

  module _ (call : CallOp) (o : Held) (given : List Held) (is : is_method z.tables z.scope.site call.method ≡ true) (static : members.is_static call.method ≡ false) (f : Frame) (span : Span) (rest : Code) (tasks : Tasks) (slots : List Held) (now : Now)
      (le : z.base ≤ call.target) (room : call.target < length slots) (agrees : Agrees z slots now.variables) (object : IsIn (receiver_slot call.receiver) o slots) (args : AreIn call.args given slots)
      (decides : Decides z.tables (at_call z f (op.InstanceCall call) span rest tasks slots now)) where
    abbrev from : State
    from = at_call z f (op.InstanceCall call) span rest tasks slots now

    -- the call, by the method that is found
    abbrev calls_found : Option ℕ → State
    calls_found method = called no_limits z.tables Instance call span.from (code_then rest tasks) from method

    abbrev GoesAlong : Result Held → Type 0
    GoesAlong r = Along z f from (λ value. code_then rest tasks) (ResultIn z call.method call.target) call.target slots now r

    null_stops : step no_limits z.tables from ≡ calls_found None → GoesAlong (Stops (NullUsed span.from) now)
    null_stops e = record {
      final = record from { ended = Some (NullUsed span.from) };
      shows = [];
      leads = one_step z.tables from (record from { ended = Some (NullUsed span.from) }) e;
      ended = refl;
      wrapped = refl;
      events = sym (append-nil now.events);
    }

    at_kind : (kind : Kind) → step no_limits z.tables from ≡ calls_found (found_for z.tables call.method kind) → GoesAlong (go_on value_of (called_on here span.from call.method o given kind now))
    at_kind (ArrayOf ty) e = null_stops e
    at_kind (ObjectOf class) e =
        let target = target_of z.tables Instance call in
        let k = z.tables.found class call.method in
        let there = are.found_method class call.method is in
        let runs : RunsMethod z.tables depth k false (λ this given. calls.method k this given) o = subst (λ b. RunsMethod z.tables depth k b (λ this given. calls.method k this given) o) (are.found_static class call.method is ∙ static) (run.method k there o) in
        subst (λ method. GoesAlong (go_on value_of (calls.method method o given now))) (are.found class call.method is)
        (came_back z depth deep finish (ResultIn z call.method call.target) f (Run (code.Do (record { kind = op.InstanceCall call; span = span; parts = [] }) rest) tasks) rest tasks call.target slots now (entered z.tables depth k f (code_then rest tasks) slots target (o ∷ given) now) target
        (e ∙ ap (λ held. entered z.tables depth k f (code_then rest tasks) slots target (held ∷ map (λ (arg : Arg). value_at slots arg.slot) call.args) now) object ∙ ap (λ values. entered z.tables depth k f (code_then rest tasks) slots target (o ∷ values) now) args)
        refl decides (calls.method k o given now)
        (λ later result e. lands_result z depth deep set slots now call.target (z.tables.routines call.method).default result le room agrees (run.gives_back k there o given now later result e ∙ ap is_some (are.found_gives class call.method is)))
        (λ decides_then. runs f (code_then rest tasks) slots target given now decides_then))

  instance_does : (call : CallOp) (o : Held) (given : List Held) → is_method z.tables z.scope.site call.method ≡ true → members.is_static call.method ≡ false
      → CallDoes z (op.InstanceCall call) call (λ span. through span.from o (call_on here span.from call.method o given) >>= value_of) (λ slots. IsIn (receiver_slot call.receiver) o slots × AreIn call.args given slots) (ResultIn z call.method call.target)
  instance_does call (At number) given is static f span rest tasks slots now le room agrees known decides =
      at_kind call (At number) given is static f span rest tasks slots now le room agrees known.0 known.1 decides (object_at now.heap number).kind
      (ap (λ held. calls_found call (At number) given is static f span rest tasks slots now le room agrees known.0 known.1 decides (found_at z.tables call.method now.heap held)) known.0)
  instance_does call o given is static f span rest tasks slots now le room agrees known decides =
      null_stops call o given is static f span rest tasks slots now le room agrees known.0 known.1 decides
      (ap (λ held. calls_found call o given is static f span rest tasks slots now le room agrees known.0 known.1 decides (found_at z.tables call.method now.heap held)) known.0)

  -- ---- new objects

  new_does : (call : CallOp) (given : List Held) → is_class z.scope.site call.class ≡ true → call.method ≡ constructor_at z.scope.site call.class
      → CallDoes z (op.NewObject call) call (λ span. object_of here call.class given) (AreIn call.args given) (IsIn call.target)
  new_does call given is constructor f span rest tasks slots now le room agrees args decides =
      let object : Object = record { kind = ObjectOf call.class; cells = z.tables.fresh_fields call.class } in
      let o = At (length now.heap) in
      let later = with_heap (now.heap ++ object ∷ []) now in
      let r = calls.construct call.class o given later in
      let start = entered z.tables depth call.method f (code_then rest tasks) slots (Some call.target) (o ∷ given) later in
      let runs : RunsMethod z.tables depth call.method false (λ o given. calls.construct call.class o given >>= with_object o) o =
      subst (λ method. RunsMethod z.tables depth method false (λ o given. calls.construct call.class o given >>= with_object o) o) (sym constructor) (run.construct call.class is o) in
      subst (λ cells. Along z f (at_call z f (op.NewObject call) span rest tasks slots now) (λ value. code_then rest tasks) (IsIn call.target) call.target slots now ((made (record { kind = ObjectOf call.class; cells = cells }) >>= (λ o. calls.construct call.class o given >>= (λ done. gives o))) now)) (are.fresh call.class)
      (subst (λ result. Along z f (at_call z f (op.NewObject call) span rest tasks slots now) (λ value. code_then rest tasks) (IsIn call.target) call.target slots now result) (given_object o r)
      (came_back z depth deep finish (IsIn call.target) f (Run (code.Do (record { kind = op.NewObject call; span = span; parts = [] }) rest) tasks) rest tasks call.target slots now start (Some call.target)
      (ap (λ values. entered z.tables depth call.method f (code_then rest tasks) slots (Some call.target) (o ∷ values) later) args) refl decides (go_on (with_object o) r)
      (λ last result e. let is = is_object o r last result e in subst (λ result. Lands z depth deep (IsIn call.target) call.target slots now (finish result) (set_target (Some call.target) result slots)) (sym is) (lands_in z depth deep set slots now call.target o o le room agrees refl))
      (λ decides_then. same_caller z.tables depth start f (code_then rest tasks) slots (Some call.target) now later refl refl (go_on (with_object o) r) (runs f (code_then rest tasks) slots (Some call.target) given later decides_then))))

  -- The calls of an expression keep their meaning.
  pub calls_kept : CallsKept z members calls turns
  calls_kept = record { is_static = are.is_static; static = static_does; instance = instance_does; made = new_does }
