-- What is asked of the calls that an expression makes: where the machine calls with the arguments in their slots, it goes along with the source's call.
use Rattle.std.specs.Prelude.{◌≡◌, ◌≤◌, ◌<◌, ℕ, true, false, List, [], length, map, is_some}
use Rattle.ix_text.specs.declared.span.Span.{Span}
use Rattle.ix_core.specs.declared.op.Arg.{Arg}
use Rattle.ix_core.specs.declared.op.CallOp.{CallOp}
use Rattle.ix_core.specs.declared.op.OpKind.{OpKind}
use Rattle.ix_core.specs.declared.op.OpKind.TheVariants as op
use Rattle.ix_core.specs.Code as code
use Rattle.ix_core.specs.Code.{Code}
use Rattle.ix_core.specs.Heap.{Held, Null, value_at}
use Rattle.ix_core.specs.Machine.{State, receiver_slot}
use Rattle.ix_core.specs.Tasks.{Tasks, Run, code_then}
use Rattle.ix_plain.specs.Scope.{head_at, constructor_at}
use Rattle.ix_source.specs.Runs.{Now, Action, ◌>>=◌}
use Rattle.ix_source.specs.Context.{Members, Calls}
use Rattle.ix_source.specs.Values.{through, value_of, call_on, object_of}
use Rattle.ix_source.specs.Seen.{Frame, at, Decides}
use Rattle.ix_source.specs.Along.{Setting, Agrees, Along}
use Rattle.ix_source.specs.Kept.{Fact, IsIn, context}
use Rattle.ix_source.specs.Sound.{is_method, is_class}

-- the slots of the arguments hold these values
abbrev pub AreIn : List Arg → Fact (List Held)
AreIn args values slots = map (λ (arg : Arg). value_at slots arg.slot) args ≡ values

module _ (z : Setting) where
  -- The slot holds what the method gives back, if it has a result.
  abbrev pub ResultIn : ℕ → ℕ → Fact Held
  ResultIn method slot value slots = is_some (z.tables.routines method).default ≡ true → value_at slots slot ≡ value

  -- where the machine calls
  abbrev pub at_call : Frame → OpKind → Span → Code → Tasks → List Held → Now → State
  at_call f kind span rest tasks slots now = at f (Run (code.Do (record { kind = kind; span = span; parts = [] }) rest) tasks) slots now.heap now.wrapped

  -- The call does what the action does, where what is known of the slots holds.
  abbrev pub CallDoes : OpKind → CallOp → (Span → Action Held) → (List Held → Type 0) → Fact Held → Type 0
  CallDoes kind call action known holds = (f : Frame) (span : Span) (rest : Code) (tasks : Tasks) (slots : List Held) (now : Now) → z.base ≤ call.target → call.target < length slots → Agrees z slots now.variables → known slots
      → Decides z.tables (at_call f kind span rest tasks slots now) → Along z f (at_call f kind span rest tasks slots now) (λ value. code_then rest tasks) holds call.target slots now (action span now)

  module _ (members : Members) (calls : Calls) (turns : ℕ) where
    pub record CallsKept : Type 0 where
      pub is_static : (method : ℕ) → is_method z.tables z.scope.site method ≡ true → members.is_static method ≡ (head_at z.scope.site method).is_static
      pub static : (call : CallOp) (given : List Held) → is_method z.tables z.scope.site call.method ≡ true → members.is_static call.method ≡ true
          → CallDoes (op.StaticCall call) call (λ span. calls.method call.method Null given >>= value_of) (AreIn call.args given) (ResultIn call.method call.target)
      pub instance : (call : CallOp) (o : Held) (given : List Held) → is_method z.tables z.scope.site call.method ≡ true → members.is_static call.method ≡ false
          → CallDoes (op.InstanceCall call) call (λ span. through span.from o (call_on (context z members calls turns) span.from call.method o given) >>= value_of)
          (λ slots. IsIn (receiver_slot call.receiver) o slots × AreIn call.args given slots) (ResultIn call.method call.target)
      pub made : (call : CallOp) (given : List Held) → is_class z.scope.site call.class ≡ true → call.method ≡ constructor_at z.scope.site call.class
          → CallDoes (op.NewObject call) call (λ span. object_of (context z members calls turns) call.class given) (AreIn call.args given) (IsIn call.target)
