-- What is known of a frame, as the knowledge that the laws of an analysis speak of: a store of the rules, what was done last, and how far a constructor is. Behind
-- a call it is each store that the rule of the call gives, of a method that the called one is or overrides.
use Rattle.std.specs.Prelude.{◌≡◌, ℕ, ◌<◌, ◌==◌, nat_lt, Bool, true, false, List, length, Option, None, Some, refl}
use Rattle.ix_core.specs.declared.claim.Type_.{Type_}
use Rattle.ix_core.specs.declared.error.Error.{Error}
use Rattle.ix_core.specs.declared.fact.Profile.{Profile}
use Rattle.ix_core.specs.declared.op.CallOp.{CallOp}
use Rattle.ix_core.specs.declared.op.Op.{Op}
use Rattle.ix_core.specs.declared.op.OpKind.{OpKind}
use Rattle.ix_core.specs.declared.op.OpKind.TheVariants as op
use Rattle.ix_core.specs.declared.program.Method.{Method}
use Rattle.ix_core.specs.declared.program.Program.{Program}
use Rattle.ix_core.specs.Formed.{is_argument, entry_type, has_parent}
use Rattle.ix_core.specs.Heap.{Held, Boolean, Heap, value_at}
use Rattle.ix_core.specs.Machine.{CallKind, Static, Instance, New, Super}
use Rattle.ix_core.specs.Numbers.{Numbers, HasInts, numbers_of}
use Rattle.ix_core.specs.Posts.{written_answer}
use Rattle.ix_core.specs.Tables.{method_at}
use Rattle.ix_core.specs.Tasks.{Tasks}
use Rattle.ix_core.specs.Types.{Types}
use Rattle.ix_core.specs.Waits.{Knowledge}
use Rattle.ix_facts.specs.Facts.{AllHold}
use Rattle.ix_facts.specs.Stores.{Stored, Meets}
use Rattle.ix_signatures.specs.Signs.{CallGives, SuperGives, told_facts}
use Rattle.ix_signatures.specs.SignErrors.{ArgumentClaim}
use Rattle.ix_sign.specs.MethodRules.{method_rules}
use Rattle.ix_soundness.specs.Chain.{Flowing}
use Rattle.ix_soundness.specs.Clean.{IsClean}
use Rattle.ix_soundness.specs.Direct.{direct}
use Rattle.ix_soundness.specs.Errors.{NoErrors}
use Rattle.ix_soundness.specs.Making.{Stage, Plain, Making, with_types, StageFits, StageHolds}

pub data Known : Type 0 where
  -- nothing, of a method that the program doesn't have
  Anything : Known
  -- the operation that was done last, where one stands directly before the tasks
  Here : Stage → Option Op → Stored → Known
  -- behind a call: the caller, the called method, and what was known before it
  Behind : Method → Method → CallKind → CallOp → Known → Known

-- a method is another, or overrides it, directly or through others (JLS 8.4.8)
pub data Overrides (program : Program) : ℕ → ℕ → Type 0 where
  Itself : (number : ℕ) → Overrides program number number
  Over : (number over named : ℕ) → number < length program.methods → (method_at program number).overrides ≡ Some over → Overrides program over named → Overrides program number named

-- the call of this method in place of the one that it names
abbrev pub call_of : CallOp → ℕ → CallOp
call_of call method = record call { method = method }

-- what a kind of call may call, and on what
abbrev pub KindFits : CallKind → CallOp → Method → Type 0
KindFits Static call named = named.is_static ≡ true
KindFits Instance call named = (named.is_static ≡ false) × (named.constructor ≡ false) × (slot : ℕ) × (call.receiver ≡ Some slot)
KindFits (New class) call named = (named.is_static ≡ false) × (named.constructor ≡ true)
KindFits Super call named = (named.is_static ≡ false) × (named.constructor ≡ true)

-- A call of a formed program by a method of it, of which no argument is an error where it is taken for a call of the named method.
pub record CallsWell (program : Program) (caller callee : Method) (kind : CallKind) (call : CallOp) (stage : Stage) (store : Stored) : Type 0 where
  pub number : ℕ
  pub there : number < length program.methods
  pub caller_is : caller ≡ method_at program number
  pub callee_is : callee ≡ method_at program call.method
  pub named : ℕ
  pub overrides : Overrides program call.method named
  pub known : named < length program.methods
  pub kinds : KindFits kind call (method_at program named)
  pub args : length call.args ≡ length (method_at program named).params
  pub makes : (class : ℕ) (new : Bool) (types : Types) → stage ≡ Making class new types → (caller.constructor ≡ true) × (class ≡ caller.class)
  pub target : caller.constructor ≡ true → (0 == call.target) ≡ false
  pub apart : is_argument call.args call.target ≡ false
  pub receiver : (slot : ℕ) → kind ≡ Instance → call.receiver ≡ Some slot → (slot == call.target) ≡ false
  pub met : (error : Error) (rank : ℕ) → ArgumentClaim program (call_of call named) store error rank → ⊥

-- the operation that is the call
abbrev pub call_op : CallKind → CallOp → OpKind
call_op Static call = op.StaticCall call
call_op Instance call = op.InstanceCall call
call_op (New class) call = op.NewObject call
call_op Super call = op.SuperCall call

-- What the operation that was done last shows of the slots: the answer that it wrote out stands in its slot, and what a slot's answer tells by it is true.
pub record LastHolds (program : Program) (last : Option Op) (slots : List Held) (v : Numbers) : Type 0 where
  pub written : (slot : ℕ) (answer : Bool) → written_answer last (Some slot) ≡ Some answer → value_at slots slot ≡ Boolean answer
  pub told : (slot : ℕ) (answer : Bool) → value_at slots slot ≡ Boolean answer → AllHold (told_facts program last slot answer) v

-- what the rule of the call gives
abbrev pub BehindGives : Program → Method → CallKind → CallOp → Stored → Stored → Type 0
BehindGives program caller Super call s t = SuperGives program caller call s t
BehindGives program caller _ call s t = CallGives program caller call s t

abbrev pub stage_behind : CallKind → Stage → Types → Stage
stage_behind Super (Making class new old) types = Making class false types
stage_behind _ stage types = with_types stage types

module _ (program : Program) (profile : Profile) (locals : ℕ → List Type_) where
  -- the store is met, the fields of a new object are as they were made, and what was done last has done what it does
  abbrev pub MeetsHere : Stage → Option Op → Stored → List Held → Heap → Type 0
  MeetsHere stage last store slots heap = (ints : HasInts (direct program).place slots heap)
      → Meets store (numbers_of (direct program).place slots heap ints) × StageHolds (direct program) stage (numbers_of (direct program).place slots heap ints)
      × LastHolds program last slots (numbers_of (direct program).place slots heap ints)

  -- from the store on the tasks have no error, behind what was done last, and they fit the stage
  pub record FineHere (number : ℕ) (tasks : Tasks) (stage : Stage) (last : Option Op) (store : Stored) : Type 0 where
    pub labels : ℕ → Stored
    pub flowing : Flowing (method_rules program (method_at program number) profile) (NoErrors program (method_at program number) number) labels (λ (done : Op). IsClean program (method_at program number) done.kind) last tasks store
    pub stage_fits : StageFits program locals number tasks stage

  pub record FineBehind (number : ℕ) (tasks : Tasks) (caller callee : Method) (kind : CallKind) (call : CallOp) (stage : Stage) (store : Stored) : Type 0 where
    pub well : CallsWell program caller callee kind call stage store
    pub after : Stored
    pub gives : BehindGives program caller kind (call_of call well.named) store after
    pub types : Types
    pub done : Op
    pub is : done.kind ≡ call_op kind (call_of call well.named)
    pub fine : FineHere number tasks (stage_behind kind stage types) (Some done) after

  abbrev pub BehindFine : ℕ → Tasks → Method → Method → CallKind → CallOp → Known → Type 0
  BehindFine number tasks caller callee kind call (Here stage last store) = FineBehind number tasks caller callee kind call stage store
  BehindFine number tasks caller callee kind call _ = ⊥

  abbrev pub BehindHolds : Method → Method → CallKind → CallOp → Known → List Held → Heap → Type 0
  BehindHolds caller callee kind call (Here stage last store) slots heap = (well : CallsWell program caller callee kind call stage store) (after : Stored) → BehindGives program caller kind (call_of call well.named) store after
      → (types : Types) (done : Op) → done.kind ≡ call_op kind (call_of call well.named) → MeetsHere (stage_behind kind stage types) (Some done) after slots heap
  BehindHolds caller callee kind call _ slots heap = Unit {0}

  abbrev pub FineFrom : ℕ → Tasks → Known → Type 0
  FineFrom number tasks Anything = ⊥
  FineFrom number tasks (Here stage last store) = FineHere number tasks stage last store
  FineFrom number tasks (Behind caller callee kind call known) = BehindFine number tasks caller callee kind call known

  abbrev pub HoldsFor : Known → List Held → Heap → Type 0
  HoldsFor Anything slots heap = Unit {0}
  HoldsFor (Here stage last store) slots heap = MeetsHere stage last store slots heap
  HoldsFor (Behind caller callee kind call known) slots heap = BehindHolds caller callee kind call known slots heap

  -- at the entry of a method
  abbrev pub stage_if : Bool → Method → Stage
  stage_if true method = Making method.class (has_parent program method) (entry_type program method)
  stage_if false method = Plain

  abbrev pub entry_stage : ℕ → Stage
  entry_stage number = stage_if (method_at program number).constructor (method_at program number)

  abbrev pub known_at : (entries : (number : ℕ) → nat_lt number (length program.methods) ≡ true → Stored) → (number : ℕ) (t : Bool) → nat_lt number (length program.methods) ≡ t → Known
  known_at entries number true there = Here (entry_stage number) None (entries number there)
  known_at entries number false there = Anything

  abbrev pub knowledge : ((number : ℕ) → nat_lt number (length program.methods) ≡ true → Stored) → Knowledge
  knowledge entries = record {
    Store = Known;
    Holds = HoldsFor;
    entry = λ number. known_at entries number (nat_lt number (length program.methods)) refl;
    after_call = Behind;
    Fine = λ number tasks known. number < length program.methods → FineFrom number tasks known;
  }
