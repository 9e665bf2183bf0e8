-- A state of a formed program: its heap is typed, and each frame has types from which its tasks fit.
use Rattle.std.specs.Prelude.{◌≡◌, ℕ, ◌<◌, ◌==◌, Bool, true, false, List, [], ◌∷◌, length, Option, None, Some}
use Rattle.ix_core.specs.declared.claim.Type_.{Type_}
use Rattle.ix_core.specs.declared.op.Test.{Test}
use Rattle.ix_core.specs.declared.program.Method.{Method}
use Rattle.ix_core.specs.declared.program.Program.{Program}
use Rattle.ix_core.specs.Code.{Code, Condition}
use Rattle.ix_core.specs.Formed.{code_ways, condition_ways, operand_fits, reads}
use Rattle.ix_core.specs.Heap.{Held, Heap, value_at}
use Rattle.ix_core.specs.Machine.{Frame, Waiting, State, frame}
use Rattle.ix_core.specs.Tables.{method_at}
use Rattle.ix_core.specs.Tasks.{Tasks, Empty, Run, Ask, Decide, DecideTruth, Head, Again, Out, followed_by, behind_loop, next_turn}
use Rattle.ix_core.specs.Typed.{IsOfType, HeapTyped, SlotsTyped}
use Rattle.ix_core.specs.Types.{Types, Point, with_type, bool_type, class_type, is_void, meeting}

-- slots that are typed by the first are typed by the second
abbrev pub Gives : Program → Types → Types → Type 0
Gives program types needed = (slots : List Held) (heap : Heap) → SlotsTyped program types slots heap → SlotsTyped program needed slots heap

module _ (program : Program) (method : Method) (local_types : List Type_) where
  -- A loop whose turns begin with these types, apart from what follows it.
  pub record TurnFits (kept : Types) (asked : Condition) (body next : Code) : Type 0 where
    pub start : Point
    pub asked_fits : (condition_ways program method local_types asked (Some kept)).fits ≡ true
    pub begins : (types : Types) → (condition_ways program method local_types asked (Some kept)).holds ≡ Some types → (first : Types) × (start ≡ Some first) × Gives program types first
    pub body_fits : (code_ways program method local_types true body start).fits ≡ true
    pub body_keeps : (types : Types) → meeting (code_ways program method local_types true body start).ends (code_ways program method local_types true body start).turns ≡ Some types → Gives program types kept
    pub next_fits : (code_ways program method local_types false next (Some kept)).fits ≡ true
    pub next_keeps : (types : Types) → (code_ways program method local_types false next (Some kept)).ends ≡ Some types → Gives program types kept

  mutual
    -- from these types on the tasks fit
    pub data Fit : Tasks → Types → Type 0 where
      Nothing : (types : Types) → Fit Empty types
      Running : (in_loop : Bool) (code : Code) (tasks : Tasks) (types : Types) → (code_ways program method local_types in_loop code (Some types)).fits ≡ true
          → ((at : Types) → (code_ways program method local_types in_loop code (Some types)).ends ≡ Some at → Lead tasks at)
          → ((at : Types) → (code_ways program method local_types in_loop code (Some types)).breaks ≡ Some at → Lead (behind_loop tasks) at)
          → ((at : Types) → (code_ways program method local_types in_loop code (Some types)).turns ≡ Some at → Lead (next_turn tasks) at)
          → Fit (Run code tasks) types
      Asking : (asked : Condition) (first second tasks : Tasks) (types : Types) → (condition_ways program method local_types asked (Some types)).fits ≡ true
          → ((at : Types) → (condition_ways program method local_types asked (Some types)).holds ≡ Some at → Lead (followed_by first tasks) at)
          → ((at : Types) → (condition_ways program method local_types asked (Some types)).fails ≡ Some at → Lead (followed_by second tasks) at)
          → Fit (Ask asked first second tasks) types
      Comparing : (test : Test) (first second tasks : Tasks) (types : Types)
          → operand_fits program method (Some types) test.left test.ty ≡ true → operand_fits program method (Some types) test.right test.ty ≡ true
          → Lead (followed_by first tasks) types → Lead (followed_by second tasks) types → Fit (Decide test first second tasks) types
      Reading : (slot : ℕ) (first second tasks : Tasks) (types : Types) → reads program method (Some types) slot bool_type ≡ true
          → Lead (followed_by first tasks) types → Lead (followed_by second tasks) types → Fit (DecideTruth slot first second tasks) types
      Turning : (asked : Condition) (body next : Code) (tasks : Tasks) (kept : Types) (turn : TurnFits kept asked body next)
          → ((at : Types) → (condition_ways program method local_types asked (Some kept)).fails ≡ Some at → Lead tasks at)
          → ((at : Types) → (code_ways program method local_types true body turn.start).breaks ≡ Some at → Lead (behind_loop tasks) at)
          → Fit (Head asked body next tasks) kept
      Returning : (asked : Condition) (body next : Code) (tasks : Tasks) (kept : Types) (turn : TurnFits kept asked body next)
          → ((at : Types) → (condition_ways program method local_types asked (Some kept)).fails ≡ Some at → Lead tasks at)
          → ((at : Types) → (code_ways program method local_types true body turn.start).breaks ≡ Some at → Lead (behind_loop tasks) at)
          → Fit (Again asked body next tasks) kept
      Leaving : (tasks : Tasks) (types : Types) → Fit tasks types → Fit (Out tasks) types

    -- types that give others from which the tasks fit
    pub data Lead : Tasks → Types → Type 0 where
      Giving : (tasks : Tasks) (types needed : Types) → Gives program types needed → Fit tasks needed → Lead tasks types

  -- from a point on, if it is reached, the tasks fit
  abbrev pub Leads : Point → Tasks → Type 0
  Leads point tasks = (types : Types) → point ≡ Some types → Lead tasks types

-- ---- frames

-- What a frame of the method ends with: a constructor with its object, a method that has a result with a value of the result's type.
pub record ResultTyped (program : Program) (method : Method) (heap : Heap) (result : Option Held) : Type 0 where
  pub made : method.constructor ≡ true → (value : Held) × (result ≡ Some value) × IsOfType program heap (class_type method.class) value
  pub given : method.constructor ≡ false → is_void method.result ≡ false → (value : Held) × (result ≡ Some value) × IsOfType program heap method.result value

module _ (program : Program) (locals : ℕ → List Type_) where
  -- the frame's slots are typed: it has as many as its method, and `this` is an object of its class
  pub record SlotsFit (frame : Frame) (types : Types) (heap : Heap) : Type 0 where
    pub there : frame.method < length program.methods
    pub size : length frame.slots ≡ (method_at program frame.method).slots
    pub this : (method_at program frame.method).is_static ≡ false → IsOfType program heap (class_type (method_at program frame.method).class) (value_at frame.slots 0)
    pub typed : SlotsTyped program types frame.slots heap

  -- the frame that runs: from the types of its slots its tasks fit
  pub record FrameTyped (frame : Frame) (heap : Heap) : Type 0 where
    pub types : Types
    pub slots : SlotsFit frame types heap
    pub fits : Lead program (method_at program frame.method) (locals frame.method) frame.tasks types

  -- Where the target is a slot, it can take what the callee ends with, and the tasks fit behind that.
  abbrev pub Resumes : Frame → Types → Method → Option ℕ → Type 0
  Resumes frame types callee None = Lead program (method_at program frame.method) (locals frame.method) frame.tasks types
  Resumes frame types callee (Some target) = (target < length frame.slots) × ((method_at program frame.method).is_static ≡ false → (0 == target) ≡ false)
      × (ty : Type_) × ((heap : Heap) (result : Option Held) → ResultTyped program callee heap result → (value : Held) × (result ≡ Some value) × IsOfType program heap ty value)
      × Lead program (method_at program frame.method) (locals frame.method) frame.tasks (with_type target ty types)

  -- a frame that waits for a frame of the callee
  pub record WaitingTyped (waiting : Waiting) (callee : Method) (heap : Heap) : Type 0 where
    pub types : Types
    pub slots : SlotsFit waiting.frame types heap
    pub resumes : Resumes waiting.frame types callee waiting.target

  -- all frames that wait, of which the first waits for a frame of the callee
  abbrev pub WaitsTyped : List Waiting → ℕ → Heap → Type 0
  WaitsTyped [] callee heap = Unit {0}
  WaitsTyped (waiting ∷ below) callee heap = WaitingTyped waiting (method_at program callee) heap × WaitsTyped below waiting.frame.method heap

  pub record StateTyped (state : State) : Type 0 where
    pub heap : HeapTyped program state.heap
    pub now : FrameTyped state.now state.heap
    pub below : WaitsTyped state.below state.now.method state.heap

  -- what types say of the frame that runs
  pub record NowTyped (method : ℕ) (tasks : Tasks) (slots : List Held) (heap : Heap) : Type 0 where
    pub heap_typed : HeapTyped program heap
    pub frame_typed : FrameTyped (frame method tasks slots) heap
