-- From which stores the tasks of a frame have no error, for any rules of flow: the code of each task flows to the store of the next.
use Rattle.std.specs.Prelude.{ℕ, true, false, Option, None}
use Rattle.ix_core.specs.declared.op.Op.{Op}
use Rattle.ix_core.specs.declared.op.Test.{Test}
use Rattle.ix_core.specs.Code.{Code, End, Do, If, Break, Continue, Return, Throw, Loop, Condition, Known, Compare, Truth, Both, Either, Opposite}
use Rattle.ix_core.specs.Tasks.{Tasks, Empty, Run, Ask, Decide, DecideTruth, Head, Again, Out, followed_by, behind_loop, next_turn}
use Rattle.ix_core.specs.Posts.{last_done}
use Rattle.ix_flow.specs.Flow.{Point, Ending, Rules, Flows, Asks}

-- each operation of the code, in conditions too
abbrev mutual
  pub Each : (Op → Type 0) → Code → Type 0
  Each Okay End = Unit {0}
  Each Okay (Do done rest) = Okay done × Each Okay rest
  Each Okay (If asked first second rest) = EachAsked Okay asked × Each Okay first × Each Okay second × Each Okay rest
  Each Okay (Break rest) = Each Okay rest
  Each Okay (Continue rest) = Each Okay rest
  Each Okay (Return value span rest) = Each Okay rest
  Each Okay (Throw name span rest) = Each Okay rest
  Each Okay (Loop test_first asked body next number scope rest) = EachAsked Okay asked × Each Okay body × Each Okay next × Each Okay rest

  pub EachAsked : (Op → Type 0) → Condition → Type 0
  EachAsked Okay (Known answer) = Unit {0}
  EachAsked Okay (Compare code test) = Each Okay code
  EachAsked Okay (Truth code slot) = Each Okay code
  EachAsked Okay (Both first second) = EachAsked Okay first × EachAsked Okay second
  EachAsked Okay (Either first second) = EachAsked Okay first × EachAsked Okay second
  EachAsked Okay (Opposite asked) = EachAsked Okay asked

-- `Fine` is what is asked of a store at a point, `Okay` what is asked of an operation's text, and `labels` has the stores at the heads of loops.
module _ (R : Rules) (Fine : Point → R.Store → Type 0) (labels : ℕ → R.Store) (Okay : Op → Type 0) where
  -- The second store is met where the first is: it says less, or it is the rounded one of such a store.
  pub data Passes : R.Store → R.Store → Type 0 where
    Same : (s : R.Store) → Passes s s
    Weaker : (s t : R.Store) → R.Below s t → Passes s t
    Rounding : (scope : ℕ) (s joined t : R.Store) → R.Below s joined → R.Rounded scope joined t → Passes s t

  -- A loop: from the store where its condition is asked and that where its body starts, back to the condition (JLS 14.12 to 14.14).
  pub record Turns (asked : Condition) (body next : Code) (head start again out continues : R.Store) : Type 0 where
    pub holds : R.Store
    pub asks : Asks R Fine labels None asked head holds out out continues
    pub enters : Passes holds start
    pub turn : Flows R Fine labels None body start again out again
    pub back : R.Store
    pub part : Flows R Fine labels None next again back out continues
    pub returns : Passes back head
    pub okay_asked : EachAsked Okay asked
    pub okay_body : Each Okay body
    pub okay_next : Each Okay next

  -- From the store on the tasks have no error, behind the operation that was done last, where one stands directly before them. What has no error where
  -- none is known has none behind any.
  pub data Flowing : Option Op → Tasks → R.Store → Type 0 where
    Finishing : (last : Option Op) (s : R.Store) → Fine Ending s → Flowing last Empty s
    Running : (last : Option Op) (code : Code) (tasks : Tasks) (s end breaks continues : R.Store) → Flows R Fine labels last code s end breaks continues → Each Okay code
        → Flowing (last_done last code) tasks end → Flowing None (behind_loop tasks) breaks → Flowing None (next_turn tasks) continues → Flowing last (Run code tasks) s
    Asking : (last : Option Op) (asked : Condition) (first second tasks : Tasks) (s holds fails breaks continues : R.Store) → Asks R Fine labels last asked s holds fails breaks continues → EachAsked Okay asked
        → Flowing None (followed_by first tasks) holds → Flowing None (followed_by second tasks) fails → Flowing None (behind_loop tasks) breaks → Flowing None (next_turn tasks) continues
        → Flowing last (Ask asked first second tasks) s
    Comparing : (last : Option Op) (test : Test) (first second tasks : Tasks) (s holds fails : R.Store) → R.Tested true test s holds → R.Tested false test s fails
        → Flowing None (followed_by first tasks) holds → Flowing None (followed_by second tasks) fails → Flowing last (Decide test first second tasks) s
    Telling : (last : Option Op) (slot : ℕ) (first second tasks : Tasks) (s holds fails : R.Store) → R.Told true last slot s holds → R.Told false last slot s fails
        → Flowing None (followed_by first tasks) holds → Flowing None (followed_by second tasks) fails → Flowing last (DecideTruth slot first second tasks) s
    Turning : (last : Option Op) (asked : Condition) (body next : Code) (tasks : Tasks) (head start again out continues : R.Store) → Turns asked body next head start again out continues
        → Flowing None tasks out → Flowing None (behind_loop tasks) out → Flowing None (next_turn tasks) continues → Flowing last (Head asked body next tasks) head
    Returning : (last : Option Op) (asked : Condition) (body next : Code) (tasks : Tasks) (head start again out continues : R.Store) → Turns asked body next head start again out continues
        → Flowing None tasks out → Flowing None (behind_loop tasks) out → Flowing None (next_turn tasks) continues → Flowing last (Again asked body next tasks) again
    Leaving : (last : Option Op) (tasks : Tasks) (s : R.Store) → Flowing None tasks s → Flowing last (Out tasks) s
    Passing : (last : Option Op) (tasks : Tasks) (s t : R.Store) → Passes s t → Flowing last tasks t → Flowing last tasks s
    Forgetting : (last : Option Op) (tasks : Tasks) (s : R.Store) → Flowing None tasks s → Flowing last tasks s
