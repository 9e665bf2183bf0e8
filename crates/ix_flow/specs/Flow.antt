-- What may flow through a method. A store says what is known at a place; one that is above another says less. Each rule says of a store only what
-- it must be above, so that a join is any store above both, and whatever is above a store that flows flows too. It is a relation between a body and
-- stores, by the form of the body, in the manner of an acceptable analysis (Nielson, Nielson and Hankin, Principles of Program Analysis, 3.1); the
-- least labels are the least solution of a monotone framework (2.3, A.4). Sections of statements and conditions are those of JLS 8.
use Rattle.std.specs.Prelude.{ℕ, ◌<◌, Bool, true, false, Option, None, Some}
use Rattle.ix_text.specs.declared.span.Span.{Span}
use Rattle.ix_core.specs.declared.op.Op.{Op}
use Rattle.ix_core.specs.declared.op.Test.{Test}
use Rattle.ix_core.specs.Code.{Code, End, Do, If, Break, Continue, Return, Throw, Loop, Condition, Known, Compare, Truth, Both, Either, Opposite}
use Rattle.ix_core.specs.Posts.{last_done, written_answer}

-- Where a rule may derive an error: before an operation, at a `return`, and at the end of the body.
pub data Point : Type 0 where
  Doing : Op → Point
  -- the slot of the value, the answer that is written out there, the place
  Returning : Option ℕ → Option Bool → Span → Point
  Ending : Point

-- The stores of a method in a profile, their order, and what the rules say of one store and another.
pub record Rules : Type 1 where
  pub Store : Type 0
  -- the first says all that the second says
  pub Below : Store → Store → Type 0
  -- says everything: no state is there
  pub nowhere : Store
  -- above the store at the body's start
  pub Entry : Store → Type 0
  -- the second is above what the operation gives of the first
  pub After : Op → Store → Store → Type 0
  -- the second is above what the test gives of the first, where it has this answer
  pub Tested : Bool → Test → Store → Store → Type 0
  -- the same of a boolean slot, by the operation that the test's own code did last, where one stands directly before the test
  pub Told : Bool → Option Op → ℕ → Store → Store → Type 0
  -- the second is above the first moved to the landmarks, at a loop of this scope
  pub Rounded : ℕ → Store → Store → Type 0

-- Stronger stores give stronger ones: each rule is monotone.
pub record RulesLaws (R : Rules) : Type 0 where
  pub reflexive : (s : R.Store) → R.Below s s
  pub transitive : (s t u : R.Store) → R.Below s t → R.Below t u → R.Below s u
  pub nowhere_below : (s : R.Store) → R.Below R.nowhere s
  pub after : (op : Op) (s t u w : R.Store) → R.Below s t → R.After op t u → R.Below u w → R.After op s w
  pub tested : (answer : Bool) (test : Test) (s t u w : R.Store) → R.Below s t → R.Tested answer test t u → R.Below u w → R.Tested answer test s w
  pub told : (answer : Bool) (last : Option Op) (slot : ℕ) (s t u w : R.Store) → R.Below s t → R.Told answer last slot t u → R.Below u w → R.Told answer last slot s w
  pub rounded : (scope : ℕ) (s t u w : R.Store) → R.Below s t → R.Rounded scope t u → R.Below u w → R.Rounded scope s w

-- `Fine` says what is asked of a store at a point. `labels` has the store at the head of each loop, by the loop's number.
module _ (R : Rules) (Fine : Point → R.Store → Type 0) (labels : ℕ → R.Store) where
  -- The label of a loop is above the rounded join of what comes in and what comes back.
  abbrev pub IsHead : ℕ → R.Store → R.Store → R.Store → Type 0
  IsHead scope entry back label = (joined : R.Store) × R.Below entry joined × R.Below back joined × R.Rounded scope joined label

  abbrev mutual
    -- From the store before the code: stores that are above those at its end, at each of its `break`s and at each of its `continue`s. Behind a
    -- `break`, `continue`, `return` or `throw` nothing is reached (14.21). `last` is the operation that stands directly before the code, where one does.
    pub Flows : (last : Option Op) → Code → (before end breaks continues : R.Store) → Type 0
    Flows last End before end breaks continues = R.Below before end
    -- one item and then the next (14.2)
    Flows last (Do op rest) before end breaks continues =
        Fine (Doing op) before
        × (after : R.Store) × R.After op before after × Flows (Some op) rest after end breaks continues
    -- both branches come to the same end (14.9)
    Flows last (If asked first second rest) before end breaks continues =
        (holds : R.Store) × (fails : R.Store) × (joined : R.Store)
        × Asks last asked before holds fails breaks continues
        × Flows None first holds joined breaks continues
        × Flows None second fails joined breaks continues
        × Flows None rest joined end breaks continues
    -- what is here leaves the loop (14.15), or comes to its next turn (14.16)
    Flows last (Break rest) before end breaks continues = R.Below before breaks × Flows None rest R.nowhere end breaks continues
    Flows last (Continue rest) before end breaks continues = R.Below before continues × Flows None rest R.nowhere end breaks continues
    -- what is here leaves the method (14.17, 14.18)
    Flows last (Return value span rest) before end breaks continues = Fine (Returning value (written_answer last value) span) before × Flows None rest R.nowhere end breaks continues
    Flows last (Throw name span rest) before end breaks continues = Flows None rest R.nowhere end breaks continues
    -- `while` and `for`: the head is before the condition; the end of the body and each `continue` come to the next part (14.12, 14.14)
    Flows last (Loop true asked body next number scope rest) before end breaks continues =
        (turn : R.Store) × (again : R.Store) × (back : R.Store) × (out : R.Store)
        × IsHead scope before back (labels number)
        × Asks None asked (labels number) turn out out continues
        × Flows None body turn again out again
        × Flows None next again back out continues
        × Flows None rest out end breaks continues
    -- `do`: the head is before the body; the end of the body and each `continue` come to the condition (14.13)
    Flows last (Loop false asked body next number scope rest) before end breaks continues =
        (again : R.Store) × (tested : R.Store) × (back : R.Store) × (out : R.Store)
        × IsHead scope before back (labels number)
        × Flows None body (labels number) again out again
        × Flows None next again tested out continues
        × Asks None asked tested back out out continues
        × Flows None rest out end breaks continues

    -- From the store before the condition: stores that are above those where it holds and where it doesn't, and those at jumps of its code. Its code runs
    -- directly behind `last`.
    pub Asks : (last : Option Op) → Condition → (before holds fails breaks continues : R.Store) → Type 0
    -- a known condition takes its one branch
    Asks last (Known true) before holds fails breaks continues = R.Below before holds
    Asks last (Known false) before holds fails breaks continues = R.Below before fails
    -- a comparison (15.20, 15.21), or another boolean value
    Asks last (Compare code test) before holds fails breaks continues =
        (after : R.Store)
        × Flows last code before after breaks continues
        × R.Tested true test after holds
        × R.Tested false test after fails
    Asks last (Truth code slot) before holds fails breaks continues =
        (after : R.Store)
        × Flows last code before after breaks continues
        × R.Told true (last_done None code) slot after holds
        × R.Told false (last_done None code) slot after fails
    -- `&&`: the second is asked where the first holds (15.23)
    Asks last (Both first second) before holds fails breaks continues =
        (between : R.Store)
        × Asks last first before between fails breaks continues
        × Asks None second between holds fails breaks continues
    -- `||`: the second is asked where the first fails (15.24)
    Asks last (Either first second) before holds fails breaks continues =
        (between : R.Store)
        × Asks last first before holds between breaks continues
        × Asks None second between holds fails breaks continues
    -- `!` (15.15.6)
    Asks last (Opposite asked) before holds fails breaks continues = Asks last asked before fails holds breaks continues

  -- The labels are a solution: with them the whole body flows from a store above the one at its start. A `break` or a `continue` outside all loops,
  -- which no formed program has, would end the method.
  abbrev pub IsFlow : Code → Type 0
  IsFlow body = (entry : R.Store) × (end : R.Store) × R.Entry entry × Flows None body entry end end end × Fine Ending end

-- nothing is asked of a store at a point
abbrev pub Anything : (R : Rules) → Point → R.Store → Type 0
Anything R point store = Unit {0}

-- The labels are a solution, and below every solution at each loop of a body whose loops have the numbers below `loops`.
abbrev pub IsLeastFlow : (R : Rules) → Code → ℕ → (ℕ → R.Store) → Type 0
IsLeastFlow R body loops labels =
    IsFlow R (Anything R) labels body
    × ((other : ℕ → R.Store) → IsFlow R (Anything R) other body → (number : ℕ) → number < loops → R.Below (labels number) (other number))

-- `Derives` says which errors a store gives at a point; here it doesn't give this one.
abbrev pub Avoids : (R : Rules) {E : Type 0} → (Point → R.Store → E → Type 0) → E → Point → R.Store → Type 0
Avoids R Derives error point store = Derives point store error → ⊥

-- The rules derive an error of a body: no flow of it avoids the error, whatever the labels. Where a weaker store gives more errors, these are the
-- errors at the least labels, since what some flow avoids is avoided there.
abbrev pub IsDerived : (R : Rules) {E : Type 0} → (Point → R.Store → E → Type 0) → Code → E → Type 0
IsDerived R Derives body error = (labels : ℕ → R.Store) → IsFlow R (Avoids R Derives error) labels body → ⊥
