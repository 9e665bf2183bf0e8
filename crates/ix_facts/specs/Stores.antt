-- Stores: what is known at a place of a program, and what each rule makes of it. A store is unreachable, or it is facts; of the facts that a rule
-- gives it is the closed store. Every rule is one sentence: the store behind is the closed store of what the rule gives of the facts before.
use Rattle.std.specs.Prelude.{◌≡◌, ◌⊎◌, ℕ, Bool, true, false, cond, ℤ, List, [], ◌∷◌, ◌++◌}
use Rattle.ix_core.specs.declared.claim.Type_.{Type_}
use Rattle.ix_core.specs.declared.fact.Path.{Path}
use Rattle.ix_core.specs.declared.fact.Path.TheVariants.{Slot}
use Rattle.ix_core.specs.declared.fact.PathClaim.{PathClaim}
use Rattle.ix_core.specs.declared.fact.Fact.{Fact}
use Rattle.ix_core.specs.declared.fact.Profile.{Profile}
use Rattle.ix_core.specs.declared.op.OpKind.{OpKind}
use Rattle.ix_core.specs.declared.op.Test.{Test}
use Rattle.ix_core.specs.Code.{Code, Condition}
use Rattle.ix_core.specs.Code as code
use Rattle.ix_core.specs.Numbers.{Numbers}
use Rattle.ix_facts.specs.Facts.{AllHold, in_orders}
use Rattle.ix_facts.specs.Closure.{SaysAll, Closed, Contradicts, Follows, Said, IsClosedOf, IsCommon, kept}
use Rattle.ix_facts.specs.Forget.{of_path, without}
use Rattle.ix_facts.specs.After.{after_facts, copy_facts}
use Rattle.ix_facts.specs.AfterTest.{Outcome, outcome_facts, when_true, when_false}
use Rattle.ix_facts.specs.Assume.{claim_facts, proves}
use Rattle.ix_facts.specs.Round.{rounded}

-- No state is at the place, or facts are known there.
pub data Stored : Type 0 where
  Unreachable : Stored
  Reached : List Fact → Stored

-- The numbers are those of a state that may be at the place.
abbrev pub Meets : Stored → Numbers → Type 0
Meets Unreachable v = ⊥
Meets (Reached facts) v = AllHold facts v

-- The first store says all that the second says; the unreachable one says everything.
abbrev pub IsBelow : Stored → Stored → Type 0
IsBelow Unreachable other = Unit {0}
IsBelow (Reached facts) Unreachable = ⊥
IsBelow (Reached facts) (Reached others) = SaysAll facts others

-- the two stores say the same
abbrev pub SayTheSame : Stored → Stored → Type 0
SayTheSame store other = IsBelow store other × IsBelow other store

-- All that follows from the facts is said, and a state may meet them.
abbrev pub IsClosedStore : Stored → Type 0
IsClosedStore Unreachable = Unit {0}
IsClosedStore (Reached facts) = Closed facts × ¬ Contradicts facts

-- The closed store of some facts: unreachable where an empty range follows from them, else the closed list.
pub data IsStoreOf (facts : List Fact) : Stored → Type 0 where
  unreachable : Contradicts facts → IsStoreOf facts Unreachable
  reached : (closed : List Fact) → ¬ Contradicts facts → IsClosedOf facts closed → IsStoreOf facts (Reached closed)

-- A store that is above that: what it says follows from the facts, or an empty range follows from them.
abbrev pub IsAbove : List Fact → Stored → Type 0
IsAbove facts Unreachable = Contradicts facts
IsAbove facts (Reached others) = Contradicts facts ⊎ ((f : Fact) → Said others f → Follows facts f)

-- The join of two stores: what both say; of an unreachable one and another the other.
pub data IsJoined : Stored → Stored → Stored → Type 0 where
  left : (store joined : Stored) → SayTheSame joined store → IsJoined store Unreachable joined
  right : (store joined : Stored) → SayTheSame joined store → IsJoined Unreachable store joined
  both : (first second common : List Fact) → IsCommon first second common → IsJoined (Reached first) (Reached second) (Reached common)

-- ---- rules

-- The store behind a rule: unreachable behind an unreachable one, else the closed store of what the rule gives.
abbrev pub IsGiven : (List Fact → List Fact) → Stored → Stored → Type 0
IsGiven rule Unreachable after = after ≡ Unreachable
IsGiven rule (Reached facts) after = IsStoreOf (rule facts) after

-- A store that is above what a rule gives. So a rule that is made of others is one step after another, and nothing is closed in between.
abbrev pub Gives : (List Fact → List Fact) → Stored → Stored → Type 0
Gives rule Unreachable after = Unit {0}
Gives rule (Reached facts) after = IsAbove (rule facts) after

-- one step, and then another
abbrev pub Then : (Stored → Stored → Type 0) → (Stored → Stored → Type 0) → Stored → Stored → Type 0
Then First Second before after = (between : Stored) × First before between × Second between after

-- What is above what a weaker store gives is above what a stronger one gives.
abbrev pub IsStep : (Stored → Stored → Type 0) → Type 0
IsStep Step = (strong weak after above : Stored) → IsBelow strong weak → Step weak after → IsBelow after above → Step strong above

-- Of facts that say more, a rule gives facts that say more, or facts that no state meets.
abbrev pub IsMonotone : (List Fact → List Fact) → Type 0
IsMonotone rule = (strong weak : List Fact) → SaysAll strong weak → Contradicts (rule strong) ⊎ SaysAll (rule strong) (rule weak)

-- after an operation that is no call and touches no field
abbrev pub operated : Profile → OpKind → List Fact → List Fact
operated profile kind facts = after_facts facts profile kind

abbrev pub IsAfter : Profile → OpKind → Stored → Stored → Type 0
IsAfter profile kind = IsGiven (operated profile kind)

-- after the value of one path was given to another
abbrev pub with_copy : Type_ → Path → Path → List Fact → List Fact
with_copy ty target source facts = copy_facts (without (of_path target) facts) ty target source

abbrev pub IsCopied : Type_ → Path → Path → Stored → Stored → Type 0
IsCopied ty target source = IsGiven (with_copy ty target source)

-- without the facts that name some paths
abbrev pub IsForgotten : (Path → Bool) → Stored → Stored → Type 0
IsForgotten is = IsGiven (without is)

-- with the constants moved to landmarks, and without the facts that name a slot beyond a loop's scope
abbrev pub IsRounded : List ℤ → ℕ → Stored → Stored → Type 0
IsRounded marks scope = IsGiven (rounded marks scope)

-- with some facts, as a claim that is assumed adds them
abbrev pub with_facts : List Fact → List Fact → List Fact
with_facts more facts = facts ++ kept more

abbrev pub IsAdded : List Fact → Stored → Stored → Type 0
IsAdded more = IsGiven (with_facts more)

abbrev pub IsAssumed : PathClaim → Path → Stored → Stored → Type 0
IsAssumed claim p = IsAdded (claim_facts claim p)

-- The store proves the claim of the path; the unreachable one proves every claim.
abbrev pub IsProved : PathClaim → Path → Stored → Type 0
IsProved claim p Unreachable = Unit {0}
IsProved claim p (Reached facts) = proves (in_orders facts) claim p ≡ true

-- ---- tests

-- with what an outcome gives
abbrev pub with_outcome : Outcome → List Fact → List Fact
with_outcome outcome facts = facts ++ kept (outcome_facts (in_orders facts) outcome)

abbrev pub IsTold : Outcome → Stored → Stored → Type 0
IsTold outcome = IsGiven (with_outcome outcome)

-- with what some outcomes give, one after the other
pub data AreTold : List Outcome → Stored → Stored → Type 0 where
  none : (store : Stored) → AreTold [] store store
  next : (outcome : Outcome) (outcomes : List Outcome) (store between after : Stored) → IsTold outcome store between → AreTold outcomes between after → AreTold (outcome ∷ outcomes) store after

-- above what they give
abbrev pub OutcomesGive : List Outcome → Stored → Stored → Type 0
OutcomesGive [] = IsBelow
OutcomesGive (outcome ∷ outcomes) = Then (Gives (with_outcome outcome)) (OutcomesGive outcomes)

-- what a test tells by its answer
abbrev pub outcomes_of : Bool → Test → List Outcome
outcomes_of answer test = cond answer (when_true test.ty test.rel (Slot test.left) (Slot test.right)) (when_false test.ty test.rel (Slot test.left) (Slot test.right))

abbrev pub IsTested : Bool → Test → Stored → Stored → Type 0
IsTested answer test = AreTold (outcomes_of answer test)

-- ---- conditions

-- The two stores behind a condition: that where it is true, and that where it is false. Blocks may hold calls, whose rules are others': `Runs` says
-- which store is behind a block.
module _ (Runs : Code → Stored → Stored → Type 0) where
  pub data Splits : Condition → Stored → Stored → Stored → Type 0 where
    -- a constant: one of the two is unreachable
    yes : (store : Stored) → Splits (code.Known true) store store Unreachable
    no : (store : Stored) → Splits (code.Known false) store Unreachable store
    -- a comparison behind its block
    compared : (block : Code) (test : Test) (store between holds fails : Stored) → Runs block store between → IsTested true test between holds → IsTested false test between fails → Splits (code.Compare block test) store holds fails
    -- a boolean slot, of which no fact speaks
    truth : (block : Code) (slot : ℕ) (store between : Stored) → Runs block store between → Splits (code.Truth block slot) store between between
    -- `&&`: the second is asked where the first is true, and it is false where either is
    and : (first second : Condition) (store between holds fails later joined : Stored) → Splits first store between fails → Splits second between holds later → IsJoined fails later joined → Splits (code.Both first second) store holds joined
    -- `||`: the second is asked where the first is false, and it is true where either is
    or : (first second : Condition) (store between holds fails later joined : Stored) → Splits first store holds between → Splits second between later fails → IsJoined holds later joined → Splits (code.Either first second) store joined fails
    -- `!`
    opposite : (asked : Condition) (store holds fails : Stored) → Splits asked store holds fails → Splits (code.Opposite asked) store fails holds

-- ---- the place where a method begins

-- the store at entry: the facts of the parameters' claims, and no others
abbrev pub IsEntry : List Fact → Stored → Type 0
IsEntry facts = IsStoreOf (kept facts)
