-- The walk over a method's body, as the code has it.
use Rattle.std.specs.Prelude.{◌≡◌, ◌⊎◌, ◌↔◌, ℕ, ◌≤◌, nat_lt, if◌then◌else◌, Bool, true, false, List, [], ◌∷◌, map, Option, None, Some}
use Rattle.ix_core.specs.declared.error.Error.{Error}
use Rattle.ix_core.specs.declared.fact.Profile.{Profile}
use Rattle.ix_core.specs.declared.op.Op.{Op}
use Rattle.ix_core.specs.declared.op.Test.{Test}
use Rattle.ix_core.specs.declared.program.Method.{Method}
use Rattle.ix_core.specs.declared.program.Program.{Program}
use Rattle.ix_core.specs.Code.{Code, End, Condition}
use Rattle.ix_core.specs.Posts.{last_done}
use Rattle.ix_core.specs.Tables.{body_of}
use Rattle.ix_facts.specs.MethodLandmarks.{AreLandmarksOf}
use Rattle.ix_facts.specs.Stores.{Stored, Unreachable}
use Rattle.ix_flow.specs.Flow.{Point, Rules}
use Rattle.ix_flow.specs.Walk.{Notes, IsIn, Joins, Adds, Judges, Walks, Splits, WalksBody}
use Rattle.ix_sign.specs.MethodRules.{method_rules}
use Rattle.ix_signatures.specs.Naming.{HasSmallNames, HaveSmallNames}
use Rattle.ix_sign.specs.RuleErrors.{OpText, TestEscapes, Somewhere, SomewhereAsked}
use Rattle.ix_store.specs.StoredFacts.{stored}
use Rattle.ix_errors.specs.declared.ranked.Ranked.{Ranked}
use Rattle.ix_errors.specs.Exactly.{IsListed}
use Rattle.ix_verify.specs.declared.walk.Found.{Found}
use Rattle.ix_verify.specs.declared.walk.Walk.{Walk}
use Rattle.ix_verify.specs.AtLabels.{Derives, label_of}

-- the second list has what the first has, and the errors that are derived
abbrev pub AddsTo : (Error → ℕ → Type 0) → List Ranked → List Ranked → Type 0
AddsTo Derived old new = (found : Ranked) → IsListed found new ↔ (IsListed found old ⊎ Derived found.error found.rank)

-- What the code keeps: names are small, landmarks are the method's, the store of a loop without a label is unreachable.
pub record IsWalk (walk : Walk) : Type 0 where
  pub program : HaveSmallNames walk.program.now
  pub method : HasSmallNames walk.within.now
  pub marks : AreLandmarksOf walk.program.now walk.within.now walk.marks.now.ints
  pub nowhere : stored walk.nowhere.now ≡ Unreachable

-- the labels of the loops
abbrev pub labels_in : Walk → List Stored
labels_in walk = map stored walk.labels.now

abbrev pub notes : Found → Notes Stored (List Ranked)
notes found = record { breaks = stored found.breaks; continues = stored found.continues; failed = found.failed.items; errors = found.errors.items }

-- a loop whose label doesn't hold
abbrev pub one_unless : Bool → ℕ → List ℕ
one_unless true number = []
one_unless false number = number ∷ []

module _ (walk : Walk) where
  abbrev pub rules : Rules
  rules = method_rules walk.program.now walk.within.now walk.profile

  abbrev pub DerivesHere : Point → Stored → Ranked → Type 0
  DerivesHere = Derives walk.program.now walk.within.now walk.number

  abbrev pub WalksCode : Option Op → Code → Stored → Notes Stored (List Ranked) → Stored → Notes Stored (List Ranked) → Type 0
  WalksCode = Walks rules DerivesHere IsListed (label_of (labels_in walk))

  abbrev pub SplitsOn : Option Op → Condition → Stored → Notes Stored (List Ranked) → Stored → Stored → Notes Stored (List Ranked) → Type 0
  SplitsOn = Splits rules DerivesHere IsListed (label_of (labels_in walk))

  abbrev pub JudgesLoop : (number scope : ℕ) → (entry back : Stored) → (old new : List ℕ) → Type 0
  JudgesLoop = Judges rules DerivesHere IsListed (label_of (labels_in walk))

  abbrev pub AddsAt : Point → Stored → List Ranked → List Ranked → Type 0
  AddsAt = Adds rules DerivesHere IsListed (label_of (labels_in walk))

  -- an item of a block, whatever comes behind it
  abbrev pub WalksItem : Option Op → (Code → Code) → Stored → Notes Stored (List Ranked) → Stored → Notes Stored (List Ranked) → Type 0
  WalksItem last item before old behind new =
      (rest : Code) (end : Stored) (m : Notes Stored (List Ranked)) → WalksCode (last_done None (item End)) rest behind new end m → WalksCode last (item rest) before old end m

  -- the condition of a loop, which goes on behind the loop where it fails
  pub record AsksOn (asked : Condition) (before : Stored) (old : Notes Stored (List Ranked)) (holds : Stored) (new : Notes Stored (List Ranked)) : Type 0 where
    pub fails : Stored
    pub breaks : Stored
    pub splits : SplitsOn None asked before old holds fails (record new { breaks = breaks })
    pub leaves : Joins rules breaks fails new.breaks

  -- the body of a loop, and the part before the next turn
  pub record TurnsOnce (body next : Code) (before : Stored) (old : Notes Stored (List Ranked)) (back : Stored) (new : Notes Stored (List Ranked)) : Type 0 where
    pub done : Stored
    pub found : Notes Stored (List Ranked)
    pub again : Stored
    pub walks : WalksCode None body before (record old { continues = Unreachable }) done found
    pub comes : Joins rules found.continues done again
    pub goes : WalksCode None next again (record found { continues = old.continues }) back new

-- ---- the text

module _ (program : Program) (method : Method) where
  abbrev pub SomewhereIn : Code → Error → ℕ → Type 0
  SomewhereIn code error rank = Somewhere (λ done. OpText program method done error rank) (λ test. TestEscapes method test error rank) code

  abbrev pub SomewhereOf : Condition → Error → ℕ → Type 0
  SomewhereOf asked error rank = SomewhereAsked (λ done. OpText program method done error rank) (λ test. TestEscapes method test error rank) asked

  -- an item of a block, whatever comes behind it
  abbrev pub AddsItem : (Code → Code) → List Ranked → List Ranked → Type 0
  AddsItem item old new = (rest : Code) (found : Ranked)
      → (IsListed found new ⊎ SomewhereIn rest found.error found.rank) ↔ (IsListed found old ⊎ SomewhereIn (item rest) found.error found.rank)

-- ---- a whole method

-- the loops of a method whose labels fail, and the errors at its points, as a walk finds them
abbrev pub Finds : Program → Method → ℕ → Profile → List Stored → List ℕ → List Ranked → Type 0
Finds program method number profile labels = WalksBody (method_rules program method profile) (Derives program method number) IsListed (label_of labels) [] (body_of method)

abbrev pub IsLeastIn : List ℕ → Option ℕ → Type 0
IsLeastIn numbers None = (n : ℕ) → IsIn n numbers → ⊥
IsLeastIn numbers (Some least) = IsIn least numbers × ((n : ℕ) → IsIn n numbers → least ≤ n)

-- the lesser of a number and another, if there is another
abbrev pub lesser : Option ℕ → ℕ → Option ℕ
lesser None n = Some n
lesser (Some other) n = if nat_lt other n then Some other else Some n
