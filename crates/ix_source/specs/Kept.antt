-- The plain form of an expression keeps its meaning. This is the statement of the induction over expressions.
use Rattle.std.specs.Prelude.{◌≡◌, ◌≤◌, ℕ, Bool, true, if◌then◌else◌, List, [], ◌∷◌, ◌++◌, length, Some, Result, Ok, Err}
use Rattle.ix_core.specs.declared.code.Item.{Item}
use Rattle.ix_core.specs.declared.claim.Type_.{Type_}
use Rattle.ix_core.specs.Code.{Code, item_code, cond_code}
use Rattle.ix_core.specs.Heap.{Held, Boolean, value_at}
use Rattle.ix_core.specs.Machine.{is_true}
use Rattle.ix_core.specs.Tasks.{Tasks, Ask, code_then, followed_by}
use Rattle.ix_meaning.specs.declared.note.Meaning.{Meaning}
use Rattle.ix_plain.specs.declared.made.Made.{Made}
use Rattle.ix_plain.specs.declared.made.Spot.{Spot}
use Rattle.ix_plain.specs.declared.made.Spot.TheVariants as spot
use Rattle.ix_plain.specs.Scope.{is_among}
use Rattle.ix_plain.specs.Parts.{Asked}
use Rattle.ix_plain.specs.Values.{Lowering, Filling}
use Rattle.ix_source.specs.Runs.{Now, Action}
use Rattle.ix_source.specs.Context.{Context, Members, Calls}
use Rattle.ix_source.specs.Values.{Evaluation, Initial, Target, Variable, FieldOf, Cell}
use Rattle.ix_source.specs.Seen.{Frame, at, Decides}
use Rattle.ix_source.specs.Along.{Setting, Agrees, Keeps, Along}

-- what was made is so, where something was made
abbrev pub Makes : {A E : Type 0} → (A → Type 0) → Result A E → Type 0
Makes P (Ok made) = P made
Makes P (Err limit) = Unit {0}

-- the code of items in front of the rest of their block
abbrev pub code_before : List Item → Code → Code
code_before [] rest = rest
code_before (first ∷ more) rest = item_code first (code_before more rest)

-- what is so of a value and of slots
abbrev pub Fact : Type 0 → Type 1
Fact X = X → List Held → Type 0

abbrev pub nothing_known : Fact (Unit {0})
nothing_known x slots = Unit {0}

abbrev pub anything : {X : Type 0} → Fact X
anything x slots = Unit {0}

-- both, of a pair
abbrev pub And : {X A : Type 0} → Fact X → Fact A → Fact (X × A)
And first second (x, a) slots = first x slots × second a slots

-- the slot holds the value
abbrev pub IsIn : ℕ → Fact Held
IsIn slot value slots = value_at slots slot ≡ value

module _ (z : Setting) where
  -- It stays so while only slots from that number on and those of assigned variables change.
  abbrev pub Stays : {X : Type 0} → ℕ → Fact X → Type 0
  Stays {X = X} free fact = (x : X) (slots behind : List Held) → Keeps z free slots behind → fact x slots → fact x behind

  -- Items do what the action does, wherever they stand and whatever is known.
  abbrev pub Does : {X A : Type 0} → Fact X → List Item → ℕ → ℕ → (X → Action A) → Fact A → Type 0
  Does {X = X} {A = A} known items made free action holds = (x : X) (f : Frame) (rest : Code) (tasks : Tasks) (slots : List Held) (now : Now) → free ≤ length slots → Agrees z slots now.variables → known x slots
      → Decides z.tables (at f (code_then (code_before items rest) tasks) slots now.heap now.wrapped) → Along z f (at f (code_then (code_before items rest) tasks) slots now.heap now.wrapped) (λ (value : A). code_then rest tasks) holds made slots now (action x now)

  -- Items are appended that do what the action does; what they give stays.
  pub record Done {X A : Type 0} (known : Fact X) (made after : Made) (action : X → Action A) (holds : Fact A) : Type 0 where
    pub items : List Item
    pub appended : after.items ≡ made.items ++ items
    pub up : made.free ≤ after.free
    pub stays : Stays after.free holds
    pub does : Does known items made.free after.free action holds

  -- A condition leads to the one side where it holds, and to the other where it doesn't.
  pub record Asks {X : Type 0} (known : Fact X) (free : ℕ) (action : X → Action Bool) (asked : Asked) : Type 0 where
    pub up : free ≤ asked.free
    pub does : (x : X) (f : Frame) (first_tasks second_tasks tasks : Tasks) (slots : List Held) (now : Now) → asked.free ≤ length slots → Agrees z slots now.variables → known x slots
        → Decides z.tables (at f (Ask (cond_code asked.cond) first_tasks second_tasks tasks) slots now.heap now.wrapped) → Along z f (at f (Ask (cond_code asked.cond) first_tasks second_tasks tasks) slots now.heap now.wrapped) (λ answer. followed_by (if answer then first_tasks else second_tasks) tasks) (λ answer slots. Unit {0}) free slots now (action x now)

  -- what is so of an answer
  abbrev pub IsBoolean : Fact Held
  IsBoolean value slots = (answer : Bool) × (value ≡ Boolean answer)

  -- The same where the value itself is wanted, which is a boolean.
  pub record Answers {X : Type 0} (known : Fact X) (free : ℕ) (action : X → Action Held) (asked : Asked) : Type 0 where
    pub up : free ≤ asked.free
    pub does : (x : X) (f : Frame) (first_tasks second_tasks tasks : Tasks) (slots : List Held) (now : Now) → asked.free ≤ length slots → Agrees z slots now.variables → known x slots
        → Decides z.tables (at f (Ask (cond_code asked.cond) first_tasks second_tasks tasks) slots now.heap now.wrapped) → Along z f (at f (Ask (cond_code asked.cond) first_tasks second_tasks tasks) slots now.heap now.wrapped) (λ value. followed_by (if is_true value then first_tasks else second_tasks) tasks) IsBoolean free slots now (action x now)

  -- the parts of a target
  abbrev pub IsSpot : Spot → Fact Target
  IsSpot (spot.Variable slot) (Variable variable) slots = (m : Meaning) × (variable ≡ Some m) × (z.owner slot ≡ Some m) × (is_among slot z.scope.assigned ≡ true)
  IsSpot (spot.FieldOf object number) (FieldOf held field) slots = (number ≡ field) × IsIn object held slots
  IsSpot (spot.Cell array index ty place) (Cell a i from) slots = (place.from ≡ from) × IsIn array a slots × IsIn index i slots
  IsSpot _ _ slots = ⊥

  -- the context of the source: the names are those that the plain form was made with
  abbrev pub context : Members → Calls → ℕ → Context
  context members calls turns = record { names = z.scope.site.names; members = members; calls = calls; turns = turns }

  module _ (members : Members) (calls : Calls) (turns : ℕ) where
    -- An expression is kept, as each place wants it: its slot holds its value; as a condition it leads where the value says.
    pub record Kept (l : Lowering) (e : Evaluation) : Type 0 where
      pub value : (made : Made) → z.base ≤ made.free → Makes (λ v. Done nothing_known made v.made (λ x. e.value (context members calls turns)) (IsIn v.slot)) (l.value z.scope made)
      pub condition : (free : ℕ) → z.base ≤ free → Makes (Asks nothing_known free (λ x. e.holds (context members calls turns))) (l.condition z.scope free)
      pub answer : (free : ℕ) → z.base ≤ free → Makes (Answers nothing_known free (λ x. e.value (context members calls turns))) (l.condition z.scope free)

    -- where its value isn't used: a call may have none
    abbrev pub KeptRun : Lowering → Evaluation → Type 0
    KeptRun l e = (made : Made) → z.base ≤ made.free → Makes (λ v. Done nothing_known made v.made (λ x. e.value (context members calls turns)) anything) (l.value z.scope made)

    -- before a dot, where its value isn't used either
    abbrev pub KeptUnused : Lowering → Evaluation → Type 0
    KeptUnused l e = (made : Made) → z.base ≤ made.free → Makes (λ m. Done nothing_known made m (λ x. e.unused (context members calls turns)) nothing_known) (l.unused z.scope made)

    -- where it is assigned
    abbrev pub KeptTarget : Lowering → Evaluation → Type 0
    KeptTarget l e = (made : Made) → z.base ≤ made.free → Makes (λ t. Done nothing_known made t.made (λ x. e.target (context members calls turns)) (IsSpot t.spot)) (l.target z.scope made)

    -- the initialiser of a variable of any type
    abbrev pub KeptInit : Filling → Initial → Type 0
    KeptInit filling initial =
        (ty : Type_) (made : Made) → z.base ≤ made.free → Makes (λ v. Done nothing_known made v.made (λ x. initial.value (context members calls turns) ty) (IsIn v.slot)) (filling.value z.scope ty made)
