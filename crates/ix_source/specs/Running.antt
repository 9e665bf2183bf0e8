-- The plain form of a statement keeps its meaning. This is the statement of the induction over statements.
use Rattle.std.specs.Prelude.{◌≡◌, ◌≤◌, ◌<◌, ℕ, ◌+◌, ◌==◌, Bool, if◌then◌else◌, List, [], ◌∷◌, ◌++◌, length, nat_lt, Option, Some, None}
use Rattle.ix_text.specs.declared.span.Span.{Span}
use Rattle.ix_core.specs.declared.code.Item.{Item}
use Rattle.ix_core.specs.declared.program.Local.{Local}
use Rattle.ix_core.specs.Code.{Code}
use Rattle.ix_core.specs.Code as code
use Rattle.ix_core.specs.Heap.{Held, value_at}
use Rattle.ix_core.specs.Machine.{Ending, State}
use Rattle.ix_core.specs.Tables.{Tables}
use Rattle.ix_core.specs.Tasks.{Tasks, Run, code_then, behind_loop, next_turn}
use Rattle.ix_meaning.specs.declared.note.Meaning.{Meaning}
use Rattle.ix_meaning.specs.declared.note.Meaning.TheVariants as meaning
use Rattle.ix_plain.specs.declared.body.Body.{Body}
use Rattle.ix_plain.specs.Scope.{Site}
use Rattle.ix_plain.specs.Statements.{scope_of}
use Rattle.ix_core.specs.Traces.{Observation}
use Rattle.ix_source.specs.Runs.{Now, Result, Gives, Stops, Cuts, Action}
use Rattle.ix_source.specs.Statements.{Completion, Normal, Breaks, Continues, Returns}
use Rattle.ix_source.specs.Seen.{Leads, Frame, at, Decides}
use Rattle.ix_source.specs.Along.{Setting, Agrees}
use Rattle.ix_source.specs.Kept.{code_before}

-- ---- which variable a slot holds: of the parameters and locals the last one that has it

abbrev pub param_owner : ℕ → List Local → ℕ → Option Meaning → Option Meaning
param_owner number [] slot found = found
param_owner number (param ∷ params) slot found = param_owner (number + 1) params slot (if param.slot == slot then Some (meaning.Param number) else found)

abbrev pub local_owner : ℕ → List (Local × Span) → ℕ → Option Meaning → Option Meaning
local_owner number [] slot found = found
local_owner number (local ∷ locals) slot found = local_owner (number + 1) locals slot (if local.0.slot == slot then Some (meaning.Local number) else found)

abbrev pub owner : Site → List (Local × Span) → ℕ → Option Meaning
owner site locals slot = local_owner 0 locals slot (param_owner 0 site.params slot None)

abbrev pub in_scope : Site → List (Local × Span) → ℕ → ℕ → Option Meaning
in_scope site locals free slot = if nat_lt slot free then owner site locals slot else None

-- What stays the same in a body: how the program runs, whether it has `this`, and how deep calls may still nest.
pub record Ground : Type 0 where
  pub tables : Tables
  pub site : Site
  pub has_this : Bool
  pub this : Held
  pub depth : ℕ

-- where a full expression stands that assigns these variables
abbrev pub standing : Ground → Body → List ℕ → Setting
standing g body assigned = record {
  tables = g.tables;
  scope = scope_of g.site body assigned;
  base = body.made.free;
  owner = in_scope g.site body.locals body.made.free;
  has_this = g.has_this;
  this = g.this;
  depth = g.depth;
}

module _ (g : Ground) where
  -- the slots hold what the variables in scope hold
  abbrev pub Stands : Body → List Held → Now → Type 0
  Stands body slots now = Agrees (standing g body []) slots now.variables

  -- ---- where the machine is behind a statement

  -- a `return` of what the slot holds
  abbrev pub IsReturned : Option ℕ → Option Held → List Held → Type 0
  IsReturned None None slots = Unit {0}
  IsReturned (Some slot) (Some value) slots = value_at slots slot ≡ value
  IsReturned _ _ slots = ⊥

  pub record AtReturn (value : Option Held) (slots : List Held) (to : Tasks) : Type 0 where
    pub slot : Option ℕ
    pub span : Span
    pub rest : Code
    pub tasks : Tasks
    pub there : to ≡ Run (code.Return slot span rest) tasks
    pub returned : IsReturned slot value slots

  abbrev pub Follows : Completion → Tasks → Tasks → List Held → Tasks → Type 0
  Follows Normal next tasks slots to = to ≡ next
  Follows Breaks next tasks slots to = to ≡ behind_loop tasks
  Follows Continues next tasks slots to = to ≡ next_turn tasks
  Follows (Returns value) next tasks slots to = AtReturn value slots to

  -- the variables in scope behind it, where it completes normally
  abbrev pub StandsIf : Completion → Body → List Held → Now → Type 0
  StandsIf Normal after slots now = Stands after slots now
  StandsIf _ after slots now = Unit {0}

  module _ (f : Frame) (start : State) (next tasks : Tasks) (least : ℕ) (before after : Body) (slots : List Held) (now : Now) where
    pub record Completes (completion : Completion) (later : Now) : Type 0 where
      pub behind : List Held
      pub shows : List Observation
      pub to : Tasks
      pub leads : Leads g.tables start shows (at f to behind later.heap later.wrapped)
      pub events : later.events ≡ now.events ++ shows
      pub size : length behind ≡ length slots
      pub stands : Stands before behind later
      pub stands_then : StandsIf completion after behind later
      pub follows : Follows completion next tasks behind to

    pub record Ends (ending : Ending) (later : Now) : Type 0 where
      pub final : State
      pub shows : List Observation
      pub leads : Leads g.tables start shows final
      pub ended : final.ended ≡ Some ending
      pub wrapped : final.wrapped ≡ later.wrapped
      pub events : later.events ≡ now.events ++ shows

    pub record GoesOn (later : Now) : Type 0 where
      pub state : State
      pub shows : List Observation
      pub leads : Leads g.tables start shows state
      pub far : least ≤ leads.steps
      pub ended : state.ended ≡ None
      pub wrapped : state.wrapped ≡ later.wrapped
      pub events : later.events ≡ now.events ++ shows

    -- The machine goes along with a statement.
    abbrev pub AlongWith : Result Completion → Type 0
    AlongWith (Gives completion later) = Completes completion later
    AlongWith (Stops ending later) = Ends ending later
    AlongWith (Cuts later) = GoesOn later

  -- Items do what the statement does, wherever they stand.
  abbrev pub DoesRun : List Item → Body → Body → Action Completion → Type 0
  DoesRun items before after action = (f : Frame) (rest : Code) (tasks : Tasks) (slots : List Held) (now : Now) → after.most ≤ length slots → Stands before slots now
      → Decides g.tables (at f (code_then (code_before items rest) tasks) slots now.heap now.wrapped) → AlongWith f (at f (code_then (code_before items rest) tasks) slots now.heap now.wrapped) (code_then rest tasks) tasks g.depth before after slots now (action now)

  -- Of the slots below the first that is free, each holds the variable that it held.
  abbrev pub SameOwners : Body → Body → Type 0
  SameOwners before after = (slot : ℕ) → slot < before.made.free → owner g.site after.locals slot ≡ owner g.site before.locals slot

  pub record Runs (before after : Body) (declares : ℕ) (action : Action Completion) : Type 0 where
    pub items : List Item
    pub appended : after.made.items ≡ before.made.items ++ items
    pub up : before.made.free ≤ after.made.free
    pub most : before.most ≤ after.most
    pub free : after.made.free ≤ after.most
    pub counted : length after.locals ≡ length before.locals + declares
    pub owners : SameOwners before after
    pub does : DoesRun items before after action
