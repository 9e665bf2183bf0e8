-- What statements mean (JLS 14).
use Rattle.std.specs.Prelude.{ℕ, zero, suc, ◌+◌, Bool, true, if◌then◌else◌, List, [], ◌∷◌, Option, Some, None}
use Rattle.ix_text.specs.declared.span.Span.{Span}
use Rattle.ix_core.specs.Heap.{Held, default_of}
use Rattle.ix_core.specs.Machine.{Thrown}
use Rattle.ix_tree.specs.declared.decl.LocalDecl.{LocalDecl}
use Rattle.ix_tree.specs.declared.expr.Expr.{Expr}
use Rattle.ix_tree.specs.declared.expr.Init.{Init}
use Rattle.ix_tree.specs.declared.stmt.Stmt.{Stmt, Stmt-F, fold-Stmt}
use Rattle.ix_tree.specs.declared.stmt.StmtKind.{StmtKind-F}
use Rattle.ix_meaning.specs.declared.note.Meaning.TheVariants.{Local}
use Rattle.ix_core.specs.Traces.{Printed}
use Rattle.ix_source.specs.Runs.{Gives, Action, ◌>>=◌, gives, stops, cuts, sees}
use Rattle.ix_source.specs.Context.{Context, declared_at}
use Rattle.ix_source.specs.Values.{evaluation, initial, assign, without_value}

-- How a statement completes: normally; or by `break`, `continue` or `return`, with the value if there is one (JLS 14.1).
pub data Completion : Type 0 where
  Normal : Completion
  Breaks : Completion
  Continues : Completion
  Returns : Option Held → Completion

pub record Execution : Type 0 where
  -- how many locals it declares
  pub declares : ℕ
  -- its run, where the next local has that number
  pub run : Context → ℕ → Action Completion

-- ---- one statement after the other (JLS 14.2)

abbrev pub behind : Completion → Action Completion → Action Completion
behind Normal next = next
behind completion next = gives completion

abbrev pub each : List Execution → Context → ℕ → Action Completion
each [] context number = gives Normal
each (first ∷ rest) context number = first.run context number >>= (λ end. behind end (each rest context (number + first.declares)))

abbrev pub all_declare : List Execution → ℕ
all_declare [] = 0
all_declare (first ∷ rest) = first.declares + all_declare rest

abbrev pub normally : Unit {0} → Action Completion
normally done = gives Normal

-- ---- declarations of locals (JLS 14.4): without an initialiser a local holds its type's default

abbrev pub initially : Option Init → Context → Span → Action Held
initially None context name = gives (default_of (declared_at context name))
initially (Some init) context name = (initial init).value context (declared_at context name)

abbrev pub declaration : LocalDecl → Context → ℕ → Action Unit
declaration decl context number = initially decl.init context decl.name.span >>= assign (Some (Local number))

abbrev pub declarations : List LocalDecl → Context → ℕ → Action Unit
declarations [] context number = gives tt
declarations (decl ∷ decls) context number = declaration decl context number >>= (λ done. declarations decls context (number + 1))

abbrev pub count : {A : Type 0} → List A → ℕ
count [] = 0
count (first ∷ rest) = 1 + count rest

-- ---- expressions whose values aren't used (JLS 14.8)

abbrev pub ran : Expr → Context → Action Unit
ran expr context = (evaluation expr).value context >>= without_value

abbrev pub all_ran : List Expr → Context → Action Unit
all_ran [] context = gives tt
all_ran (expr ∷ rest) context = ran expr context >>= (λ done. all_ran rest context)

-- ---- choices and loops

abbrev pub or_nothing : Option Execution → Execution
or_nothing None = record { declares = 0; run = λ context number. gives Normal }
or_nothing (Some statement) = statement

abbrev pub chosen : Bool → Action Completion → Action Completion → Action Completion
chosen answer first second = if answer then first else second

-- A body that ended by `break` ends the loop, one that ended normally or by `continue` doesn't, and `return` leaves it (JLS 14.12.1).
abbrev pub behind_turn : Completion → Action Completion → Action Completion
behind_turn Normal next = next
behind_turn Continues next = next
behind_turn Breaks next = gives Normal
behind_turn (Returns value) next = gives (Returns value)

-- a loop: its condition, its body, and what runs before the next turn
pub record Looping : Type 0 where
  pub condition : Action Bool
  pub body : Action Completion
  pub update : Action Unit

-- the condition, and a turn where it holds
abbrev pub head : Looping → Action Completion → Action Completion
head loop turn = loop.condition >>= (λ answer. chosen answer turn (gives Normal))

-- A turn: the body, the update, and what is behind it. Where no turn is left the run is cut.
abbrev pub turn : Looping → ℕ → Action Completion
turn loop zero = cuts
turn loop (suc left) = loop.body >>= (λ end. behind_turn end (loop.update >>= (λ done. head loop (turn loop left))))

-- `while` and `for`: the condition before each turn (JLS 14.12, 14.14.1)
abbrev pub tested_first : Looping → Context → Action Completion
tested_first loop context = head loop (turn loop context.turns)

-- `do`: the condition behind each turn (JLS 14.13)
abbrev pub tested_last : Looping → Context → Action Completion
tested_last loop context = turn loop context.turns

-- Where a `for` has no condition it holds.
abbrev pub condition_of : Option Expr → Context → Action Bool
condition_of None context = gives true
condition_of (Some expr) context = (evaluation expr).holds context

-- ---- all forms

abbrev pub declaring : ℕ → (Context → ℕ → Action Completion) → Execution
declaring declares run = record { declares = declares; run = run }

abbrev pub plain : (Context → Action Completion) → Execution
plain run = declaring 0 (λ context number. run context)

abbrev pub returned : Option Expr → Context → Action Completion
returned None context = gives (Returns None)
returned (Some expr) context = (evaluation expr).value context >>= (λ value. gives (Returns (Some value)))

abbrev pub printed : Held → Action Completion
printed value now = Gives Normal (sees (Printed value) now)

abbrev pub kind_step : StmtKind-F (Span → Execution) Execution → Span → Execution
kind_step (StmtKind-F.Block statements) span = declaring (all_declare statements) (each statements)
kind_step StmtKind-F.Empty span = plain (λ context. gives Normal)
kind_step (StmtKind-F.Local decls) span = declaring (count decls) (λ context number. declarations decls context number >>= normally)
kind_step (StmtKind-F.If condition first second) span = declaring (first.declares + (or_nothing second).declares)
    (λ context number. (evaluation condition).holds context
    >>= (λ answer. chosen answer (first.run context number) ((or_nothing second).run context (number + first.declares))))
kind_step (StmtKind-F.While condition body) span = declaring body.declares
    (λ context number. tested_first record { condition = (evaluation condition).holds context; body = body.run context number; update = gives tt } context)
kind_step (StmtKind-F.Do body condition) span = declaring body.declares
    (λ context number. tested_last record { condition = (evaluation condition).holds context; body = body.run context number; update = gives tt } context)
kind_step (StmtKind-F.For first condition update body) span = declaring (all_declare first + body.declares)
    (λ context number. each first context number >>= (λ end. behind end
    (tested_first record { condition = condition_of condition context; body = body.run context (number + all_declare first); update = all_ran update context } context)))
kind_step StmtKind-F.Break span = plain (λ context. gives Breaks)
kind_step StmtKind-F.Continue span = plain (λ context. gives Continues)
kind_step (StmtKind-F.Return value) span = plain (returned value)
kind_step (StmtKind-F.Throw name) span = plain (λ context. stops (Thrown name.text span.from))
kind_step (StmtKind-F.Print value) span = plain (λ context. (evaluation value).value context >>= printed)
kind_step (StmtKind-F.Run expr) span = plain (λ context. ran expr context >>= normally)

abbrev pub stmt_step : Stmt-F (Span → Execution) Execution → Execution
stmt_step statement = statement.kind statement.span

-- what a statement means
abbrev pub execution : Stmt → Execution
execution = fold-Stmt (Span → Execution) Execution kind_step stmt_step
