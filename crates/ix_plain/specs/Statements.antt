-- What statements become (JLS 14).
use Rattle.std.specs.Prelude.{ℕ, ◌+◌, Bool, true, false, if◌then◌else◌, max, List, [], ◌∷◌, ◌++◌, nat_lt, Option, Some, None, Ok, Err}
use Rattle.ix_text.specs.declared.span.Span.{Span}
use Rattle.ix_core.specs.declared.claim.Type_.{Type_}
use Rattle.ix_core.specs.declared.code.Block.{Block}
use Rattle.ix_core.specs.declared.code.Cond.{Cond}
use Rattle.ix_core.specs.declared.code.Cond as cond
use Rattle.ix_core.specs.declared.code.Item.{Item, If, Break, Continue, Return, Throw, Loop}
use Rattle.ix_core.specs.declared.op.Literal.TheVariants as literal
use Rattle.ix_core.specs.declared.op.OpKind.TheVariants as op
use Rattle.ix_tree.specs.declared.annot.Ident.{Ident}
use Rattle.ix_tree.specs.declared.decl.LocalDecl.{LocalDecl}
use Rattle.ix_tree.specs.declared.expr.Expr.{Expr}
use Rattle.ix_tree.specs.declared.expr.Init.{Init}
use Rattle.ix_tree.specs.declared.stmt.Stmt.{Stmt, Stmt-F, fold-Stmt}
use Rattle.ix_tree.specs.declared.stmt.StmtKind.{StmtKind-F}
use Rattle.ix_meaning.specs.declared.note.Which.TheVariants as which
use Rattle.ix_plain.specs.declared.body.Body.{Body}
use Rattle.ix_plain.specs.declared.made.Spot.TheVariants as spot
use Rattle.ix_plain.specs.Scope.{Site, Scope, declared_type, declared_claims}
use Rattle.ix_plain.specs.Parts.{Within, ◌>>=◌, Value, empty, with_item, block, done, taking, computed, write, default, most_slots}
use Rattle.ix_plain.specs.Assigned.{Adding, assigns, init_assigns}
use Rattle.ix_plain.specs.Values.{lowering, filling}

-- ---- full expressions, whose temporaries are free again behind them

abbrev pub scope_of : Site → Body → List ℕ → Scope
scope_of site body assigned = record { site = site; locals = body.locals; assigned = assigned }

abbrev pub assigned_by : Site → Body → Adding → List ℕ
assigned_by site body adding = adding (scope_of site body []) []

-- the scope of a full expression, in which these variables are assigned
abbrev pub scope_for : Site → Body → Adding → Scope
scope_for site body adding = scope_of site body (assigned_by site body adding)

-- The items of a full expression were made, up to that slot.
abbrev pub behind : Body → List Item → ℕ → Body
behind body items free = record body { made = record { items = items; free = body.made.free }; most = max body.most free }

abbrev pub with_last : Body → Item → Body
with_last body item = record body { made = with_item body.made item }

-- the slot of a full expression's value, and what was made
pub record Evaluated : Type 0 where
  pub slot : ℕ
  pub body : Body

abbrev pub behind_value : Body → Value → Within Evaluated
behind_value body value = Ok record { slot = value.slot; body = behind body value.made.items value.made.free }

abbrev pub evaluated : Site → Expr → Body → Within Evaluated
evaluated site expr body = (lowering expr).value (scope_for site body (assigns expr).inside) body.made >>= behind_value body

-- the initialiser of a variable of that type
abbrev pub init_evaluated : Site → Init → Type_ → Body → Within Evaluated
init_evaluated site init ty body = (filling init).value (scope_for site body (init_assigns init)) ty body.made >>= behind_value body

-- an item that uses the value
abbrev pub used : Site → Expr → (ℕ → Item) → Body → Within Body
used site expr item body = evaluated site expr body >>= (λ value. Ok (with_last value.body (item value.slot)))

-- a value that isn't used
abbrev pub ran : Site → Expr → Body → Within Body
ran site expr body = evaluated site expr body >>= (λ value. Ok value.body)

abbrev pub all_ran : List Expr → Site → Body → Within Body
all_ran [] site body = Ok body
all_ran (expr ∷ rest) site body = ran site expr body >>= all_ran rest site

pub record Tested : Type 0 where
  pub cond : Cond
  pub body : Body

abbrev pub tested : Site → Expr → Body → Within Tested
tested site expr body = (lowering expr).condition (scope_for site body (assigns expr).inside) body.made.free
    >>= (λ asked. Ok record { cond = asked.cond; body = behind body body.made.items asked.free })

-- Where a `for` has no condition it holds (JLS 14.14.1.2).
abbrev pub tested_if : Option Expr → Site → Body → Within Tested
tested_if (Some expr) site body = tested site expr body
tested_if None site body = Ok record { cond = cond.Known true; body = body }

-- ---- blocks

-- What a statement does: where its method stands, the end of the block that it stands in, and what was made before it.
abbrev pub Run : Type 0
Run = Site → ℕ → Body → Within Body

pub record Running : Type 0 where
  pub span : Span
  pub run : Run

-- one statement after the other
abbrev pub each : List Running → Run
each [] site end body = Ok body
each (first ∷ rest) site end body = first.run site end body >>= each rest site end

-- Behind a block the slots of its locals are free again.
abbrev pub with_free : ℕ → Body → Body
with_free free body = record body { made = record { items = body.made.items; free = free } }

pub record Inside : Type 0 where
  pub block : Block
  pub body : Body

-- what is made in a block of its own
abbrev pub inside : (Body → Within Body) → Body → Within Inside
inside run body = run (record body { made = empty body.made.free }) >>= (λ inner. Ok record { block = block inner.made; body = record inner { made = body.made } })

-- A statement that is a part of another is a block of its own; a local that it declares is in scope up to its end.
abbrev pub branch : Running → Site → Body → Within Inside
branch part site body = inside (part.run site part.span.to) body

abbrev pub branch_if : Option Running → Site → Body → Within Inside
branch_if None site body = Ok record { block = record { items = [] }; body = body }
branch_if (Some part) site body = branch part site body

-- ---- declarations of locals (JLS 14.4)

-- The local takes the first free slot, from its name on: its own initialiser is included.
abbrev pub with_local : Ident → ℕ → Site → Body → Within Body
with_local name end site body =
    if nat_lt body.made.free most_slots then Ok record {
      made = record { items = body.made.items; free = body.made.free + 1 };
      locals = body.locals ++ (record { slot = body.made.free; name = name.text; claims = declared_claims (site.names.declared name.span) }, record { from = name.span.from; to = end }) ∷ [];
      most = max body.most (body.made.free + 1);
      loops = body.loops;
    } else Err which.Slots

-- Without an initialiser it holds its type's default.
abbrev pub with_default : ℕ → Type_ → Span → Body → Within Body
with_default slot ty name body = computed body.made (op.Const body.made.free (default ty)) name >>= behind_value body
    >>= (λ value. Ok (with_last value.body (write (spot.Variable slot) value.slot ty name name name)))

abbrev pub with_init : ℕ → Type_ → Span → Init → Site → Body → Within Body
with_init slot ty name init site body = init_evaluated site init ty body
    >>= (λ value. Ok (with_last value.body (write (spot.Variable slot) value.slot ((filling init).ty site ty) (filling init).span name (filling init).span)))

abbrev pub initialised : ℕ → Type_ → Span → Option Init → Site → Body → Within Body
initialised slot ty name None site body = with_default slot ty name body
initialised slot ty name (Some init) site body = with_init slot ty name init site body

abbrev pub declaration : LocalDecl → Run
declaration decl site end body = with_local decl.name end site body
    >>= initialised body.made.free (declared_type (site.names.declared decl.name.span)) decl.name.span decl.init site

abbrev pub declarations : List LocalDecl → Run
declarations [] site end body = Ok body
declarations (decl ∷ decls) site end body = declaration decl site end body >>= declarations decls site end

-- ---- loops and choices

-- the loops that a method may have
abbrev pub most_loops : ℕ
most_loops = 128

-- The loop's number is taken.
abbrev pub in_loop : Body → Within Body
in_loop body = if nat_lt body.loops most_loops then Ok (record body { loops = body.loops + 1 }) else Err which.Loops

abbrev pub no_block : Block
no_block = record { items = [] }

abbrev pub chosen : Expr → Running → Option Running → Site → Body → Within Body
chosen condition first second site body = do
  asked ← tested site condition body
  holds ← branch first site asked.body
  fails ← branch_if second site holds.body
  Ok (with_last fails.body (If asked.cond holds.block fails.block))

-- `while`: the condition before each turn (JLS 14.12)
abbrev pub while : Expr → Running → Site → Body → Within Body
while condition turn site body = do
  begun ← in_loop body
  asked ← tested site condition begun
  turn ← branch turn site asked.body
  Ok (with_last turn.body (Loop true asked.cond turn.block no_block body.loops body.made.free))

-- `do`: the condition behind each turn (JLS 14.13)
abbrev pub do_while : Running → Expr → Site → Body → Within Body
do_while turn condition site body = do
  begun ← in_loop body
  turn ← branch turn site begun
  asked ← tested site condition turn.body
  Ok (with_last asked.body (Loop false asked.cond turn.block no_block body.loops body.made.free))

-- `for`: its first part, and a loop whose update runs before the next turn (JLS 14.14.1)
abbrev pub counted : List Running → Option Expr → List Expr → Running → ℕ → Site → Body → Within Body
counted first condition update turn end site body = do
  first ← each first site end body
  begun ← in_loop first
  asked ← tested_if condition site begun
  turn ← branch turn site asked.body
  next ← inside (all_ran update site) turn.body
  Ok (with_last (with_free body.made.free next.body) (Loop true asked.cond turn.block next.block first.loops first.made.free))

-- ---- all forms

-- an answer that is written out and returned
abbrev pub answer : Bool → ℕ → Span → Block
answer holds slot span = record { items = done (op.Const slot (literal.Bool holds)) span [] ∷ Return (Some slot) span ∷ [] }

abbrev pub answer_item : Cond → ℕ → Span → Item
answer_item asked slot span = If asked (answer true slot span) (answer false slot span)

-- Each answer is returned by itself, in the first slot that is free behind the condition.
abbrev pub answered : Site → Expr → Body → Within Body
answered site expr body = do
  asked ← (lowering expr).condition (scope_for site body (assigns expr).inside) body.made.free
  value ← taking (record { items = body.made.items; free = asked.free }) (answer_item asked.cond asked.free expr.span)
  Ok (behind body value.made.items value.made.free)

-- The place of a value's return is the value.
abbrev pub returned : Option Expr → Span → Site → Body → Within Body
returned None span site body = Ok (with_last body (Return None span))
returned (Some expr) span site body = if site.answers then answered site expr body else used site expr (λ slot. Return (Some slot) expr.span) body

abbrev pub printed : Expr → Site → Body → Within Body
printed expr site body = used site expr (λ slot. done (op.Print slot) expr.span []) body

abbrev pub kind_step : StmtKind-F (Span → Run) Running → Span → Run
kind_step (StmtKind-F.Block statements) = λ span site end body. each statements site span.to body >>= (λ inner. Ok (with_free body.made.free inner))
kind_step StmtKind-F.Empty = λ span site end body. Ok body
kind_step (StmtKind-F.Local decls) = λ span. declarations decls
kind_step (StmtKind-F.If condition first second) = λ span site end body. chosen condition first second site body
kind_step (StmtKind-F.While condition turn) = λ span site end body. while condition turn site body
kind_step (StmtKind-F.Do turn condition) = λ span site end body. do_while turn condition site body
kind_step (StmtKind-F.For first condition update turn) = λ span site end body. counted first condition update turn span.to site body
kind_step StmtKind-F.Break = λ span site end body. Ok (with_last body Break)
kind_step StmtKind-F.Continue = λ span site end body. Ok (with_last body Continue)
kind_step (StmtKind-F.Return value) = λ span site end body. returned value span site body
kind_step (StmtKind-F.Throw name) = λ span site end body. Ok (with_last body (Throw name.text span))
kind_step (StmtKind-F.Print value) = λ span site end body. printed value site body
kind_step (StmtKind-F.Run expr) = λ span site end body. ran site expr body

abbrev pub stmt_step : Stmt-F (Span → Run) Running → Running
stmt_step statement = record { span = statement.span; run = statement.kind statement.span }

-- what a statement becomes
abbrev pub statement : Stmt → Running
statement = fold-Stmt (Span → Run) Running kind_step stmt_step
