-- Whether all expressions in a statement are sound where they stand.
--
-- A statement is tested at the body that was made before it, and each part of it at the body that lowering has made when it comes to that part. So an induction over lowering
-- and the meaning of statements takes `(statement_soundness x).sound g end body ≡ true` as the hypothesis of each statement, where it takes the end of the block and the body;
-- behind a part that was made `made_is_so` of `ix_source/proofs/SoundUses` gives what is asked of the next, and `running_is` of `ix_source/proofs/SoundRuns` that the part's plain form is the
-- statement's. Where lowering has passed a limit nothing is asked.
use Rattle.std.specs.Prelude.{◌≡◌, ℕ, Bool, true, not, ◌&&◌, List, [], ◌∷◌, map, Option, Some, None, Ok, Err}
use Rattle.ix_text.specs.declared.span.Span.{Span}
use Rattle.ix_core.specs.Types.{is_void}
use Rattle.ix_tree.specs.declared.decl.LocalDecl.{LocalDecl}
use Rattle.ix_tree.specs.declared.expr.Expr.{Expr}
use Rattle.ix_tree.specs.declared.expr.Init.{Init}
use Rattle.ix_tree.specs.declared.stmt.Stmt.{Stmt, Stmt-F, fold-Stmt}
use Rattle.ix_tree.specs.declared.stmt.StmtKind.{StmtKind-F, map-StmtKind}
use Rattle.ix_meaning.specs.declared.note.Meaning.{Meaning}
use Rattle.ix_plain.specs.declared.body.Body.{Body}
use Rattle.ix_plain.specs.Parts.{Within, empty}
use Rattle.ix_plain.specs.Scope.{declared_type, is_among}
use Rattle.ix_plain.specs.Assigned.{Adding, assigns, init_assigns, all_assign}
use Rattle.ix_plain.specs.Statements as plain
use Rattle.ix_plain.specs.Statements.{Run, Running, assigned_by, tested, tested_if, branch, in_loop, ran, with_local, declaration}
use Rattle.ix_source.specs.Along.{Setting}
use Rattle.ix_source.specs.Running.{Ground, in_scope, standing}
use Rattle.ix_source.specs.Sound.{used, all_used, soundness, init_soundness}

-- what was made is so, where something was made
abbrev pub where_made : {A : Type 0} → Within A → (A → Bool) → Bool
where_made (Ok made) so = so made
where_made (Err limit) so = true

-- ---- full expressions

-- one whose value is used
abbrev pub used_at : Expr → Ground → Body → Bool
used_at expr g body = used (soundness expr) (standing g body (assigned_by g.site body (assigns expr).inside))

-- one whose value isn't
abbrev pub ran_at : Expr → Ground → Body → Bool
ran_at expr g body = (soundness expr).value (standing g body (assigned_by g.site body (assigns expr).inside))

abbrev pub all_ran_at : List Expr → Ground → Body → Bool
all_ran_at [] g body = true
all_ran_at (expr ∷ rest) g body = ran_at expr g body && where_made (ran g.site expr body) (all_ran_at rest g)

abbrev pub used_if : Option Expr → Ground → Body → Bool
used_if None g body = true
used_if (Some expr) g body = used_at expr g body

abbrev pub init_at : Init → Ground → Body → Bool
init_at init g body = init_soundness init (standing g body (assigned_by g.site body (init_assigns init)))

abbrev pub init_if : Option Init → Ground → Body → Bool
init_if None g body = true
init_if (Some init) g body = init_at init g body

-- ---- declarations of locals

-- Where the initialiser of a new local stands: its slot is taken, and is no variable's yet, since a local is no name of its own initialiser (JLS 14.4, 6.3).
abbrev pub declaring : Ground → Body → Body → List ℕ → Setting
declaring g before body assigned = record (standing g body assigned) { owner = in_scope g.site before.locals before.made.free }

-- A local without an initialiser holds its type's default, so it has a type.
abbrev pub local_init : Option Init → Span → Ground → Body → Body → Bool
local_init None name g before body = not (is_void (declared_type (g.site.names.declared name)))
local_init (Some init) name g before body = init_soundness init (declaring g before body (assigned_by g.site body (init_assigns init)))

-- ---- statements

pub record StatementSoundness : Type 0 where
  -- what it becomes: the statement's own plain form
  pub running : Running
  -- where it stands, the end of the block that it stands in, and what was made before it
  pub sound : Ground → ℕ → Body → Bool

abbrev pub running_of : StatementSoundness → Running
running_of part = part.running

-- a block of its own begins
abbrev pub begun : Body → Body
begun body = record body { made = empty body.made.free }

-- a statement that is a part of another
abbrev pub part_sound : StatementSoundness → Ground → Body → Bool
part_sound part g body = part.sound g part.running.span.to (begun body)

abbrev pub part_if : Option StatementSoundness → Ground → Body → Bool
part_if None g body = true
part_if (Some part) g body = part_sound part g body

abbrev pub each_sound : List StatementSoundness → Ground → ℕ → Body → Bool
each_sound [] g end body = true
each_sound (first ∷ rest) g end body = first.sound g end body && where_made (first.running.run g.site end body) (each_sound rest g end)

abbrev pub declared_sound : List LocalDecl → Ground → ℕ → Body → Bool
declared_sound [] g end body = true
declared_sound (decl ∷ decls) g end body =
    where_made (with_local decl.name end g.site body) (local_init decl.init decl.name.span g body) && where_made (declaration decl g.site end body) (declared_sound decls g end)

abbrev pub chosen_sound : Expr → StatementSoundness → Option StatementSoundness → Ground → Body → Bool
chosen_sound condition first second g body =
    used_at condition g body && where_made (tested g.site condition body) (λ asked.
    part_sound first g asked.body && where_made (branch first.running g.site asked.body) (λ holds. part_if second g holds.body))

abbrev pub while_sound : Expr → StatementSoundness → Ground → Body → Bool
while_sound condition turn g body = where_made (in_loop body) (λ inside.
    used_at condition g inside && where_made (tested g.site condition inside) (λ asked. part_sound turn g asked.body))

abbrev pub do_sound : StatementSoundness → Expr → Ground → Body → Bool
do_sound turn condition g body = where_made (in_loop body) (λ inside.
    part_sound turn g inside && where_made (branch turn.running g.site inside) (λ made. used_at condition g made.body))

abbrev pub loop_sound : Option Expr → List Expr → StatementSoundness → Ground → Body → Bool
loop_sound condition update turn g body = where_made (in_loop body) (λ inside.
    used_if condition g inside && where_made (tested_if condition g.site inside) (λ asked.
    part_sound turn g asked.body && where_made (branch turn.running g.site asked.body) (λ made. all_ran_at update g (begun made.body))))

abbrev pub for_sound : List StatementSoundness → Option Expr → List Expr → StatementSoundness → ℕ → Ground → Body → Bool
for_sound first condition update turn end g body =
    each_sound first g end body && where_made (plain.each (map running_of first) g.site end body) (loop_sound condition update turn g)

-- ---- all forms

abbrev pub kind_sound : StmtKind-F (Span → StatementSoundness) StatementSoundness → Span → Ground → ℕ → Body → Bool
kind_sound (StmtKind-F.Block statements) span g end body = each_sound statements g span.to body
kind_sound (StmtKind-F.Local decls) span g end body = declared_sound decls g end body
kind_sound (StmtKind-F.If condition first second) span g end body = chosen_sound condition first second g body
kind_sound (StmtKind-F.While condition turn) span g end body = while_sound condition turn g body
kind_sound (StmtKind-F.Do turn condition) span g end body = do_sound turn condition g body
kind_sound (StmtKind-F.For first condition update turn) span g end body = for_sound first condition update turn span.to g body
kind_sound (StmtKind-F.Return value) span g end body = used_if value g body
kind_sound (StmtKind-F.Print value) span g end body = used_at value g body
kind_sound (StmtKind-F.Run expr) span g end body = ran_at expr g body
kind_sound _ span g end body = true

abbrev pub kind_run : StmtKind-F (Span → StatementSoundness) StatementSoundness → Span → Run
kind_run kind = plain.kind_step (map-StmtKind (Span → StatementSoundness) StatementSoundness (Span → Run) Running (λ part span. (part span).running.run) running_of kind)

abbrev pub kind_step : StmtKind-F (Span → StatementSoundness) StatementSoundness → Span → StatementSoundness
kind_step kind span = record { running = record { span = span; run = kind_run kind span }; sound = kind_sound kind span }

abbrev pub stmt_step : Stmt-F (Span → StatementSoundness) StatementSoundness → StatementSoundness
stmt_step statement = statement.kind statement.span

-- whether a statement is sound
abbrev pub statement_soundness : Stmt → StatementSoundness
statement_soundness = fold-Stmt (Span → StatementSoundness) StatementSoundness kind_step stmt_step

-- ---- what a full expression assigns

-- The slots that are added are those of variables in scope.
abbrev pub AddsOwn : Setting → Adding → Type 0
AddsOwn z adding = (slot : ℕ) → is_among slot (adding (record z.scope { assigned = [] }) []) ≡ true → (m : Meaning) × (z.owner slot ≡ Some m)

-- What a sound expression, a sound initialiser and sound arguments assign are variables in scope.
pub record AssignsOwn : Type 0 where
  pub expression : (z : Setting) (e : Expr) → (soundness e).value z ≡ true → AddsOwn z (assigns e).inside
  pub initialiser : (z : Setting) (i : Init) → init_soundness i z ≡ true → AddsOwn z (init_assigns i)
  pub arguments : (z : Setting) (es : List Expr) → all_used (map soundness es) z ≡ true → AddsOwn z (all_assign es)
