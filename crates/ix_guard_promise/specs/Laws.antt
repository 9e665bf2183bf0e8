-- What is known of code behind a test, and of code that has no access at a place. The statements of a guarded text are built over it.
use Rattle.std.specs.Prelude.{◌≡◌, ◌<◌, ℕ, true, List, [], map, Option}
use Rattle.ix_text.specs.declared.span.Span.{Span}
use Rattle.ix_core.specs.declared.claim.Type_.{Type_}
use Rattle.ix_core.specs.declared.op.Op.{Op}
use Rattle.ix_core.specs.declared.program.Local.{Local}
use Rattle.ix_tree.specs.declared.decl.LocalDecl.{LocalDecl}
use Rattle.ix_tree.specs.declared.expr.Expr.{Expr}
use Rattle.ix_tree.specs.declared.expr.Init.{Init}
use Rattle.ix_tree.specs.declared.stmt.Stmt.{Stmt}
use Rattle.ix_meaning.specs.declared.note.Meaning.{Meaning}
use Rattle.ix_plain.specs.declared.body.Body.{Body}
use Rattle.ix_plain.specs.declared.made.Made.{Made}
use Rattle.ix_plain.specs.Scope.{Scope, slot_of}
use Rattle.ix_plain.specs.Assigned.{assigns}
use Rattle.ix_plain.specs.Values.{lowering, filling}
use Rattle.ix_plain.specs.Statements as plain
use Rattle.ix_plain.specs.Statements.{scope_for, declarations}
use Rattle.ix_formed.specs.Additions.{Makes}
use Rattle.ix_formed.specs.Readable.{is_readable_expr, is_readable_init, is_readable_decl, is_readable_stmt}
use Rattle.ix_formed.specs.Written.{each_true}
use Rattle.ix_source.specs.Along.{Setting}
use Rattle.ix_source.specs.Running.{Ground, in_scope}
use Rattle.ix_source.specs.Sound.{named}
use Rattle.ix_source.specs.SoundStatements.{ran_at, declared_sound}
use Rattle.ix_guard.specs.Accesses.{Access, Parts, parts_of, all_decl_parts}
use Rattle.ix_guard.specs.Tests.{Site, Changes}
use Rattle.ix_guard_promise.specs.Pieces.{IsElsewhere, Keeps}
use Rattle.ix_guard_text.specs.Moved.{Move, moved_span, moved_expr, moved_init, moved_decl, moved_stmt}
use Rattle.ix_guard_promise.specs.AllAccesses.{all_accesses, init_accesses, decl_accesses, each_of}
use Rattle.ix_guard_promise.specs.AtPlace.{HasNone}
use Rattle.ix_guard_promise.specs.KeptSlots.{Leaves, LeavesAsked, Appends}
use Rattle.ix_guard_promise.specs.Outlines.{outline, everything}
use Rattle.ix_guard_promise.specs.SourceGuards.{AreKept, HasOnly}

-- An expression adds items whose operations all have the property, as a value and as a condition.
pub record LowersEach (P : Op → Type 0) (scope : Scope) (made : Made) (expr : Expr) : Type 0 where
  pub value : Makes (λ v. Leaves P made v.made) ((lowering expr).value scope made)
  pub condition : Makes (LeavesAsked P made.free) ((lowering expr).condition scope made.free)

-- ---- the variables of a test

-- where a full expression stands, by the locals and the first free slot
abbrev pub setting : Ground → List (Local × Span) → ℕ → List ℕ → Setting
setting g locals free assigned = record {
  tables = g.tables;
  scope = record { site = g.site; locals = locals; assigned = assigned };
  base = free;
  owner = in_scope g.site locals free;
  has_this = g.has_this;
  this = g.this;
  depth = g.depth;
}

-- The variable is in scope, and in that slot, which is below the first free one.
pub record IsInSlot (g : Ground) (locals : List (Local × Span)) (free : ℕ) (variable : Option Meaning) (slot : ℕ) : Type 0 where
  pub in_slot : slot_of (record { site = g.site; locals = locals; assigned = [] }) variable ≡ slot
  pub below : slot < free
  pub sound : (assigned : List ℕ) → named (setting g locals free assigned) variable ≡ true

-- so both of a test
pub record AreInSlots (site : Site) (g : Ground) (locals : List (Local × Span)) (free : ℕ) (test : Access) (array index : ℕ) : Type 0 where
  pub array_is : IsInSlot g locals free (site.names.meaning test.array.span) array
  pub index_is : IsInSlot g locals free (site.names.meaning test.index.span) index

-- ---- what a statement changes

abbrev pub changes_of : Site → List LocalDecl → Parts → Changes
changes_of site declared parts = record { assigned = map site.names.meaning parts.assigned; declared = declared }

-- ---- the laws, for a place of the source; what is lowered is moved

pub record Laws (site : Site) (move : Move) (place : Span) (g : Ground) : Type 0 where
  -- An expression that keeps both variables of a test, and has no other accesses at the place, keeps what the test tells.
  pub kept : (expr : Expr) (test : Access) (array index : ℕ) (body : Body) → AreKept site (changes_of site [] (parts_of expr)) test → HasOnly site place test (all_accesses expr)
      → AreInSlots site g body.locals body.made.free test array index → is_readable_expr (moved_expr move expr) ≡ true → ran_at (moved_expr move expr) g body ≡ true
      → LowersEach (Keeps (moved_span move place) array index) (scope_for g.site body (assigns (moved_expr move expr)).inside) body.made (moved_expr move expr)
  -- So do declarations of locals.
  pub kept_locals : (decls : List LocalDecl) (test : Access) (array index end : ℕ) (body : Body) → AreKept site (changes_of site decls (all_decl_parts decls)) test
      → HasOnly site place test (each_of decl_accesses decls) → AreInSlots site g body.locals body.made.free test array index
      → each_true is_readable_decl (map (moved_decl move) decls) ≡ true → declared_sound (map (moved_decl move) decls) g end body ≡ true
      → Makes (λ after. Leaves (Keeps (moved_span move place) array index) body.made after.made) (declarations (map (moved_decl move) decls) g.site end body)
  -- Where no access at the place is in the source, there is none in the code.
  pub elsewhere : (expr : Expr) (scope : Scope) (made : Made) → HasNone place (all_accesses expr) → is_readable_expr (moved_expr move expr) ≡ true
      → LowersEach (IsElsewhere (moved_span move place)) scope made (moved_expr move expr)
  pub init_elsewhere : (init : Init) (scope : Scope) (ty : Type_) (made : Made) → HasNone place (init_accesses init) → is_readable_init (moved_init move init) ≡ true
      → Makes (λ v. Leaves (IsElsewhere (moved_span move place)) made v.made) ((filling (moved_init move init)).value scope ty made)
  pub statement_elsewhere : (stmt : Stmt) (end : ℕ) (body : Body) → HasNone place (everything (outline site stmt)) → is_readable_stmt (moved_stmt move stmt) ≡ true
      → Makes (λ after. Appends (IsElsewhere (moved_span move place)) body.made after.made) ((plain.statement (moved_stmt move stmt)).run g.site end body)
