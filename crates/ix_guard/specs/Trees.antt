-- The tree of a source with a test and a throw before each access on names that isn't proved.
-- The names of a test stand where those of its access do, at which what they mean and their types are found; all else of it stands where its statement does.
use Rattle.std.specs.Prelude.{ℕ, Bool, true, false, if◌then◌else◌, List, [], ◌∷◌, ◌++◌, map, Option, Some, None, codes, pos}
use Rattle.ix_num.specs.declared.rel.Rel.TheVariants.{Eq, Lt, Ge}
use Rattle.ix_text.specs.declared.span.Span.{Span}
use Rattle.ix_tree.specs.declared.annot.Ident.{Ident}
use Rattle.ix_tree.specs.declared.decl.ClassDecl.{ClassDecl}
use Rattle.ix_tree.specs.declared.decl.LocalDecl.{LocalDecl}
use Rattle.ix_tree.specs.declared.decl.Member.{Member}
use Rattle.ix_tree.specs.declared.decl.Member.TheVariants.{Field, Method}
use Rattle.ix_tree.specs.declared.decl.Unit.{Unit as Source}
use Rattle.ix_tree.specs.declared.expr.BinaryOp.TheVariants.{Compare, OrElse}
use Rattle.ix_tree.specs.declared.expr.Expr.{Expr}
use Rattle.ix_tree.specs.declared.expr.ExprKind.{ExprKind}
use Rattle.ix_tree.specs.declared.expr.ExprKind.TheVariants as e
use Rattle.ix_tree.specs.declared.stmt.Stmt.{Stmt, Stmt-F, fold-Stmt}
use Rattle.ix_tree.specs.declared.stmt.StmtKind.{StmtKind, StmtKind-F}
use Rattle.ix_tree.specs.declared.stmt.StmtKind.TheVariants as s
use Rattle.ix_core.specs.declared.error.Error.{Error}
use Rattle.ix_meaning.specs.Resolved.{Names}
use Rattle.ix_guard.specs.Accesses.{Access, Parts, parts_of, all_decl_parts}
use Rattle.ix_guard.specs.Tests.{Site, Changes, Pair, pair_of, is_tested}

-- ---- which accesses are tested

-- those of these accesses that are tested, where those of the pairs before are: each pair of variables once
abbrev pub tested_behind : Site → Changes → List Pair → List Access → List Access
tested_behind site changes before [] = []
tested_behind site changes before (access ∷ rest) =
    if is_tested site changes before access then access ∷ tested_behind site changes (before ++ pair_of site access ∷ []) rest else tested_behind site changes before rest

-- the accesses that are tested for a statement that has these parts and declares these locals
abbrev pub tested : Site → List LocalDecl → Parts → List Access
tested site declared parts = tested_behind site record { assigned = map site.names.meaning parts.assigned; declared = declared } [] parts.accesses

abbrev pub expression_tested : Site → Expr → List Access
expression_tested site expr = tested site [] (parts_of expr)

abbrev pub declaration_tested : Site → List LocalDecl → List Access
declaration_tested site decls = tested site decls (all_decl_parts decls)

-- ---- a test: `if (array == null || index < 0 || index >= array.length) throw new IndexOutOfBoundsException("guard");`

abbrev pub expression : ExprKind → Span → Expr
expression kind span = record { kind = kind; span = span }

abbrev pub statement : StmtKind → Span → Stmt
statement kind span = record { kind = kind; span = span }

abbrev pub named : Ident → Expr
named name = expression (e.Name name) name.span

abbrev pub ident : List ℕ → Span → Ident
ident text span = record { text = text; span = span }

abbrev pub is_null : Span → Ident → Expr
is_null span array = expression (e.Binary (Compare Eq) (named array) (expression e.Null span)) span

abbrev pub is_negative : Span → Ident → Expr
is_negative span index = expression (e.Binary (Compare Lt) (named index) (expression (e.Int (pos 0)) span)) span

abbrev pub is_too_high : Span → Ident → Ident → Expr
is_too_high span array index = expression (e.Binary (Compare Ge) (named index) (expression (e.Select (named array) (ident (codes "length") span)) span)) span

abbrev pub either : Span → Expr → Expr → Expr
either span first second = expression (e.Binary OrElse first second) span

abbrev pub is_outside : Span → Access → Expr
is_outside span access = either span (either span (is_null span access.array) (is_negative span access.index)) (is_too_high span access.array access.index)

abbrev pub test_tree : Span → Access → Stmt
test_tree span access = statement (s.If (is_outside span access) (statement (s.Throw (ident (codes "IndexOutOfBoundsException") span)) span) None) span

abbrev pub test_trees : Span → List Access → List Stmt
test_trees span accesses = map (test_tree span) accesses

-- ---- statements

-- A statement with the tests of what is in it, and its own tests, which stand before it.
pub record Guarded : Type 0 where
  pub tests : List Stmt
  pub itself : Stmt
  -- Its own tests stand alone where it is in a list of statements, and nowhere else: it is a declaration.
  pub declares : Bool

-- a statement in a block that begins with the tests; no block where there are none
abbrev pub in_block : List Stmt → Stmt → Stmt
in_block [] itself = itself
in_block (test ∷ tests) itself = statement (s.Block (test ∷ (tests ++ itself ∷ []))) itself.span

abbrev pub alone : Guarded → Stmt
alone guarded = if guarded.declares then guarded.itself else in_block guarded.tests guarded.itself

abbrev pub alone_maybe : Option Guarded → Option Stmt
alone_maybe None = None
alone_maybe (Some guarded) = Some (alone guarded)

-- in a list of statements
abbrev pub in_list : Guarded → List Stmt
in_list guarded = if guarded.declares then guarded.tests ++ guarded.itself ∷ [] else alone guarded ∷ []

abbrev pub each_in_list : List Guarded → List Stmt
each_in_list [] = []
each_in_list (first ∷ rest) = in_list first ++ each_in_list rest

abbrev pub untested : StmtKind → Span → Guarded
untested kind span = record { tests = []; itself = statement kind span; declares = false }

abbrev pub with_tests : StmtKind → Span → List Access → Guarded
with_tests kind span accesses = record { tests = test_trees span accesses; itself = statement kind span; declares = false }

abbrev pub returning : Site → Option Expr → List Access
returning site None = []
returning site (Some value) = expression_tested site value

-- As with the insertions, conditions of loops, the head of `for` and its update aren't guarded.
abbrev pub kind_step : Site → StmtKind-F (Span → Guarded) Guarded → Span → Guarded
kind_step site (StmtKind-F.Block statements) span = untested (s.Block (each_in_list statements)) span
kind_step site StmtKind-F.Empty span = untested s.Empty span
kind_step site (StmtKind-F.Local decls) span = record { tests = test_trees span (declaration_tested site decls); itself = statement (s.Local decls) span; declares = true }
kind_step site (StmtKind-F.If condition first second) span = with_tests (s.If condition (alone first) (alone_maybe second)) span (expression_tested site condition)
kind_step site (StmtKind-F.While condition body) span = untested (s.While condition (alone body)) span
kind_step site (StmtKind-F.Do body condition) span = untested (s.Do (alone body) condition) span
kind_step site (StmtKind-F.For first condition update body) span = untested (s.For (map (λ part. part.itself) first) condition update (alone body)) span
kind_step site StmtKind-F.Break span = untested s.Break span
kind_step site StmtKind-F.Continue span = untested s.Continue span
kind_step site (StmtKind-F.Return value) span = with_tests (s.Return value) span (returning site value)
kind_step site (StmtKind-F.Throw name) span = untested (s.Throw name) span
kind_step site (StmtKind-F.Print value) span = with_tests (s.Print value) span (expression_tested site value)
kind_step site (StmtKind-F.Run expr) span = with_tests (s.Run expr) span (expression_tested site expr)

abbrev pub stmt_step : Stmt-F (Span → Guarded) Guarded → Guarded
stmt_step statement = statement.kind statement.span

abbrev pub guarding : Site → Stmt → Guarded
guarding site = fold-Stmt (Span → Guarded) Guarded (kind_step site) stmt_step

-- ---- whole sources: the bodies of methods and constructors

abbrev pub guarded_body : Site → List Stmt → List Stmt
guarded_body site statements = each_in_list (map (guarding site) statements)

abbrev pub guarded_member : Site → Member → Member
guarded_member site (Field decl) = Field decl
guarded_member site (Method method) = Method record method { body = guarded_body site method.body }

abbrev pub guarded_class : Site → ClassDecl → ClassDecl
guarded_class site class = record class { members = map (guarded_member site) class.members }

-- The guarded tree of a source with these meanings of its names and these errors.
abbrev pub guarded_tree : Source → Names → List Error → Source
guarded_tree unit names errors = record { classes = map (guarded_class record { names = names; errors = errors }) unit.classes }
