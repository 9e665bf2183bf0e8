-- The text of a source with a test and a throw before each access on names that isn't proved.
use Rattle.std.specs.Prelude.{ℕ, ◌-◌, Bool, true, false, if◌then◌else◌, List, [], ◌∷◌, ◌++◌, map, take, drop, Option, Some, None, codes}
use Rattle.ix_text.specs.declared.span.Span.{Span}
use Rattle.ix_tree.specs.declared.decl.ClassDecl.{ClassDecl}
use Rattle.ix_tree.specs.declared.decl.Member.{Member}
use Rattle.ix_tree.specs.declared.decl.Member.TheVariants.{Field, Method}
use Rattle.ix_tree.specs.declared.decl.Unit.{Unit as Source}
use Rattle.ix_tree.specs.declared.expr.Expr.{Expr}
use Rattle.ix_tree.specs.declared.stmt.Stmt.{Stmt, Stmt-F, fold-Stmt}
use Rattle.ix_tree.specs.declared.stmt.StmtKind.{StmtKind-F}
use Rattle.ix_core.specs.declared.error.Error.{Error}
use Rattle.ix_meaning.specs.Resolved.{Names}
use Rattle.ix_guard.specs.declared.insertion.Insertion.{Insertion}
use Rattle.ix_guard.specs.Tests.{Site, expression_tests, declaration_tests}

-- ---- what is inserted: each text before the byte at its place

abbrev pub inserted : ℕ → List ℕ → List Insertion
inserted place text = record { place = place; text = text } ∷ []

-- before a declaration in a list of statements, the tests alone
abbrev pub before : Span → List ℕ → List Insertion
before span [] = []
before span tests = inserted span.from tests

-- around any other statement a block, which begins with the tests; no block where there are none
abbrev pub opening : Span → List ℕ → List Insertion
opening span [] = []
opening span tests = inserted span.from (codes "{ " ++ tests)

abbrev pub closing : Span → List ℕ → List Insertion
closing span [] = []
closing span tests = inserted span.to (codes " }")

abbrev pub around : Span → List ℕ → List Insertion
around span tests = opening span tests ++ closing span tests

-- the same of an `if`, with what is inserted for its branches
abbrev pub choosing : Span → List ℕ → List Insertion → List Insertion → List Insertion
choosing span tests first second = (opening span tests ++ first) ++ (second ++ closing span tests)

abbrev pub together : List (List Insertion) → List Insertion
together [] = []
together (first ∷ rest) = first ++ together rest

-- What is inserted for a statement that stands in a list of statements, or doesn't.
abbrev pub Inserting : Type 0
Inserting = Bool → List Insertion

abbrev pub each_listed : List Inserting → List Insertion
each_listed statements = together (map (λ statement. statement true) statements)

abbrev pub alone : Inserting → List Insertion
alone statement = statement false

abbrev pub alone_maybe : Option Inserting → List Insertion
alone_maybe None = []
alone_maybe (Some statement) = alone statement

abbrev pub evaluating : Site → Span → Expr → List Insertion
evaluating site span expr = around span (expression_tests site expr)

abbrev pub returning : Site → Span → Option Expr → List Insertion
returning site span None = []
returning site span (Some value) = evaluating site span value

-- Conditions of loops, the head of `for` and its update aren't guarded: what is tested before the loop says nothing of a later turn.
abbrev pub kind_step : Site → StmtKind-F (Span → Inserting) Inserting → Span → Inserting
kind_step site (StmtKind-F.Block statements) span listed = each_listed statements
kind_step site (StmtKind-F.Local decls) span listed = if listed then before span (declaration_tests site decls) else []
kind_step site (StmtKind-F.If condition first second) span listed = choosing span (expression_tests site condition) (alone first) (alone_maybe second)
kind_step site (StmtKind-F.While condition body) span listed = alone body
kind_step site (StmtKind-F.Do body condition) span listed = alone body
kind_step site (StmtKind-F.For first condition update body) span listed = alone body
kind_step site (StmtKind-F.Return value) span listed = returning site span value
kind_step site (StmtKind-F.Print value) span listed = evaluating site span value
kind_step site (StmtKind-F.Run expr) span listed = evaluating site span expr
kind_step site _ span listed = []

abbrev pub stmt_step : Stmt-F (Span → Inserting) Inserting → Inserting
stmt_step statement = statement.kind statement.span

abbrev pub inserting : Site → Stmt → Inserting
inserting site = fold-Stmt (Span → Inserting) Inserting (kind_step site) stmt_step

-- ---- whole sources: the bodies of methods and constructors

abbrev pub listed : Site → List Stmt → List Insertion
listed site statements = each_listed (map (inserting site) statements)

abbrev pub in_member : Site → Member → List Insertion
in_member site (Field decl) = []
in_member site (Method method) = listed site method.body

abbrev pub in_members : Site → List Member → List Insertion
in_members site members = together (map (in_member site) members)

abbrev pub in_class : Site → ClassDecl → List Insertion
in_class site class = in_members site class.members

abbrev pub insertions : Site → Source → List Insertion
insertions site unit = together (map (in_class site) unit.classes)

-- ---- the text

-- bytes that begin at this place of the source, with the texts inserted
abbrev pub with_texts : ℕ → List ℕ → List Insertion → List ℕ
with_texts at bytes [] = bytes
with_texts at bytes (insertion ∷ rest) = take (insertion.place - at) bytes ++ (insertion.text ++ with_texts insertion.place (drop (insertion.place - at) bytes) rest)

abbrev pub source_insertions : Source → Names → List Error → List Insertion
source_insertions unit names errors = insertions record { names = names; errors = errors } unit

-- the texts that are inserted
abbrev pub texts : Source → Names → List Error → List (List ℕ)
texts unit names errors = map (λ insertion. insertion.text) (source_insertions unit names errors)

-- The guarded text of a source with this tree, these meanings of its names and these errors.
abbrev pub guarded : List ℕ → Source → Names → List Error → List ℕ
guarded source unit names errors = with_texts 0 source (source_insertions unit names errors)
