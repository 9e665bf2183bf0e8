-- The tree of a guarded text beside that of its source: each expression, type and name of the source stands at its place moved, and tests stand before the statements.
use Rattle.std.specs.Prelude.{◌≡◌, ℕ, List, [], ◌∷◌, ◌++◌, map, Option, Some, None}
use Rattle.ix_text.specs.declared.span.Span.{Span}
use Rattle.ix_lexer.specs.declared.token.Token.{Token}
use Rattle.ix_lexer.specs.Tokens.{Tokens}
use Rattle.ix_tree.specs.declared.annot.Ident.{Ident}
use Rattle.ix_tree.specs.declared.decl.ClassDecl.{ClassDecl}
use Rattle.ix_tree.specs.declared.decl.LocalDecl.{LocalDecl}
use Rattle.ix_tree.specs.declared.decl.Member.{Member}
use Rattle.ix_tree.specs.declared.decl.Member.TheVariants.{Field, Method}
use Rattle.ix_tree.specs.declared.decl.MethodDecl.{MethodDecl}
use Rattle.ix_tree.specs.declared.decl.Unit.{Unit as Source}
use Rattle.ix_tree.specs.declared.expr.Expr.{Expr}
use Rattle.ix_tree.specs.declared.stmt.Stmt.{Stmt}
use Rattle.ix_tree.specs.declared.stmt.StmtKind.TheVariants as s
use Rattle.ix_grammar.specs.declared.classes.FoundUnit.{FoundUnit}
use Rattle.ix_grammar.specs.SourceGrammar.{IsSource}
use Rattle.ix_guard_text.specs.Bare.{bare_maybe as maybe}
use Rattle.ix_guard.specs.Accesses.{Access}
use Rattle.ix_guard.specs.Tests.{Site}
use Rattle.ix_guard.specs.Trees.{statement, expression_tested, declaration_tested, returning}
use Rattle.ix_guard_text.specs.TestParts.{Parts, guard_of, IsWritten}
use Rattle.ix_guard_text.specs.Moved.{Move, moved_span, moved_name, moved_type, moved_mods, moved_expr, moved_decl, moved_stmt}

-- The tests of these accesses, each of which is so.
pub data AreTests (IsTest : Access → Parts → Type 0) : List Access → List Stmt → Type 0 where
  none : AreTests IsTest [] []
  one_more : {accesses : List Access} {tests : List Stmt} (access : Access) (parts : Parts) → IsTest access parts → AreTests IsTest accesses tests → AreTests IsTest (access ∷ accesses) (guard_of parts ∷ tests)

-- each with that of its place
pub data Each {A B : Type 0} (Is : A → B → Type 0) : List A → List B → Type 0 where
  none : Each Is [] []
  one_more : {x : A} {y : B} {xs : List A} {ys : List B} → Is x y → Each Is xs ys → Each Is (x ∷ xs) (y ∷ ys)

module _ (site : Site) (move : Move) (IsTest : Access → Parts → Type 0) where
  mutual
    -- A statement but for its own tests, which are those of these accesses: it begins at its place moved, and ends there where no statement is in it.
    pub data Inner : Stmt → Stmt → List Access → Type 0 where
      block : (statements others : List Stmt) (span other : Span) → other.from ≡ move.from span.from → InList statements others → Inner (statement (s.Block statements) span) (statement (s.Block others) other) []
      empty : (span : Span) → Inner (statement s.Empty span) (statement s.Empty (moved_span move span)) []
      if_then : (condition : Expr) (first second : Stmt) (span other : Span) → other.from ≡ move.from span.from → Alone first second
          → Inner (statement (s.If condition first None) span) (statement (s.If (moved_expr move condition) second None) other) (expression_tested site condition)
      if_else : (condition : Expr) (first second third fourth : Stmt) (span other : Span) → other.from ≡ move.from span.from → Alone first second → Alone third fourth
          → Inner (statement (s.If condition first (Some third)) span) (statement (s.If (moved_expr move condition) second (Some fourth)) other) (expression_tested site condition)
      while_do : (condition : Expr) (first second : Stmt) (span other : Span) → other.from ≡ move.from span.from → Alone first second
          → Inner (statement (s.While condition first) span) (statement (s.While (moved_expr move condition) second) other) []
      do_while : (condition : Expr) (first second : Stmt) (span other : Span) → other.from ≡ move.from span.from → Alone first second
          → Inner (statement (s.Do first condition) span) (statement (s.Do second (moved_expr move condition)) other) []
      for_do : (start : List Stmt) (condition : Option Expr) (update : List Expr) (first second : Stmt) (span other : Span) → other.from ≡ move.from span.from → Alone first second
          → Inner (statement (s.For start condition update first) span) (statement (s.For (map (moved_stmt move) start) (maybe (moved_expr move) condition) (map (moved_expr move) update) second) other) []
      breaks : (span : Span) → Inner (statement s.Break span) (statement s.Break (moved_span move span)) []
      continues : (span : Span) → Inner (statement s.Continue span) (statement s.Continue (moved_span move span)) []
      returns : (value : Option Expr) (span : Span) → Inner (statement (s.Return value) span) (statement (s.Return (maybe (moved_expr move) value)) (moved_span move span)) (returning site value)
      throws : (name : Ident) (span : Span) → Inner (statement (s.Throw name) span) (statement (s.Throw (moved_name move name)) (moved_span move span)) []
      prints : (value : Expr) (span : Span) → Inner (statement (s.Print value) span) (statement (s.Print (moved_expr move value)) (moved_span move span)) (expression_tested site value)
      runs : (expr : Expr) (span : Span) → Inner (statement (s.Run expr) span) (statement (s.Run (moved_expr move expr)) (moved_span move span)) (expression_tested site expr)

    -- a statement with its own tests before it in a block, where there are some
    pub data Alone : Stmt → Stmt → Type 0 where
      untested : (old new : Stmt) → Inner old new [] → Alone old new
      tested : (old new : Stmt) (access : Access) (rest : List Access) (tests : List Stmt) (span : Span) → Inner old new (access ∷ rest) → AreTests IsTest (access ∷ rest) tests
          → Alone old (statement (s.Block (tests ++ new ∷ [])) span)

    -- a list of statements, in which the tests of a declaration stand before it
    pub data InList : List Stmt → List Stmt → Type 0 where
      none : InList [] []
      declared : (decls : List LocalDecl) (span : Span) (tests statements others : List Stmt) → AreTests IsTest (declaration_tested site decls) tests → InList statements others
          → InList (statement (s.Local decls) span ∷ statements) (tests ++ statement (s.Local (map (moved_decl move) decls)) (moved_span move span) ∷ others)
      other : (old new : Stmt) (statements others : List Stmt) → Alone old new → InList statements others → InList (old ∷ statements) (new ∷ others)

  -- ---- members, classes and whole sources

  pub record PlacedMethod (old new : MethodDecl) : Type 0 where
    pub mods : new.mods ≡ moved_mods move old.mods
    pub result : new.result ≡ maybe (moved_type move) old.result
    pub constructor : new.constructor ≡ old.constructor
    pub name : new.name ≡ moved_name move old.name
    pub params : new.params ≡ map (moved_decl move) old.params
    pub parent_args : new.parent_args ≡ maybe (map (moved_expr move)) old.parent_args
    pub body : InList old.body new.body
    pub from : new.span.from ≡ move.from old.span.from

  pub data PlacedMember : Member → Member → Type 0 where
    field : (decl : LocalDecl) → PlacedMember (Field decl) (Field (moved_decl move decl))
    method : {old new : MethodDecl} → PlacedMethod old new → PlacedMember (Method old) (Method new)

  pub record PlacedClass (old new : ClassDecl) : Type 0 where
    pub name : new.name ≡ moved_name move old.name
    pub parent : new.parent ≡ maybe (moved_name move) old.parent
    pub members : Each PlacedMember old.members new.members
    pub from : new.span.from ≡ move.from old.span.from

  abbrev pub PlacedSource : Source → Source → Type 0
  PlacedSource old new = Each PlacedClass old.classes new.classes

-- The bytes are a source, in whose tree all that this one has stands at its place moved.
pub record GuardedAt (bytes : List ℕ) (site : Site) (move : Move) (found : FoundUnit) : Type 0 where
  pub tokens : List Token
  pub other : FoundUnit
  pub text : Tokens bytes tokens
  pub is : IsSource tokens other
  pub placed : PlacedSource site move (IsWritten move) found.unit other.unit
