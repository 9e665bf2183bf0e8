-- A statement as far as guards go: which tests stand before it, which accesses they are for, and which they aren't for.
use Rattle.std.specs.Prelude.{List, [], ◌∷◌, ◌++◌, map, Some, None}
use Rattle.ix_tree.specs.declared.stmt.Stmt.{Stmt, Stmt-F, fold-Stmt}
use Rattle.ix_tree.specs.declared.stmt.StmtKind.{StmtKind-F}
use Rattle.ix_guard.specs.Accesses.{Access}
use Rattle.ix_guard.specs.Tests.{Site}
use Rattle.ix_guard.specs.Trees.{expression_tested, declaration_tested, returning}
use Rattle.ix_guard_promise.specs.AllAccesses.{AnyAccess, all_accesses, decl_accesses, maybe, each_of}

-- Statements, one behind the other.
pub data Outline : Type 0 where
  nothing : Outline
  -- The accesses that are tested before the first statement, the accesses of the expressions that are evaluated right behind these tests, its other accesses that
  -- aren't in a statement that is a part of it, the statements that are parts of it, and what stands behind it.
  node : (tests : List Access) (own others : List AnyAccess) (inner later : Outline) → Outline

abbrev pub followed : Outline → Outline → Outline
followed nothing next = next
followed (node tests own others inner later) next = node tests own others inner (followed later next)

abbrev pub joined : List Outline → Outline
joined [] = nothing
joined (first ∷ rest) = followed first (joined rest)

-- all accesses
abbrev pub everything : Outline → List AnyAccess
everything nothing = []
everything (node tests own others inner later) = own ++ (others ++ (everything inner ++ everything later))

-- a statement before which there is no test of its own
abbrev pub untested : List AnyAccess → Outline → Outline
untested others inner = node [] [] others inner nothing

abbrev pub behind : List Access → List AnyAccess → Outline → Outline
behind tests own inner = node tests own [] inner nothing

-- Conditions of loops, the head of `for` and its update aren't guarded.
abbrev pub kind_step : Site → StmtKind-F Outline Outline → Outline
kind_step site (StmtKind-F.Block statements) = untested [] (joined statements)
kind_step site (StmtKind-F.Local decls) = behind (declaration_tested site decls) (each_of decl_accesses decls) nothing
kind_step site (StmtKind-F.If condition first None) = behind (expression_tested site condition) (all_accesses condition) first
kind_step site (StmtKind-F.If condition first (Some second)) = behind (expression_tested site condition) (all_accesses condition) (followed first second)
kind_step site (StmtKind-F.While condition turn) = untested (all_accesses condition) turn
kind_step site (StmtKind-F.Do turn condition) = untested (all_accesses condition) turn
kind_step site (StmtKind-F.For first condition update turn) = untested (everything (joined first) ++ (maybe all_accesses condition ++ each_of all_accesses update)) turn
kind_step site (StmtKind-F.Return value) = behind (returning site value) (maybe all_accesses value) nothing
kind_step site (StmtKind-F.Print value) = behind (expression_tested site value) (all_accesses value) nothing
kind_step site (StmtKind-F.Run expr) = behind (expression_tested site expr) (all_accesses expr) nothing
kind_step site _ = untested [] nothing

abbrev pub stmt_step : Stmt-F Outline Outline → Outline
stmt_step statement = statement.kind

abbrev pub outline : Site → Stmt → Outline
outline site = fold-Stmt Outline Outline (kind_step site) stmt_step

-- a list of statements
abbrev pub outlines : Site → List Stmt → Outline
outlines site statements = joined (map (outline site) statements)
