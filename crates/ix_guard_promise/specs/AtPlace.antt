-- The accesses in a statement, and trees without one at a place.
use Rattle.std.specs.Prelude.{◌≡◌, List, [], ◌++◌, Option, Some, None}
use Rattle.ix_text.specs.declared.span.Span.{Span}
use Rattle.ix_tree.specs.declared.stmt.Stmt.{Stmt, Stmt-F, fold-Stmt}
use Rattle.ix_tree.specs.declared.stmt.StmtKind.{StmtKind-F}
use Rattle.ix_formed.specs.Additions.{AllOf}
use Rattle.ix_guard_promise.specs.AllAccesses.{AnyAccess, all, maybe, each_of, all_accesses, decl_accesses}

-- ---- the accesses in a statement, those of its parts included

abbrev pub or_none : Option (List AnyAccess) → List AnyAccess
or_none None = []
or_none (Some part) = part

abbrev pub stmt_kind_step : StmtKind-F (List AnyAccess) (List AnyAccess) → List AnyAccess
stmt_kind_step (StmtKind-F.Block statements) = all statements
stmt_kind_step (StmtKind-F.Local decls) = each_of decl_accesses decls
stmt_kind_step (StmtKind-F.If condition first second) = all_accesses condition ++ (first ++ or_none second)
stmt_kind_step (StmtKind-F.While condition turn) = all_accesses condition ++ turn
stmt_kind_step (StmtKind-F.Do turn condition) = turn ++ all_accesses condition
stmt_kind_step (StmtKind-F.For first condition update turn) = all first ++ (maybe all_accesses condition ++ (each_of all_accesses update ++ turn))
stmt_kind_step (StmtKind-F.Return value) = maybe all_accesses value
stmt_kind_step (StmtKind-F.Print value) = all_accesses value
stmt_kind_step (StmtKind-F.Run expr) = all_accesses expr
stmt_kind_step _ = []

abbrev pub stmt_step : Stmt-F (List AnyAccess) (List AnyAccess) → List AnyAccess
stmt_step statement = statement.kind

abbrev pub stmt_accesses : Stmt → List AnyAccess
stmt_accesses = fold-Stmt (List AnyAccess) (List AnyAccess) stmt_kind_step stmt_step

-- ---- accesses at a place

abbrev pub IsOff : Span → AnyAccess → Type 0
IsOff place access = access.place ≡ place → ⊥

-- None of these accesses stands at the place.
abbrev pub HasNone : Span → List AnyAccess → Type 0
HasNone place accesses = AllOf (IsOff place) accesses
