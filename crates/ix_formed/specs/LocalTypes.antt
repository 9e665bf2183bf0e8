-- The types of the locals that a body declares, by the table, in the order in which they are made.
use Rattle.std.specs.Prelude.{List, [], ◌∷◌, ◌++◌, map, Some, None}
use Rattle.ix_core.specs.declared.claim.Type_.{Type_}
use Rattle.ix_tree.specs.declared.decl.LocalDecl.{LocalDecl}
use Rattle.ix_tree.specs.declared.stmt.Stmt.{Stmt, fold-Stmt}
use Rattle.ix_tree.specs.declared.stmt.StmtKind.{StmtKind-F}
use Rattle.ix_meaning.specs.Resolved.{Names}
use Rattle.ix_plain.specs.Scope.{declared_type}

abbrev pub joined : List (List Type_) → List Type_
joined [] = []
joined (own ∷ owns) = own ++ joined owns

abbrev pub decl_types : Names → List LocalDecl → List Type_
decl_types names ds = map (λ (d : LocalDecl). declared_type (names.declared d.name.span)) ds

abbrev pub types_step : Names → StmtKind-F (List Type_) (List Type_) → List Type_
types_step names (StmtKind-F.Block body) = joined body
types_step names (StmtKind-F.Local ds) = decl_types names ds
types_step names (StmtKind-F.If condition first None) = first
types_step names (StmtKind-F.If condition first (Some second)) = first ++ second
types_step names (StmtKind-F.While condition turn) = turn
types_step names (StmtKind-F.Do turn condition) = turn
types_step names (StmtKind-F.For first condition update turn) = joined first ++ turn
types_step names _ = []

abbrev pub stmt_types : Names → Stmt → List Type_
stmt_types names = fold-Stmt (List Type_) (List Type_) (types_step names) (λ stmt. stmt.kind)

-- of a whole body
abbrev pub local_types : Names → List Stmt → List Type_
local_types names body = joined (map (stmt_types names) body)
