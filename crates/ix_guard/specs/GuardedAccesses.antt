-- Which accesses of a source are guarded: those before which their test, or that of another access on the same variables, is made.
use Rattle.std.specs.Prelude.{List, [], ◌++◌, map, filter, flat_map, Option, Some, None}
use Rattle.ix_tree.specs.declared.decl.ClassDecl.{ClassDecl}
use Rattle.ix_tree.specs.declared.decl.LocalDecl.{LocalDecl}
use Rattle.ix_tree.specs.declared.decl.Member.{Member}
use Rattle.ix_tree.specs.declared.decl.Member.TheVariants.{Field, Method}
use Rattle.ix_tree.specs.declared.decl.Unit.{Unit as Source}
use Rattle.ix_tree.specs.declared.expr.Expr.{Expr}
use Rattle.ix_tree.specs.declared.stmt.Stmt.{Stmt, fold-Stmt}
use Rattle.ix_tree.specs.declared.stmt.StmtKind.{StmtKind-F}
use Rattle.ix_core.specs.declared.error.Error.{Error}
use Rattle.ix_meaning.specs.Resolved.{Names}
use Rattle.ix_guard.specs.Accesses.{Access, Parts, parts_of, all_decl_parts}
use Rattle.ix_guard.specs.Tests.{Site, Changes, is_guarded}

-- ---- the accesses of a statement's own expressions

-- what a statement changes that has these parts and declares these locals
abbrev pub changing : Site → List LocalDecl → Parts → Changes
changing site declared parts = record { assigned = map site.names.meaning parts.assigned; declared = declared }

-- Of the accesses in it each that is guarded, also where two are on the same variables, for which one test is made.
abbrev pub guarded_of : Site → List LocalDecl → Parts → List Access
guarded_of site declared parts = filter (is_guarded site (changing site declared parts)) parts.accesses

abbrev pub in_expression : Site → Expr → List Access
in_expression site expr = guarded_of site [] (parts_of expr)

abbrev pub in_declaration : Site → List LocalDecl → List Access
in_declaration site decls = guarded_of site decls (all_decl_parts decls)

abbrev pub in_value : Site → Option Expr → List Access
in_value site None = []
in_value site (Some value) = in_expression site value

-- ---- statements

abbrev pub in_each : List (List Access) → List Access
in_each accesses = flat_map (λ part. part) accesses

abbrev pub in_maybe : Option (List Access) → List Access
in_maybe None = []
in_maybe (Some accesses) = accesses

-- Nothing is tested before the condition of a loop, and nothing before the head of a `for` or its update. So of declarations those in a list of statements count.
abbrev pub kind_step : Site → StmtKind-F (List Access) (List Access) → List Access
kind_step site (StmtKind-F.Block statements) = in_each statements
kind_step site (StmtKind-F.Local decls) = in_declaration site decls
kind_step site (StmtKind-F.If condition first second) = in_expression site condition ++ (first ++ in_maybe second)
kind_step site (StmtKind-F.While condition body) = body
kind_step site (StmtKind-F.Do body condition) = body
kind_step site (StmtKind-F.For first condition update body) = body
kind_step site (StmtKind-F.Return value) = in_value site value
kind_step site (StmtKind-F.Print value) = in_expression site value
kind_step site (StmtKind-F.Run expr) = in_expression site expr
kind_step site _ = []

abbrev pub in_statement : Site → Stmt → List Access
in_statement site = fold-Stmt (List Access) (List Access) (kind_step site) (λ statement. statement.kind)

-- ---- whole sources: the bodies of methods and constructors

abbrev pub in_body : Site → List Stmt → List Access
in_body site statements = flat_map (in_statement site) statements

abbrev pub in_member : Site → Member → List Access
in_member site (Field decl) = []
in_member site (Method method) = in_body site method.body

abbrev pub in_class : Site → ClassDecl → List Access
in_class site class = flat_map (in_member site) class.members

-- The guarded accesses of a source with these meanings of its names and these errors, in the order of the text.
abbrev pub guarded_accesses : Source → Names → List Error → List Access
guarded_accesses unit names errors = flat_map (in_class record { names = names; errors = errors }) unit.classes
