-- What stands in each form of statement, as it is written.
use Rattle.std.proofs.Common.{◌≡◌, List, [], ◌∷◌, ◌++◌, map, Option, Some, None, sym, ap, ◌∙◌}
use Rattle.ix_text.specs.declared.span.Span.{Span}
use Rattle.ix_tree.specs.declared.annot.Ident.{Ident}
use Rattle.ix_tree.specs.declared.decl.LocalDecl.{LocalDecl}
use Rattle.ix_tree.specs.declared.expr.Expr.{Expr}
use Rattle.ix_tree.specs.declared.stmt.Stmt.{Stmt, fold-roll-Stmt}
use Rattle.ix_tree.specs.declared.stmt.StmtKind.{StmtKind, StmtKind-F, fold-StmtKind, fold-roll-StmtKind}
use Rattle.ix_tree.specs.declared.stmt.StmtKind.TheVariants.{rolls-Block, rolls-Empty, rolls-Local, rolls-If, rolls-While, rolls-Do, rolls-For, rolls-Break, rolls-Continue, rolls-Return, rolls-Throw, rolls-Print, rolls-Run}
use Rattle.ix_tree.specs.declared.stmt.StmtKind.TheVariants as s
use Rattle.ix_tree.specs.Placed.{Layout, piece, maybe, name_piece, expr_piece, locals_pieces, stmt_kind_pieces, stmt_of, stmt_piece}

abbrev pub stmt_kind_row : StmtKind → List Layout
stmt_kind_row = fold-StmtKind (List Layout) Layout stmt_kind_pieces stmt_of

pub stmt_is : (k : StmtKind) (span : Span) → stmt_piece (record { kind = k; span = span }) ≡ piece span (stmt_kind_row k)
stmt_is k span = fold-roll-Stmt (List Layout) Layout stmt_kind_pieces stmt_of (record { kind = k; span = span })

pub block_kind : (body : List Stmt) → stmt_kind_row (s.Block body) ≡ map stmt_piece body
block_kind body = ap stmt_kind_row (sym (rolls-Block body)) ∙ fold-roll-StmtKind (List Layout) Layout stmt_kind_pieces stmt_of (StmtKind-F.Block body)

pub empty_kind : stmt_kind_row s.Empty ≡ []
empty_kind = ap stmt_kind_row (sym rolls-Empty) ∙ fold-roll-StmtKind (List Layout) Layout stmt_kind_pieces stmt_of (StmtKind-F.Empty)

pub local_kind : (decls : List LocalDecl) → stmt_kind_row (s.Local decls) ≡ locals_pieces decls
local_kind decls = ap stmt_kind_row (sym (rolls-Local decls)) ∙ fold-roll-StmtKind (List Layout) Layout stmt_kind_pieces stmt_of (StmtKind-F.Local decls)

pub if_kind : (f : Expr) (t : Stmt) → stmt_kind_row (s.If f t None) ≡ expr_piece f ∷ stmt_piece t ∷ []
if_kind f t = ap stmt_kind_row (sym (rolls-If f t None)) ∙ fold-roll-StmtKind (List Layout) Layout stmt_kind_pieces stmt_of (StmtKind-F.If f t None)

pub if_else_kind : (f : Expr) (t u : Stmt) → stmt_kind_row (s.If f t (Some u)) ≡ expr_piece f ∷ stmt_piece t ∷ stmt_piece u ∷ []
if_else_kind f t u = ap stmt_kind_row (sym (rolls-If f t (Some u))) ∙ fold-roll-StmtKind (List Layout) Layout stmt_kind_pieces stmt_of (StmtKind-F.If f t (Some u))

pub while_kind : (f : Expr) (t : Stmt) → stmt_kind_row (s.While f t) ≡ expr_piece f ∷ stmt_piece t ∷ []
while_kind f t = ap stmt_kind_row (sym (rolls-While f t)) ∙ fold-roll-StmtKind (List Layout) Layout stmt_kind_pieces stmt_of (StmtKind-F.While f t)

pub do_kind : (t : Stmt) (f : Expr) → stmt_kind_row (s.Do t f) ≡ stmt_piece t ∷ expr_piece f ∷ []
do_kind t f = ap stmt_kind_row (sym (rolls-Do t f)) ∙ fold-roll-StmtKind (List Layout) Layout stmt_kind_pieces stmt_of (StmtKind-F.Do t f)

pub for_kind : (first : List Stmt) (cond : Option Expr) (update : List Expr) (t : Stmt) → stmt_kind_row (s.For first cond update t) ≡ map stmt_piece first ++ (maybe expr_piece cond ++ (map expr_piece update ++ stmt_piece t ∷ []))
for_kind first cond update t = ap stmt_kind_row (sym (rolls-For first cond update t)) ∙ fold-roll-StmtKind (List Layout) Layout stmt_kind_pieces stmt_of (StmtKind-F.For first cond update t)

pub break_kind : stmt_kind_row s.Break ≡ []
break_kind = ap stmt_kind_row (sym rolls-Break) ∙ fold-roll-StmtKind (List Layout) Layout stmt_kind_pieces stmt_of (StmtKind-F.Break)

pub continue_kind : stmt_kind_row s.Continue ≡ []
continue_kind = ap stmt_kind_row (sym rolls-Continue) ∙ fold-roll-StmtKind (List Layout) Layout stmt_kind_pieces stmt_of (StmtKind-F.Continue)

pub return_kind : (value : Option Expr) → stmt_kind_row (s.Return value) ≡ maybe expr_piece value
return_kind value = ap stmt_kind_row (sym (rolls-Return value)) ∙ fold-roll-StmtKind (List Layout) Layout stmt_kind_pieces stmt_of (StmtKind-F.Return value)

pub throw_kind : (x : Ident) → stmt_kind_row (s.Throw x) ≡ name_piece x ∷ []
throw_kind x = ap stmt_kind_row (sym (rolls-Throw x)) ∙ fold-roll-StmtKind (List Layout) Layout stmt_kind_pieces stmt_of (StmtKind-F.Throw x)

pub print_kind : (f : Expr) → stmt_kind_row (s.Print f) ≡ expr_piece f ∷ []
print_kind f = ap stmt_kind_row (sym (rolls-Print f)) ∙ fold-roll-StmtKind (List Layout) Layout stmt_kind_pieces stmt_of (StmtKind-F.Print f)

pub run_kind : (f : Expr) → stmt_kind_row (s.Run f) ≡ expr_piece f ∷ []
run_kind f = ap stmt_kind_row (sym (rolls-Run f)) ∙ fold-roll-StmtKind (List Layout) Layout stmt_kind_pieces stmt_of (StmtKind-F.Run f)
