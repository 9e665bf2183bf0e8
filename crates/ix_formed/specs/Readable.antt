-- What the grammar gives of every tree besides: what is assigned is a name, a selection or an element, and a declaration is no part of another statement by itself.
use Rattle.std.specs.Prelude.{Bool, true, false, ◌&&◌, not, List, [], ◌∷◌, Option, Some, None}
use Rattle.ix_tree.specs.declared.decl.ClassDecl.{ClassDecl}
use Rattle.ix_tree.specs.declared.decl.LocalDecl.{LocalDecl}
use Rattle.ix_tree.specs.declared.decl.Member.{Member}
use Rattle.ix_tree.specs.declared.decl.Member.TheVariants as member
use Rattle.ix_tree.specs.declared.decl.MethodDecl.{MethodDecl}
use Rattle.ix_tree.specs.declared.expr.Expr.{Expr, Expr-F, fold-Expr}
use Rattle.ix_tree.specs.declared.expr.ExprKind.{ExprKind-F}
use Rattle.ix_tree.specs.declared.expr.Init.{Init, Init-F, fold-Init}
use Rattle.ix_tree.specs.declared.stmt.Stmt.{Stmt, fold-Stmt}
use Rattle.ix_tree.specs.declared.stmt.StmtKind.{StmtKind-F}
use Rattle.ix_formed.specs.Written.{all_true, each_true, maybe_true}

-- whether all in an expression is read so, and whether it may be assigned
pub record Shape : Type 0 where
  pub fine : Bool
  pub place : Bool

abbrev pub all_fine : List Shape → Bool
all_fine [] = true
all_fine (first ∷ rest) = first.fine && all_fine rest

abbrev pub or_fine : Option Shape → Bool
or_fine None = true
or_fine (Some part) = part.fine

abbrev pub a_value : Bool → Shape
a_value fine = record { fine = fine; place = false }

abbrev pub a_place : Bool → Shape
a_place fine = record { fine = fine; place = true }

abbrev pub kind_step : ExprKind-F Shape Bool Shape → Shape
kind_step (ExprKind-F.Name name) = a_place true
kind_step (ExprKind-F.Select object name) = a_place object.fine
kind_step (ExprKind-F.Index array index) = a_place (array.fine && index.fine)
kind_step (ExprKind-F.Call object name args) = a_value (or_fine object && all_fine args)
kind_step (ExprKind-F.New name args) = a_value (all_fine args)
kind_step (ExprKind-F.NewArray ty size) = a_value size.fine
kind_step (ExprKind-F.NewItems ty items) = a_value (all_true items)
kind_step (ExprKind-F.Unary op operand) = a_value operand.fine
kind_step (ExprKind-F.Binary op left right) = a_value (left.fine && right.fine)
kind_step (ExprKind-F.Assign op target value) = a_value (target.place && (target.fine && value.fine))
kind_step (ExprKind-F.Step up after target) = a_value (target.place && target.fine)
kind_step _ = a_value true

abbrev pub init_step : Init-F Shape Bool Shape → Bool
init_step (Init-F.Value expr) = expr.fine
init_step (Init-F.Items items span) = all_true items

abbrev pub expr_step : Expr-F Shape Bool Shape → Shape
expr_step expr = expr.kind

abbrev pub shape : Expr → Shape
shape = fold-Expr Shape Bool Shape kind_step init_step expr_step

abbrev pub is_readable_init : Init → Bool
is_readable_init = fold-Init Shape Bool Shape kind_step init_step expr_step

abbrev pub is_readable_expr : Expr → Bool
is_readable_expr expr = (shape expr).fine

abbrev pub is_readable_decl : LocalDecl → Bool
is_readable_decl decl = maybe_true is_readable_init decl.init

-- ---- statements

-- whether all in a statement is read so, and whether it declares locals of the block that it stands in
pub record Statement : Type 0 where
  pub fine : Bool
  pub declares : Bool

abbrev pub each_fine : List Statement → Bool
each_fine [] = true
each_fine (first ∷ rest) = first.fine && each_fine rest

-- a part of another statement
abbrev pub is_part : Statement → Bool
is_part part = not part.declares && part.fine

abbrev pub or_part : Option Statement → Bool
or_part None = true
or_part (Some part) = is_part part

abbrev pub stmt_kind_step : StmtKind-F Statement Statement → Statement
stmt_kind_step (StmtKind-F.Block body) = record { fine = each_fine body; declares = false }
stmt_kind_step (StmtKind-F.Local decls) = record { fine = each_true is_readable_decl decls; declares = true }
stmt_kind_step (StmtKind-F.If condition first second) = record { fine = is_readable_expr condition && (is_part first && or_part second); declares = false }
stmt_kind_step (StmtKind-F.While condition body) = record { fine = is_readable_expr condition && is_part body; declares = false }
stmt_kind_step (StmtKind-F.Do body condition) = record { fine = is_part body && is_readable_expr condition; declares = false }
stmt_kind_step (StmtKind-F.For first condition update body) = record {
  fine = each_fine first && (maybe_true is_readable_expr condition && (each_true is_readable_expr update && is_part body));
  declares = false;
}
stmt_kind_step (StmtKind-F.Return value) = record { fine = maybe_true is_readable_expr value; declares = false }
stmt_kind_step (StmtKind-F.Print value) = record { fine = is_readable_expr value; declares = false }
stmt_kind_step (StmtKind-F.Run expr) = record { fine = is_readable_expr expr; declares = false }
stmt_kind_step _ = record { fine = true; declares = false }

abbrev pub stmt_shape : Stmt → Statement
stmt_shape = fold-Stmt Statement Statement stmt_kind_step (λ stmt. stmt.kind)

abbrev pub is_readable_stmt : Stmt → Bool
is_readable_stmt stmt = (stmt_shape stmt).fine

abbrev pub is_readable_method : MethodDecl → Bool
is_readable_method method = maybe_true (each_true is_readable_expr) method.parent_args && each_true is_readable_stmt method.body

abbrev pub is_readable_member : Member → Bool
is_readable_member (member.Field decl) = is_readable_decl decl
is_readable_member (member.Method method) = is_readable_method method

abbrev pub is_readable : List ClassDecl → Bool
is_readable decls = each_true (λ (decl : ClassDecl). each_true is_readable_member decl.members) decls
