-- What is counted of a source and of its plain form.
use Rattle.std.specs.Prelude.{ℕ, ◌+◌, if◌then◌else◌, List, [], ◌∷◌, map, nat_lt, Option, Some, None}
use Rattle.ix_core.specs.declared.code.Block.{Block, Block-F, fold-Block}
use Rattle.ix_core.specs.declared.code.Cond.{Cond, Cond-F, fold-Cond}
use Rattle.ix_core.specs.declared.code.Item.{Item, Item-F, fold-Item}
use Rattle.ix_tree.specs.declared.decl.ClassDecl.{ClassDecl}
use Rattle.ix_tree.specs.declared.decl.LocalDecl.{LocalDecl}
use Rattle.ix_tree.specs.declared.decl.Member.{Member}
use Rattle.ix_tree.specs.declared.decl.Member.TheVariants as member
use Rattle.ix_tree.specs.declared.decl.MethodDecl.{MethodDecl}
use Rattle.ix_tree.specs.declared.expr.Expr.{Expr, Expr-F, fold-Expr}
use Rattle.ix_tree.specs.declared.expr.ExprKind.{ExprKind-F}
use Rattle.ix_tree.specs.declared.expr.Init.{Init, Init-F, fold-Init}
use Rattle.ix_tree.specs.declared.stmt.Stmt.{Stmt, Stmt-F, fold-Stmt}
use Rattle.ix_tree.specs.declared.stmt.StmtKind.{StmtKind-F}

-- so many were counted before, and so many are behind
abbrev pub Count : Type 0
Count = ℕ → ℕ

-- No count goes past this number, which is past every limit.
abbrev pub most_counted : ℕ
most_counted = 4294967295

abbrev pub one : Count
one count = if nat_lt count most_counted then count + 1 else count

abbrev pub none : Count
none count = count

abbrev pub both : Count → Count → Count
both first second count = second (first count)

abbrev pub all : List Count → Count
all [] = none
all (first ∷ rest) = both first (all rest)

abbrev pub maybe : Option Count → Count
maybe None = none
maybe (Some count) = count

-- ---- the loops of a body

abbrev pub loop_kind_step : StmtKind-F Count Count → Count
loop_kind_step (StmtKind-F.Block statements) = all statements
loop_kind_step (StmtKind-F.If condition first second) = both first (maybe second)
loop_kind_step (StmtKind-F.While condition turn) = both one turn
loop_kind_step (StmtKind-F.Do turn condition) = both one turn
loop_kind_step (StmtKind-F.For first condition update turn) = both (all first) (both one turn)
loop_kind_step _ = none

abbrev pub loop_step : Stmt-F Count Count → Count
loop_step statement = statement.kind

abbrev pub loops_in : Stmt → Count
loops_in = fold-Stmt Count Count loop_kind_step loop_step

abbrev pub loops : List Stmt → Count
loops statements = all (map loops_in statements)

-- ---- the operations of a block, at any depth

abbrev pub cond_operations : Cond-F Count Count Count → Count
cond_operations (Cond-F.Known answer) = none
cond_operations (Cond-F.Compare block test) = block
cond_operations (Cond-F.Truth block slot) = block
cond_operations (Cond-F.Both first second) = both first second
cond_operations (Cond-F.Either first second) = both first second
cond_operations (Cond-F.Opposite asked) = asked

abbrev pub item_operations : Item-F Count Count Count → Count
item_operations (Item-F.Do done) = one
item_operations (Item-F.If asked first second) = both asked (both first second)
item_operations (Item-F.Loop test_first asked body next number scope) = both asked (both body next)
item_operations _ = none

abbrev pub block_operations : Block-F Count Count Count → Count
block_operations block = all block.items

abbrev pub operations : Block → Count
operations = fold-Block Count Count Count cond_operations item_operations block_operations

abbrev pub operations_of_item : Item → Count
operations_of_item = fold-Item Count Count Count cond_operations item_operations block_operations

abbrev pub operations_of_cond : Cond → Count
operations_of_cond = fold-Cond Count Count Count cond_operations item_operations block_operations

-- ---- the array accesses that a source has

abbrev pub access_kind_step : ExprKind-F Count Count Count → Count
access_kind_step (ExprKind-F.Select object name) = object
access_kind_step (ExprKind-F.Index array index) = both one (both array index)
access_kind_step (ExprKind-F.Call object name args) = both (maybe object) (all args)
access_kind_step (ExprKind-F.New name args) = all args
access_kind_step (ExprKind-F.NewArray ty size) = size
access_kind_step (ExprKind-F.NewItems ty items) = all items
access_kind_step (ExprKind-F.Unary operator operand) = operand
access_kind_step (ExprKind-F.Binary operator left right) = both left right
access_kind_step (ExprKind-F.Assign operator target value) = both target value
access_kind_step (ExprKind-F.Step up after target) = target
access_kind_step _ = none

abbrev pub access_init_step : Init-F Count Count Count → Count
access_init_step (Init-F.Value expr) = expr
access_init_step (Init-F.Items items span) = all items

abbrev pub access_expr_step : Expr-F Count Count Count → Count
access_expr_step expr = expr.kind

abbrev pub expr_accesses : Expr → Count
expr_accesses = fold-Expr Count Count Count access_kind_step access_init_step access_expr_step

abbrev pub init_accesses : Init → Count
init_accesses = fold-Init Count Count Count access_kind_step access_init_step access_expr_step

abbrev pub maybe_of : {A : Type 0} → (A → Count) → Option A → Count
maybe_of counted None = none
maybe_of counted (Some part) = counted part

abbrev pub all_of : {A : Type 0} → (A → Count) → List A → Count
all_of counted parts = all (map counted parts)

abbrev pub decl_accesses : LocalDecl → Count
decl_accesses decl = maybe_of init_accesses decl.init

abbrev pub stmt_kind_accesses : StmtKind-F Count Count → Count
stmt_kind_accesses (StmtKind-F.Block statements) = all statements
stmt_kind_accesses (StmtKind-F.Local decls) = all_of decl_accesses decls
stmt_kind_accesses (StmtKind-F.If condition first second) = both (expr_accesses condition) (both first (maybe second))
stmt_kind_accesses (StmtKind-F.While condition turn) = both (expr_accesses condition) turn
stmt_kind_accesses (StmtKind-F.Do turn condition) = both turn (expr_accesses condition)
stmt_kind_accesses (StmtKind-F.For first condition update turn) = both (all first) (both (maybe_of expr_accesses condition) (both (all_of expr_accesses update) turn))
stmt_kind_accesses (StmtKind-F.Return value) = maybe_of expr_accesses value
stmt_kind_accesses (StmtKind-F.Print value) = expr_accesses value
stmt_kind_accesses (StmtKind-F.Run expr) = expr_accesses expr
stmt_kind_accesses _ = none

abbrev pub stmt_step_accesses : Stmt-F Count Count → Count
stmt_step_accesses statement = statement.kind

abbrev pub stmt_accesses : Stmt → Count
stmt_accesses = fold-Stmt Count Count stmt_kind_accesses stmt_step_accesses

abbrev pub exprs_accesses : List Expr → Count
exprs_accesses exprs = all_of expr_accesses exprs

abbrev pub method_accesses : MethodDecl → Count
method_accesses method = both (maybe_of exprs_accesses method.parent_args) (all_of stmt_accesses method.body)

abbrev pub member_accesses : Member → Count
member_accesses (member.Field decl) = decl_accesses decl
member_accesses (member.Method method) = method_accesses method

abbrev pub class_accesses : ClassDecl → Count
class_accesses class = all_of member_accesses class.members

abbrev pub accesses : List ClassDecl → Count
accesses classes = all_of class_accesses classes
