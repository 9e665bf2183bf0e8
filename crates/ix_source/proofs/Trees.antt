-- Trees of sources with what they mean beside them, built form by form: so the runs of closed trees compute.
use Rattle.std.proofs.Common.{◌≡◌, ℕ, ◌+◌, ℤ, Bool, true, false, List, [], ◌∷◌, ◌++◌, map, Option, Some, None, option_map, refl, ap, ◌∙◌}
use Rattle.std.specs.Prelude.{if◌then◌else◌, ◌&&◌, ◌==◌}
use Rattle.ix_text.specs.declared.span.Span.{Span}
use Rattle.ix_num.specs.declared.arith.Arith.{Arith}
use Rattle.ix_core.specs.Heap.{Held, default_of}
use Rattle.ix_core.specs.Machine.{Ending}
use Rattle.ix_core.specs.Safe.{Input}
use Rattle.ix_core.specs.Traces.{Observation}
use Rattle.ix_tree.specs.declared.annot.BaseTree.{BaseTree}
use Rattle.ix_tree.specs.declared.annot.Ident.{Ident}
use Rattle.ix_tree.specs.declared.annot.Mods.{Mods}
use Rattle.ix_tree.specs.declared.annot.TypeTree.{TypeTree}
use Rattle.ix_tree.specs.declared.decl.ClassDecl.{ClassDecl}
use Rattle.ix_tree.specs.declared.decl.LocalDecl.{LocalDecl}
use Rattle.ix_tree.specs.declared.decl.Member.{Member}
use Rattle.ix_tree.specs.declared.decl.Member.TheVariants as member
use Rattle.ix_tree.specs.declared.decl.MethodDecl.{MethodDecl}
use Rattle.ix_tree.specs.declared.expr.BinaryOp.{BinaryOp}
use Rattle.ix_tree.specs.declared.expr.UnaryOp.{UnaryOp}
use Rattle.ix_tree.specs.declared.expr.Expr.{Expr}
use Rattle.ix_tree.specs.declared.expr.ExprKind.{ExprKind-F}
use Rattle.ix_tree.specs.declared.expr.ExprKind.TheVariants as e
use Rattle.ix_tree.specs.declared.expr.Init.{Init, Init-F}
use Rattle.ix_tree.specs.declared.expr.Init.TheVariants as i
use Rattle.ix_tree.specs.declared.stmt.Stmt.{Stmt}
use Rattle.ix_tree.specs.declared.stmt.StmtKind.{StmtKind-F}
use Rattle.ix_tree.specs.declared.stmt.StmtKind.TheVariants as s
use Rattle.ix_meaning.specs.declared.note.Declared.{Declared}
use Rattle.ix_meaning.specs.declared.note.Meaning.{Meaning}
use Rattle.ix_meaning.specs.declared.note.Meaning.TheVariants.{Local}
use Rattle.ix_meaning.specs.Members.{world, methods, next_field, next_fields}
use Rattle.ix_meaning.specs.Resolved.{Names}
use Rattle.ix_core.specs.declared.claim.Type_.{Type_}
use Rattle.ix_source.specs.Runs.{Action, ◌>>=◌, gives}
use Rattle.ix_source.specs.Context.{Context, declared_at}
use Rattle.ix_source.specs.Values.{Evaluation, Initial, kind_step, init_step, evaluation, initial, assign, without_value}
use Rattle.ix_source.specs.Statements as statements
use Rattle.ix_source.specs.Statements.{Normal, Returns, Execution, behind, each, all_declare, normally, initially, declaration, declarations, count, all_ran, chosen, tested_first, tested_last, condition_of, declaring, plain, printed, execution}
use Rattle.ix_source.specs.Bodies.{Written, Field as InstanceField, Class, Whole, or_none, written_as, written, written_in, written_from, with_field, fields_in, constructor_in, classes_from, whole}
use Rattle.ix_source.specs.Source.{Shown, run_of}
use Rattle.ix_source.proofs.Equations as fold

abbrev pub at : ℕ → ℕ → Span
at from to = record { from = from; to = to }

abbrev pub named : List ℕ → ℕ → ℕ → Ident
named text from to = record { text = text; span = at from to }

abbrev pub mods : Bool → Bool → Bool → Mods
mods is_static is_final is_private = record { is_static = is_static; is_final = is_final; is_private = is_private; annots = [] }

abbrev pub type : BaseTree → ℕ → Span → TypeTree
type base depth span = record { base = base; annots = []; depth = depth; span = span }

-- ---- expressions and initialisers

pub record ExprNode : Type 0 where
  pub tree : Expr
  pub means : Evaluation
  pub is : evaluation tree ≡ means

pub record InitNode : Type 0 where
  pub tree : Init
  pub means : Initial
  pub is : initial tree ≡ means

abbrev pub trees : List ExprNode → List Expr
trees = map (λ n. n.tree)

abbrev pub mean : List ExprNode → List Evaluation
mean = map (λ n. n.means)

pub all_are : (nodes : List ExprNode) → map evaluation (trees nodes) ≡ mean nodes
all_are [] = refl
all_are (node ∷ nodes) = ap (λ m. m ∷ map evaluation (trees nodes)) node.is ∙ ap (λ rest. node.means ∷ rest) (all_are nodes)

abbrev pub init_trees : List InitNode → List Init
init_trees = map (λ n. n.tree)

abbrev pub init_means : List InitNode → List Initial
init_means = map (λ n. n.means)

pub inits_are : (nodes : List InitNode) → map initial (init_trees nodes) ≡ init_means nodes
inits_are [] = refl
inits_are (node ∷ nodes) = ap (λ m. m ∷ map initial (init_trees nodes)) node.is ∙ ap (λ rest. node.means ∷ rest) (inits_are nodes)

abbrev pub at_span : Span → Evaluation → Evaluation
at_span p m = record m { span = p }

abbrev pub int : ℤ → Span → ExprNode
int n p = record { tree = record { kind = e.Int n; span = p }; means = at_span p (kind_step (ExprKind-F.Int n) p); is = fold.expr_is (e.Int n) p ∙ ap (at_span p) (fold.int_kind n p) }

abbrev pub bool : Bool → Span → ExprNode
bool b p = record { tree = record { kind = e.Bool b; span = p }; means = at_span p (kind_step (ExprKind-F.Bool b) p); is = fold.expr_is (e.Bool b) p ∙ ap (at_span p) (fold.bool_kind b p) }

abbrev pub null : Span → ExprNode
null p = record { tree = record { kind = e.Null; span = p }; means = at_span p (kind_step ExprKind-F.Null p); is = fold.expr_is e.Null p ∙ ap (at_span p) (fold.null_kind p) }

abbrev pub this : Span → ExprNode
this p = record { tree = record { kind = e.This; span = p }; means = at_span p (kind_step ExprKind-F.This p); is = fold.expr_is e.This p ∙ ap (at_span p) (fold.this_kind p) }

abbrev pub name : Ident → Span → ExprNode
name x p = record { tree = record { kind = e.Name x; span = p }; means = at_span p (kind_step (ExprKind-F.Name x) p); is = fold.expr_is (e.Name x) p ∙ ap (at_span p) (fold.name_kind x p) }

abbrev pub select : ExprNode → Ident → Span → ExprNode
select f x p = record {
  tree = record { kind = e.Select f.tree x; span = p };
  means = at_span p (kind_step (ExprKind-F.Select f.means x) p);
  is = fold.expr_is (e.Select f.tree x) p ∙ ap (at_span p) (fold.select_kind f.tree x p ∙ ap (λ m. kind_step (ExprKind-F.Select m x) p) f.is);
}

abbrev pub element : ExprNode → ExprNode → Span → ExprNode
element f g p = record {
  tree = record { kind = e.Index f.tree g.tree; span = p };
  means = at_span p (kind_step (ExprKind-F.Index f.means g.means) p);
  is = fold.expr_is (e.Index f.tree g.tree) p ∙ ap (at_span p) (fold.index_kind f.tree g.tree p
      ∙ ap (λ m. kind_step (ExprKind-F.Index m (evaluation g.tree)) p) f.is ∙ ap (λ m. kind_step (ExprKind-F.Index f.means m) p) g.is);
}

abbrev pub call : Ident → List ExprNode → Span → ExprNode
call x args p = record {
  tree = record { kind = e.Call None x (trees args); span = p };
  means = at_span p (kind_step (ExprKind-F.Call None x (mean args)) p);
  is = fold.expr_is (e.Call None x (trees args)) p ∙ ap (at_span p) (fold.call_kind x (trees args) p ∙ ap (λ m. kind_step (ExprKind-F.Call None x m) p) (all_are args));
}

abbrev pub call_on : ExprNode → Ident → List ExprNode → Span → ExprNode
call_on f x args p = record {
  tree = record { kind = e.Call (Some f.tree) x (trees args); span = p };
  means = at_span p (kind_step (ExprKind-F.Call (Some f.means) x (mean args)) p);
  is = fold.expr_is (e.Call (Some f.tree) x (trees args)) p ∙ ap (at_span p) (fold.call_on_kind f.tree x (trees args) p
      ∙ ap (λ m. kind_step (ExprKind-F.Call (Some m) x (map evaluation (trees args))) p) f.is ∙ ap (λ m. kind_step (ExprKind-F.Call (Some f.means) x m) p) (all_are args));
}

abbrev pub new : Ident → List ExprNode → Span → ExprNode
new x args p = record {
  tree = record { kind = e.New x (trees args); span = p };
  means = at_span p (kind_step (ExprKind-F.New x (mean args)) p);
  is = fold.expr_is (e.New x (trees args)) p ∙ ap (at_span p) (fold.new_kind x (trees args) p ∙ ap (λ m. kind_step (ExprKind-F.New x m) p) (all_are args));
}

abbrev pub new_array : TypeTree → ExprNode → Span → ExprNode
new_array t f p = record {
  tree = record { kind = e.NewArray t f.tree; span = p };
  means = at_span p (kind_step (ExprKind-F.NewArray t f.means) p);
  is = fold.expr_is (e.NewArray t f.tree) p ∙ ap (at_span p) (fold.new_array_kind t f.tree p ∙ ap (λ m. kind_step (ExprKind-F.NewArray t m) p) f.is);
}

abbrev pub new_items : TypeTree → List InitNode → Span → ExprNode
new_items t items p = record {
  tree = record { kind = e.NewItems t (init_trees items); span = p };
  means = at_span p (kind_step (ExprKind-F.NewItems t (init_means items)) p);
  is = fold.expr_is (e.NewItems t (init_trees items)) p ∙ ap (at_span p) (fold.new_items_kind t (init_trees items) p ∙ ap (λ m. kind_step (ExprKind-F.NewItems t m) p) (inits_are items));
}

abbrev pub unary : UnaryOp → ExprNode → Span → ExprNode
unary operator f p = record {
  tree = record { kind = e.Unary operator f.tree; span = p };
  means = at_span p (kind_step (ExprKind-F.Unary operator f.means) p);
  is = fold.expr_is (e.Unary operator f.tree) p ∙ ap (at_span p) (fold.unary_kind operator f.tree p ∙ ap (λ m. kind_step (ExprKind-F.Unary operator m) p) f.is);
}

abbrev pub binary : BinaryOp → ExprNode → ExprNode → Span → ExprNode
binary operator f g p = record {
  tree = record { kind = e.Binary operator f.tree g.tree; span = p };
  means = at_span p (kind_step (ExprKind-F.Binary operator f.means g.means) p);
  is = fold.expr_is (e.Binary operator f.tree g.tree) p ∙ ap (at_span p) (fold.binary_kind operator f.tree g.tree p
      ∙ ap (λ m. kind_step (ExprKind-F.Binary operator m (evaluation g.tree)) p) f.is ∙ ap (λ m. kind_step (ExprKind-F.Binary operator f.means m) p) g.is);
}

abbrev pub assigned : Option Arith → ExprNode → ExprNode → Span → ExprNode
assigned operator f g p = record {
  tree = record { kind = e.Assign operator f.tree g.tree; span = p };
  means = at_span p (kind_step (ExprKind-F.Assign operator f.means g.means) p);
  is = fold.expr_is (e.Assign operator f.tree g.tree) p ∙ ap (at_span p) (fold.assign_kind operator f.tree g.tree p
      ∙ ap (λ m. kind_step (ExprKind-F.Assign operator m (evaluation g.tree)) p) f.is ∙ ap (λ m. kind_step (ExprKind-F.Assign operator f.means m) p) g.is);
}

abbrev pub stepped : Bool → Bool → ExprNode → Span → ExprNode
stepped up after f p = record {
  tree = record { kind = e.Step up after f.tree; span = p };
  means = at_span p (kind_step (ExprKind-F.Step up after f.means) p);
  is = fold.expr_is (e.Step up after f.tree) p ∙ ap (at_span p) (fold.step_kind up after f.tree p ∙ ap (λ m. kind_step (ExprKind-F.Step up after m) p) f.is);
}

abbrev pub value : ExprNode → InitNode
value f = record { tree = i.Value f.tree; means = init_step (Init-F.Value f.means); is = fold.value_is f.tree ∙ ap (λ m. init_step (Init-F.Value m)) f.is }

abbrev pub items : List InitNode → Span → InitNode
items nodes p = record {
  tree = i.Items (init_trees nodes) p;
  means = init_step (Init-F.Items (init_means nodes) p);
  is = fold.items_are (init_trees nodes) p ∙ ap (λ m. init_step (Init-F.Items m p)) (inits_are nodes);
}

-- ---- statements

pub record StmtNode : Type 0 where
  pub tree : Stmt
  pub means : Execution
  pub is : execution tree ≡ means

abbrev pub stmt_trees : List StmtNode → List Stmt
stmt_trees = map (λ n. n.tree)

abbrev pub stmt_means : List StmtNode → List Execution
stmt_means = map (λ n. n.means)

pub stmts_are : (nodes : List StmtNode) → map execution (stmt_trees nodes) ≡ stmt_means nodes
stmts_are [] = refl
stmts_are (node ∷ nodes) = ap (λ m. m ∷ map execution (stmt_trees nodes)) node.is ∙ ap (λ rest. node.means ∷ rest) (stmts_are nodes)

-- a variable that is declared, with its initialiser if it has one
pub record DeclNode : Type 0 where
  pub mods : Mods
  pub ty : TypeTree
  pub name : Ident
  pub init : Option InitNode

abbrev pub variable : Mods → TypeTree → Ident → Option InitNode → DeclNode
variable mods ty name init = record { mods = mods; ty = ty; name = name; init = init }

abbrev pub decl_tree : DeclNode → LocalDecl
decl_tree d = record { mods = d.mods; ty = d.ty; name = d.name; init = option_map (λ (n : InitNode). n.tree) d.init }

abbrev pub decl_init : DeclNode → Option Initial
decl_init d = option_map (λ (n : InitNode). n.means) d.init

abbrev pub initially_means : Option Initial → Context → Span → Action Held
initially_means None context name = gives (default_of (declared_at context name))
initially_means (Some init) context name = init.value context (declared_at context name)

abbrev pub declared : List DeclNode → Context → ℕ → Action (Unit {0})
declared [] context number = gives tt
declared (d ∷ ds) context number = (initially_means (decl_init d) context d.name.span >>= assign (Some (Local number))) >>= (λ done. declared ds context (number + 1))

initially_is : (init : Option InitNode) → initially (option_map (λ (n : InitNode). n.tree) init) ≡ initially_means (option_map (λ (n : InitNode). n.means) init)
initially_is None = refl
initially_is (Some node) = ap {B = Context → Span → Action Held} (λ (m : Initial) context name. m.value context (declared_at context name)) node.is

pub declared_is : (ds : List DeclNode) → declarations (map decl_tree ds) ≡ declared ds
declared_is [] = refl
declared_is (d ∷ ds) =
    ap {B = Context → ℕ → Action (Unit {0})} (λ (m : Context → Span → Action Held) context number. (m context d.name.span >>= assign (Some (Local number))) >>= (λ done. declarations (map decl_tree ds) context (number + 1))) (initially_is d.init)
    ∙ ap {B = Context → ℕ → Action (Unit {0})} (λ (rest : Context → ℕ → Action (Unit {0})) context number. (initially_means (decl_init d) context d.name.span >>= assign (Some (Local number))) >>= (λ done. rest context (number + 1))) (declared_is ds)

abbrev pub locals : List DeclNode → Span → StmtNode
locals ds p = record {
  tree = record { kind = s.Local (map decl_tree ds); span = p };
  means = declaring (count (map decl_tree ds)) (λ context number. declared ds context number >>= normally);
  is = fold.stmt_is (s.Local (map decl_tree ds)) p ∙ fold.local_kind (map decl_tree ds) p
      ∙ ap (λ (m : Context → ℕ → Action (Unit {0})). declaring (count (map decl_tree ds)) (λ context number. m context number >>= normally)) (declared_is ds);
}

abbrev pub block : List StmtNode → Span → StmtNode
block nodes p = record {
  tree = record { kind = s.Block (stmt_trees nodes); span = p };
  means = statements.kind_step (StmtKind-F.Block (stmt_means nodes)) p;
  is = fold.stmt_is (s.Block (stmt_trees nodes)) p ∙ fold.block_kind (stmt_trees nodes) p ∙ ap (λ m. statements.kind_step (StmtKind-F.Block m) p) (stmts_are nodes);
}

abbrev pub empty : Span → StmtNode
empty p = record { tree = record { kind = s.Empty; span = p }; means = statements.kind_step StmtKind-F.Empty p; is = fold.stmt_is s.Empty p ∙ fold.empty_kind p }

abbrev pub if_else_means : Evaluation → Execution → Execution → Execution
if_else_means condition first second = declaring (first.declares + second.declares)
    (λ context number. condition.holds context >>= (λ answer. chosen answer (first.run context number) (second.run context (number + first.declares))))

abbrev pub if_else : ExprNode → StmtNode → StmtNode → Span → StmtNode
if_else f t u p = record {
  tree = record { kind = s.If f.tree t.tree (Some u.tree); span = p };
  means = if_else_means f.means t.means u.means;
  is = fold.stmt_is (s.If f.tree t.tree (Some u.tree)) p ∙ fold.if_else_kind f.tree t.tree u.tree p
      ∙ ap (λ m. if_else_means m (execution t.tree) (execution u.tree)) f.is ∙ ap (λ m. if_else_means f.means m (execution u.tree)) t.is ∙ ap (λ m. if_else_means f.means t.means m) u.is;
}

abbrev pub nothing : Execution
nothing = record { declares = 0; run = λ context number. gives Normal }

abbrev pub if_only : ExprNode → StmtNode → Span → StmtNode
if_only f t p = record {
  tree = record { kind = s.If f.tree t.tree None; span = p };
  means = if_else_means f.means t.means nothing;
  is = fold.stmt_is (s.If f.tree t.tree None) p ∙ fold.if_kind f.tree t.tree p ∙ ap (λ m. if_else_means m (execution t.tree) nothing) f.is ∙ ap (λ m. if_else_means f.means m nothing) t.is;
}

abbrev pub while_means : Evaluation → Execution → Execution
while_means condition body = declaring body.declares
    (λ context number. tested_first record { condition = condition.holds context; body = body.run context number; update = gives tt } context)

abbrev pub while : ExprNode → StmtNode → Span → StmtNode
while f t p = record {
  tree = record { kind = s.While f.tree t.tree; span = p };
  means = while_means f.means t.means;
  is = fold.stmt_is (s.While f.tree t.tree) p ∙ fold.while_kind f.tree t.tree p ∙ ap (λ m. while_means m (execution t.tree)) f.is ∙ ap (while_means f.means) t.is;
}

abbrev pub do_means : Evaluation → Execution → Execution
do_means condition body = declaring body.declares
    (λ context number. tested_last record { condition = condition.holds context; body = body.run context number; update = gives tt } context)

abbrev pub do_while : StmtNode → ExprNode → Span → StmtNode
do_while t f p = record {
  tree = record { kind = s.Do t.tree f.tree; span = p };
  means = do_means f.means t.means;
  is = fold.stmt_is (s.Do t.tree f.tree) p ∙ fold.do_kind t.tree f.tree p ∙ ap (λ m. do_means m (execution t.tree)) f.is ∙ ap (do_means f.means) t.is;
}

abbrev pub holds_means : Option ExprNode → Context → Action Bool
holds_means None context = gives true
holds_means (Some f) context = f.means.holds context

pub holds_is : (f : Option ExprNode) → condition_of (option_map (λ (n : ExprNode). n.tree) f) ≡ holds_means f
holds_is None = refl
holds_is (Some f) = ap {B = Context → Action Bool} (λ (m : Evaluation) context. m.holds context) f.is

abbrev pub ran_means : List ExprNode → Context → Action (Unit {0})
ran_means [] context = gives tt
ran_means (f ∷ rest) context = (f.means.value context >>= without_value) >>= (λ done. ran_means rest context)

pub all_ran_is : (fs : List ExprNode) → all_ran (trees fs) ≡ ran_means fs
all_ran_is [] = refl
all_ran_is (f ∷ fs) =
    ap {B = Context → Action (Unit {0})} (λ (m : Evaluation) context. (m.value context >>= without_value) >>= (λ done. all_ran (trees fs) context)) f.is
    ∙ ap {B = Context → Action (Unit {0})} (λ (rest : Context → Action (Unit {0})) context. (f.means.value context >>= without_value) >>= (λ done. rest context)) (all_ran_is fs)

abbrev pub for_means : List Execution → (Context → Action Bool) → (Context → Action (Unit {0})) → Execution → Execution
for_means first condition update body = declaring (all_declare first + body.declares)
    (λ context number. each first context number >>= (λ end. behind end
    (tested_first record { condition = condition context; body = body.run context (number + all_declare first); update = update context } context)))

abbrev pub for_loop : List StmtNode → Option ExprNode → List ExprNode → StmtNode → Span → StmtNode
for_loop first f update t p =
    let fs : List Stmt = stmt_trees first in
    let c : Option Expr = option_map (λ (n : ExprNode). n.tree) f in
    record {
      tree = record { kind = s.For (stmt_trees first) (option_map (λ (n : ExprNode). n.tree) f) (trees update) t.tree; span = p };
      means = for_means (stmt_means first) (holds_means f) (ran_means update) t.means;
      is = fold.stmt_is (s.For fs c (trees update) t.tree) p ∙ fold.for_kind fs c (trees update) t.tree p
          ∙ ap (λ m. for_means m (condition_of c) (all_ran (trees update)) (execution t.tree)) (stmts_are first)
          ∙ ap (λ m. for_means (stmt_means first) m (all_ran (trees update)) (execution t.tree)) (holds_is f)
          ∙ ap (λ m. for_means (stmt_means first) (holds_means f) m (execution t.tree)) (all_ran_is update)
          ∙ ap (λ m. for_means (stmt_means first) (holds_means f) (ran_means update) m) t.is;
    }

abbrev pub break_loop : Span → StmtNode
break_loop p = record { tree = record { kind = s.Break; span = p }; means = statements.kind_step StmtKind-F.Break p; is = fold.stmt_is s.Break p ∙ fold.break_kind p }

abbrev pub continue_loop : Span → StmtNode
continue_loop p = record { tree = record { kind = s.Continue; span = p }; means = statements.kind_step StmtKind-F.Continue p; is = fold.stmt_is s.Continue p ∙ fold.continue_kind p }

abbrev pub returns : Span → StmtNode
returns p = record { tree = record { kind = s.Return None; span = p }; means = statements.kind_step (StmtKind-F.Return None) p; is = fold.stmt_is (s.Return None) p ∙ fold.return_kind None p }

abbrev pub returns_value : ExprNode → Span → StmtNode
returns_value f p = record {
  tree = record { kind = s.Return (Some f.tree); span = p };
  means = plain (λ context. f.means.value context >>= (λ value. gives (Returns (Some value))));
  is = fold.stmt_is (s.Return (Some f.tree)) p ∙ fold.return_kind (Some f.tree) p ∙ ap (λ (m : Evaluation). plain (λ context. m.value context >>= (λ value. gives (Returns (Some value))))) f.is;
}

abbrev pub throws : Ident → Span → StmtNode
throws x p = record { tree = record { kind = s.Throw x; span = p }; means = statements.kind_step (StmtKind-F.Throw x) p; is = fold.stmt_is (s.Throw x) p ∙ fold.throw_kind x p }

abbrev pub prints : ExprNode → Span → StmtNode
prints f p = record {
  tree = record { kind = s.Print f.tree; span = p };
  means = plain (λ context. f.means.value context >>= printed);
  is = fold.stmt_is (s.Print f.tree) p ∙ fold.print_kind f.tree p ∙ ap (λ (m : Evaluation). plain (λ context. m.value context >>= printed)) f.is;
}

abbrev pub runs : ExprNode → Span → StmtNode
runs f p = record {
  tree = record { kind = s.Run f.tree; span = p };
  means = plain (λ context. (f.means.value context >>= without_value) >>= normally);
  is = fold.stmt_is (s.Run f.tree) p ∙ fold.run_kind f.tree p ∙ ap (λ (m : Evaluation). plain (λ context. (m.value context >>= without_value) >>= normally)) f.is;
}

-- ---- classes

pub record MethodNode : Type 0 where
  pub mods : Mods
  pub result : Option TypeTree
  pub constructor : Bool
  pub name : Ident
  pub params : List LocalDecl
  pub parent_args : Option (List ExprNode)
  pub body : List StmtNode
  pub span : Span

abbrev pub method : Mods → Option TypeTree → Bool → Ident → List LocalDecl → Option (List ExprNode) → List StmtNode → Span → MethodNode
method mods result constructor name params parent_args body span =
    record { mods = mods; result = result; constructor = constructor; name = name; params = params; parent_args = parent_args; body = body; span = span }

abbrev pub param : Mods → TypeTree → Ident → LocalDecl
param mods ty name = record { mods = mods; ty = ty; name = name; init = None }

abbrev pub method_tree : MethodNode → MethodDecl
method_tree m = record {
  mods = m.mods;
  result = m.result;
  constructor = m.constructor;
  name = m.name;
  params = m.params;
  parent_args = option_map trees m.parent_args;
  body = stmt_trees m.body;
  span = m.span;
}

abbrev pub args_mean : Option (List ExprNode) → List Evaluation
args_mean None = []
args_mean (Some args) = mean args

args_are : (args : Option (List ExprNode)) → map evaluation (or_none (option_map trees args)) ≡ args_mean args
args_are None = refl
args_are (Some args) = all_are args

abbrev pub written_means : ℕ → MethodNode → Written
written_means class m = written_as class (method_tree m) (args_mean m.parent_args) (stmt_means m.body)

written_is : (class : ℕ) (m : MethodNode) → written class (method_tree m) ≡ written_means class m
written_is class m =
    ap (λ args. written_as class (method_tree m) args (map execution (stmt_trees m.body))) (args_are m.parent_args)
    ∙ ap (written_as class (method_tree m) (args_mean m.parent_args)) (stmts_are m.body)

pub data MemberNode : Type 0 where
  Field : DeclNode → MemberNode
  Method : MethodNode → MemberNode

abbrev pub member_tree : MemberNode → Member
member_tree (Field d) = member.Field (decl_tree d)
member_tree (Method m) = member.Method (method_tree m)

pub record ClassNode : Type 0 where
  pub name : Ident
  pub parent : Option Ident
  pub members : List MemberNode
  pub span : Span

abbrev pub class : Ident → Option Ident → List MemberNode → Span → ClassNode
class name parent members span = record { name = name; parent = parent; members = members; span = span }

abbrev pub class_tree : ClassNode → ClassDecl
class_tree c = record { name = c.name; parent = c.parent; members = map member_tree c.members; span = c.span }

abbrev pub written_in_means : ℕ → List MemberNode → List Written
written_in_means class [] = []
written_in_means class (Field d ∷ members) = written_in_means class members
written_in_means class (Method m ∷ members) = written_means class m ∷ written_in_means class members

written_in_is : (class : ℕ) (members : List MemberNode) → written_in class (map member_tree members) ≡ written_in_means class members
written_in_is class [] = refl
written_in_is class (Field d ∷ members) = written_in_is class members
written_in_is class (Method m ∷ members) =
    ap (λ w. w ∷ written_in class (map member_tree members)) (written_is class m) ∙ ap (λ rest. written_means class m ∷ rest) (written_in_is class members)

abbrev pub written_from_means : ℕ → List ClassNode → List Written
written_from_means class [] = []
written_from_means class (c ∷ cs) = (written_in_means class c.members) ++ (written_from_means (class + 1) cs)

written_from_is : (class : ℕ) (cs : List ClassNode) → written_from class (map class_tree cs) ≡ written_from_means class cs
written_from_is class [] = refl
written_from_is class (c ∷ cs) =
    ap (λ w. w ++ written_from (class + 1) (map class_tree cs)) (written_in_is class c.members)
    ∙ ap (λ w. written_in_means class c.members ++ w) (written_from_is (class + 1) cs)

abbrev pub field_means : ℕ → DeclNode → List InstanceField → List InstanceField
field_means number d rest = if d.mods.is_static then rest else record { number = number; name = d.name.span; init = decl_init d } ∷ rest

field_is : (number : ℕ) (d : DeclNode) (rest : List InstanceField) → with_field number (decl_tree d) rest ≡ field_means number d rest
field_is number d rest = ap (λ (init : Option Initial). if d.mods.is_static then rest else record { number = number; name = d.name.span; init = init } ∷ rest) (init_is d.init)
  where
    init_is : (init : Option InitNode) → option_map initial (option_map (λ (n : InitNode). n.tree) init) ≡ option_map (λ (n : InitNode). n.means) init
    init_is None = refl
    init_is (Some node) = ap Some node.is

abbrev pub fields_means : ℕ → List MemberNode → List InstanceField
fields_means number [] = []
fields_means number (Field d ∷ members) = field_means number d (fields_means (next_field number (decl_tree d)) members)
fields_means number (Method m ∷ members) = fields_means number members

fields_are : (number : ℕ) (members : List MemberNode) → fields_in number (map member_tree members) ≡ fields_means number members
fields_are number [] = refl
fields_are number (Field d ∷ members) =
    ap (with_field number (decl_tree d)) (fields_are (next_field number (decl_tree d)) members) ∙ field_is number d (fields_means (next_field number (decl_tree d)) members)
fields_are number (Method m ∷ members) = fields_are number members

abbrev pub constructor_means : ℕ → List MemberNode → Option Written
constructor_means class [] = None
constructor_means class (Field d ∷ members) = constructor_means class members
constructor_means class (Method m ∷ members) = if m.constructor then Some (written_means class m) else constructor_means class members

constructor_is : (class : ℕ) (members : List MemberNode) → constructor_in class (map member_tree members) ≡ constructor_means class members
constructor_is class [] = refl
constructor_is class (Field d ∷ members) = constructor_is class members
constructor_is class (Method m ∷ members) =
    ap (λ w. if m.constructor then Some w else constructor_in class (map member_tree members)) (written_is class m)
    ∙ ap (λ (later : Option Written). if m.constructor then Some (written_means class m) else later) (constructor_is class members)

abbrev pub classes_means : ℕ → ℕ → List ClassNode → List Class
classes_means class field [] = []
classes_means class field (c ∷ cs) =
    record { fields = fields_means field c.members; constructor = constructor_means class c.members } ∷ classes_means (class + 1) (next_fields field (map member_tree c.members)) cs

classes_are : (class field : ℕ) (cs : List ClassNode) → classes_from class field (map class_tree cs) ≡ classes_means class field cs
classes_are class field [] = refl
classes_are class field (c ∷ cs) =
    let later : List Class = classes_from (class + 1) (next_fields field (map member_tree c.members)) (map class_tree cs) in
    ap (λ (fields : List InstanceField). record { fields = fields; constructor = constructor_in class (map member_tree c.members) } ∷ later) (fields_are field c.members)
    ∙ ap (λ (constructor : Option Written). record { fields = fields_means field c.members; constructor = constructor } ∷ later) (constructor_is class c.members)
    ∙ ap (λ (rest : List Class). record { fields = fields_means field c.members; constructor = constructor_means class c.members } ∷ rest)
    (classes_are (class + 1) (next_fields field (map member_tree c.members)) cs)

-- ---- rows

abbrev pub same : Span → Span → Bool
same a b = (a.from == b.from) && (a.to == b.to)

abbrev pub found : {A : Type 0} → List (Span × A) → Span → Option A
found [] span = None
found (first ∷ rest) span = if same first.0 span then Some first.1 else found rest span

abbrev pub declared_as : Option Type_ → Option Declared
declared_as None = None
declared_as (Some ty) = Some (record { ty = ty; claims = record { list = []; effect_free = false; posts = [] } })

-- names, types and declarations by their places, as an independent implementation finds them
abbrev pub table : List (Span × Meaning) → List (Span × Type_) → List (Span × Type_) → Names
table uses types declared = record { meaning = found uses; type_of = found types; declared = λ span. declared_as (found declared span) }

-- a run: its method by number, its inputs, and how many turns and nested calls there are at most; its ending, what is seen of it, and whether a result wrapped
pub record Row : Type 0 where
  pub method : ℕ
  pub inputs : List Input
  pub most : ℕ
  pub shows : Shown

abbrev pub row : ℕ → List Input → ℕ → Option Ending → List Observation → Bool → Row
row method inputs most ending events wrapped = record { method = method; inputs = inputs; most = most; shows = record { ending = ending; events = events; wrapped = wrapped } }

-- the runs show what their rows tell
abbrev pub Rows : Names → List ClassNode → List Row → Type 0
Rows names cs rows = map (λ (r : Row). run_of (whole names (map class_tree cs)) r.method r.inputs r.most) rows ≡ map (λ (r : Row). r.shows) rows

abbrev pub meant : Names → List ClassNode → Whole
meant names cs = record {
  names = names;
  world = world (map class_tree cs);
  signatures = methods (map class_tree cs);
  methods = written_from_means 0 cs;
  classes = classes_means 0 0 cs;
}

meant_is : (names : Names) (cs : List ClassNode) → whole names (map class_tree cs) ≡ meant names cs
meant_is names cs =
    ap (λ (w : List Written). record { names = names; world = world (map class_tree cs); signatures = methods (map class_tree cs); methods = w; classes = classes_from 0 0 (map class_tree cs) }) (written_from_is 0 cs)
    ∙ ap (λ (c : List Class). record { names = names; world = world (map class_tree cs); signatures = methods (map class_tree cs); methods = written_from_means 0 cs; classes = c }) (classes_are 0 0 cs)

-- what the trees mean is computed beside them
pub by_means : (names : Names) (cs : List ClassNode) (rows : List Row) → map (λ (r : Row). run_of (meant names cs) r.method r.inputs r.most) rows ≡ map (λ (r : Row). r.shows) rows → Rows names cs rows
by_means names cs rows shows = ap (λ w. map (λ (r : Row). run_of w r.method r.inputs r.most) rows) (meant_is names cs) ∙ shows
