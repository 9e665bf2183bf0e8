-- Each part of a tree is lower than its whole, so that what goes down a tree ends after at most as many steps as it is high.
use Rattle.std.proofs.Common.{◌≡◌, ◌≤◌, ◌<◌, ◌+◌, ℕ, max, Bool, List, [], ◌∷◌, Option, Some, None, Contains, ap, zero, suc, arith}
use Rattle.ix_text.specs.declared.span.Span.{Span}
use Rattle.ix_tree.specs.declared.annot.Annot.{Annot}
use Rattle.ix_tree.specs.declared.annot.AnnotArg.{AnnotArg}
use Rattle.ix_tree.specs.declared.annot.BaseTree.TheVariants.{Named}
use Rattle.ix_tree.specs.declared.annot.Ident.{Ident}
use Rattle.ix_tree.specs.declared.annot.TypeTree.{TypeTree}
use Rattle.ix_tree.specs.declared.decl.ClassDecl.{ClassDecl}
use Rattle.ix_tree.specs.declared.decl.LocalDecl.{LocalDecl}
use Rattle.ix_tree.specs.declared.decl.Member.{Member}
use Rattle.ix_tree.specs.declared.decl.MethodDecl.{MethodDecl}
use Rattle.ix_tree.specs.declared.decl.Unit.{Unit as Source}
use Rattle.ix_tree.specs.declared.expr.BinaryOp.{BinaryOp}
use Rattle.ix_tree.specs.declared.expr.Expr.{Expr}
use Rattle.ix_tree.specs.declared.expr.ExprKind.TheVariants as e
use Rattle.ix_tree.specs.declared.expr.Init.{Init}
use Rattle.ix_tree.specs.declared.expr.Init.TheVariants as i
use Rattle.ix_tree.specs.declared.expr.UnaryOp.{UnaryOp}
use Rattle.ix_tree.specs.declared.stmt.Stmt.{Stmt}
use Rattle.ix_tree.specs.declared.stmt.StmtKind.TheVariants as s
use Rattle.ix_tree.specs.Heights.{of_maybe, of_all, name_height, arg_height, annot_height, base_height, type_height, expr_height, init_height, decl_height, stmt_height, args_height, member_height, method_height, class_height, unit_height}
use Rattle.ix_tree.proofs.HeightParts.{expr_is, name_kind, select_kind, index_kind, call_kind, call_on_kind, new_kind, new_array_kind, new_items_kind, unary_kind, binary_kind, assign_kind, step_is, value_is, items_are}
use Rattle.ix_tree.proofs.StatementHeights.{stmt_is, block_kind, local_kind, if_kind, if_else_kind, while_kind, do_kind, for_kind, return_kind, throw_kind, print_kind, run_kind}

-- The nodes of a tree that have a height.
pub data Node : Type 0 where
  name : Ident → Node
  argument : AnnotArg → Node
  annotation : Annot → Node
  type_of : TypeTree → Node
  expression : Expr → Node
  initialiser : Init → Node
  declaration : LocalDecl → Node
  statement : Stmt → Node
  member : Member → Node
  method : MethodDecl → Node
  class : ClassDecl → Node
  source : Source → Node

abbrev pub height : Node → ℕ
height (name x) = name_height x
height (argument x) = arg_height x
height (annotation x) = annot_height x
height (type_of x) = type_height x
height (expression x) = expr_height x
height (initialiser x) = init_height x
height (declaration x) = decl_height x
height (statement x) = stmt_height x
height (member x) = member_height x
height (method x) = method_height x
height (class x) = class_height x
height (source x) = unit_height x

-- Each node with one of its parts.
pub data IsPart : Node → Node → Type 0 where
  argument_name : (x : AnnotArg) (n : Ident) → x.name ≡ Some n → IsPart (name n) (argument x)
  annotation_name : (x : Annot) → IsPart (name x.name) (annotation x)
  annotation_argument : (x : Annot) (a : AnnotArg) → Contains x.args a → IsPart (argument a) (annotation x)
  type_name : (x : TypeTree) (n : Ident) → x.base ≡ Named n → IsPart (name n) (type_of x)
  type_annotation : (x : TypeTree) (a : Annot) → Contains x.annots a → IsPart (annotation a) (type_of x)
  named : (n : Ident) (at : Span) → IsPart (name n) (expression (record { kind = e.Name n; span = at }))
  selected_from : (f : Expr) (n : Ident) (at : Span) → IsPart (expression f) (expression (record { kind = e.Select f n; span = at }))
  selected : (f : Expr) (n : Ident) (at : Span) → IsPart (name n) (expression (record { kind = e.Select f n; span = at }))
  indexed : (f g : Expr) (at : Span) → IsPart (expression f) (expression (record { kind = e.Index f g; span = at }))
  index : (f g : Expr) (at : Span) → IsPart (expression g) (expression (record { kind = e.Index f g; span = at }))
  called_on : (f : Expr) (n : Ident) (args : List Expr) (at : Span) → IsPart (expression f) (expression (record { kind = e.Call (Some f) n args; span = at }))
  called : (o : Option Expr) (n : Ident) (args : List Expr) (at : Span) → IsPart (name n) (expression (record { kind = e.Call o n args; span = at }))
  call_argument : (o : Option Expr) (n : Ident) (args : List Expr) (at : Span) (f : Expr) → Contains args f → IsPart (expression f) (expression (record { kind = e.Call o n args; span = at }))
  created : (n : Ident) (args : List Expr) (at : Span) → IsPart (name n) (expression (record { kind = e.New n args; span = at }))
  creation_argument : (n : Ident) (args : List Expr) (at : Span) (f : Expr) → Contains args f → IsPart (expression f) (expression (record { kind = e.New n args; span = at }))
  array_type : (t : TypeTree) (f : Expr) (at : Span) → IsPart (type_of t) (expression (record { kind = e.NewArray t f; span = at }))
  array_length : (t : TypeTree) (f : Expr) (at : Span) → IsPart (expression f) (expression (record { kind = e.NewArray t f; span = at }))
  items_type : (t : TypeTree) (items : List Init) (at : Span) → IsPart (type_of t) (expression (record { kind = e.NewItems t items; span = at }))
  new_item : (t : TypeTree) (items : List Init) (at : Span) (x : Init) → Contains items x → IsPart (initialiser x) (expression (record { kind = e.NewItems t items; span = at }))
  operand : (op : UnaryOp) (f : Expr) (at : Span) → IsPart (expression f) (expression (record { kind = e.Unary op f; span = at }))
  left_operand : (op : BinaryOp) (f g : Expr) (at : Span) → IsPart (expression f) (expression (record { kind = e.Binary op f g; span = at }))
  right_operand : (op : BinaryOp) (f g : Expr) (at : Span) → IsPart (expression g) (expression (record { kind = e.Binary op f g; span = at }))
  target : (op : _) (f g : Expr) (at : Span) → IsPart (expression f) (expression (record { kind = e.Assign op f g; span = at }))
  assigned : (op : _) (f g : Expr) (at : Span) → IsPart (expression g) (expression (record { kind = e.Assign op f g; span = at }))
  stepped : (up after : Bool) (f : Expr) (at : Span) → IsPart (expression f) (expression (record { kind = e.Step up after f; span = at }))
  value : (f : Expr) → IsPart (expression f) (initialiser (i.Value f))
  item : (items : List Init) (at : Span) (x : Init) → Contains items x → IsPart (initialiser x) (initialiser (i.Items items at))
  declared_note : (x : LocalDecl) (a : Annot) → Contains x.mods.annots a → IsPart (annotation a) (declaration x)
  declared_type : (x : LocalDecl) → IsPart (type_of x.ty) (declaration x)
  declared_name : (x : LocalDecl) → IsPart (name x.name) (declaration x)
  declared_value : (x : LocalDecl) (f : Init) → x.init ≡ Some f → IsPart (initialiser f) (declaration x)
  in_block : (body : List Stmt) (at : Span) (t : Stmt) → Contains body t → IsPart (statement t) (statement (record { kind = s.Block body; span = at }))
  local : (decls : List LocalDecl) (at : Span) (x : LocalDecl) → Contains decls x → IsPart (declaration x) (statement (record { kind = s.Local decls; span = at }))
  if_condition : (f : Expr) (t : Stmt) (o : Option Stmt) (at : Span) → IsPart (expression f) (statement (record { kind = s.If f t o; span = at }))
  if_true : (f : Expr) (t : Stmt) (o : Option Stmt) (at : Span) → IsPart (statement t) (statement (record { kind = s.If f t o; span = at }))
  if_false : (f : Expr) (t u : Stmt) (at : Span) → IsPart (statement u) (statement (record { kind = s.If f t (Some u); span = at }))
  while_condition : (f : Expr) (t : Stmt) (at : Span) → IsPart (expression f) (statement (record { kind = s.While f t; span = at }))
  while_body : (f : Expr) (t : Stmt) (at : Span) → IsPart (statement t) (statement (record { kind = s.While f t; span = at }))
  do_body : (t : Stmt) (f : Expr) (at : Span) → IsPart (statement t) (statement (record { kind = s.Do t f; span = at }))
  do_condition : (t : Stmt) (f : Expr) (at : Span) → IsPart (expression f) (statement (record { kind = s.Do t f; span = at }))
  for_first : (first : List Stmt) (c : Option Expr) (update : List Expr) (t : Stmt) (at : Span) (u : Stmt) → Contains first u → IsPart (statement u) (statement (record { kind = s.For first c update t; span = at }))
  for_condition : (first : List Stmt) (f : Expr) (update : List Expr) (t : Stmt) (at : Span) → IsPart (expression f) (statement (record { kind = s.For first (Some f) update t; span = at }))
  for_update : (first : List Stmt) (c : Option Expr) (update : List Expr) (t : Stmt) (at : Span) (f : Expr) → Contains update f → IsPart (expression f) (statement (record { kind = s.For first c update t; span = at }))
  for_body : (first : List Stmt) (c : Option Expr) (update : List Expr) (t : Stmt) (at : Span) → IsPart (statement t) (statement (record { kind = s.For first c update t; span = at }))
  returned : (f : Expr) (at : Span) → IsPart (expression f) (statement (record { kind = s.Return (Some f); span = at }))
  thrown : (n : Ident) (at : Span) → IsPart (name n) (statement (record { kind = s.Throw n; span = at }))
  printed : (f : Expr) (at : Span) → IsPart (expression f) (statement (record { kind = s.Print f; span = at }))
  run : (f : Expr) (at : Span) → IsPart (expression f) (statement (record { kind = s.Run f; span = at }))
  method_note : (x : MethodDecl) (a : Annot) → Contains x.mods.annots a → IsPart (annotation a) (method x)
  method_result : (x : MethodDecl) (t : TypeTree) → x.result ≡ Some t → IsPart (type_of t) (method x)
  method_name : (x : MethodDecl) → IsPart (name x.name) (method x)
  parameter : (x : MethodDecl) (p : LocalDecl) → Contains x.params p → IsPart (declaration p) (method x)
  parent_argument : (x : MethodDecl) (args : List Expr) (f : Expr) → x.parent_args ≡ Some args → Contains args f → IsPart (expression f) (method x)
  method_body : (x : MethodDecl) (t : Stmt) → Contains x.body t → IsPart (statement t) (method x)
  class_name : (x : ClassDecl) → IsPart (name x.name) (class x)
  class_parent : (x : ClassDecl) (n : Ident) → x.parent ≡ Some n → IsPart (name n) (class x)
  class_member : (x : ClassDecl) (m : Member) → Contains x.members m → IsPart (member m) (class x)
  in_source : (x : Source) (c : ClassDecl) → Contains x.classes c → IsPart (class c) (source x)

in_all : {A : Type 0} (of : A → ℕ) (x : A) (xs : List A) → Contains xs x → of x ≤ of_all of xs
in_all of x [] (k, l, h) = absurd (omega (arith, l))
in_all of x (y ∷ ys) (zero, l, h) = omega (arith, ap of h)
in_all of x (y ∷ ys) (suc k, l, h) = omega (arith, in_all of x ys (k, omega (arith, l), h))

call_args : (o : Option Expr) (n : Ident) (args : List Expr) (at : Span) → 1 + max 1 (of_all expr_height args) ≤ expr_height (record { kind = e.Call o n args; span = at })
call_args None n args at = omega (arith, expr_is (e.Call None n args) at, call_kind n args)
call_args (Some f) n args at = omega (arith, expr_is (e.Call (Some f) n args) at, call_on_kind f n args)

branches : (f : Expr) (t : Stmt) (o : Option Stmt) (at : Span) → 1 + max (expr_height f) (stmt_height t) ≤ stmt_height (record { kind = s.If f t o; span = at })
branches f t None at = omega (arith, stmt_is (s.If f t None) at, if_kind f t)
branches f t (Some u) at = omega (arith, stmt_is (s.If f t (Some u)) at, if_else_kind f t u)

for_parts : (first : List Stmt) (c : Option Expr) (update : List Expr) (t : Stmt) (at : Span)
    → stmt_height (record { kind = s.For first c update t; span = at }) ≡ 1 + max (max (of_all stmt_height first) (of_maybe expr_height c)) (max (of_all expr_height update) (stmt_height t))
for_parts first c update t at = omega (arith, stmt_is (s.For first c update t) at, for_kind first c update t)

pub part_is_lower : (p w : Node) → IsPart p w → height p < height w
part_is_lower _ _ (argument_name x n h) = omega (arith, ap (λ o. of_maybe name_height o) h)
part_is_lower _ _ (annotation_name x) = omega arith
part_is_lower _ _ (annotation_argument x a c) = omega (arith, in_all arg_height a x.args c)
part_is_lower _ _ (type_name x n h) = omega (arith, ap base_height h)
part_is_lower _ _ (type_annotation x a c) = omega (arith, in_all annot_height a x.annots c)
part_is_lower _ _ (named n at) = omega (arith, expr_is (e.Name n) at, name_kind n)
part_is_lower _ _ (selected_from f n at) = omega (arith, expr_is (e.Select f n) at, select_kind f n)
part_is_lower _ _ (selected f n at) = omega (arith, expr_is (e.Select f n) at, select_kind f n)
part_is_lower _ _ (indexed f g at) = omega (arith, expr_is (e.Index f g) at, index_kind f g)
part_is_lower _ _ (index f g at) = omega (arith, expr_is (e.Index f g) at, index_kind f g)
part_is_lower _ _ (called_on f n args at) = omega (arith, expr_is (e.Call (Some f) n args) at, call_on_kind f n args)
part_is_lower _ _ (called o n args at) = omega (arith, call_args o n args at)
part_is_lower _ _ (call_argument o n args at f c) = omega (arith, call_args o n args at, in_all expr_height f args c)
part_is_lower _ _ (created n args at) = omega (arith, expr_is (e.New n args) at, new_kind n args)
part_is_lower _ _ (creation_argument n args at f c) = omega (arith, expr_is (e.New n args) at, new_kind n args, in_all expr_height f args c)
part_is_lower _ _ (array_type t f at) = omega (arith, expr_is (e.NewArray t f) at, new_array_kind t f)
part_is_lower _ _ (array_length t f at) = omega (arith, expr_is (e.NewArray t f) at, new_array_kind t f)
part_is_lower _ _ (items_type t items at) = omega (arith, expr_is (e.NewItems t items) at, new_items_kind t items)
part_is_lower _ _ (new_item t items at x c) = omega (arith, expr_is (e.NewItems t items) at, new_items_kind t items, in_all init_height x items c)
part_is_lower _ _ (operand op f at) = omega (arith, expr_is (e.Unary op f) at, unary_kind op f)
part_is_lower _ _ (left_operand op f g at) = omega (arith, expr_is (e.Binary op f g) at, binary_kind op f g)
part_is_lower _ _ (right_operand op f g at) = omega (arith, expr_is (e.Binary op f g) at, binary_kind op f g)
part_is_lower _ _ (target op f g at) = omega (arith, expr_is (e.Assign op f g) at, assign_kind op f g)
part_is_lower _ _ (assigned op f g at) = omega (arith, expr_is (e.Assign op f g) at, assign_kind op f g)
part_is_lower _ _ (stepped up after f at) = omega (arith, expr_is (e.Step up after f) at, step_is up after f)
part_is_lower _ _ (value f) = omega (arith, value_is f)
part_is_lower _ _ (item items at x c) = omega (arith, items_are items at, in_all init_height x items c)
part_is_lower _ _ (declared_note x a c) = omega (arith, in_all annot_height a x.mods.annots c)
part_is_lower _ _ (declared_type x) = omega arith
part_is_lower _ _ (declared_name x) = omega arith
part_is_lower _ _ (declared_value x f h) = omega (arith, ap (λ o. of_maybe init_height o) h)
part_is_lower _ _ (in_block body at t c) = omega (arith, stmt_is (s.Block body) at, block_kind body, in_all stmt_height t body c)
part_is_lower _ _ (local decls at x c) = omega (arith, stmt_is (s.Local decls) at, local_kind decls, in_all decl_height x decls c)
part_is_lower _ _ (if_condition f t o at) = omega (arith, branches f t o at)
part_is_lower _ _ (if_true f t o at) = omega (arith, branches f t o at)
part_is_lower _ _ (if_false f t u at) = omega (arith, stmt_is (s.If f t (Some u)) at, if_else_kind f t u)
part_is_lower _ _ (while_condition f t at) = omega (arith, stmt_is (s.While f t) at, while_kind f t)
part_is_lower _ _ (while_body f t at) = omega (arith, stmt_is (s.While f t) at, while_kind f t)
part_is_lower _ _ (do_body t f at) = omega (arith, stmt_is (s.Do t f) at, do_kind t f)
part_is_lower _ _ (do_condition t f at) = omega (arith, stmt_is (s.Do t f) at, do_kind t f)
part_is_lower _ _ (for_first first c update t at u h) = omega (arith, for_parts first c update t at, in_all stmt_height u first h)
part_is_lower _ _ (for_condition first f update t at) = omega (arith, for_parts first (Some f) update t at)
part_is_lower _ _ (for_update first c update t at f h) = omega (arith, for_parts first c update t at, in_all expr_height f update h)
part_is_lower _ _ (for_body first c update t at) = omega (arith, for_parts first c update t at)
part_is_lower _ _ (returned f at) = omega (arith, stmt_is (s.Return (Some f)) at, return_kind (Some f))
part_is_lower _ _ (thrown n at) = omega (arith, stmt_is (s.Throw n) at, throw_kind n)
part_is_lower _ _ (printed f at) = omega (arith, stmt_is (s.Print f) at, print_kind f)
part_is_lower _ _ (run f at) = omega (arith, stmt_is (s.Run f) at, run_kind f)
part_is_lower _ _ (method_note x a c) = omega (arith, in_all annot_height a x.mods.annots c)
part_is_lower _ _ (method_result x t h) = omega (arith, ap (λ o. of_maybe type_height o) h)
part_is_lower _ _ (method_name x) = omega arith
part_is_lower _ _ (parameter x p c) = omega (arith, in_all decl_height p x.params c)
part_is_lower _ _ (parent_argument x args f h c) = omega (arith, ap (λ o. of_maybe args_height o) h, in_all expr_height f args c)
part_is_lower _ _ (method_body x t c) = omega (arith, in_all stmt_height t x.body c)
part_is_lower _ _ (class_name x) = omega arith
part_is_lower _ _ (class_parent x n h) = omega (arith, ap (λ o. of_maybe name_height o) h)
part_is_lower _ _ (class_member x m c) = omega (arith, in_all member_height m x.members c)
part_is_lower _ _ (in_source x c h) = omega (arith, in_all class_height c x.classes h)
