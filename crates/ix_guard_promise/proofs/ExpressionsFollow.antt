-- An expression at its place moved follows the expression: the induction over all forms.
use Rattle.std.proofs.Common.{◌≡◌, List, [], ◌∷◌, map, Some, None, refl, sym, subst}
use Rattle.ix_text.specs.declared.span.Span.{Span}
use Rattle.ix_core.specs.declared.claim.Type_.{Type_}
use Rattle.ix_core.specs.Heap.{Num, Boolean, Null}
use Rattle.ix_tree.specs.declared.expr.Expr.{Expr, Expr-F, ind-Expr, map-Expr, roll-Expr, fold-roll-Expr}
use Rattle.ix_tree.specs.declared.expr.ExprKind.{ExprKind, ExprKind-F, map-ExprKind, roll-ExprKind, fold-ExprKind, fold-roll-ExprKind}
use Rattle.ix_tree.specs.declared.expr.Init.{Init, Init-F, ind-Init, map-Init, roll-Init, fold-roll-Init}
use Rattle.ix_source.specs.Context.{Context}
use Rattle.ix_source.specs.Values as source
use Rattle.ix_source.specs.Values.{Evaluation, Initial, evaluation, initial}
use Rattle.ix_source.proofs.Equations as equations
use Rattle.ix_source.proofs.Equations.{kind_evaluation}
use Rattle.ix_guard_text.specs.Moved as moved
use Rattle.ix_guard_text.specs.Moved.{Move, moved_span, moved_name, moved_type, moved_expr, moved_init}
use Rattle.ix_guard_promise.specs.Behind.{FollowsBy, Follows, SameTarget, ContextFollows}
use Rattle.ix_guard_promise.proofs.ActionsKeep.{in_context, this_keeps}
use Rattle.ix_guard_promise.proofs.FormsKeep as form
use Rattle.ix_guard_promise.proofs.FormsKeep.{EvaluationKeeps, InitialKeeps, Contexts, new_context, old_context}

abbrev moved_kind : Move → ExprKind → ExprKind
moved_kind move = fold-ExprKind ExprKind Init Expr (moved.kind_step move) (moved.init_step move) (moved.expr_step move)

module _ (move : Move) (c : Contexts move) where
  abbrev PartKeeps : Evaluation → Evaluation → Type 0
  PartKeeps one other = EvaluationKeeps move (new_context c) (old_context c) one other

  abbrev ItemKeeps : Initial → Initial → Type 0
  ItemKeeps one other = InitialKeeps move (new_context c) (old_context c) one other

  abbrev KindKeeps : ExprKind → Type 0
  KindKeeps k = (span : Span) → PartKeeps (kind_evaluation (moved_kind move k) (moved_span move span)) (kind_evaluation k span)

  abbrev InitKeeps : Init → Type 0
  InitKeeps i = ItemKeeps (initial (moved_init move i)) (initial i)

  abbrev ExprKeeps : Expr → Type 0
  ExprKeeps e = PartKeeps (evaluation (moved_expr move e)) (evaluation e)

  -- by what it means
  by : (one two other : Evaluation) → one ≡ two → PartKeeps two other → PartKeeps one other
  by one two other e keeps = subst (λ one. PartKeeps one other) (sym e) keeps

  module _ {K I E : Type 0} (kind : K → ExprKind) (init : I → Init) (expr : E → Expr) (init_keeps : (i : I) → InitKeeps (init i)) (expr_keeps : (e : E) → ExprKeeps (expr e)) where
    abbrev layer : ExprKind-F K I E → ExprKind-F ExprKind Init Expr
    layer y = map-ExprKind K I E ExprKind Init Expr kind init expr y

    abbrev moved_of : E → Expr
    moved_of e = moved_expr move (expr e)

    abbrev all_moved : List E → List Expr
    all_moved es = map (moved_expr move) (map expr es)

    parts_keep : (es : List E) → form.PartsKeep move c (map evaluation (all_moved es)) (map evaluation (map expr es))
    parts_keep [] = tt
    parts_keep (e ∷ es) = (expr_keeps e, parts_keep es)

    items_keep : (is : List I) → form.ItemsKeep move c (map initial (map (moved_init move) (map init is))) (map initial (map init is))
    items_keep [] = tt
    items_keep (i ∷ is) = (init_keeps i, items_keep is)

    abbrev KindLayer : ExprKind-F K I E → Span → Type 0
    KindLayer y span = PartKeeps (kind_evaluation (moved.kind_step move (map-ExprKind ExprKind Init Expr ExprKind Init Expr (moved_kind move) (moved_init move) (moved_expr move) (layer y))) (moved_span move span))
        (source.kind_step (map-ExprKind ExprKind Init Expr (Span → Evaluation) Initial Evaluation kind_evaluation initial evaluation (layer y)) span)

    kind_layer : (y : ExprKind-F K I E) (span : Span) → KindLayer y span
    kind_layer (ExprKind-F.Int n) span = by _ _ _ (equations.int_kind n (moved_span move span)) (form.constant_keeps move c (Num n) span)
    kind_layer (ExprKind-F.Bool answer) span = by _ _ _ (equations.bool_kind answer (moved_span move span)) (form.constant_keeps move c (Boolean answer) span)
    kind_layer ExprKind-F.Null span = by _ _ _ (equations.null_kind (moved_span move span)) (form.constant_keeps move c Null span)
    kind_layer ExprKind-F.This span =
        by _ _ _ (equations.this_kind (moved_span move span)) (form.computes_keep move c (λ context. source.of_this) (λ context. source.of_this) span (this_keeps move))
    kind_layer (ExprKind-F.Name ident) span = by _ _ _ (equations.name_kind (moved_name move ident) (moved_span move span)) (form.name_keeps move c ident span)
    kind_layer (ExprKind-F.Select object ident) span = by _ _ _ (equations.select_kind (moved_of object) (moved_name move ident) (moved_span move span))
        (form.selection_keeps move c (evaluation (moved_of object)) (evaluation (expr object)) (expr_keeps object) ident span)
    kind_layer (ExprKind-F.Index array index) span = by _ _ _ (equations.index_kind (moved_of array) (moved_of index) (moved_span move span))
        (form.element_keeps move c (evaluation (moved_of array)) (evaluation (expr array)) (evaluation (moved_of index)) (evaluation (expr index)) span (expr_keeps array) (expr_keeps index))
    kind_layer (ExprKind-F.Call None ident args) span = by _ _ _ (equations.call_kind (moved_name move ident) (all_moved args) (moved_span move span))
        (form.call_keeps move c None None (map evaluation (all_moved args)) (map evaluation (map expr args)) tt (parts_keep args) ident span)
    kind_layer (ExprKind-F.Call (Some object) ident args) span = by _ _ _ (equations.call_on_kind (moved_of object) (moved_name move ident) (all_moved args) (moved_span move span))
        (form.call_keeps move c (Some (evaluation (moved_of object))) (Some (evaluation (expr object))) (map evaluation (all_moved args)) (map evaluation (map expr args))
        (expr_keeps object) (parts_keep args) ident span)
    kind_layer (ExprKind-F.New ident args) span = by _ _ _ (equations.new_kind (moved_name move ident) (all_moved args) (moved_span move span))
        (form.new_object_keeps move c (map evaluation (all_moved args)) (map evaluation (map expr args)) (parts_keep args) ident span)
    kind_layer (ExprKind-F.NewArray ty size) span = by _ _ _ (equations.new_array_kind (moved_type move ty) (moved_of size) (moved_span move span))
        (form.new_array_keeps move c (evaluation (moved_of size)) (evaluation (expr size)) span (expr_keeps size))
    kind_layer (ExprKind-F.NewItems ty items) span = by _ _ _ (equations.new_items_kind (moved_type move ty) (map (moved_init move) (map init items)) (moved_span move span))
        (form.new_items_keep move c (map initial (map (moved_init move) (map init items))) (map initial (map init items)) span (items_keep items))
    kind_layer (ExprKind-F.Unary o operand) span = by _ _ _ (equations.unary_kind o (moved_of operand) (moved_span move span))
        (form.unary_keeps move c o (evaluation (moved_of operand)) (evaluation (expr operand)) span (expr_keeps operand))
    kind_layer (ExprKind-F.Binary o left right) span = by _ _ _ (equations.binary_kind o (moved_of left) (moved_of right) (moved_span move span))
        (form.binary_keeps move c (evaluation (moved_of left)) (evaluation (expr left)) (evaluation (moved_of right)) (evaluation (expr right)) (expr_keeps left) (expr_keeps right) o span)
    kind_layer (ExprKind-F.Assign o target value) span = by _ _ _ (equations.assign_kind o (moved_of target) (moved_of value) (moved_span move span))
        (form.assign_keeps move c (evaluation (moved_of target)) (evaluation (expr target)) (evaluation (moved_of value)) (evaluation (expr value)) (expr_keeps target) (expr_keeps value) o span)
    kind_layer (ExprKind-F.Step up after target) span = by _ _ _ (equations.step_kind up after (moved_of target) (moved_span move span))
        (form.step_keeps move c up after (evaluation (moved_of target)) (evaluation (expr target)) span (expr_keeps target))

    kind_rolled : (y : ExprKind-F K I E) → KindKeeps (roll-ExprKind (layer y))
    kind_rolled y span =
        let a = fold-roll-ExprKind ExprKind Init Expr (moved.kind_step move) (moved.init_step move) (moved.expr_step move) (layer y) in
        let b = fold-roll-ExprKind (Span → Evaluation) Initial Evaluation source.kind_step source.init_step source.expr_step (layer y) in
        subst (λ k. PartKeeps (kind_evaluation k (moved_span move span)) (kind_evaluation (roll-ExprKind (layer y)) span)) (sym a)
        (subst (λ (k : Span → Evaluation).
        PartKeeps (kind_evaluation (moved.kind_step move (map-ExprKind ExprKind Init Expr ExprKind Init Expr (moved_kind move) (moved_init move) (moved_expr move) (layer y)))
        (moved_span move span)) (k span)) (sym b) (kind_layer y span))

    abbrev init_parts : Init-F K I E → Init-F ExprKind Init Expr
    init_parts y = map-Init K I E ExprKind Init Expr kind init expr y

    init_layer : (y : Init-F K I E) → ItemKeeps (initial (moved.init_step move (map-Init ExprKind Init Expr ExprKind Init Expr (moved_kind move) (moved_init move) (moved_expr move) (init_parts y))))
        (source.init_step (map-Init ExprKind Init Expr (Span → Evaluation) Initial Evaluation kind_evaluation initial evaluation (init_parts y)))
    init_layer (Init-F.Value e) = subst (λ i. ItemKeeps i (source.init_step (Init-F.Value (evaluation (expr e))))) (sym (equations.value_is (moved_of e))) (record { value = λ ty. (expr_keeps e).value })
    init_layer (Init-F.Items items span) = subst (λ i. ItemKeeps i (source.init_step (Init-F.Items (map initial (map init items)) span)))
        (sym (equations.items_are (map (moved_init move) (map init items)) (moved_span move span)))
        (record { value = λ ty. form.filled_keeps move c (map initial (map (moved_init move) (map init items))) (map initial (map init items)) ty (items_keep items) })

    init_rolled : (y : Init-F K I E) → InitKeeps (roll-Init (init_parts y))
    init_rolled y =
        let a = fold-roll-Init ExprKind Init Expr (moved.kind_step move) (moved.init_step move) (moved.expr_step move) (init_parts y) in
        let b = fold-roll-Init (Span → Evaluation) Initial Evaluation source.kind_step source.init_step source.expr_step (init_parts y) in
        subst (λ i. ItemKeeps (initial i) (initial (roll-Init (init_parts y)))) (sym a)
        (subst (λ i. ItemKeeps (initial (moved.init_step move (map-Init ExprKind Init Expr ExprKind Init Expr (moved_kind move) (moved_init move) (moved_expr move)
        (init_parts y)))) i) (sym b) (init_layer y))

    expr_rolled : ((k : K) → KindKeeps (kind k)) → (y : Expr-F K I E) → ExprKeeps (roll-Expr (map-Expr K I E ExprKind Init Expr kind init expr y))
    expr_rolled kind_keeps y =
        let all = map-Expr K I E ExprKind Init Expr kind init expr y in
        let a = fold-roll-Expr ExprKind Init Expr (moved.kind_step move) (moved.init_step move) (moved.expr_step move) all in
        let b = fold-roll-Expr (Span → Evaluation) Initial Evaluation source.kind_step source.init_step source.expr_step all in
        let c = equations.expr_is (moved_kind move (kind y.kind)) (moved_span move y.span) in
        let k = kind_keeps y.kind y.span in
        let here : Evaluation = source.expr_step (record { kind = kind_evaluation (kind y.kind); span = y.span }) in
        let there : Evaluation = source.expr_step (record { kind = kind_evaluation (moved_kind move (kind y.kind)); span = moved_span move y.span }) in
        let inner : PartKeeps there here = record { span = refl; value = k.value; holds = k.holds; target = k.target; unused = k.unused } in
        subst (λ (e : Expr). PartKeeps (evaluation e) (evaluation (roll-Expr all))) (sym a)
        (subst (λ (e : Evaluation). PartKeeps (evaluation (record { kind = moved_kind move (kind y.kind); span = moved_span move y.span })) e) (sym b) (by _ there here c inner))

  pub part_keeps : (e : Expr) → ExprKeeps e
  part_keeps = ind-Expr KindKeeps InitKeeps ExprKeeps
      (λ x y e. subst (λ layer. KindKeeps (roll-ExprKind layer)) e (kind_rolled (λ k. k.0) (λ i. i.0) (λ x. x.0) (λ i. i.1) (λ x. x.1) y))
      (λ x y e. subst (λ layer. InitKeeps (roll-Init layer)) e (init_rolled (λ k. k.0) (λ i. i.0) (λ x. x.0) (λ i. i.1) (λ x. x.1) y))
      (λ x y e. subst (λ layer. ExprKeeps (roll-Expr layer)) e (expr_rolled (λ k. k.0) (λ i. i.0) (λ x. x.0) (λ i. i.1) (λ x. x.1) (λ k. k.1) y))

  pub item_keeps : (i : Init) → InitKeeps i
  item_keeps = ind-Init KindKeeps InitKeeps ExprKeeps
      (λ x y e. subst (λ layer. KindKeeps (roll-ExprKind layer)) e (kind_rolled (λ k. k.0) (λ i. i.0) (λ x. x.0) (λ i. i.1) (λ x. x.1) y))
      (λ x y e. subst (λ layer. InitKeeps (roll-Init layer)) e (init_rolled (λ k. k.0) (λ i. i.0) (λ x. x.0) (λ i. i.1) (λ x. x.1) y))
      (λ x y e. subst (λ layer. ExprKeeps (roll-Expr layer)) e (expr_rolled (λ k. k.0) (λ i. i.0) (λ x. x.0) (λ i. i.1) (λ x. x.1) (λ k. k.1) y))

module _ (move : Move) (new old : Context) (follows : ContextFollows move new old) where
  abbrev both : Contexts move
  both = record {
    members = old.members;
    names = new.names;
    others = old.names;
    calls = new.calls;
    older = old.calls;
    turns = new.turns;
    most = old.turns;
    says = follows.names;
    follow = follows.calls;
  }

  -- Every expression at its place moved keeps to the expression, as each place wants it.
  pub expression_keeps : (e : Expr) → EvaluationKeeps move new old (evaluation (moved_expr move e)) (evaluation e)
  expression_keeps e = subst (λ members. EvaluationKeeps move (in_context new.names members new.calls new.turns) old (evaluation (moved_expr move e)) (evaluation e))
      (sym follows.members) (part_keeps move both e)

  -- So does every initialiser.
  pub initialiser_keeps : (i : Init) → InitialKeeps move new old (initial (moved_init move i)) (initial i)
  initialiser_keeps i = subst (λ members. InitialKeeps move (in_context new.names members new.calls new.turns) old (initial (moved_init move i)) (initial i)) (sym follows.members) (item_keeps move both i)

  pub evaluation_follows : (e : Expr) → Follows move ((evaluation (moved_expr move e)).value new) ((evaluation e).value old)
  evaluation_follows e = (expression_keeps e).value.follows

  pub condition_follows : (e : Expr) → Follows move ((evaluation (moved_expr move e)).holds new) ((evaluation e).holds old)
  condition_follows e = (expression_keeps e).holds.follows

  pub target_follows : (e : Expr) → FollowsBy move (SameTarget move) ((evaluation (moved_expr move e)).target new) ((evaluation e).target old)
  target_follows e = (expression_keeps e).target.follows

  pub unused_follows : (e : Expr) → Follows move ((evaluation (moved_expr move e)).unused new) ((evaluation e).unused old)
  unused_follows e = (expression_keeps e).unused.follows

  pub initial_follows : (i : Init) (ty : Type_) → Follows move ((initial (moved_init move i)).value new ty) ((initial i).value old ty)
  initial_follows i ty = ((initialiser_keeps i).value ty).follows
