-- All accesses in a moved tree are those of the tree, each at its place moved.
use Rattle.std.proofs.Common.{◌≡◌, List, [], ◌∷◌, ◌++◌, map, Option, Some, None, refl, sym, ap, ap₂, subst, ◌∙◌}
use Rattle.std.proofs.lemmas.List.{map-append}
use Rattle.ix_tree.specs.declared.decl.LocalDecl.{LocalDecl}
use Rattle.ix_tree.specs.declared.expr.Expr.{Expr, Expr-F, ind-Expr, map-Expr, roll-Expr, fold-roll-Expr}
use Rattle.ix_tree.specs.declared.expr.ExprKind.{ExprKind, ExprKind-F, map-ExprKind, roll-ExprKind, fold-roll-ExprKind}
use Rattle.ix_tree.specs.declared.expr.Init.{Init, Init-F, ind-Init, map-Init, roll-Init, fold-roll-Init}
use Rattle.ix_tree.proofs.FoldsOfForms as fold
use Rattle.ix_guard_text.specs.Bare.{bare_maybe as maybe}
use Rattle.ix_guard_promise.specs.AllAccesses as any
use Rattle.ix_guard_promise.specs.AllAccesses.{AnyAccess, Form, Reading, all, each, inside, unnamed, accessing, reading, all_accesses, init_accesses, decl_accesses, each_of}
use Rattle.ix_guard_text.specs.Moved as moved
use Rattle.ix_guard_text.specs.Moved.{Move, moved_span, moved_name, moved_type, moved_expr, moved_init, moved_decl}

module _ (move : Move) where
  abbrev pub moved_any : AnyAccess → AnyAccess
  moved_any access = record { array = maybe (moved_name move) access.array; index = maybe (moved_name move) access.index; place = moved_span move access.place }

  abbrev moved_form : Form → Form
  moved_form form = record { name = maybe (moved_name move) form.name; accesses = map moved_any form.accesses }

  abbrev moved_reading : Reading → Reading
  moved_reading r = record { form = moved_form r.form; span = moved_span move r.span }

  -- ---- accesses put together

  pub both_moved : (xs ys : List AnyAccess) → map moved_any xs ++ map moved_any ys ≡ map moved_any (xs ++ ys)
  both_moved xs ys = sym (map-append moved_any xs ys)

  pub all_moved : (ls : List (List AnyAccess)) → all (map (map moved_any) ls) ≡ map moved_any (all ls)
  all_moved [] = refl
  all_moved (l ∷ ls) = ap (λ (rest : List AnyAccess). map moved_any l ++ rest) (all_moved ls) ∙ both_moved l (all ls)

  inside_moved : (rs : List Reading) → map inside (map moved_reading rs) ≡ map (map moved_any) (map inside rs)
  inside_moved [] = refl
  inside_moved (r ∷ rs) = ap (λ (ls : List (List AnyAccess)). map moved_any (inside r) ∷ ls) (inside_moved rs)

  each_moved : (rs : List Reading) → each (map moved_reading rs) ≡ map moved_any (each rs)
  each_moved rs = ap all (inside_moved rs) ∙ all_moved (map inside rs)

  -- ---- all forms

  abbrev kind_form : ExprKind → Form
  kind_form = fold.of_kind any.kind_step any.init_step any.expr_step

  abbrev moved_kind : ExprKind → ExprKind
  moved_kind = fold.of_kind (moved.kind_step move) (moved.init_step move) (moved.expr_step move)

  abbrev KindIs : ExprKind → Type 0
  KindIs k = kind_form (moved_kind k) ≡ moved_form (kind_form k)

  abbrev InitIs : Init → Type 0
  InitIs x = init_accesses (moved_init move x) ≡ map moved_any (init_accesses x)

  abbrev ExprIs : Expr → Type 0
  ExprIs x = reading (moved_expr move x) ≡ moved_reading (reading x)

  module _ {K I E : Type 0} (kind : K → ExprKind) (init : I → Init) (expr : E → Expr) (init_is : (i : I) → InitIs (init i)) (expr_is : (e : E) → ExprIs (expr e)) where
    abbrev there : E → Expr
    there x = moved_expr move (expr x)

    abbrev read : E → Reading
    read x = reading (expr x)

    list_is : (xs : List E) → map reading (map (moved_expr move) (map expr xs)) ≡ map moved_reading (map reading (map expr xs))
    list_is [] = refl
    list_is (x ∷ xs) = ap₂ (λ (r : Reading) (rs : List Reading). r ∷ rs) (expr_is x) (list_is xs)

    items_are : (xs : List I) → map init_accesses (map (moved_init move) (map init xs)) ≡ map (map moved_any) (map init_accesses (map init xs))
    items_are [] = refl
    items_are (x ∷ xs) = ap₂ (λ (l : List AnyAccess) (ls : List (List AnyAccess)). l ∷ ls) (init_is x) (items_are xs)

    arguments_are : (xs : List E) → each (map reading (map (moved_expr move) (map expr xs))) ≡ map moved_any (each (map reading (map expr xs)))
    arguments_are xs = ap (λ (rs : List Reading). each rs) (list_is xs) ∙ each_moved (map reading (map expr xs))

    -- what the moved form of a layer reads as
    kind_layer : (y : ExprKind-F K I E)
        → kind_form (moved.kind_step move (map-ExprKind ExprKind Init Expr ExprKind Init Expr moved_kind (moved_init move) (moved_expr move) (map-ExprKind K I E ExprKind Init Expr kind init expr y)))
        ≡ moved_form (any.kind_step (map-ExprKind ExprKind Init Expr Form (List AnyAccess) Reading kind_form init_accesses reading (map-ExprKind K I E ExprKind Init Expr kind init expr y)))
    kind_layer (ExprKind-F.Int n) = fold.int_kind any.kind_step any.init_step any.expr_step n
    kind_layer (ExprKind-F.Bool b) = fold.bool_kind any.kind_step any.init_step any.expr_step b
    kind_layer ExprKind-F.Null = fold.null_kind any.kind_step any.init_step any.expr_step
    kind_layer ExprKind-F.This = fold.this_kind any.kind_step any.init_step any.expr_step
    kind_layer (ExprKind-F.Name name) = fold.name_kind any.kind_step any.init_step any.expr_step (moved_name move name)
    kind_layer (ExprKind-F.Select object name) =
        fold.select_kind any.kind_step any.init_step any.expr_step (there object) (moved_name move name) ∙ ap (λ (r : Reading). unnamed (inside r)) (expr_is object)
    kind_layer (ExprKind-F.Index array index) =
        fold.index_kind any.kind_step any.init_step any.expr_step (there array) (there index)
        ∙ ap₂ (λ (a : Reading) (b : Reading). unnamed (accessing a b ∷ (inside a ++ inside b))) (expr_is array) (expr_is index)
        ∙ ap (λ (l : List AnyAccess). unnamed (moved_any (accessing (read array) (read index)) ∷ l)) (both_moved (inside (read array)) (inside (read index)))
    kind_layer (ExprKind-F.Call None name args) =
        fold.call_kind any.kind_step any.init_step any.expr_step (moved_name move name) (map (moved_expr move) (map expr args)) ∙ ap unnamed (arguments_are args)
    kind_layer (ExprKind-F.Call (Some object) name args) =
        fold.call_on_kind any.kind_step any.init_step any.expr_step (there object) (moved_name move name) (map (moved_expr move) (map expr args))
        ∙ ap₂ (λ (r : Reading) (l : List AnyAccess). unnamed (inside r ++ l)) (expr_is object) (arguments_are args) ∙ ap unnamed (both_moved (inside (read object)) (each (map reading (map expr args))))
    kind_layer (ExprKind-F.New name args) =
        fold.new_kind any.kind_step any.init_step any.expr_step (moved_name move name) (map (moved_expr move) (map expr args)) ∙ ap unnamed (arguments_are args)
    kind_layer (ExprKind-F.NewArray ty size) =
        fold.new_array_kind any.kind_step any.init_step any.expr_step (moved_type move ty) (there size) ∙ ap (λ (r : Reading). unnamed (inside r)) (expr_is size)
    kind_layer (ExprKind-F.NewItems ty items) =
        fold.new_items_kind any.kind_step any.init_step any.expr_step (moved_type move ty) (map (moved_init move) (map init items))
        ∙ ap (λ (ls : List (List AnyAccess)). unnamed (all ls)) (items_are items) ∙ ap unnamed (all_moved (map init_accesses (map init items)))
    kind_layer (ExprKind-F.Unary op operand) =
        fold.unary_kind any.kind_step any.init_step any.expr_step op (there operand) ∙ ap (λ (r : Reading). unnamed (inside r)) (expr_is operand)
    kind_layer (ExprKind-F.Binary op left right) =
        fold.binary_kind any.kind_step any.init_step any.expr_step op (there left) (there right)
        ∙ ap₂ (λ (a : Reading) (b : Reading). unnamed (inside a ++ inside b)) (expr_is left) (expr_is right) ∙ ap unnamed (both_moved (inside (read left)) (inside (read right)))
    kind_layer (ExprKind-F.Assign op target source) =
        fold.assign_kind any.kind_step any.init_step any.expr_step op (there target) (there source)
        ∙ ap₂ (λ (a : Reading) (b : Reading). unnamed (inside a ++ inside b)) (expr_is target) (expr_is source) ∙ ap unnamed (both_moved (inside (read target)) (inside (read source)))
    kind_layer (ExprKind-F.Step up after target) =
        fold.step_kind any.kind_step any.init_step any.expr_step up after (there target) ∙ ap (λ (r : Reading). unnamed (inside r)) (expr_is target)

    kind_rolled : (y : ExprKind-F K I E) → KindIs (roll-ExprKind (map-ExprKind K I E ExprKind Init Expr kind init expr y))
    kind_rolled y =
        let layer = map-ExprKind K I E ExprKind Init Expr kind init expr y in
        ap kind_form (fold-roll-ExprKind ExprKind Init Expr (moved.kind_step move) (moved.init_step move) (moved.expr_step move) layer)
        ∙ kind_layer y ∙ ap moved_form (sym (fold-roll-ExprKind Form (List AnyAccess) Reading any.kind_step any.init_step any.expr_step layer))

    init_layer : (y : Init-F K I E)
        → init_accesses (moved.init_step move (map-Init ExprKind Init Expr ExprKind Init Expr moved_kind (moved_init move) (moved_expr move) (map-Init K I E ExprKind Init Expr kind init expr y)))
        ≡ map moved_any (any.init_step (map-Init ExprKind Init Expr Form (List AnyAccess) Reading kind_form init_accesses reading (map-Init K I E ExprKind Init Expr kind init expr y)))
    init_layer (Init-F.Value x) = fold.value_is any.kind_step any.init_step any.expr_step (there x) ∙ ap (λ (r : Reading). inside r) (expr_is x)
    init_layer (Init-F.Items items span) =
        fold.items_are any.kind_step any.init_step any.expr_step (map (moved_init move) (map init items)) (moved_span move span)
        ∙ ap all (items_are items) ∙ all_moved (map init_accesses (map init items))

    init_rolled : (y : Init-F K I E) → InitIs (roll-Init (map-Init K I E ExprKind Init Expr kind init expr y))
    init_rolled y =
        let layer = map-Init K I E ExprKind Init Expr kind init expr y in
        ap init_accesses (fold-roll-Init ExprKind Init Expr (moved.kind_step move) (moved.init_step move) (moved.expr_step move) layer)
        ∙ init_layer y ∙ ap (map moved_any) (sym (fold-roll-Init Form (List AnyAccess) Reading any.kind_step any.init_step any.expr_step layer))

    expr_rolled : ((k : K) → KindIs (kind k)) → (y : Expr-F K I E) → ExprIs (roll-Expr (map-Expr K I E ExprKind Init Expr kind init expr y))
    expr_rolled kind_is y =
        let layer = map-Expr K I E ExprKind Init Expr kind init expr y in
        ap reading (fold-roll-Expr ExprKind Init Expr (moved.kind_step move) (moved.init_step move) (moved.expr_step move) layer)
        ∙ fold.expr_is any.kind_step any.init_step any.expr_step (moved_kind (kind y.kind)) (moved_span move y.span)
        ∙ ap (λ (f : Form). record { form = f; span = moved_span move y.span }) (kind_is y.kind) ∙ ap moved_reading (sym (fold-roll-Expr Form (List AnyAccess) Reading any.kind_step any.init_step any.expr_step layer))

  expression_moved : (x : Expr) → ExprIs x
  expression_moved = ind-Expr KindIs InitIs ExprIs
      (λ x y e. subst (λ layer. KindIs (roll-ExprKind layer)) e (kind_rolled (λ k. k.0) (λ i. i.0) (λ x. x.0) (λ i. i.1) (λ x. x.1) y))
      (λ x y e. subst (λ layer. InitIs (roll-Init layer)) e (init_rolled (λ k. k.0) (λ i. i.0) (λ x. x.0) (λ i. i.1) (λ x. x.1) y))
      (λ x y e. subst (λ layer. ExprIs (roll-Expr layer)) e (expr_rolled (λ k. k.0) (λ i. i.0) (λ x. x.0) (λ i. i.1) (λ x. x.1) (λ k. k.1) y))

  initialiser_moved : (x : Init) → InitIs x
  initialiser_moved = ind-Init KindIs InitIs ExprIs
      (λ x y e. subst (λ layer. KindIs (roll-ExprKind layer)) e (kind_rolled (λ k. k.0) (λ i. i.0) (λ x. x.0) (λ i. i.1) (λ x. x.1) y))
      (λ x y e. subst (λ layer. InitIs (roll-Init layer)) e (init_rolled (λ k. k.0) (λ i. i.0) (λ x. x.0) (λ i. i.1) (λ x. x.1) y))
      (λ x y e. subst (λ layer. ExprIs (roll-Expr layer)) e (expr_rolled (λ k. k.0) (λ i. i.0) (λ x. x.0) (λ i. i.1) (λ x. x.1) (λ k. k.1) y))

  pub accesses_moved : (x : Expr) → all_accesses (moved_expr move x) ≡ map moved_any (all_accesses x)
  accesses_moved x = ap (λ (r : Reading). inside r) (expression_moved x)

  pub init_accesses_moved : (x : Init) → init_accesses (moved_init move x) ≡ map moved_any (init_accesses x)
  init_accesses_moved x = initialiser_moved x

  pub decls_accesses_moved : (ds : List LocalDecl) → each_of decl_accesses (map (moved_decl move) ds) ≡ map moved_any (each_of decl_accesses ds)
  decls_accesses_moved [] = refl
  decls_accesses_moved (d ∷ ds) = ap₂ (λ (xs : List AnyAccess) (ys : List AnyAccess). xs ++ ys) (maybe_moved d.init) (decls_accesses_moved ds) ∙ both_moved (decl_accesses d) (each_of decl_accesses ds)
    where
      maybe_moved : (o : Option Init) → any.maybe init_accesses (maybe (moved_init move) o) ≡ map moved_any (any.maybe init_accesses o)
      maybe_moved None = refl
      maybe_moved (Some x) = initialiser_moved x
