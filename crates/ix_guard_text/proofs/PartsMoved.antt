-- The accesses on names that a moved expression makes, and the names that it assigns, are those of the expression, each at its place moved.
use Rattle.std.proofs.Common.{◌≡◌, Bool, true, false, List, [], ◌∷◌, ◌++◌, map, Option, Some, None, refl, sym, ap, ap₂, subst, ◌∙◌}
use Rattle.std.specs.Prelude.{if◌then◌else◌}
use Rattle.std.proofs.lemmas.List.{map-append}
use Rattle.ix_text.specs.declared.span.Span.{Span}
use Rattle.ix_tree.specs.declared.annot.Ident.{Ident}
use Rattle.ix_tree.specs.declared.decl.LocalDecl.{LocalDecl}
use Rattle.ix_tree.specs.declared.expr.BinaryOp.{BinaryOp}
use Rattle.ix_tree.specs.declared.expr.Expr.{Expr, Expr-F, ind-Expr, map-Expr, roll-Expr, fold-roll-Expr}
use Rattle.ix_tree.specs.declared.expr.ExprKind.{ExprKind, ExprKind-F, map-ExprKind, roll-ExprKind, fold-roll-ExprKind}
use Rattle.ix_tree.specs.declared.expr.Init.{Init, Init-F, ind-Init, map-Init, roll-Init, fold-roll-Init}
use Rattle.ix_tree.proofs.FoldsOfForms as fold
use Rattle.ix_guard_text.specs.Bare.{bare_maybe as maybe}
use Rattle.ix_guard.specs.Accesses as accesses
use Rattle.ix_guard.specs.Accesses.{Access, Parts, Reading, both, all, each, is_always, operands, place_of, as_target, own_access, or_inside, accessing, unnamed, reading, init_parts, parts_of, decl_parts, all_decl_parts}
use Rattle.ix_guard_text.specs.Moved as moved
use Rattle.ix_guard_text.specs.Moved.{Move, moved_span, moved_name, moved_type, moved_expr, moved_init, moved_decl}

module _ (move : Move) where
  abbrev pub moved_access : Access → Access
  moved_access access = record { array = moved_name move access.array; index = moved_name move access.index }

  abbrev moved_parts : Parts → Parts
  moved_parts parts = record { accesses = map moved_access parts.accesses; assigned = map (moved_span move) parts.assigned }

  abbrev moved_reading : Reading → Reading
  moved_reading r = record { name = maybe (moved_name move) r.name; parts = moved_parts r.parts }

  abbrev with_parts : List Access → List Span → Parts
  with_parts xs ys = record { accesses = xs; assigned = ys }

  -- ---- parts put together

  both_moved : (p q : Parts) → both (moved_parts p) (moved_parts q) ≡ moved_parts (both p q)
  both_moved p q = ap₂ with_parts (sym (map-append moved_access p.accesses q.accesses)) (sym (map-append (moved_span move) p.assigned q.assigned))

  all_moved : (ps : List Parts) → all (map moved_parts ps) ≡ moved_parts (all ps)
  all_moved [] = refl
  all_moved (p ∷ ps) = ap (both (moved_parts p)) (all_moved ps) ∙ both_moved p (all ps)

  each_moved : (rs : List Reading) → each (map moved_reading rs) ≡ map moved_parts (each rs)
  each_moved [] = refl
  each_moved (r ∷ rs) = ap (λ (ps : List Parts). moved_parts r.parts ∷ ps) (each_moved rs)

  all_each_moved : (rs : List Reading) → all (each (map moved_reading rs)) ≡ moved_parts (all (each rs))
  all_each_moved rs = ap all (each_moved rs) ∙ all_moved (each rs)

  operands_moved : (op : BinaryOp) (p q : Parts) → operands op (moved_parts p) (moved_parts q) ≡ moved_parts (operands op p q)
  operands_moved op p q = ap₂ with_parts (always_or_not (is_always op)) (sym (map-append (moved_span move) p.assigned q.assigned))
    where
      always_or_not : (b : Bool) → (if b then map moved_access p.accesses ++ map moved_access q.accesses else map moved_access p.accesses) ≡ map moved_access (if b then p.accesses ++ q.accesses else p.accesses)
      always_or_not true = sym (map-append moved_access p.accesses q.accesses)
      always_or_not false = refl

  target_moved : (r : Reading) → as_target (moved_reading r) ≡ moved_parts (as_target r)
  target_moved r = ap (with_parts (map moved_access r.parts.accesses)) (named_or_not r.name)
    where
      named_or_not : (name : Option Ident) → place_of (maybe (moved_name move) name) ++ map (moved_span move) r.parts.assigned ≡ map (moved_span move) (place_of name ++ r.parts.assigned)
      named_or_not None = refl
      named_or_not (Some name) = refl

  accessing_moved : (a b : Reading) → accessing (moved_reading a) (moved_reading b) ≡ moved_parts (accessing a b)
  accessing_moved a b = ap₂ with_parts (by a.name b.name) (sym (map-append (moved_span move) a.parts.assigned b.parts.assigned))
    where
      by : (m n : Option Ident) → or_inside (own_access (maybe (moved_name move) m) (maybe (moved_name move) n)) (map moved_access a.parts.accesses ++ map moved_access b.parts.accesses)
          ≡ map moved_access (or_inside (own_access m n) (a.parts.accesses ++ b.parts.accesses))
      by None n = sym (map-append moved_access a.parts.accesses b.parts.accesses)
      by (Some x) None = sym (map-append moved_access a.parts.accesses b.parts.accesses)
      by (Some x) (Some y) = refl

  -- ---- all forms

  abbrev kind_accesses : ExprKind → Reading
  kind_accesses = fold.of_kind accesses.kind_step accesses.init_step accesses.expr_step

  abbrev moved_kind : ExprKind → ExprKind
  moved_kind = fold.of_kind (moved.kind_step move) (moved.init_step move) (moved.expr_step move)

  abbrev KindIs : ExprKind → Type 0
  KindIs k = kind_accesses (moved_kind k) ≡ moved_reading (kind_accesses k)

  abbrev InitIs : Init → Type 0
  InitIs x = init_parts (moved_init move x) ≡ moved_parts (init_parts x)

  abbrev ExprIs : Expr → Type 0
  ExprIs x = reading (moved_expr move x) ≡ moved_reading (reading x)

  module _ {K I E : Type 0} (kind : K → ExprKind) (init : I → Init) (expr : E → Expr) (init_is : (i : I) → InitIs (init i)) (expr_is : (e : E) → ExprIs (expr e)) where
    abbrev there : E → Expr
    there x = moved_expr move (expr x)

    abbrev read : E → Reading
    read x = reading (expr x)

    list_is : (xs : List E) → map reading (map (moved_expr move) (map expr xs)) ≡ map moved_reading (map reading (map expr xs))
    list_is [] = refl
    list_is (x ∷ xs) = ap₂ (λ (r : Reading) (rs : List Reading). r ∷ rs) (expr_is x) (list_is xs)

    items_are : (xs : List I) → map init_parts (map (moved_init move) (map init xs)) ≡ map moved_parts (map init_parts (map init xs))
    items_are [] = refl
    items_are (x ∷ xs) = ap₂ (λ (r : Parts) (rs : List Parts). r ∷ rs) (init_is x) (items_are xs)

    arguments_are : (xs : List E) → all (each (map reading (map (moved_expr move) (map expr xs)))) ≡ moved_parts (all (each (map reading (map expr xs))))
    arguments_are xs = ap (λ (rs : List Reading). all (each rs)) (list_is xs) ∙ all_each_moved (map reading (map expr xs))

    -- what the moved form of a layer reads as
    kind_layer : (y : ExprKind-F K I E)
        → kind_accesses (moved.kind_step move (map-ExprKind ExprKind Init Expr ExprKind Init Expr moved_kind (moved_init move) (moved_expr move) (map-ExprKind K I E ExprKind Init Expr kind init expr y)))
        ≡ moved_reading (accesses.kind_step (map-ExprKind ExprKind Init Expr Reading Parts Reading kind_accesses init_parts reading (map-ExprKind K I E ExprKind Init Expr kind init expr y)))
    kind_layer (ExprKind-F.Int n) = fold.int_kind accesses.kind_step accesses.init_step accesses.expr_step n
    kind_layer (ExprKind-F.Bool b) = fold.bool_kind accesses.kind_step accesses.init_step accesses.expr_step b
    kind_layer ExprKind-F.Null = fold.null_kind accesses.kind_step accesses.init_step accesses.expr_step
    kind_layer ExprKind-F.This = fold.this_kind accesses.kind_step accesses.init_step accesses.expr_step
    kind_layer (ExprKind-F.Name name) = fold.name_kind accesses.kind_step accesses.init_step accesses.expr_step (moved_name move name)
    kind_layer (ExprKind-F.Select object name) =
        fold.select_kind accesses.kind_step accesses.init_step accesses.expr_step (there object) (moved_name move name) ∙ ap (λ (r : Reading). unnamed r.parts) (expr_is object)
    kind_layer (ExprKind-F.Index array index) =
        fold.index_kind accesses.kind_step accesses.init_step accesses.expr_step (there array) (there index)
        ∙ ap₂ (λ (a : Reading) (b : Reading). unnamed (accessing a b)) (expr_is array) (expr_is index) ∙ ap unnamed (accessing_moved (read array) (read index))
    kind_layer (ExprKind-F.Call None name args) =
        fold.call_kind accesses.kind_step accesses.init_step accesses.expr_step (moved_name move name) (map (moved_expr move) (map expr args)) ∙ ap unnamed (arguments_are args)
    kind_layer (ExprKind-F.Call (Some object) name args) =
        fold.call_on_kind accesses.kind_step accesses.init_step accesses.expr_step (there object) (moved_name move name) (map (moved_expr move) (map expr args))
        ∙ ap₂ (λ (r : Reading) (p : Parts). unnamed (both r.parts p)) (expr_is object) (arguments_are args) ∙ ap unnamed (both_moved (read object).parts (all (each (map reading (map expr args)))))
    kind_layer (ExprKind-F.New name args) =
        fold.new_kind accesses.kind_step accesses.init_step accesses.expr_step (moved_name move name) (map (moved_expr move) (map expr args)) ∙ ap unnamed (arguments_are args)
    kind_layer (ExprKind-F.NewArray ty size) =
        fold.new_array_kind accesses.kind_step accesses.init_step accesses.expr_step (moved_type move ty) (there size) ∙ ap (λ (r : Reading). unnamed r.parts) (expr_is size)
    kind_layer (ExprKind-F.NewItems ty items) =
        fold.new_items_kind accesses.kind_step accesses.init_step accesses.expr_step (moved_type move ty) (map (moved_init move) (map init items))
        ∙ ap (λ (ps : List Parts). unnamed (all ps)) (items_are items) ∙ ap unnamed (all_moved (map init_parts (map init items)))
    kind_layer (ExprKind-F.Unary op operand) =
        fold.unary_kind accesses.kind_step accesses.init_step accesses.expr_step op (there operand) ∙ ap (λ (r : Reading). unnamed r.parts) (expr_is operand)
    kind_layer (ExprKind-F.Binary op left right) =
        fold.binary_kind accesses.kind_step accesses.init_step accesses.expr_step op (there left) (there right)
        ∙ ap₂ (λ (a : Reading) (b : Reading). unnamed (operands op a.parts b.parts)) (expr_is left) (expr_is right) ∙ ap unnamed (operands_moved op (read left).parts (read right).parts)
    kind_layer (ExprKind-F.Assign op target source) =
        fold.assign_kind accesses.kind_step accesses.init_step accesses.expr_step op (there target) (there source)
        ∙ ap₂ (λ (a : Reading) (b : Reading). unnamed (both (as_target a) b.parts)) (expr_is target) (expr_is source)
        ∙ ap (λ (p : Parts). unnamed (both p (moved_parts (read source).parts))) (target_moved (read target)) ∙ ap unnamed (both_moved (as_target (read target)) (read source).parts)
    kind_layer (ExprKind-F.Step up after target) =
        fold.step_kind accesses.kind_step accesses.init_step accesses.expr_step up after (there target)
        ∙ ap (λ (r : Reading). unnamed (as_target r)) (expr_is target) ∙ ap unnamed (target_moved (read target))

    kind_rolled : (y : ExprKind-F K I E) → KindIs (roll-ExprKind (map-ExprKind K I E ExprKind Init Expr kind init expr y))
    kind_rolled y =
        let layer = map-ExprKind K I E ExprKind Init Expr kind init expr y in
        ap kind_accesses (fold-roll-ExprKind ExprKind Init Expr (moved.kind_step move) (moved.init_step move) (moved.expr_step move) layer)
        ∙ kind_layer y ∙ ap moved_reading (sym (fold-roll-ExprKind Reading Parts Reading accesses.kind_step accesses.init_step accesses.expr_step layer))

    init_layer : (y : Init-F K I E)
        → init_parts (moved.init_step move (map-Init ExprKind Init Expr ExprKind Init Expr moved_kind (moved_init move) (moved_expr move) (map-Init K I E ExprKind Init Expr kind init expr y)))
        ≡ moved_parts (accesses.init_step (map-Init ExprKind Init Expr Reading Parts Reading kind_accesses init_parts reading (map-Init K I E ExprKind Init Expr kind init expr y)))
    init_layer (Init-F.Value x) = fold.value_is accesses.kind_step accesses.init_step accesses.expr_step (there x) ∙ ap (λ (r : Reading). r.parts) (expr_is x)
    init_layer (Init-F.Items items span) =
        fold.items_are accesses.kind_step accesses.init_step accesses.expr_step (map (moved_init move) (map init items)) (moved_span move span)
        ∙ ap all (items_are items) ∙ all_moved (map init_parts (map init items))

    init_rolled : (y : Init-F K I E) → InitIs (roll-Init (map-Init K I E ExprKind Init Expr kind init expr y))
    init_rolled y =
        let layer = map-Init K I E ExprKind Init Expr kind init expr y in
        ap init_parts (fold-roll-Init ExprKind Init Expr (moved.kind_step move) (moved.init_step move) (moved.expr_step move) layer)
        ∙ init_layer y ∙ ap moved_parts (sym (fold-roll-Init Reading Parts Reading accesses.kind_step accesses.init_step accesses.expr_step layer))

    expr_rolled : ((k : K) → KindIs (kind k)) → (y : Expr-F K I E) → ExprIs (roll-Expr (map-Expr K I E ExprKind Init Expr kind init expr y))
    expr_rolled kind_is y =
        let layer = map-Expr K I E ExprKind Init Expr kind init expr y in
        ap reading (fold-roll-Expr ExprKind Init Expr (moved.kind_step move) (moved.init_step move) (moved.expr_step move) layer)
        ∙ fold.expr_is accesses.kind_step accesses.init_step accesses.expr_step (moved_kind (kind y.kind)) (moved_span move y.span)
        ∙ kind_is y.kind ∙ ap moved_reading (sym (fold-roll-Expr Reading Parts Reading accesses.kind_step accesses.init_step accesses.expr_step layer))

  expression_moved : (x : Expr) → ExprIs x
  expression_moved = ind-Expr KindIs InitIs ExprIs
      (λ x y e. subst (λ layer. KindIs (roll-ExprKind layer)) e (kind_rolled (λ k. k.0) (λ i. i.0) (λ x. x.0) (λ i. i.1) (λ x. x.1) y))
      (λ x y e. subst (λ layer. InitIs (roll-Init layer)) e (init_rolled (λ k. k.0) (λ i. i.0) (λ x. x.0) (λ i. i.1) (λ x. x.1) y))
      (λ x y e. subst (λ layer. ExprIs (roll-Expr layer)) e (expr_rolled (λ k. k.0) (λ i. i.0) (λ x. x.0) (λ i. i.1) (λ x. x.1) (λ k. k.1) y))

  initialiser_moved : (x : Init) → InitIs x
  initialiser_moved = ind-Init KindIs InitIs ExprIs
      (λ x y e. subst (λ layer. KindIs (roll-ExprKind layer)) e (kind_rolled (λ k. k.0) (λ i. i.0) (λ x. x.0) (λ i. i.1) (λ x. x.1) y))
      (λ x y e. subst (λ layer. InitIs (roll-Init layer)) e (init_rolled (λ k. k.0) (λ i. i.0) (λ x. x.0) (λ i. i.1) (λ x. x.1) y))
      (λ x y e. subst (λ layer. ExprIs (roll-Expr layer)) e (expr_rolled (λ k. k.0) (λ i. i.0) (λ x. x.0) (λ i. i.1) (λ x. x.1) (λ k. k.1) y))

  pub accesses_moved : (x : Expr) → (parts_of (moved_expr move x)).accesses ≡ map moved_access (parts_of x).accesses
  accesses_moved x = ap (λ (r : Reading). r.parts.accesses) (expression_moved x)

  pub assigned_moved : (x : Expr) → (parts_of (moved_expr move x)).assigned ≡ map (moved_span move) (parts_of x).assigned
  assigned_moved x = ap (λ (r : Reading). r.parts.assigned) (expression_moved x)

  decls_moved : (ds : List LocalDecl) → all_decl_parts (map (moved_decl move) ds) ≡ moved_parts (all_decl_parts ds)
  decls_moved [] = refl
  decls_moved (d ∷ ds) = ap₂ both (init_moved d.init) (decls_moved ds) ∙ both_moved (decl_parts d) (all_decl_parts ds)
    where
      init_moved : (o : Option Init) → accesses.maybe (maybe (moved_init move) o) ≡ moved_parts (accesses.maybe o)
      init_moved None = refl
      init_moved (Some x) = initialiser_moved x

  pub declared_moved : (ds : List LocalDecl) → (all_decl_parts (map (moved_decl move) ds)).accesses ≡ map moved_access (all_decl_parts ds).accesses
  declared_moved ds = ap (λ (p : Parts). p.accesses) (decls_moved ds)

  pub decls_assigned_moved : (ds : List LocalDecl) → (all_decl_parts (map (moved_decl move) ds)).assigned ≡ map (moved_span move) (all_decl_parts ds).assigned
  decls_assigned_moved ds = ap (λ (p : Parts). p.assigned) (decls_moved ds)
