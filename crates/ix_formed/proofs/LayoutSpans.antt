-- The expressions in an expression stand where it is laid out.
use Rattle.std.proofs.Common.{◌≡◌, ◌≤◌, ℕ, max, List, [], ◌∷◌, ◌++◌, map, Option, Some, None, refl, sym, ap, subst, ◌∙◌, arith, append_assoc}
use Rattle.ix_text.specs.declared.span.Span.{Span}
use Rattle.ix_tree.specs.declared.annot.Annot.{Annot}
use Rattle.ix_tree.specs.declared.annot.AnnotArg.{AnnotArg}
use Rattle.ix_tree.specs.declared.annot.AnnotValue.{AnnotValue}
use Rattle.ix_tree.specs.declared.annot.AnnotValue.TheVariants.{Number, Truth, Texts}
use Rattle.ix_tree.specs.declared.annot.BaseTree.{BaseTree}
use Rattle.ix_tree.specs.declared.annot.BaseTree.TheVariants.{Int, Boolean, Named}
use Rattle.ix_tree.specs.declared.annot.TypeTree.{TypeTree}
use Rattle.ix_tree.specs.declared.expr.Expr.{Expr, Expr-F, ind-Expr, map-Expr, roll-Expr, fold-roll-Expr}
use Rattle.ix_tree.specs.declared.expr.ExprKind.{ExprKind, ExprKind-F, map-ExprKind, roll-ExprKind, fold-ExprKind, fold-roll-ExprKind}
use Rattle.ix_tree.specs.declared.expr.Init.{Init, Init-F, ind-Init, map-Init, roll-Init, fold-roll-Init}
use Rattle.ix_tree.specs.Parts as parts
use Rattle.ix_tree.specs.Parts.{Part, expression, elsewhere, together, listed, expr_parts, init_parts, type_parts}
use Rattle.ix_tree.specs.Placed as placed
use Rattle.ix_tree.specs.Placed.{Layout, nothing, node, copy, LaidOut, followed, row, piece, expr_piece, init_piece}
use Rattle.ix_plain.specs.Values as values
use Rattle.ix_plain.specs.Values.{Lowering, Filling, lowering, filling}
use Rattle.ix_formed.specs.Additions.{AllOf}
use Rattle.ix_formed.specs.TypedStatements.{Within}
use Rattle.ix_formed.proofs.NumberLists.{all_so, all_joined}
use Rattle.ix_formed.proofs.TypedExpressions.{all_parted}

-- ---- layouts

abbrev pub nodes : Layout → List Span
nodes nothing = []
nodes (node span inner later) = span ∷ (nodes inner ++ nodes later)
nodes (copy inner later) = nodes inner ++ nodes later

pub laid_up : (start lo hi : ℕ) (l : Layout) → LaidOut start lo hi l → lo ≤ hi
laid_up start lo hi nothing laid = laid
laid_up start lo hi (node span inner later) laid = let a = laid_up start span.to hi later laid.3 in let b = laid.0 in let c = laid.1 in omega (arith, a, b, c)
laid_up start lo hi (copy inner later) laid = let a = laid_up start (max lo laid.0) hi later laid.2 in omega (arith, a)

-- all nodes stand there
pub laid_within : (start lo hi : ℕ) (l : Layout) → start ≤ lo → LaidOut start lo hi l → AllOf (Within start hi) (nodes l)
laid_within start lo hi nothing le laid = tt
laid_within start lo hi (node span inner later) le laid =
    let up = laid_up start span.to hi later laid.3 in
    let a = laid.0 in
    let b = laid.1 in (
      ((omega (arith, a, le)), (omega (arith, b, up))),
      all_joined (Within start hi) (nodes inner) (nodes later)
          (all_so (Within span.from span.to) (Within start hi) (λ s w. ((let x = w.0 in omega (arith, x, a, le)), (let x = w.1 in omega (arith, x, up)))) (nodes inner) (laid_within span.from span.from span.to inner (omega arith) laid.2))
          (laid_within start span.to hi later (omega (arith, a, b, le)) laid.3),
    )
laid_within start lo hi (copy inner later) le laid =
    let up = laid_up start (max lo laid.0) hi later laid.2 in
    all_joined (Within start hi) (nodes inner) (nodes later)
    (all_so (Within start laid.0) (Within start hi) (λ s w. (w.0, (let x = w.1 in omega (arith, x, up)))) (nodes inner) (laid_within start start laid.0 inner (omega arith) laid.1))
    (laid_within start (max lo laid.0) hi later (omega (arith, le)) laid.2)

-- one behind the other
pub laid_parts : (start lo hi : ℕ) (l later : Layout) → LaidOut start lo hi (followed l later) → (mid : ℕ) × LaidOut start lo mid l × LaidOut start mid hi later
laid_parts start lo hi nothing later laid = (lo, omega arith, laid)
laid_parts start lo hi (node span inner rest) later laid = let r = laid_parts start span.to hi rest later laid.3 in (r.0, (laid.0, laid.1, laid.2, r.1), r.2)
laid_parts start lo hi (copy inner rest) later laid = let r = laid_parts start (max lo laid.0) hi rest later laid.2 in (r.0, (laid.0, laid.1, r.1), r.2)

nodes_both : (l later : Layout) → nodes (followed l later) ≡ nodes l ++ nodes later
nodes_both nothing later = refl
nodes_both (node span inner rest) later = ap (λ x. span ∷ (nodes inner ++ x)) (nodes_both rest later) ∙ ap (λ x. span ∷ x) (sym (append_assoc (nodes inner) (nodes rest) (nodes later)))
nodes_both (copy inner rest) later = ap (λ x. nodes inner ++ x) (nodes_both rest later) ∙ sym (append_assoc (nodes inner) (nodes rest) (nodes later))

module _ (P : Span → Type 0) where
  -- of an expression it is so where it stands
  abbrev pub PartIs : Part → Type 0
  PartIs (expression span) = P span
  PartIs _ = Unit {0}

  split : (l later : Layout) → AllOf P (nodes (followed l later)) → AllOf P (nodes l) × AllOf P (nodes later)
  split l later all = all_parted P (nodes l) (nodes later) (subst (AllOf P) (nodes_both l later) all)

  rows : (xs ys : List Layout) → AllOf P (nodes (row (xs ++ ys))) → AllOf P (nodes (row ys))
  rows [] ys all = all
  rows (x ∷ xs) ys all = rows xs ys (split x (row (xs ++ ys)) all).1

  own : (span : Span) (l : List Layout) → AllOf P (nodes (piece span l)) → P span × AllOf P (nodes (row l))
  own span l all = (all.0, (all_parted P (nodes (row l)) [] all.1).0)

  -- ---- types have no expression

  value_free : (v : AnnotValue) → AllOf PartIs (parts.value_parts v)
  value_free (Number n) = tt
  value_free (Truth b) = tt
  value_free (Texts texts) = (tt, tt)

  arg_free : (arg : AnnotArg) → AllOf PartIs (parts.arg_parts arg)
  arg_free arg = all_joined PartIs (parts.maybe parts.type_name arg.name) (parts.value_parts arg.value) (named arg.name) (value_free arg.value)
    where
      named : (o : Option _) → AllOf PartIs (parts.maybe parts.type_name o)
      named None = tt
      named (Some ident) = (tt, tt)

  args_free : (args : List AnnotArg) → AllOf PartIs (together (parts.each parts.arg_parts args))
  args_free [] = tt
  args_free (arg ∷ args) = all_joined PartIs (parts.arg_parts arg) (together (parts.each parts.arg_parts args)) (arg_free arg) (args_free args)

  annots_free : (annots : List Annot) → AllOf PartIs (together (parts.each parts.annot_parts annots))
  annots_free [] = tt
  annots_free (annot ∷ annots) = all_joined PartIs (parts.annot_parts annot) (together (parts.each parts.annot_parts annots)) (tt, (tt, args_free annot.args)) (annots_free annots)

  base_free : (b : BaseTree) → AllOf PartIs (parts.base_parts b)
  base_free Int = tt
  base_free Boolean = tt
  base_free (Named ident) = (tt, tt)

  pub type_free : (ty : TypeTree) → AllOf PartIs (type_parts ty)
  type_free ty = all_joined PartIs (parts.base_parts ty.base) (listed (parts.each parts.annot_parts ty.annots)) (base_free ty.base) (tt, annots_free ty.annots)

  -- ---- expressions

  abbrev kind_parts : ExprKind → List Part
  kind_parts = fold-ExprKind (List Part) (List Part) (List Part) parts.kind_step parts.init_step parts.expr_step

  abbrev kind_pieces : ExprKind → List Layout
  kind_pieces = fold-ExprKind (List Layout) Layout Layout placed.kind_pieces placed.init_of placed.expr_of

  abbrev KindIs : ExprKind → Type 0
  KindIs k = AllOf P (nodes (row (kind_pieces k))) → AllOf PartIs (kind_parts k)

  abbrev ExprIs : Expr → Type 0
  ExprIs e = AllOf P (nodes (expr_piece e)) → AllOf PartIs (expr_parts e)

  abbrev InitIs : Init → Type 0
  InitIs i = AllOf P (nodes (init_piece i)) → AllOf PartIs (init_parts i)

  module _ {K I E : Type 0} (kind : K → ExprKind) (init : I → Init) (expr : E → Expr) (init_is : (i : I) → InitIs (init i)) (expr_is : (e : E) → ExprIs (expr e)) where
    args_are : (es : List E) → AllOf P (nodes (row (map expr_piece (map expr es)))) → AllOf PartIs (together (map expr_parts (map expr es)))
    args_are [] all = tt
    args_are (e ∷ es) all =
        let q = split (expr_piece (expr e)) (row (map expr_piece (map expr es))) all in
        all_joined PartIs (expr_parts (expr e)) (together (map expr_parts (map expr es))) (expr_is e q.0) (args_are es q.1)

    items_are : (is : List I) → AllOf P (nodes (row (map init_piece (map init is)))) → AllOf PartIs (together (map init_parts (map init is)))
    items_are [] all = tt
    items_are (i ∷ is) all =
        let q = split (init_piece (init i)) (row (map init_piece (map init is))) all in
        all_joined PartIs (init_parts (init i)) (together (map init_parts (map init is))) (init_is i q.0) (items_are is q.1)

    two : (a b : E) → AllOf P (nodes (row (expr_piece (expr a) ∷ expr_piece (expr b) ∷ []))) → AllOf PartIs (expr_parts (expr a) ++ expr_parts (expr b))
    two a b all =
        let q = split (expr_piece (expr a)) (row (expr_piece (expr b) ∷ [])) all in
        all_joined PartIs (expr_parts (expr a)) (expr_parts (expr b)) (expr_is a q.0) (expr_is b (split (expr_piece (expr b)) nothing q.1).0)

    one : (a : E) → AllOf P (nodes (row (expr_piece (expr a) ∷ []))) → AllOf PartIs (expr_parts (expr a))
    one a all = expr_is a (split (expr_piece (expr a)) nothing all).0

    kind_layer : (y : ExprKind-F K I E) → let layer = map-ExprKind K I E ExprKind Init Expr kind init expr y in
        AllOf P (nodes (row (placed.kind_pieces (map-ExprKind ExprKind Init Expr (List Layout) Layout Layout kind_pieces init_piece expr_piece layer))))
        → AllOf PartIs (parts.kind_step (map-ExprKind ExprKind Init Expr (List Part) (List Part) (List Part) kind_parts init_parts expr_parts layer))
    kind_layer (ExprKind-F.Int n) all = tt
    kind_layer (ExprKind-F.Bool answer) all = tt
    kind_layer ExprKind-F.Null all = tt
    kind_layer ExprKind-F.This all = tt
    kind_layer (ExprKind-F.Name ident) all = (tt, tt)
    kind_layer (ExprKind-F.Select object ident) all =
        let q = split (expr_piece (expr object)) (row (placed.name_piece ident ∷ [])) all in all_joined PartIs (expr_parts (expr object)) (elsewhere ident ∷ []) (expr_is object q.0) (tt, tt)
    kind_layer (ExprKind-F.Index array index) all = two array index all
    kind_layer (ExprKind-F.Call None ident args) all = (tt, (tt, args_are args (split (placed.name_piece ident) (row (map expr_piece (map expr args))) all).1))
    kind_layer (ExprKind-F.Call (Some object) ident args) all =
        let q = split (expr_piece (expr object)) (row (placed.name_piece ident ∷ map expr_piece (map expr args))) all in
        all_joined PartIs (expr_parts (expr object)) (elsewhere ident ∷ listed (map expr_parts (map expr args))) (expr_is object q.0) (tt, (tt, args_are args (split (placed.name_piece ident) (row (map expr_piece (map expr args))) q.1).1))
    kind_layer (ExprKind-F.New ident args) all = (tt, (tt, args_are args (split (placed.name_piece ident) (row (map expr_piece (map expr args))) all).1))
    kind_layer (ExprKind-F.NewArray ty size) all =
        let q = (own ty.span (map placed.annot_piece ty.annots ++ (placed.base_pieces ty.base ++ expr_piece (expr size) ∷ [])) (split (placed.new_type_piece ty (expr_piece (expr size) ∷ [])) nothing all).0).1 in
        all_joined PartIs (type_parts ty) (expr_parts (expr size)) (type_free ty)
        (one size (rows (placed.base_pieces ty.base) (expr_piece (expr size) ∷ []) (rows (map placed.annot_piece ty.annots) (placed.base_pieces ty.base ++ expr_piece (expr size) ∷ []) q)))
    kind_layer (ExprKind-F.NewItems ty items) all =
        let q = split (placed.new_type_piece ty []) (row (map init_piece (map init items))) all in
        all_joined PartIs (type_parts ty) (listed (map init_parts (map init items))) (type_free ty) (tt, items_are items q.1)
    kind_layer (ExprKind-F.Unary operator operand) all = one operand all
    kind_layer (ExprKind-F.Binary operator left right) all = two left right all
    kind_layer (ExprKind-F.Assign operator target value) all = two target value all
    kind_layer (ExprKind-F.Step up after target) all = one target all

    kind_rolled : (y : ExprKind-F K I E) → KindIs (roll-ExprKind (map-ExprKind K I E ExprKind Init Expr kind init expr y))
    kind_rolled y all =
        let layer = map-ExprKind K I E ExprKind Init Expr kind init expr y in
        let a = fold-roll-ExprKind (List Layout) Layout Layout placed.kind_pieces placed.init_of placed.expr_of layer in
        let b = fold-roll-ExprKind (List Part) (List Part) (List Part) parts.kind_step parts.init_step parts.expr_step layer in
        subst (AllOf PartIs) (sym b) (kind_layer y (subst (λ (l : List Layout). AllOf P (nodes (row l))) a all))

    init_layer : (y : Init-F K I E) → let layer = map-Init K I E ExprKind Init Expr kind init expr y in
        AllOf P (nodes (placed.init_of (map-Init ExprKind Init Expr (List Layout) Layout Layout kind_pieces init_piece expr_piece layer)))
        → AllOf PartIs (parts.init_step (map-Init ExprKind Init Expr (List Part) (List Part) (List Part) kind_parts init_parts expr_parts layer))
    init_layer (Init-F.Value e) all = expr_is e all
    init_layer (Init-F.Items items span) all = (tt, items_are items (own span (map init_piece (map init items)) all).1)

    init_rolled : (y : Init-F K I E) → InitIs (roll-Init (map-Init K I E ExprKind Init Expr kind init expr y))
    init_rolled y all =
        let layer = map-Init K I E ExprKind Init Expr kind init expr y in
        let a = fold-roll-Init (List Layout) Layout Layout placed.kind_pieces placed.init_of placed.expr_of layer in
        let b = fold-roll-Init (List Part) (List Part) (List Part) parts.kind_step parts.init_step parts.expr_step layer in
        subst (AllOf PartIs) (sym b) (init_layer y (subst (λ (l : Layout). AllOf P (nodes l)) a all))

    expr_rolled : ((k : K) → KindIs (kind k)) → (y : Expr-F K I E) → ExprIs (roll-Expr (map-Expr K I E ExprKind Init Expr kind init expr y))
    expr_rolled kind_is y all =
        let layer = map-Expr K I E ExprKind Init Expr kind init expr y in
        let a = fold-roll-Expr (List Layout) Layout Layout placed.kind_pieces placed.init_of placed.expr_of layer in
        let b = fold-roll-Expr (List Part) (List Part) (List Part) parts.kind_step parts.init_step parts.expr_step layer in
        let q = own y.span (kind_pieces (kind y.kind)) (subst (λ (l : Layout). AllOf P (nodes l)) a all) in
        subst (AllOf PartIs) (sym b) (q.0, kind_is y.kind q.1)

  expr_are : (e : Expr) → ExprIs e
  expr_are = ind-Expr KindIs InitIs ExprIs
      (λ x y e. subst (λ layer. KindIs (roll-ExprKind layer)) e (kind_rolled (λ k. k.0) (λ i. i.0) (λ x. x.0) (λ i. i.1) (λ x. x.1) y))
      (λ x y e. subst (λ layer. InitIs (roll-Init layer)) e (init_rolled (λ k. k.0) (λ i. i.0) (λ x. x.0) (λ i. i.1) (λ x. x.1) y))
      (λ x y e. subst (λ layer. ExprIs (roll-Expr layer)) e (expr_rolled (λ k. k.0) (λ i. i.0) (λ x. x.0) (λ i. i.1) (λ x. x.1) (λ k. k.1) y))

  init_are : (i : Init) → InitIs i
  init_are = ind-Init KindIs InitIs ExprIs
      (λ x y e. subst (λ layer. KindIs (roll-ExprKind layer)) e (kind_rolled (λ k. k.0) (λ i. i.0) (λ x. x.0) (λ i. i.1) (λ x. x.1) y))
      (λ x y e. subst (λ layer. InitIs (roll-Init layer)) e (init_rolled (λ k. k.0) (λ i. i.0) (λ x. x.0) (λ i. i.1) (λ x. x.1) y))
      (λ x y e. subst (λ layer. ExprIs (roll-Expr layer)) e (expr_rolled (λ k. k.0) (λ i. i.0) (λ x. x.0) (λ i. i.1) (λ x. x.1) (λ k. k.1) y))

-- ---- where an expression is laid out

pub expr_spans : (e : Expr) (start lo hi : ℕ) → start ≤ lo → LaidOut start lo hi (expr_piece e) → AllOf (PartIs (Within start hi)) (expr_parts e)
expr_spans e start lo hi le laid = expr_are (Within start hi) e (laid_within start lo hi (expr_piece e) le laid)

pub init_spans : (i : Init) (start lo hi : ℕ) → start ≤ lo → LaidOut start lo hi (init_piece i) → AllOf (PartIs (Within start hi)) (init_parts i)
init_spans i start lo hi le laid = init_are (Within start hi) i (laid_within start lo hi (init_piece i) le laid)

-- ---- one node

abbrev pieces_of : ExprKind → List Layout
pieces_of = fold-ExprKind (List Layout) Layout Layout placed.kind_pieces placed.init_of placed.expr_of

abbrev lowering_kind : ExprKind → Span → Lowering
lowering_kind = fold-ExprKind (Span → Lowering) Filling Lowering values.kind_step values.init_step values.expr_step

-- An expression and an initialiser are laid out as one node, at their place.
abbrev IsNode : Layout → Span → Type 0
IsNode l span = (inner : Layout) × (l ≡ node span inner nothing)

module _ {K I E : Type 0} (kind : K → ExprKind) (init : I → Init) (expr : E → Expr) (expr_is : (e : E) → IsNode (expr_piece (expr e)) (lowering (expr e)).span) where
  init_node : (y : Init-F K I E) → IsNode (init_piece (roll-Init (map-Init K I E ExprKind Init Expr kind init expr y))) (filling (roll-Init (map-Init K I E ExprKind Init Expr kind init expr y))).span
  init_node y =
      let layer = map-Init K I E ExprKind Init Expr kind init expr y in
      let a = fold-roll-Init (List Layout) Layout Layout placed.kind_pieces placed.init_of placed.expr_of layer in
      let b = fold-roll-Init (Span → Lowering) Filling Lowering values.kind_step values.init_step values.expr_step layer in
      subst (λ (f : Filling). IsNode (init_piece (roll-Init layer)) f.span) (sym b) (subst (λ l. IsNode l (values.init_step (map-Init ExprKind Init Expr (Span → Lowering) Filling Lowering lowering_kind filling lowering layer)).span) (sym a) (by_form y))
    where
      by_form : (y : Init-F K I E) → let layer = map-Init K I E ExprKind Init Expr kind init expr y in
          IsNode (placed.init_of (map-Init ExprKind Init Expr (List Layout) Layout Layout pieces_of init_piece expr_piece layer)) (values.init_step (map-Init ExprKind Init Expr (Span → Lowering) Filling Lowering lowering_kind filling lowering layer)).span
      by_form (Init-F.Value e) = expr_is e
      by_form (Init-F.Items items span) = (row (map init_piece (map init items)), refl)

  expr_node : (y : Expr-F K I E) → IsNode (expr_piece (roll-Expr (map-Expr K I E ExprKind Init Expr kind init expr y))) (lowering (roll-Expr (map-Expr K I E ExprKind Init Expr kind init expr y))).span
  expr_node y =
      let layer = map-Expr K I E ExprKind Init Expr kind init expr y in
      let a = fold-roll-Expr (List Layout) Layout Layout placed.kind_pieces placed.init_of placed.expr_of layer in
      let b = fold-roll-Expr (Span → Lowering) Filling Lowering values.kind_step values.init_step values.expr_step layer in
      subst (λ (f : Lowering). IsNode (expr_piece (roll-Expr layer)) f.span) (sym b) (subst (λ l. IsNode l y.span) (sym a) (row (pieces_of (kind y.kind)), refl))

pub init_single : (i : Init) → IsNode (init_piece i) (filling i).span
init_single = ind-Init (λ k. Unit {0}) (λ i. IsNode (init_piece i) (filling i).span) (λ e. IsNode (expr_piece e) (lowering e).span)
    (λ x y e. tt)
    (λ x y e. subst (λ layer. IsNode (init_piece (roll-Init layer)) (filling (roll-Init layer)).span) e (init_node (λ k. k.0) (λ i. i.0) (λ x. x.0) (λ x. x.1) y))
    (λ x y e. subst (λ layer. IsNode (expr_piece (roll-Expr layer)) (lowering (roll-Expr layer)).span) e (expr_node (λ k. k.0) (λ i. i.0) (λ x. x.0) (λ x. x.1) y))

pub expr_single : (e : Expr) → IsNode (expr_piece e) (lowering e).span
expr_single = ind-Expr (λ k. Unit {0}) (λ i. IsNode (init_piece i) (filling i).span) (λ e. IsNode (expr_piece e) (lowering e).span)
    (λ x y e. tt)
    (λ x y e. subst (λ layer. IsNode (init_piece (roll-Init layer)) (filling (roll-Init layer)).span) e (init_node (λ k. k.0) (λ i. i.0) (λ x. x.0) (λ x. x.1) y))
    (λ x y e. subst (λ layer. IsNode (expr_piece (roll-Expr layer)) (lowering (roll-Expr layer)).span) e (expr_node (λ k. k.0) (λ i. i.0) (λ x. x.0) (λ x. x.1) y))
