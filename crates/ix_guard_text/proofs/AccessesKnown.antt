-- The names of an expression's accesses stand among its parts.
use Rattle.std.proofs.Common.{Bool, true, false, List, [], ◌∷◌, ◌++◌, map, Option, Some, None, sym, subst}
use Rattle.std.specs.Prelude.{if◌then◌else◌}
use Rattle.ix_tree.specs.declared.annot.Ident.{Ident}
use Rattle.ix_tree.specs.declared.decl.LocalDecl.{LocalDecl}
use Rattle.ix_tree.specs.declared.expr.BinaryOp.{BinaryOp}
use Rattle.ix_tree.specs.declared.expr.Expr.{Expr, Expr-F, ind-Expr, map-Expr, roll-Expr, fold-roll-Expr}
use Rattle.ix_tree.specs.declared.expr.ExprKind.{ExprKind, ExprKind-F, map-ExprKind, roll-ExprKind, fold-ExprKind, fold-roll-ExprKind}
use Rattle.ix_tree.specs.declared.expr.Init.{Init, Init-F, ind-Init, map-Init, roll-Init, fold-roll-Init}
use Rattle.ix_tree.specs.Parts as parts
use Rattle.ix_tree.specs.Parts.{Part, elsewhere, together, type_parts, mods_parts, expr_parts}
use Rattle.ix_formed.specs.Additions.{AllOf}
use Rattle.ix_guard.specs.Accesses as accesses
use Rattle.ix_guard.specs.Accesses.{Access, Parts, Reading, nothing, both, all, each, is_always, operands, as_target, own_access, or_inside, accessing, unnamed, reading, init_parts, parts_of, decl_parts, all_decl_parts}

module _ (So : Part → Type 0) where
  abbrev pub AllSo : List Part → Type 0
  AllSo ps = AllOf So ps

  -- What is so of the parts is so of both names.
  abbrev pub IsKnown : Access → Type 0
  IsKnown access = So (elsewhere access.array) × So (elsewhere access.index)

  abbrev pub AllKnown : List Access → Type 0
  AllKnown list = AllOf IsKnown list

  pub so_parts : (ps qs : List Part) → AllSo (ps ++ qs) → AllSo ps × AllSo qs
  so_parts [] qs all = (tt, all)
  so_parts (p ∷ ps) qs all = let rest = so_parts ps qs all.1 in ((all.0, rest.0), rest.1)

  known_both : (xs ys : List Access) → AllKnown xs → AllKnown ys → AllKnown (xs ++ ys)
  known_both [] ys a b = b
  known_both (x ∷ xs) ys a b = (a.0, known_both xs ys a.1 b)

  abbrev KnownName : Option Ident → Type 0
  KnownName None = Unit {0}
  KnownName (Some name) = So (elsewhere name)

  -- those of a reading, and the name that it is
  record HasNames (g : Reading) (ps : List Part) : Type 0 where
    pub name : AllSo ps → KnownName g.name
    pub accesses : AllSo ps → AllKnown g.parts.accesses

  unnamed_has : (p : Parts) (ps : List Part) → (AllSo ps → AllKnown p.accesses) → HasNames (unnamed p) ps
  unnamed_has p ps h = record { name = λ so. tt; accesses = h }

  accessing_has : (g h : Reading) (ps qs : List Part) → HasNames g ps → HasNames h qs → AllSo (ps ++ qs) → AllKnown (accessing g h).accesses
  accessing_has g h ps qs a b so = by g.name h.name (a.name all.0) (b.name all.1)
    where
      all : AllSo ps × AllSo qs
      all = so_parts ps qs so

      inside : AllKnown (g.parts.accesses ++ h.parts.accesses)
      inside = known_both g.parts.accesses h.parts.accesses (a.accesses all.0) (b.accesses all.1)

      by : (m n : Option Ident) → KnownName m → KnownName n → AllKnown (or_inside (own_access m n) (g.parts.accesses ++ h.parts.accesses))
      by None n x y = inside
      by (Some m) None x y = inside
      by (Some m) (Some n) x y = ((x, y), tt)

  operands_have : (op : BinaryOp) (g h : Reading) → AllKnown g.parts.accesses → AllKnown h.parts.accesses → AllKnown (operands op g.parts h.parts).accesses
  operands_have op g h a b = always_or_not (is_always op)
    where
      always_or_not : (b : Bool) → AllKnown (if b then g.parts.accesses ++ h.parts.accesses else g.parts.accesses)
      always_or_not true = known_both g.parts.accesses h.parts.accesses a b
      always_or_not false = a

  -- ---- all forms

  abbrev kind_accesses : ExprKind → Reading
  kind_accesses = fold-ExprKind Reading Parts Reading accesses.kind_step accesses.init_step accesses.expr_step

  abbrev kind_parts : ExprKind → List Part
  kind_parts = fold-ExprKind (List Part) (List Part) (List Part) parts.kind_step parts.init_step parts.expr_step

  abbrev KindIs : ExprKind → Type 0
  KindIs k = HasNames (kind_accesses k) (kind_parts k)

  abbrev InitIs : Init → Type 0
  InitIs x = AllSo (parts.init_parts x) → AllKnown (init_parts x).accesses

  abbrev ExprIs : Expr → Type 0
  ExprIs x = HasNames (reading x) (expr_parts x)

  module _ {K I E : Type 0} (kind : K → ExprKind) (init : I → Init) (expr : E → Expr) (init_is : (i : I) → InitIs (init i)) (expr_is : (e : E) → ExprIs (expr e)) where
    abbrev read : E → Reading
    read x = reading (expr x)

    abbrev there : E → List Part
    there x = expr_parts (expr x)

    arguments_have : (xs : List E) → AllSo (together (map expr_parts (map expr xs))) → AllKnown (all (each (map reading (map expr xs)))).accesses
    arguments_have [] so = tt
    arguments_have (x ∷ xs) so =
        let both = so_parts (there x) (together (map expr_parts (map expr xs))) so in
        known_both (read x).parts.accesses (all (each (map reading (map expr xs)))).accesses ((expr_is x).accesses both.0) (arguments_have xs both.1)

    items_have : (xs : List I) → AllSo (together (map parts.init_parts (map init xs))) → AllKnown (all (map init_parts (map init xs))).accesses
    items_have [] so = tt
    items_have (x ∷ xs) so =
        let both = so_parts (parts.init_parts (init x)) (together (map parts.init_parts (map init xs))) so in
        known_both (init_parts (init x)).accesses (all (map init_parts (map init xs))).accesses (init_is x both.0) (items_have xs both.1)

    kind_layer : (y : ExprKind-F K I E)
        → HasNames (accesses.kind_step (map-ExprKind ExprKind Init Expr Reading Parts Reading kind_accesses init_parts reading (map-ExprKind K I E ExprKind Init Expr kind init expr y)))
        (parts.kind_step (map-ExprKind ExprKind Init Expr (List Part) (List Part) (List Part) kind_parts parts.init_parts expr_parts (map-ExprKind K I E ExprKind Init Expr kind init expr y)))
    kind_layer (ExprKind-F.Int n) = unnamed_has nothing _ (λ so. tt)
    kind_layer (ExprKind-F.Bool b) = unnamed_has nothing _ (λ so. tt)
    kind_layer ExprKind-F.Null = unnamed_has nothing _ (λ so. tt)
    kind_layer ExprKind-F.This = unnamed_has nothing _ (λ so. tt)
    kind_layer (ExprKind-F.Name name) = record { name = λ so. so.0; accesses = λ so. tt }
    kind_layer (ExprKind-F.Select object name) = unnamed_has (read object).parts _ (λ so. (expr_is object).accesses (so_parts (there object) (elsewhere name ∷ []) so).0)
    kind_layer (ExprKind-F.Index array index) = unnamed_has (accessing (read array) (read index)) _ (accessing_has (read array) (read index) (there array) (there index) (expr_is array) (expr_is index))
    kind_layer (ExprKind-F.Call None name args) = unnamed_has (all (each (map reading (map expr args)))) _ (λ so. arguments_have args so.1.1)
    kind_layer (ExprKind-F.Call (Some object) name args) = unnamed_has (both (read object).parts (all (each (map reading (map expr args))))) _
        (λ so. let split = so_parts (there object) (elsewhere name ∷ parts.listed (map expr_parts (map expr args))) so in
        known_both (read object).parts.accesses (all (each (map reading (map expr args)))).accesses ((expr_is object).accesses split.0) (arguments_have args split.1.1.1))
    kind_layer (ExprKind-F.New name args) = unnamed_has (all (each (map reading (map expr args)))) _ (λ so. arguments_have args so.1.1)
    kind_layer (ExprKind-F.NewArray ty size) = unnamed_has (read size).parts _ (λ so. (expr_is size).accesses (so_parts (type_parts ty) (there size) so).1)
    kind_layer (ExprKind-F.NewItems ty items) = unnamed_has (all (map init_parts (map init items))) _
        (λ so. items_have items (so_parts (type_parts ty) (parts.listed (map parts.init_parts (map init items))) so).1.1)
    kind_layer (ExprKind-F.Unary op operand) = unnamed_has (read operand).parts _ (expr_is operand).accesses
    kind_layer (ExprKind-F.Binary op left right) = unnamed_has (operands op (read left).parts (read right).parts) _
        (λ so. let split = so_parts (there left) (there right) so in operands_have op (read left) (read right) ((expr_is left).accesses split.0) ((expr_is right).accesses split.1))
    kind_layer (ExprKind-F.Assign op target source) = unnamed_has (both (as_target (read target)) (read source).parts) _
        (λ so. let split = so_parts (there target) (there source) so in
        known_both (read target).parts.accesses (read source).parts.accesses ((expr_is target).accesses split.0) ((expr_is source).accesses split.1))
    kind_layer (ExprKind-F.Step up after target) = unnamed_has (as_target (read target)) _ (expr_is target).accesses

    kind_rolled : (y : ExprKind-F K I E) → KindIs (roll-ExprKind (map-ExprKind K I E ExprKind Init Expr kind init expr y))
    kind_rolled y =
        let layer = map-ExprKind K I E ExprKind Init Expr kind init expr y in
        let a = fold-roll-ExprKind Reading Parts Reading accesses.kind_step accesses.init_step accesses.expr_step layer in
        let b = fold-roll-ExprKind (List Part) (List Part) (List Part) parts.kind_step parts.init_step parts.expr_step layer in
        subst (λ (g : Reading). HasNames g (kind_parts (roll-ExprKind layer))) (sym a)
        (subst (λ (ps : List Part). HasNames (accesses.kind_step (map-ExprKind ExprKind Init Expr Reading Parts Reading kind_accesses init_parts reading layer)) ps) (sym b) (kind_layer y))

    init_layer : (y : Init-F K I E)
        → AllSo (parts.init_step (map-Init ExprKind Init Expr (List Part) (List Part) (List Part) kind_parts parts.init_parts expr_parts (map-Init K I E ExprKind Init Expr kind init expr y)))
        → AllKnown (accesses.init_step (map-Init ExprKind Init Expr Reading Parts Reading kind_accesses init_parts reading (map-Init K I E ExprKind Init Expr kind init expr y))).accesses
    init_layer (Init-F.Value x) so = (expr_is x).accesses so
    init_layer (Init-F.Items items span) so = items_have items so.1

    init_rolled : (y : Init-F K I E) → InitIs (roll-Init (map-Init K I E ExprKind Init Expr kind init expr y))
    init_rolled y =
        let layer = map-Init K I E ExprKind Init Expr kind init expr y in
        let a = fold-roll-Init Reading Parts Reading accesses.kind_step accesses.init_step accesses.expr_step layer in
        let b = fold-roll-Init (List Part) (List Part) (List Part) parts.kind_step parts.init_step parts.expr_step layer in
        subst (λ (p : Parts). AllSo (parts.init_parts (roll-Init layer)) → AllKnown p.accesses) (sym a)
        (subst (λ (ps : List Part). AllSo ps → AllKnown (accesses.init_step (map-Init ExprKind Init Expr Reading Parts Reading kind_accesses init_parts reading layer)).accesses) (sym b) (init_layer y))

    expr_layer : (g : Reading) (p : Part) (ps : List Part) → HasNames g ps → HasNames g (p ∷ ps)
    expr_layer g p ps h = record { name = λ so. h.name so.1; accesses = λ so. h.accesses so.1 }

    expr_rolled : ((k : K) → KindIs (kind k)) → (y : Expr-F K I E) → ExprIs (roll-Expr (map-Expr K I E ExprKind Init Expr kind init expr y))
    expr_rolled kind_is y =
        let layer = map-Expr K I E ExprKind Init Expr kind init expr y in
        let a = fold-roll-Expr Reading Parts Reading accesses.kind_step accesses.init_step accesses.expr_step layer in
        let b = fold-roll-Expr (List Part) (List Part) (List Part) parts.kind_step parts.init_step parts.expr_step layer in
        subst (λ (g : Reading). HasNames g (expr_parts (roll-Expr layer))) (sym a)
        (subst (λ (ps : List Part). HasNames (kind_accesses (kind y.kind)) ps) (sym b)
        (expr_layer (kind_accesses (kind y.kind)) (parts.expression y.span) (kind_parts (kind y.kind)) (kind_is y.kind)))

  expression_has : (x : Expr) → ExprIs x
  expression_has = ind-Expr KindIs InitIs ExprIs
      (λ x y e. subst (λ layer. KindIs (roll-ExprKind layer)) e (kind_rolled (λ k. k.0) (λ i. i.0) (λ x. x.0) (λ i. i.1) (λ x. x.1) y))
      (λ x y e. subst (λ layer. InitIs (roll-Init layer)) e (init_rolled (λ k. k.0) (λ i. i.0) (λ x. x.0) (λ i. i.1) (λ x. x.1) y))
      (λ x y e. subst (λ layer. ExprIs (roll-Expr layer)) e (expr_rolled (λ k. k.0) (λ i. i.0) (λ x. x.0) (λ i. i.1) (λ x. x.1) (λ k. k.1) y))

  initialiser_has : (x : Init) → InitIs x
  initialiser_has = ind-Init KindIs InitIs ExprIs
      (λ x y e. subst (λ layer. KindIs (roll-ExprKind layer)) e (kind_rolled (λ k. k.0) (λ i. i.0) (λ x. x.0) (λ i. i.1) (λ x. x.1) y))
      (λ x y e. subst (λ layer. InitIs (roll-Init layer)) e (init_rolled (λ k. k.0) (λ i. i.0) (λ x. x.0) (λ i. i.1) (λ x. x.1) y))
      (λ x y e. subst (λ layer. ExprIs (roll-Expr layer)) e (expr_rolled (λ k. k.0) (λ i. i.0) (λ x. x.0) (λ i. i.1) (λ x. x.1) (λ k. k.1) y))

  pub accesses_known : (x : Expr) → AllSo (expr_parts x) → AllKnown (parts_of x).accesses
  accesses_known x so = (expression_has x).accesses so

  pub declared_known : (ds : List LocalDecl) → AllSo (together (parts.each parts.decl_parts ds)) → AllKnown (all_decl_parts ds).accesses
  declared_known [] so = tt
  declared_known (d ∷ ds) so =
      let split = so_parts (parts.decl_parts d) (together (parts.each parts.decl_parts ds)) so in
      let types = so_parts (mods_parts d.mods) (type_parts d.ty ++ elsewhere d.name ∷ parts.maybe parts.init_parts d.init) split.0.1 in
      let inits = so_parts (type_parts d.ty) (elsewhere d.name ∷ parts.maybe parts.init_parts d.init) types.1 in
      known_both (decl_parts d).accesses (all_decl_parts ds).accesses (init_known d.init inits.1.1) (declared_known ds split.1)
    where
      init_known : (o : Option Init) → AllSo (parts.maybe parts.init_parts o) → AllKnown (accesses.maybe o).accesses
      init_known None so = tt
      init_known (Some x) so = initialiser_has x so
