-- The accesses whose index stands at a place are no more than the expressions that stand there.
use Rattle.std.proofs.Common.{◌≡◌, ◌≤◌, ℕ, ◌+◌, List, [], ◌∷◌, ◌++◌, map, Option, Some, None, sym, subst, arith}
use Rattle.ix_text.specs.declared.span.Span.{Span}
use Rattle.ix_core.specs.Formed.{one_if}
use Rattle.ix_tree.specs.declared.decl.ClassDecl.{ClassDecl}
use Rattle.ix_tree.specs.declared.decl.LocalDecl.{LocalDecl}
use Rattle.ix_tree.specs.declared.decl.Member.{Member}
use Rattle.ix_tree.specs.declared.decl.Member.TheVariants.{Field, Method}
use Rattle.ix_tree.specs.declared.decl.Unit.{Unit as Source}
use Rattle.ix_tree.specs.declared.expr.Expr.{Expr, Expr-F, ind-Expr, map-Expr, roll-Expr, fold-roll-Expr}
use Rattle.ix_tree.specs.declared.expr.ExprKind.{ExprKind, ExprKind-F, map-ExprKind, roll-ExprKind, fold-ExprKind, fold-roll-ExprKind}
use Rattle.ix_tree.specs.declared.expr.Init.{Init, Init-F, ind-Init, map-Init, roll-Init, fold-roll-Init}
use Rattle.ix_tree.specs.declared.stmt.Stmt.{Stmt, Stmt-F, ind-Stmt, map-Stmt, roll-Stmt, fold-roll-Stmt}
use Rattle.ix_tree.specs.declared.stmt.StmtKind.{StmtKind, StmtKind-F, map-StmtKind, roll-StmtKind, fold-StmtKind, fold-roll-StmtKind}
use Rattle.ix_tree.specs.Parts as parts
use Rattle.ix_tree.specs.Parts.{Part, expression, elsewhere, together, listed, type_parts, mods_parts, expr_parts, init_parts, decl_parts, stmt_parts, args_parts, member_parts, class_parts, unit_parts, other_name}
use Rattle.ix_meaning.specs.Listed.{same_span}
use Rattle.ix_formed.specs.Weights.{total}
use Rattle.ix_formed.proofs.ExpressionNotes.{total_append}
use Rattle.ix_guard.specs.Accesses.{Access}
use Rattle.ix_guard.specs.Tests.{Site}
use Rattle.ix_guard_promise.specs.AllAccesses as every
use Rattle.ix_guard_promise.specs.AllAccesses.{AnyAccess, Form, Reading, all, inside, reading, all_accesses, init_accesses, maybe, each_of, decl_accesses}
use Rattle.ix_guard_promise.specs.Outlines as outlining
use Rattle.ix_guard_promise.specs.Outlines.{Outline, nothing, node, followed, joined, everything, outline, outlines}
use Rattle.ix_guard_promise.specs.SourceGuards.{args_accesses}
use Rattle.ix_guard_promise.specs.SourceAccesses.{member_accesses, class_accesses, source_accesses}

module _ (place : Span) where
  abbrev pub access_at : AnyAccess → ℕ
  access_at access = one_if (same_span access.place place)

  abbrev pub expression_at : Part → ℕ
  expression_at (expression span) = one_if (same_span span place)
  expression_at _ = 0

  -- the accesses at the place
  abbrev pub accesses_at : List AnyAccess → ℕ
  accesses_at accesses = total access_at accesses

  -- the expressions at the place
  abbrev pub expressions_at : List Part → ℕ
  expressions_at ps = total expression_at ps

  both : (xs ys : List AnyAccess) (ps qs : List Part) → accesses_at xs ≤ expressions_at ps → accesses_at ys ≤ expressions_at qs → accesses_at (xs ++ ys) ≤ expressions_at (ps ++ qs)
  both xs ys ps qs a b = let e = total_append access_at xs ys in let f = total_append expression_at ps qs in omega (arith, a, b, e, f)

  -- parts that have no access
  behind : (xs : List AnyAccess) (ps qs : List Part) → accesses_at xs ≤ expressions_at qs → accesses_at xs ≤ expressions_at (ps ++ qs)
  behind xs ps qs a = let f = total_append expression_at ps qs in omega (arith, a, f)

  -- ---- expressions and initialisers

  -- An expression and the accesses in it count so much at most.
  abbrev Counts : Reading → ℕ → Type 0
  Counts r n = one_if (same_span r.span place) + accesses_at (inside r) ≤ n

  abbrev KindCounts : Form → ℕ → Type 0
  KindCounts form n = accesses_at form.accesses ≤ n

  abbrev kind_form : ExprKind → Form
  kind_form = fold-ExprKind Form (List AnyAccess) Reading every.kind_step every.init_step every.expr_step

  abbrev kind_parts : ExprKind → List Part
  kind_parts = fold-ExprKind (List Part) (List Part) (List Part) parts.kind_step parts.init_step parts.expr_step

  abbrev KindIs : ExprKind → Type 0
  KindIs k = KindCounts (kind_form k) (expressions_at (kind_parts k))

  abbrev InitIs : Init → Type 0
  InitIs i = accesses_at (init_accesses i) ≤ expressions_at (init_parts i)

  abbrev ExprIs : Expr → Type 0
  ExprIs e = Counts (reading e) (expressions_at (expr_parts e))

  module _ {K I E : Type 0} (kind : K → ExprKind) (init : I → Init) (expr : E → Expr) (init_is : (i : I) → InitIs (init i)) (expr_is : (e : E) → ExprIs (expr e)) where
    own : (e : E) → accesses_at (all_accesses (expr e)) ≤ expressions_at (expr_parts (expr e))
    own e = let a = expr_is e in omega (arith, a)

    args_count : (es : List E) → accesses_at (all (map inside (map reading (map expr es)))) ≤ expressions_at (together (map expr_parts (map expr es)))
    args_count [] = omega arith
    args_count (e ∷ es) = both (all_accesses (expr e)) (all (map inside (map reading (map expr es)))) (expr_parts (expr e)) (together (map expr_parts (map expr es))) (own e) (args_count es)

    items_count : (is : List I) → accesses_at (all (map init_accesses (map init is))) ≤ expressions_at (together (map init_parts (map init is)))
    items_count [] = omega arith
    items_count (i ∷ is) = both (init_accesses (init i)) (all (map init_accesses (map init is))) (init_parts (init i)) (together (map init_parts (map init is))) (init_is i) (items_count is)

    kind_layer : (y : ExprKind-F K I E)
        → KindCounts (every.kind_step (map-ExprKind ExprKind Init Expr Form (List AnyAccess) Reading kind_form init_accesses reading (map-ExprKind K I E ExprKind Init Expr kind init expr y)))
        (expressions_at (parts.kind_step (map-ExprKind ExprKind Init Expr (List Part) (List Part) (List Part) kind_parts init_parts expr_parts (map-ExprKind K I E ExprKind Init Expr kind init expr y))))
    kind_layer (ExprKind-F.Int n) = omega arith
    kind_layer (ExprKind-F.Bool answer) = omega arith
    kind_layer ExprKind-F.Null = omega arith
    kind_layer ExprKind-F.This = omega arith
    kind_layer (ExprKind-F.Name name) = omega arith
    kind_layer (ExprKind-F.Select object name) = let a = total_append expression_at (expr_parts (expr object)) (elsewhere name ∷ []) in let b = own object in omega (arith, a, b)
    kind_layer (ExprKind-F.Index array index) =
        let a = total_append expression_at (expr_parts (expr array)) (expr_parts (expr index)) in
        let b = total_append access_at (all_accesses (expr array)) (all_accesses (expr index)) in
        let c = own array in let d = expr_is index in omega (arith, a, b, c, d)
    kind_layer (ExprKind-F.Call None name args) = let a = args_count args in omega (arith, a)
    kind_layer (ExprKind-F.Call (Some object) name args) =
        let a = args_count args in
        both (all_accesses (expr object)) (all (map inside (map reading (map expr args)))) (expr_parts (expr object)) (elsewhere name ∷ listed (map expr_parts (map expr args))) (own object) (omega (arith, a))
    kind_layer (ExprKind-F.New name args) = let a = args_count args in omega (arith, a)
    kind_layer (ExprKind-F.NewArray ty size) = behind (all_accesses (expr size)) (type_parts ty) (expr_parts (expr size)) (own size)
    kind_layer (ExprKind-F.NewItems ty items) =
        let a = items_count items in behind (all (map init_accesses (map init items))) (type_parts ty) (listed (map init_parts (map init items))) (omega (arith, a))
    kind_layer (ExprKind-F.Unary op operand) = own operand
    kind_layer (ExprKind-F.Binary op left right) = both (all_accesses (expr left)) (all_accesses (expr right)) (expr_parts (expr left)) (expr_parts (expr right)) (own left) (own right)
    kind_layer (ExprKind-F.Assign op target value) = both (all_accesses (expr target)) (all_accesses (expr value)) (expr_parts (expr target)) (expr_parts (expr value)) (own target) (own value)
    kind_layer (ExprKind-F.Step up after target) = own target

    kind_rolled : (y : ExprKind-F K I E) → KindIs (roll-ExprKind (map-ExprKind K I E ExprKind Init Expr kind init expr y))
    kind_rolled y =
        let layer = map-ExprKind K I E ExprKind Init Expr kind init expr y in
        let a = fold-roll-ExprKind Form (List AnyAccess) Reading every.kind_step every.init_step every.expr_step layer in
        let b = fold-roll-ExprKind (List Part) (List Part) (List Part) parts.kind_step parts.init_step parts.expr_step layer in
        subst (λ (ps : List Part). KindCounts (kind_form (roll-ExprKind layer)) (expressions_at ps)) (sym b)
        (subst (λ (f : Form). KindCounts f (expressions_at (parts.kind_step (map-ExprKind ExprKind Init Expr (List Part) (List Part) (List Part) kind_parts init_parts expr_parts layer)))) (sym a) (kind_layer y))

    init_layer : (y : Init-F K I E) → accesses_at (every.init_step (map-Init ExprKind Init Expr Form (List AnyAccess) Reading kind_form init_accesses reading (map-Init K I E ExprKind Init Expr kind init expr y)))
        ≤ expressions_at (parts.init_step (map-Init ExprKind Init Expr (List Part) (List Part) (List Part) kind_parts init_parts expr_parts (map-Init K I E ExprKind Init Expr kind init expr y)))
    init_layer (Init-F.Value e) = own e
    init_layer (Init-F.Items items span) = let a = items_count items in omega (arith, a)

    init_rolled : (y : Init-F K I E) → InitIs (roll-Init (map-Init K I E ExprKind Init Expr kind init expr y))
    init_rolled y =
        let layer = map-Init K I E ExprKind Init Expr kind init expr y in
        let a = fold-roll-Init Form (List AnyAccess) Reading every.kind_step every.init_step every.expr_step layer in
        let b = fold-roll-Init (List Part) (List Part) (List Part) parts.kind_step parts.init_step parts.expr_step layer in
        subst (λ (ps : List Part). accesses_at (init_accesses (roll-Init layer)) ≤ expressions_at ps) (sym b)
        (subst (λ (xs : List AnyAccess). accesses_at xs ≤ expressions_at (parts.init_step (map-Init ExprKind Init Expr (List Part) (List Part) (List Part) kind_parts init_parts expr_parts layer))) (sym a) (init_layer y))

    expr_rolled : ((k : K) → KindIs (kind k)) → (y : Expr-F K I E) → ExprIs (roll-Expr (map-Expr K I E ExprKind Init Expr kind init expr y))
    expr_rolled kind_is y =
        let layer = map-Expr K I E ExprKind Init Expr kind init expr y in
        let a = fold-roll-Expr Form (List AnyAccess) Reading every.kind_step every.init_step every.expr_step layer in
        let b = fold-roll-Expr (List Part) (List Part) (List Part) parts.kind_step parts.init_step parts.expr_step layer in
        subst (λ (ps : List Part). Counts (reading (roll-Expr layer)) (expressions_at ps)) (sym b)
        (subst (λ (r : Reading). Counts r (one_if (same_span y.span place) + expressions_at (kind_parts (kind y.kind)))) (sym a) (let c = kind_is y.kind in omega (arith, c)))

  expression_counts : (e : Expr) → ExprIs e
  expression_counts = ind-Expr KindIs InitIs ExprIs
      (λ x y e. subst (λ layer. KindIs (roll-ExprKind layer)) e (kind_rolled (λ k. k.0) (λ i. i.0) (λ x. x.0) (λ i. i.1) (λ x. x.1) y))
      (λ x y e. subst (λ layer. InitIs (roll-Init layer)) e (init_rolled (λ k. k.0) (λ i. i.0) (λ x. x.0) (λ i. i.1) (λ x. x.1) y))
      (λ x y e. subst (λ layer. ExprIs (roll-Expr layer)) e (expr_rolled (λ k. k.0) (λ i. i.0) (λ x. x.0) (λ i. i.1) (λ x. x.1) (λ k. k.1) y))

  initialiser_counts : (i : Init) → InitIs i
  initialiser_counts = ind-Init KindIs InitIs ExprIs
      (λ x y e. subst (λ layer. KindIs (roll-ExprKind layer)) e (kind_rolled (λ k. k.0) (λ i. i.0) (λ x. x.0) (λ i. i.1) (λ x. x.1) y))
      (λ x y e. subst (λ layer. InitIs (roll-Init layer)) e (init_rolled (λ k. k.0) (λ i. i.0) (λ x. x.0) (λ i. i.1) (λ x. x.1) y))
      (λ x y e. subst (λ layer. ExprIs (roll-Expr layer)) e (expr_rolled (λ k. k.0) (λ i. i.0) (λ x. x.0) (λ i. i.1) (λ x. x.1) (λ k. k.1) y))

  pub inside_counts : (e : Expr) → accesses_at (all_accesses e) ≤ expressions_at (expr_parts e)
  inside_counts e = let a = expression_counts e in omega (arith, a)

  -- ---- declarations, and what there may be

  maybe_counts : {A : Type 0} (of : A → List AnyAccess) (parts_of : A → List Part) → ((x : A) → accesses_at (of x) ≤ expressions_at (parts_of x)) → (x : Option A) → accesses_at (maybe of x) ≤ expressions_at (parts.maybe parts_of x)
  maybe_counts of parts_of counts None = omega arith
  maybe_counts of parts_of counts (Some x) = counts x

  each_counts : {A : Type 0} (of : A → List AnyAccess) (parts_of : A → List Part) → ((x : A) → accesses_at (of x) ≤ expressions_at (parts_of x)) → (xs : List A)
      → accesses_at (each_of of xs) ≤ expressions_at (together (parts.each parts_of xs))
  each_counts of parts_of counts [] = omega arith
  each_counts of parts_of counts (x ∷ xs) = both (of x) (each_of of xs) (parts_of x) (together (parts.each parts_of xs)) (counts x) (each_counts of parts_of counts xs)

  args_listed : (es : List Expr) → accesses_at (each_of all_accesses es) ≤ expressions_at (args_parts es)
  args_listed es = let a = each_counts all_accesses expr_parts inside_counts es in omega (arith, a)

  pub decl_counts : (d : LocalDecl) → accesses_at (decl_accesses d) ≤ expressions_at (decl_parts d)
  decl_counts d =
      let a = maybe_counts init_accesses init_parts initialiser_counts d.init in
      let b = behind (decl_accesses d) (type_parts d.ty) (elsewhere d.name ∷ parts.maybe init_parts d.init) (omega (arith, a)) in
      let c = behind (decl_accesses d) (mods_parts d.mods) (type_parts d.ty ++ elsewhere d.name ∷ parts.maybe init_parts d.init) b in omega (arith, c)

  decls_count : (ds : List LocalDecl) → accesses_at (each_of decl_accesses ds) ≤ expressions_at (listed (parts.each decl_parts ds))
  decls_count ds = let a = each_counts decl_accesses decl_parts decl_counts ds in omega (arith, a)

  pub parent_args_count : (args : Option (List Expr)) → accesses_at (args_accesses args) ≤ expressions_at (parts.maybe args_parts args)
  parent_args_count args = maybe_counts (each_of all_accesses) args_parts args_listed args

  -- ---- statements

  -- the accesses at the place in statements
  abbrev pub made_at : Outline → ℕ
  made_at o = accesses_at (everything o)

  pub node_made : (tests : List Access) (own others : List AnyAccess) (inner later : Outline)
      → made_at (node tests own others inner later) ≡ accesses_at own + (accesses_at others + (made_at inner + made_at later))
  node_made tests own others inner later =
      let a = total_append access_at own (others ++ (everything inner ++ everything later)) in
      let b = total_append access_at others (everything inner ++ everything later) in
      let c = total_append access_at (everything inner) (everything later) in omega (arith, a, b, c)

  pub followed_made : (x y : Outline) → made_at (followed x y) ≡ made_at x + made_at y
  followed_made nothing y = omega arith
  followed_made (node tests own others inner later) y =
      let a = node_made tests own others inner later in
      let b = node_made tests own others inner (followed later y) in
      let c = followed_made later y in omega (arith, a, b, c)

  module _ (site : Site) where
    abbrev kind_outline : StmtKind → Outline
    kind_outline = fold-StmtKind Outline Outline (outlining.kind_step site) outlining.stmt_step

    abbrev stmt_kind_parts : StmtKind → List Part
    stmt_kind_parts = fold-StmtKind (List Part) (List Part) parts.stmt_kind_step parts.stmt_step

    abbrev StmtKindIs : StmtKind → Type 0
    StmtKindIs k = made_at (kind_outline k) ≤ expressions_at (stmt_kind_parts k)

    abbrev StmtIs : Stmt → Type 0
    StmtIs s = made_at (outline site s) ≤ expressions_at (stmt_parts s)

    module _ {K S : Type 0} (kind : K → StmtKind) (stmt : S → Stmt) (stmt_is : (s : S) → StmtIs (stmt s)) where
      all_made : (ss : List S) → made_at (joined (map (outline site) (map stmt ss))) ≤ expressions_at (together (map stmt_parts (map stmt ss)))
      all_made [] = omega arith
      all_made (x ∷ ss) =
          let a = followed_made (outline site (stmt x)) (joined (map (outline site) (map stmt ss))) in
          let b = total_append expression_at (stmt_parts (stmt x)) (together (map stmt_parts (map stmt ss))) in
          let c = stmt_is x in let d = all_made ss in omega (arith, a, b, c, d)

      count_layer : (y : StmtKind-F K S) → made_at (outlining.kind_step site (map-StmtKind StmtKind Stmt Outline Outline kind_outline (outline site) (map-StmtKind K S StmtKind Stmt kind stmt y)))
          ≤ expressions_at (parts.stmt_kind_step (map-StmtKind StmtKind Stmt (List Part) (List Part) stmt_kind_parts stmt_parts (map-StmtKind K S StmtKind Stmt kind stmt y)))
      count_layer (StmtKind-F.Block ss) = let a = all_made ss in let b = node_made [] [] [] (joined (map (outline site) (map stmt ss))) nothing in omega (arith, a, b)
      count_layer StmtKind-F.Empty = omega arith
      count_layer (StmtKind-F.Local ds) = let a = decls_count ds in let b = node_made [] (each_of decl_accesses ds) [] nothing nothing in omega (arith, a, b)
      count_layer (StmtKind-F.If c t None) =
          let a = inside_counts c in let b = stmt_is t in
          let d = node_made [] (all_accesses c) [] (outline site (stmt t)) nothing in
          let f = total_append expression_at (expr_parts c) (stmt_parts (stmt t)) in omega (arith, a, b, d, f)
      count_layer (StmtKind-F.If c t (Some u)) =
          let a = inside_counts c in let b = stmt_is t in let e = stmt_is u in
          let d = node_made [] (all_accesses c) [] (followed (outline site (stmt t)) (outline site (stmt u))) nothing in
          let h = followed_made (outline site (stmt t)) (outline site (stmt u)) in
          let f = total_append expression_at (expr_parts c) (stmt_parts (stmt t) ++ stmt_parts (stmt u)) in
          let g = total_append expression_at (stmt_parts (stmt t)) (stmt_parts (stmt u)) in omega (arith, a, b, d, e, f, g, h)
      count_layer (StmtKind-F.While c t) =
          let a = inside_counts c in let b = stmt_is t in
          let d = node_made [] [] (all_accesses c) (outline site (stmt t)) nothing in
          let f = total_append expression_at (expr_parts c) (stmt_parts (stmt t)) in omega (arith, a, b, d, f)
      count_layer (StmtKind-F.Do t c) =
          let a = inside_counts c in let b = stmt_is t in
          let d = node_made [] [] (all_accesses c) (outline site (stmt t)) nothing in
          let f = total_append expression_at (stmt_parts (stmt t)) (expr_parts c) in omega (arith, a, b, d, f)
      count_layer (StmtKind-F.For ss c es t) =
          let first = joined (map (outline site) (map stmt ss)) in
          let heads = maybe all_accesses c ++ each_of all_accesses es in
          let a = all_made ss in let b = maybe_counts all_accesses expr_parts inside_counts c in let d = args_listed es in let f = stmt_is t in
          let g = node_made [] [] (everything first ++ heads) (outline site (stmt t)) nothing in
          let h = total_append access_at (everything first) heads in
          let i = total_append access_at (maybe all_accesses c) (each_of all_accesses es) in
          let updates = listed (parts.each expr_parts es) in
          let j = total_append expression_at (listed (map stmt_parts (map stmt ss))) (parts.maybe expr_parts c ++ (updates ++ stmt_parts (stmt t))) in
          let k = total_append expression_at (parts.maybe expr_parts c) (updates ++ stmt_parts (stmt t)) in
          let l = total_append expression_at updates (stmt_parts (stmt t)) in omega (arith, a, b, d, f, g, h, i, j, k, l)
      count_layer StmtKind-F.Break = omega arith
      count_layer StmtKind-F.Continue = omega arith
      count_layer (StmtKind-F.Return value) = let a = maybe_counts all_accesses expr_parts inside_counts value in let b = node_made [] (maybe all_accesses value) [] nothing nothing in omega (arith, a, b)
      count_layer (StmtKind-F.Throw thrown) = omega arith
      count_layer (StmtKind-F.Print value) = let a = inside_counts value in let b = node_made [] (all_accesses value) [] nothing nothing in omega (arith, a, b)
      count_layer (StmtKind-F.Run e) = let a = inside_counts e in let b = node_made [] (all_accesses e) [] nothing nothing in omega (arith, a, b)

      count_rolled : (y : StmtKind-F K S) → StmtKindIs (roll-StmtKind (map-StmtKind K S StmtKind Stmt kind stmt y))
      count_rolled y =
          let layer = map-StmtKind K S StmtKind Stmt kind stmt y in
          let a = fold-roll-StmtKind Outline Outline (outlining.kind_step site) outlining.stmt_step layer in
          let b = fold-roll-StmtKind (List Part) (List Part) parts.stmt_kind_step parts.stmt_step layer in
          subst (λ (ps : List Part). made_at (kind_outline (roll-StmtKind layer)) ≤ expressions_at ps) (sym b)
          (subst (λ (o : Outline). made_at o ≤ expressions_at (parts.stmt_kind_step (map-StmtKind StmtKind Stmt (List Part) (List Part) stmt_kind_parts stmt_parts layer))) (sym a) (count_layer y))

      stmt_rolled : ((k : K) → StmtKindIs (kind k)) → (y : Stmt-F K S) → StmtIs (roll-Stmt (map-Stmt K S StmtKind Stmt kind stmt y))
      stmt_rolled kind_is y =
          let layer = map-Stmt K S StmtKind Stmt kind stmt y in
          let a = fold-roll-Stmt Outline Outline (outlining.kind_step site) outlining.stmt_step layer in
          let b = fold-roll-Stmt (List Part) (List Part) parts.stmt_kind_step parts.stmt_step layer in
          subst (λ (ps : List Part). made_at (outline site (roll-Stmt layer)) ≤ expressions_at ps) (sym b)
          (subst (λ (o : Outline). made_at o ≤ expressions_at (parts.statement y.span ∷ stmt_kind_parts (kind y.kind))) (sym a) (let e = kind_is y.kind in omega (arith, e)))

    statement_counts : (s : Stmt) → StmtIs s
    statement_counts = ind-Stmt StmtKindIs StmtIs
        (λ x y e. subst (λ layer. StmtKindIs (roll-StmtKind layer)) e (count_rolled (λ k. k.0) (λ s. s.0) (λ s. s.1) y))
        (λ x y e. subst (λ layer. StmtIs (roll-Stmt layer)) e (stmt_rolled (λ k. k.0) (λ s. s.0) (λ s. s.1) (λ k. k.1) y))

    -- The accesses at the place in a body are no more than the expressions there.
    pub body_counts : (ss : List Stmt) → made_at (outlines site ss) ≤ expressions_at (listed (parts.each stmt_parts ss))
    body_counts ss = let a = all_counts ss in omega (arith, a)
      where
        all_counts : (ss : List Stmt) → made_at (outlines site ss) ≤ expressions_at (together (parts.each stmt_parts ss))
        all_counts [] = omega arith
        all_counts (x ∷ ss) =
            let a = followed_made (outline site x) (outlines site ss) in
            let b = total_append expression_at (stmt_parts x) (together (parts.each stmt_parts ss)) in
            let c = statement_counts x in let d = all_counts ss in omega (arith, a, b, c, d)

    -- ---- members, classes, sources

    member_counts : (m : Member) → accesses_at (member_accesses site m) ≤ expressions_at (member_parts m)
    member_counts (Field d) = decl_counts d
    member_counts (Method m) =
        let from_args = parts.maybe args_parts m.parent_args ++ listed (parts.each stmt_parts m.body) in
        let from_name = elsewhere m.name ∷ (listed (parts.each decl_parts m.params) ++ from_args) in
        let body = everything (outlines site m.body) in
        let a = both (each_of decl_accesses m.params) (args_accesses m.parent_args ++ body) (listed (parts.each decl_parts m.params)) from_args (decls_count m.params)
        (both (args_accesses m.parent_args) body (parts.maybe args_parts m.parent_args) (listed (parts.each stmt_parts m.body)) (parent_args_count m.parent_args) (body_counts m.body)) in
        let b = behind (member_accesses site (Method m)) (parts.maybe type_parts m.result) from_name (omega (arith, a)) in
        let c = behind (member_accesses site (Method m)) (mods_parts m.mods) (parts.maybe type_parts m.result ++ from_name) b in omega (arith, c)

    class_counts : (c : ClassDecl) → accesses_at (class_accesses site c) ≤ expressions_at (class_parts c)
    class_counts c =
        let a = each_counts (member_accesses site) member_parts member_counts c.members in
        let b = behind (class_accesses site c) (parts.maybe other_name c.parent) (listed (parts.each member_parts c.members)) (omega (arith, a)) in omega (arith, b)

    -- The accesses of a source at the place are no more than its expressions there.
    pub source_counts : (unit : Source) → accesses_at (source_accesses site unit) ≤ expressions_at (unit_parts unit)
    source_counts unit = let a = each_counts (class_accesses site) class_parts class_counts unit.classes in omega (arith, a)
