-- Expressions and initialisers of moved tokens.
use Rattle.std.proofs.Common.{◌≡◌, ℕ, ◌+◌, max, suc, true, false, List, [], ◌∷◌, ◌++◌, map, Some, None, refl, sym, ap, subst, ◌∙◌}
use Rattle.ix_text.specs.declared.span.Span.{Span}
use Rattle.ix_lexer.specs.declared.token.Token.{Token}
use Rattle.ix_lexer.specs.declared.fixed.TheConstants.{DOT, COMMA, CLOSE_PAREN, OPEN_BRACKET, CLOSE_BRACKET, OPEN_BRACE, CLOSE_BRACE}
use Rattle.ix_tree.specs.declared.annot.Annot.{Annot}
use Rattle.ix_tree.specs.declared.annot.BaseTree.{BaseTree}
use Rattle.ix_tree.specs.declared.expr.Expr.{Expr}
use Rattle.ix_tree.specs.declared.expr.ExprKind.{ExprKind}
use Rattle.ix_tree.specs.declared.expr.ExprKind.TheVariants as e
use Rattle.ix_tree.specs.declared.expr.Init.{Init}
use Rattle.ix_tree.proofs.FoldsOfForms as fold
use Rattle.ix_grammar.specs.declared.found.At.{At}
use Rattle.ix_grammar.specs.declared.found.Form.{Form}
use Rattle.ix_grammar.specs.declared.found.Form.TheVariants.{Variable, Statement, Array, Value}
use Rattle.ix_grammar.specs.declared.found.Found.{Found}
use Rattle.ix_grammar.specs.declared.found.FoundInit.{FoundInit}
use Rattle.ix_grammar.specs.declared.found.FoundItems.{FoundItems}
use Rattle.ix_grammar.specs.declared.found.FoundType.{FoundType}
use Rattle.ix_grammar.specs.declared.found.Notes.{Notes}
use Rattle.ix_grammar.specs.declared.found.Several.{Several}
use Rattle.ix_grammar.specs.Nodes.{across}
use Rattle.ix_grammar.specs.Patterns.{sign, name_token}
use Rattle.ix_grammar.specs.TypeGrammar.{base_height}
use Rattle.ix_grammar.specs.ExprNodes.{node, created_type, type_start, with_expr, with_init, value_init, items_init}
use Rattle.ix_grammar.specs.ExprGrammar as g
use Rattle.ix_grammar.specs.ExprGrammar.{Kind, IsMorePairs, IsExpr, IsExprs, IsArgs, IsInit, IsInits, IsItems, IsStatementExpr}
use Rattle.ix_guard_text.proofs.ListsAgain.{map_joined}
use Rattle.ix_guard_text.specs.Moved.{Move, moved_span, moved_name, moved_annot, moved_type, kind_step, init_step, expr_step, moved_expr, moved_init}
use Rattle.ix_guard_text.specs.MovedFound.{moved_at, moved_found_base, moved_notes, moved_found_type, moved_found, moved_several, moved_args, moved_found_init, moved_items}
use Rattle.ix_guard_text.proofs.ListsMoved.{both, Moves, same_found}
use Rattle.ix_guard_text.proofs.AnnotsMoved.{base_height_moved, notes_move, base_moves, pairs_move}

module _ (move : Move) where
  -- ---- nodes

  abbrev pub moved_kind : ExprKind → ExprKind
  moved_kind = fold.of_kind (kind_step move) (init_step move) (expr_step move)

  abbrev as_expr : ExprKind → Span → Expr
  as_expr kind span = record { kind = kind; span = span }

  pub expr_moved : (k l : ExprKind) (span : Span) → moved_kind k ≡ l → moved_expr move (as_expr k span) ≡ as_expr l (moved_span move span)
  expr_moved k l span is = fold.expr_is (kind_step move) (init_step move) (expr_step move) k span ∙ ap (λ x. as_expr x (moved_span move span)) is

  abbrev as_found : Expr → Form → ℕ → Span → Found
  as_found expr form height outer = record { expr = expr; form = form; height = height; outer = outer }

  -- what a rule gives for moved parts is the moved node
  made : (kind : Kind) (ts : List Token) (k l : ExprKind) (form : Form) (parts : ℕ) (outer : Span) → moved_kind k ≡ l → IsExpr kind ts (node l form parts (moved_span move outer)) → IsExpr kind ts (moved_found move (node k form parts outer))
  made kind ts k l form parts outer is d = subst (λ x. IsExpr kind ts (as_found x form (parts + 1) (moved_span move outer))) (sym (expr_moved k l outer is)) d

  -- ---- the types of new arrays

  more_pairs_move : (last : Span) → Moves move (IsMorePairs last) (IsMorePairs (moved_span move last)) (moved_at move)
  more_pairs_move last _ _ g.no_more = g.no_more
  more_pairs_move last _ _ (g.one_more left right {tokens} {pairs} d) =
      rw (both move tokens (sign OPEN_BRACKET left ∷ sign CLOSE_BRACKET right ∷ [])) (g.one_more (moved_span move left) (moved_span move right) (more_pairs_move last tokens pairs d))

  start_moved : (annots : List Annot) (base : Span) → type_start (map (moved_annot move) annots) (moved_span move base) ≡ moved_span move (type_start annots base)
  start_moved [] base = refl
  start_moved (annot ∷ annots) base = refl

  abbrev type_with : At BaseTree → Notes → At ℕ → Span → ℕ → FoundType
  type_with base notes pairs start height = record {
    ty = record { base = base.value; annots = notes.annots; depth = pairs.value; span = across start pairs.span };
    height = 1 + max height notes.height;
  }

  type_moved : (base : At BaseTree) (notes : Notes) (pairs : At ℕ) → created_type (moved_found_base move base) (moved_notes move notes) (moved_at move pairs) ≡ moved_found_type move (created_type base notes pairs)
  type_moved base notes pairs =
      let b = moved_found_base move base in
      let n = moved_notes move notes in
      let p = moved_at move pairs in
      ap (λ x. type_with b n p x (base_height b.value)) (start_moved notes.annots base.span) ∙ ap (λ x. type_with b n p (moved_span move (type_start notes.annots base.span)) x) (base_height_moved move base.value)

  -- ---- lists and initialisers

  pub exprs_joined : (s : Several) (f : Found) → with_expr (moved_several move s) (moved_found move f) ≡ moved_several move (with_expr s f)
  exprs_joined s f = ap (λ (l : List Expr). let x : Several = record { items = l; height = max s.height f.height } in x) (sym (map_joined (moved_expr move) s.items f.expr))

  inits_joined : (s : FoundItems) (i : FoundInit) → with_init (moved_items move s) (moved_found_init move i) ≡ moved_items move (with_init s i)
  inits_joined s i = ap (λ (l : List Init). let x : FoundItems = record { items = l; height = max s.height i.height; end = moved_span move i.end } in x) (sym (map_joined (moved_init move) s.items i.init))

  value_moved : (f : Found) → value_init (moved_found move f) ≡ moved_found_init move (value_init f)
  value_moved f = ap (λ (x : Init). let y : FoundInit = record { init = x; height = f.height + 1; end = moved_span move f.outer } in y) (sym (fold.value_is (kind_step move) (init_step move) (expr_step move) f.expr))

  items_moved : (left : Span) (s : FoundItems) → items_init (moved_span move left) (moved_items move s) ≡ moved_found_init move (items_init left s)
  items_moved left s = ap (λ (x : Init). let y : FoundInit = record { init = x; height = s.height + 1; end = moved_span move s.end } in y) (sym (fold.items_are (kind_step move) (init_step move) (expr_step move) s.items (across left s.end)))

  -- ---- the grammar

  mutual
    pub expr_moves : (k : Kind) → Moves move (IsExpr k) (IsExpr k) (moved_found move)
    expr_moves _ _ _ (g.number n s) = made _ _ (e.Int n) (e.Int n) Value 0 s (fold.int_kind (kind_step move) (init_step move) (expr_step move) n) (g.number n (moved_span move s))
    expr_moves _ _ _ (g.truth s) = made _ _ (e.Bool true) (e.Bool true) Value 0 s (fold.bool_kind (kind_step move) (init_step move) (expr_step move) true) (g.truth (moved_span move s))
    expr_moves _ _ _ (g.falsity s) = made _ _ (e.Bool false) (e.Bool false) Value 0 s (fold.bool_kind (kind_step move) (init_step move) (expr_step move) false) (g.falsity (moved_span move s))
    expr_moves _ _ _ (g.null s) = made _ _ e.Null e.Null Value 0 s (fold.null_kind (kind_step move) (init_step move) (expr_step move)) (g.null (moved_span move s))
    expr_moves _ _ _ (g.this s) = made _ _ e.This e.This Value 0 s (fold.this_kind (kind_step move) (init_step move) (expr_step move)) (g.this (moved_span move s))
    expr_moves _ _ _ (g.variable x) = made _ _ (e.Name x) (e.Name (moved_name move x)) Variable 1 x.span (fold.name_kind (kind_step move) (init_step move) (expr_step move) x) (g.variable (moved_name move x))
    expr_moves _ _ _ (g.call x {ts} {a} d) =
        made _ _ (e.Call None x a.items) (e.Call None (moved_name move x) (map (moved_expr move) a.items)) Statement (max 1 a.height) (across x.span a.end)
        (fold.call_kind (kind_step move) (init_step move) (expr_step move) x a.items) (g.call (moved_name move x) (args_move ts a d))
    expr_moves _ _ _ (g.paren left right {ts} {f} d) =
        rw (both move ts (sign CLOSE_PAREN right ∷ [])) (g.paren (moved_span move left) (moved_span move right) (expr_moves g.Whole ts f d))
    expr_moves _ _ _ (g.select dot x {ts} {f} d) =
        rw (both move ts (sign DOT dot ∷ name_token x ∷ []))
        (made _ _ (e.Select f.expr x) (e.Select (moved_expr move f.expr) (moved_name move x)) Variable (max f.height 1) (across f.outer x.span)
        (fold.select_kind (kind_step move) (init_step move) (expr_step move) f.expr x) (g.select (moved_span move dot) (moved_name move x) (expr_moves g.Primary ts f d)))
    expr_moves _ _ _ (g.call_on dot x {ts} {us} {f} {a} d c) =
        rw (both move ts (sign DOT dot ∷ name_token x ∷ us))
        (made _ _ (e.Call (Some f.expr) x a.items) (e.Call (Some (moved_expr move f.expr)) (moved_name move x) (map (moved_expr move) a.items)) Statement (max f.height (max 1 a.height)) (across f.outer a.end)
        (fold.call_on_kind (kind_step move) (init_step move) (expr_step move) f.expr x a.items) (g.call_on (moved_span move dot) (moved_name move x) (expr_moves g.Primary ts f d) (args_move us a c)))
    expr_moves _ _ _ (g.index left right {ts} {us} {f} {g = h} d open_array x) =
        rw (both move ts (sign OPEN_BRACKET left ∷ (us ++ sign CLOSE_BRACKET right ∷ [])), both move us (sign CLOSE_BRACKET right ∷ []))
        (made _ _ (e.Index f.expr h.expr) (e.Index (moved_expr move f.expr) (moved_expr move h.expr)) Variable (max f.height h.height) (across f.outer right)
        (fold.index_kind (kind_step move) (init_step move) (expr_step move) f.expr h.expr) (g.index (moved_span move left) (moved_span move right) (expr_moves g.Primary ts f d) open_array (expr_moves g.Whole us h x)))
    expr_moves _ _ _ (g.new_object start x {ts} {a} d) =
        made _ _ (e.New x a.items) (e.New (moved_name move x) (map (moved_expr move) a.items)) Statement (max 1 a.height) (across start a.end)
        (fold.new_kind (kind_step move) (init_step move) (expr_step move) x a.items) (g.new_object (moved_span move start) (moved_name move x) (args_move ts a d))
    expr_moves _ _ _ (g.array_of_length start left right {before} {base_tokens} {us} {tokens} {notes} {base} {g = h} {brackets} d b x m) =
        let t = created_type base notes brackets in
        rw (both move before (base_tokens ++ sign OPEN_BRACKET left ∷ (us ++ sign CLOSE_BRACKET right ∷ tokens)), both move base_tokens (sign OPEN_BRACKET left ∷ (us ++ sign CLOSE_BRACKET right ∷ tokens)), both move us (sign CLOSE_BRACKET right ∷ tokens))
        (made _ _ (e.NewArray t.ty h.expr) (e.NewArray (moved_type move t.ty) (moved_expr move h.expr)) Array (max t.height h.height) (across start brackets.span)
        (fold.new_array_kind (kind_step move) (init_step move) (expr_step move) t.ty h.expr)
        (same_found (λ ts (y : FoundType). IsExpr g.Primary ts (node (e.NewArray y.ty (moved_expr move h.expr)) Array (max y.height h.height) (moved_span move (across start brackets.span)))) (type_moved base notes brackets)
        (g.array_of_length (moved_span move start) (moved_span move left) (moved_span move right) (notes_move move before notes d) (base_moves move base_tokens base b) (expr_moves g.Whole us h x) (more_pairs_move right tokens brackets m))))
    expr_moves _ _ _ (g.array_of_items start open_at {before} {base_tokens} {tokens} {us} {notes} {base} {brackets} {s} d b m x) =
        let t = created_type base notes brackets in
        rw (both move before (base_tokens ++ (tokens ++ sign OPEN_BRACE open_at ∷ us)), both move base_tokens (tokens ++ sign OPEN_BRACE open_at ∷ us), both move tokens (sign OPEN_BRACE open_at ∷ us))
        (made _ _ (e.NewItems t.ty s.items) (e.NewItems (moved_type move t.ty) (map (moved_init move) s.items)) Array (max t.height s.height) (across start s.end)
        (fold.new_items_kind (kind_step move) (init_step move) (expr_step move) t.ty s.items)
        (same_found (λ ts (y : FoundType). IsExpr g.Primary ts (node (e.NewItems y.ty (map (moved_init move) s.items)) Array (max y.height s.height) (moved_span move (across start s.end)))) (type_moved base notes brackets)
        (g.array_of_items (moved_span move start) (moved_span move open_at) (notes_move move before notes d) (base_moves move base_tokens base b) (pairs_move move tokens brackets m) (items_move us s x))))
    expr_moves _ _ _ (g.primary {ts} {f} d) = g.primary (expr_moves g.Primary ts f d)
    expr_moves _ _ _ (g.least minus literal) = made _ _ (e.Int _) (e.Int _) Value 0 (across minus literal) (fold.int_kind (kind_step move) (init_step move) (expr_step move) _) (g.least (moved_span move minus) (moved_span move literal))
    expr_moves _ _ _ (g.signed number op s {ts} {f} r d) =
        made _ _ (e.Unary op f.expr) (e.Unary op (moved_expr move f.expr)) Value f.height (across s f.outer) (fold.unary_kind (kind_step move) (init_step move) (expr_step move) op f.expr) (g.signed number op (moved_span move s) r (expr_moves (g.Level 0) ts f d))
    expr_moves _ _ _ (g.step_before number up s {ts} {f} r d v) =
        made _ _ (e.Step up false f.expr) (e.Step up false (moved_expr move f.expr)) Statement f.height (across s f.outer) (fold.step_kind (kind_step move) (init_step move) (expr_step move) up false f.expr)
        (g.step_before number up (moved_span move s) r (expr_moves g.Primary ts f d) v)
    expr_moves _ _ _ (g.step_after number up s {ts} {f} r d v) =
        rw (both move ts (sign number s ∷ []))
        (made _ _ (e.Step up true f.expr) (e.Step up true (moved_expr move f.expr)) Statement f.height (across f.outer s) (fold.step_kind (kind_step move) (init_step move) (expr_step move) up true f.expr)
        (g.step_after number up (moved_span move s) r (expr_moves g.Primary ts f d) v))
    expr_moves _ _ _ (g.wider {level} {ts} {f} d) = g.wider (expr_moves (g.Level level) ts f d)
    expr_moves _ _ _ (g.operators level number op s {ts} {us} {f} {g = h} r d x) =
        rw (both move ts (sign number s ∷ us))
        (made _ _ (e.Binary op f.expr h.expr) (e.Binary op (moved_expr move f.expr) (moved_expr move h.expr)) Value (max f.height h.height) (across f.outer h.outer) (fold.binary_kind (kind_step move) (init_step move) (expr_step move) op f.expr h.expr)
        (g.operators level number op (moved_span move s) r (expr_moves (g.Level (suc level)) ts f d) (expr_moves (g.Level level) us h x)))
    expr_moves _ _ _ (g.binary {ts} {f} d) = g.binary (expr_moves (g.Level 10) ts f d)
    expr_moves _ _ _ (g.assign number op s {ts} {us} {f} {g = h} r d v x) =
        rw (both move ts (sign number s ∷ us))
        (made _ _ (e.Assign op f.expr h.expr) (e.Assign op (moved_expr move f.expr) (moved_expr move h.expr)) Statement (max f.height h.height) (across f.outer h.outer) (fold.assign_kind (kind_step move) (init_step move) (expr_step move) op f.expr h.expr)
        (g.assign number op (moved_span move s) r (expr_moves g.Primary ts f d) v (expr_moves g.Whole us h x)))

    pub exprs_move : Moves move IsExprs IsExprs (moved_several move)
    exprs_move _ _ (g.one {ts} {f} d) = g.one (expr_moves g.Whole ts f d)
    exprs_move _ _ (g.and comma {ts} {us} {s} {f} d x) =
        rw (both move ts (sign COMMA comma ∷ us)) (same_found IsExprs (exprs_joined s f) (g.and (moved_span move comma) (exprs_move ts s d) (expr_moves g.Whole us f x)))

    pub args_move : Moves move IsArgs IsArgs (moved_args move)
    args_move _ _ (g.no_args left right) = g.no_args (moved_span move left) (moved_span move right)
    args_move _ _ (g.some_args left right {ts} {s} x) = rw (both move ts (sign CLOSE_PAREN right ∷ [])) (g.some_args (moved_span move left) (moved_span move right) (exprs_move ts s x))

    pub init_moves : Moves move IsInit IsInit (moved_found_init move)
    init_moves _ _ (g.value {ts} {f} d) = same_found IsInit (value_moved f) (g.value (expr_moves g.Whole ts f d))
    init_moves _ _ (g.entries open_at {ts} {s} d) = same_found IsInit (items_moved open_at s) (g.entries (moved_span move open_at) (items_move ts s d))

    pub inits_move : Moves move IsInits IsInits (moved_items move)
    inits_move _ _ (g.first {ts} {i} d) = g.first (init_moves ts i d)
    inits_move _ _ (g.later comma {ts} {us} {s} {i} d x) =
        rw (both move ts (sign COMMA comma ∷ us)) (same_found IsInits (inits_joined s i) (g.later (moved_span move comma) (inits_move ts s d) (init_moves us i x)))

    pub items_move : Moves move IsItems IsItems (moved_items move)
    items_move _ _ (g.no_items right) = g.no_items (moved_span move right)
    items_move _ _ (g.some_items right {ts} {s} d) = rw (both move ts (sign CLOSE_BRACE right ∷ [])) (g.some_items (moved_span move right) (inits_move ts s d))
    items_move _ _ (g.with_comma comma right {ts} {s} d) =
        rw (both move ts (sign COMMA comma ∷ sign CLOSE_BRACE right ∷ [])) (g.with_comma (moved_span move comma) (moved_span move right) (inits_move ts s d))

  pub run_moves : Moves move IsStatementExpr IsStatementExpr (moved_found move)
  run_moves ts f d = record { is = expr_moves g.Whole ts f d.is; form = d.form }
