-- Expressions and initialisers of tokens at other places.
use Rattle.std.proofs.Common.{◌≡◌, ℕ, ◌+◌, suc, Bool, true, false, List, [], ◌∷◌, ◌++◌, map, Some, None, refl, sym, ap, ◌∙◌}
use Rattle.ix_text.specs.declared.span.Span.{Span}
use Rattle.ix_lexer.specs.declared.fixed.TheConstants.{DOT, COMMA, CLOSE_PAREN, OPEN_BRACKET, CLOSE_BRACKET, OPEN_BRACE, CLOSE_BRACE}
use Rattle.ix_tree.specs.declared.annot.BaseTree.{BaseTree}
use Rattle.ix_tree.specs.declared.annot.Ident.{Ident}
use Rattle.ix_tree.specs.declared.annot.TypeTree.{TypeTree}
use Rattle.ix_tree.specs.declared.expr.Expr.{Expr}
use Rattle.ix_tree.specs.declared.expr.ExprKind.{ExprKind}
use Rattle.ix_tree.specs.declared.expr.ExprKind.TheVariants as e
use Rattle.ix_tree.specs.declared.expr.Init.{Init}
use Rattle.ix_tree.specs.declared.expr.Init.TheVariants as i
use Rattle.ix_tree.proofs.FoldsOfForms as fold
use Rattle.ix_grammar.specs.declared.found.Args.{Args}
use Rattle.ix_grammar.specs.declared.found.At.{At}
use Rattle.ix_grammar.specs.declared.found.Form.{Form}
use Rattle.ix_grammar.specs.declared.found.Found.{Found}
use Rattle.ix_grammar.specs.declared.found.FoundInit.{FoundInit}
use Rattle.ix_grammar.specs.declared.found.FoundItems.{FoundItems}
use Rattle.ix_grammar.specs.declared.found.Notes.{Notes}
use Rattle.ix_grammar.specs.declared.found.Several.{Several}
use Rattle.ix_grammar.specs.Nodes.{across}
use Rattle.ix_grammar.specs.Patterns.{sign, name_token}
use Rattle.ix_grammar.specs.ExprNodes.{created_type, makes_array}
use Rattle.ix_grammar.specs.ExprGrammar as g
use Rattle.ix_grammar.specs.ExprGrammar.{Kind, IsMorePairs, IsExpr, IsExprs, IsArgs, IsInit, IsInits, IsItems, IsStatementExpr}
use Rattle.ix_guard_text.specs.Bare.{nowhere, bare_name, bare_type, kind_step, init_step, expr_step, bare_expr, bare_init}
use Rattle.ix_guard_text.specs.Respanned.{next, behind}
use Rattle.ix_guard_text.proofs.ListsAgain.{both, same_joined, Stays}
use Rattle.ix_guard_text.proofs.AnnotsAgain.{SameValue, SameNotes, SameBase, named_at, notes_stay, base_stays, pairs_stay}

-- ---- nodes

abbrev pub bare_kind : ExprKind → ExprKind
bare_kind = fold.of_kind kind_step init_step expr_step

pub record SameFound (x y : Found) : Type 0 where
  pub expr : bare_expr x.expr ≡ bare_expr y.expr
  pub form : x.form ≡ y.form

pub node_same : (k l : ExprKind) (p q : Span) → bare_kind k ≡ bare_kind l → bare_expr (record { kind = k; span = p }) ≡ bare_expr (record { kind = l; span = q })
node_same k l p q is =
    fold.expr_is kind_step init_step expr_step k p ∙ ap (λ (x : ExprKind). let y : Expr = record { kind = x; span = nowhere } in y) is ∙ sym (fold.expr_is kind_step init_step expr_step l q)

-- two nodes whose kinds are the same
made : {k l : ExprKind} {f : Form} {m n : ℕ} {p q : Span} → bare_kind k ≡ bare_kind l
    → SameFound (record { expr = record { kind = k; span = p }; form = f; height = m; outer = p }) (record { expr = record { kind = l; span = q }; form = f; height = n; outer = q })
made {k} {l} {f} {m} {n} {p} {q} is = record { expr = node_same k l p q is; form = refl }

pub name_same : (x : Ident) (span : Span) → bare_kind (e.Name x) ≡ bare_kind (e.Name (record { text = x.text; span = span }))
name_same x span = fold.name_kind kind_step init_step expr_step x ∙ sym (fold.name_kind kind_step init_step expr_step (record { text = x.text; span = span }))

pub select_same : (f h : Expr) (x : Ident) (span : Span) → bare_expr f ≡ bare_expr h → bare_kind (e.Select f x) ≡ bare_kind (e.Select h (record { text = x.text; span = span }))
select_same f h x span is = fold.select_kind kind_step init_step expr_step f x ∙ ap (λ y. e.Select y (bare_name x)) is ∙ sym (fold.select_kind kind_step init_step expr_step h (record { text = x.text; span = span }))

index_same : (f h p q : Expr) → bare_expr f ≡ bare_expr p → bare_expr h ≡ bare_expr q → bare_kind (e.Index f h) ≡ bare_kind (e.Index p q)
index_same f h p q one two = fold.index_kind kind_step init_step expr_step f h ∙ (rw (one, two) refl) ∙ sym (fold.index_kind kind_step init_step expr_step p q)

call_same : (x : Ident) (span : Span) (xs ys : List Expr) → map bare_expr xs ≡ map bare_expr ys → bare_kind (e.Call None x xs) ≡ bare_kind (e.Call None (record { text = x.text; span = span }) ys)
call_same x span xs ys is = fold.call_kind kind_step init_step expr_step x xs ∙ ap (λ l. e.Call None (bare_name x) l) is ∙ sym (fold.call_kind kind_step init_step expr_step (record { text = x.text; span = span }) ys)

call_on_same : (f h : Expr) (x : Ident) (span : Span) (xs ys : List Expr) → bare_expr f ≡ bare_expr h → map bare_expr xs ≡ map bare_expr ys → bare_kind (e.Call (Some f) x xs) ≡ bare_kind (e.Call (Some h) (record { text = x.text; span = span }) ys)
call_on_same f h x span xs ys one is = fold.call_on_kind kind_step init_step expr_step f x xs ∙ (rw (one, is) refl) ∙ sym (fold.call_on_kind kind_step init_step expr_step h (record { text = x.text; span = span }) ys)

new_same : (x : Ident) (span : Span) (xs ys : List Expr) → map bare_expr xs ≡ map bare_expr ys → bare_kind (e.New x xs) ≡ bare_kind (e.New (record { text = x.text; span = span }) ys)
new_same x span xs ys is = fold.new_kind kind_step init_step expr_step x xs ∙ ap (λ l. e.New (bare_name x) l) is ∙ sym (fold.new_kind kind_step init_step expr_step (record { text = x.text; span = span }) ys)

new_array_same : (t u : TypeTree) (f h : Expr) → bare_type t ≡ bare_type u → bare_expr f ≡ bare_expr h → bare_kind (e.NewArray t f) ≡ bare_kind (e.NewArray u h)
new_array_same t u f h one is = fold.new_array_kind kind_step init_step expr_step t f ∙ ap (λ y. e.NewArray y (bare_expr f)) one ∙ ap (λ y. e.NewArray (bare_type u) y) is ∙ sym (fold.new_array_kind kind_step init_step expr_step u h)

new_items_same : (t u : TypeTree) (xs ys : List Init) → bare_type t ≡ bare_type u → map bare_init xs ≡ map bare_init ys → bare_kind (e.NewItems t xs) ≡ bare_kind (e.NewItems u ys)
new_items_same t u xs ys one is = fold.new_items_kind kind_step init_step expr_step t xs ∙ ap (λ y. e.NewItems y (map bare_init xs)) one ∙ ap (λ y. e.NewItems (bare_type u) y) is ∙ sym (fold.new_items_kind kind_step init_step expr_step u ys)

unary_same : (op : _) (f h : Expr) → bare_expr f ≡ bare_expr h → bare_kind (e.Unary op f) ≡ bare_kind (e.Unary op h)
unary_same op f h is = fold.unary_kind kind_step init_step expr_step op f ∙ ap (λ y. e.Unary op y) is ∙ sym (fold.unary_kind kind_step init_step expr_step op h)

pub binary_same : (op : _) (f h p q : Expr) → bare_expr f ≡ bare_expr p → bare_expr h ≡ bare_expr q → bare_kind (e.Binary op f h) ≡ bare_kind (e.Binary op p q)
binary_same op f h p q one two = fold.binary_kind kind_step init_step expr_step op f h ∙ (rw (one, two) refl) ∙ sym (fold.binary_kind kind_step init_step expr_step op p q)

assign_same : (op : _) (f h p q : Expr) → bare_expr f ≡ bare_expr p → bare_expr h ≡ bare_expr q → bare_kind (e.Assign op f h) ≡ bare_kind (e.Assign op p q)
assign_same op f h p q one two = fold.assign_kind kind_step init_step expr_step op f h ∙ (rw (one, two) refl) ∙ sym (fold.assign_kind kind_step init_step expr_step op p q)

step_same : (up after : Bool) (f h : Expr) → bare_expr f ≡ bare_expr h → bare_kind (e.Step up after f) ≡ bare_kind (e.Step up after h)
step_same up after f h is = fold.step_kind kind_step init_step expr_step up after f ∙ ap (λ y. e.Step up after y) is ∙ sym (fold.step_kind kind_step init_step expr_step up after h)

-- ---- lists and initialisers

abbrev pub SameItems : Several → Several → Type 0
SameItems x y = map bare_expr x.items ≡ map bare_expr y.items

abbrev pub SameArgs : Args → Args → Type 0
SameArgs x y = map bare_expr x.items ≡ map bare_expr y.items

abbrev pub SameInit : FoundInit → FoundInit → Type 0
SameInit x y = bare_init x.init ≡ bare_init y.init

abbrev pub SameInits : FoundItems → FoundItems → Type 0
SameInits x y = map bare_init x.items ≡ map bare_init y.items

value_same : (f h : Expr) → bare_expr f ≡ bare_expr h → bare_init (i.Value f) ≡ bare_init (i.Value h)
value_same f h is = fold.value_is kind_step init_step expr_step f ∙ ap (λ y. i.Value y) is ∙ sym (fold.value_is kind_step init_step expr_step h)

items_same : (xs ys : List Init) (p q : Span) → map bare_init xs ≡ map bare_init ys → bare_init (i.Items xs p) ≡ bare_init (i.Items ys q)
items_same xs ys p q is = fold.items_are kind_step init_step expr_step xs p ∙ ap (λ l. i.Items l nowhere) is ∙ sym (fold.items_are kind_step init_step expr_step ys q)

-- ---- the types of new arrays

more_pairs_stay : (last other : Span) → Stays (IsMorePairs last) (IsMorePairs other) SameValue
more_pairs_stay last other _ _ g.no_more at = record { found = _; is = g.no_more; same = refl }
more_pairs_stay last other _ _ (g.one_more left right {tokens} {pairs} d) at =
    let inner = more_pairs_stay last other tokens pairs d at in
    let end = behind tokens at in
    rw (both tokens (sign OPEN_BRACKET left ∷ sign CLOSE_BRACKET right ∷ []) at) (record { found = _; is = g.one_more (end 0) (next end 0) inner.is; same = ap (λ n. n + 1) inner.same })

type_same : (base other : At BaseTree) (notes more : Notes) (pairs brackets : At ℕ) → SameBase base other → SameNotes notes more → SameValue pairs brackets → bare_type (created_type base notes pairs).ty ≡ bare_type (created_type other more brackets).ty
type_same base other notes more pairs brackets e f g = rw (e, f, g) refl

-- ---- the grammar

mutual
  pub expr_stays : (k : Kind) → Stays (IsExpr k) (IsExpr k) SameFound
  expr_stays _ _ _ (g.number n s) at = record { found = _; is = g.number n (at 0); same = made refl }
  expr_stays _ _ _ (g.truth s) at = record { found = _; is = g.truth (at 0); same = made refl }
  expr_stays _ _ _ (g.falsity s) at = record { found = _; is = g.falsity (at 0); same = made refl }
  expr_stays _ _ _ (g.null s) at = record { found = _; is = g.null (at 0); same = made refl }
  expr_stays _ _ _ (g.this s) at = record { found = _; is = g.this (at 0); same = made refl }
  expr_stays _ _ _ (g.variable x) at = record { found = _; is = g.variable (named_at at x); same = made (name_same x (at 0)) }
  expr_stays _ _ _ (g.call x {ts} {a} d) at =
      let args = args_stay ts a d (next at) in
      record { found = _; is = g.call (named_at at x) args.is; same = made (call_same x (at 0) a.items args.found.items args.same) }
  expr_stays _ _ _ (g.paren left right {ts} {f} d) at =
      let inner = expr_stays g.Whole ts f d (next at) in
      rw (both ts (sign CLOSE_PAREN right ∷ []) (next at)) (record { found = _; is = g.paren (at 0) (behind ts (next at) 0) inner.is; same = record { expr = inner.same.expr; form = refl } })
  expr_stays _ _ _ (g.select dot x {ts} {f} d) at =
      let inner = expr_stays g.Primary ts f d at in
      let end = behind ts at in
      rw (both ts (sign DOT dot ∷ name_token x ∷ []) at) (record { found = _; is = g.select (end 0) (named_at (next end) x) inner.is; same = made (select_same f.expr inner.found.expr x (next end 0) inner.same.expr) })
  expr_stays _ _ _ (g.call_on dot x {ts} {us} {f} {a} d c) at =
      let inner = expr_stays g.Primary ts f d at in
      let end = behind ts at in
      let args = args_stay us a c (next (next end)) in
      rw (both ts (sign DOT dot ∷ name_token x ∷ us) at)
      (record { found = _; is = g.call_on (end 0) (named_at (next end) x) inner.is args.is; same = made (call_on_same f.expr inner.found.expr x (next end 0) a.items args.found.items inner.same.expr args.same) })
  expr_stays _ _ _ (g.index left right {ts} {us} {f} {g = h} d open_array x) at =
      let first = expr_stays g.Primary ts f d at in
      let end = behind ts at in
      let last = expr_stays g.Whole us h x (next end) in
      rw (both ts (sign OPEN_BRACKET left ∷ (us ++ sign CLOSE_BRACKET right ∷ [])) at, both us (sign CLOSE_BRACKET right ∷ []) (next end))
      (record { found = _; is = g.index (end 0) (behind us (next end) 0) first.is (ap makes_array (sym first.same.form) ∙ open_array) last.is; same = made (index_same f.expr h.expr first.found.expr last.found.expr first.same.expr last.same.expr) })
  expr_stays _ _ _ (g.new_object start x {ts} {a} d) at =
      let args = args_stay ts a d (next (next at)) in
      record { found = _; is = g.new_object (at 0) (named_at (next at) x) args.is; same = made (new_same x (next at 0) a.items args.found.items args.same) }
  expr_stays _ _ _ (g.array_of_length start left right {before} {base_tokens} {us} {tokens} {notes} {base} {g = h} {brackets} d b x m) at =
      let at1 = next at in
      let first = notes_stay before notes d at1 in
      let at2 = behind before at1 in
      let second = base_stays base_tokens base b at2 in
      let at3 = behind base_tokens at2 in
      let third = expr_stays g.Whole us h x (next at3) in
      let at4 = behind us (next at3) in
      let fourth = more_pairs_stay right (at4 0) tokens brackets m (next at4) in
      rw (both before (base_tokens ++ sign OPEN_BRACKET left ∷ (us ++ sign CLOSE_BRACKET right ∷ tokens)) at1, both base_tokens (sign OPEN_BRACKET left ∷ (us ++ sign CLOSE_BRACKET right ∷ tokens)) at2, both us (sign CLOSE_BRACKET right ∷ tokens) (next at3))
      (record {
        found = _;
        is = g.array_of_length (at 0) (at3 0) (at4 0) first.is second.is third.is fourth.is;
        same = made (new_array_same (created_type base notes brackets).ty (created_type second.found first.found fourth.found).ty h.expr third.found.expr
            (type_same base second.found notes first.found brackets fourth.found second.same first.same fourth.same) third.same.expr);
      })
  expr_stays _ _ _ (g.array_of_items start open_at {before} {base_tokens} {tokens} {us} {notes} {base} {brackets} {s} d b m x) at =
      let at1 = next at in
      let first = notes_stay before notes d at1 in
      let at2 = behind before at1 in
      let second = base_stays base_tokens base b at2 in
      let at3 = behind base_tokens at2 in
      let third = pairs_stay tokens brackets m at3 in
      let at4 = behind tokens at3 in
      let fourth = items_stay us s x (next at4) in
      rw (both before (base_tokens ++ (tokens ++ sign OPEN_BRACE open_at ∷ us)) at1, both base_tokens (tokens ++ sign OPEN_BRACE open_at ∷ us) at2, both tokens (sign OPEN_BRACE open_at ∷ us) at3)
      (record {
        found = _;
        is = g.array_of_items (at 0) (at4 0) first.is second.is third.is fourth.is;
        same = made (new_items_same (created_type base notes brackets).ty (created_type second.found first.found third.found).ty s.items fourth.found.items
            (type_same base second.found notes first.found brackets third.found second.same first.same third.same) fourth.same);
      })
  expr_stays _ _ _ (g.primary {ts} {f} d) at = let inner = expr_stays g.Primary ts f d at in record { found = inner.found; is = g.primary inner.is; same = inner.same }
  expr_stays _ _ _ (g.least minus literal) at = record { found = _; is = g.least (at 0) (next at 0); same = made refl }
  expr_stays _ _ _ (g.signed number op s {ts} {f} r d) at =
      let inner = expr_stays (g.Level 0) ts f d (next at) in
      record { found = _; is = g.signed number op (at 0) r inner.is; same = made (unary_same op f.expr inner.found.expr inner.same.expr) }
  expr_stays _ _ _ (g.step_before number up s {ts} {f} r d v) at =
      let inner = expr_stays g.Primary ts f d (next at) in
      record { found = _; is = g.step_before number up (at 0) r inner.is (sym inner.same.form ∙ v); same = made (step_same up false f.expr inner.found.expr inner.same.expr) }
  expr_stays _ _ _ (g.step_after number up s {ts} {f} r d v) at =
      let inner = expr_stays g.Primary ts f d at in
      rw (both ts (sign number s ∷ []) at)
      (record { found = _; is = g.step_after number up (behind ts at 0) r inner.is (sym inner.same.form ∙ v); same = made (step_same up true f.expr inner.found.expr inner.same.expr) })
  expr_stays _ _ _ (g.wider {level} {ts} {f} d) at = let inner = expr_stays (g.Level level) ts f d at in record { found = inner.found; is = g.wider inner.is; same = inner.same }
  expr_stays _ _ _ (g.operators level number op s {ts} {us} {f} {g = h} r d x) at =
      let first = expr_stays (g.Level (suc level)) ts f d at in
      let end = behind ts at in
      let last = expr_stays (g.Level level) us h x (next end) in
      rw (both ts (sign number s ∷ us) at)
      (record { found = _; is = g.operators level number op (end 0) r first.is last.is; same = made (binary_same op f.expr h.expr first.found.expr last.found.expr first.same.expr last.same.expr) })
  expr_stays _ _ _ (g.binary {ts} {f} d) at = let inner = expr_stays (g.Level 10) ts f d at in record { found = inner.found; is = g.binary inner.is; same = inner.same }
  expr_stays _ _ _ (g.assign number op s {ts} {us} {f} {g = h} r d v x) at =
      let first = expr_stays g.Primary ts f d at in
      let end = behind ts at in
      let last = expr_stays g.Whole us h x (next end) in
      rw (both ts (sign number s ∷ us) at)
      (record { found = _; is = g.assign number op (end 0) r first.is (sym first.same.form ∙ v) last.is; same = made (assign_same op f.expr h.expr first.found.expr last.found.expr first.same.expr last.same.expr) })

  pub exprs_stay : Stays IsExprs IsExprs SameItems
  exprs_stay _ _ (g.one {ts} {f} d) at = let inner = expr_stays g.Whole ts f d at in record { found = _; is = g.one inner.is; same = same_joined bare_expr [] [] f.expr inner.found.expr refl inner.same.expr }
  exprs_stay _ _ (g.and comma {ts} {us} {s} {f} d x) at =
      let first = exprs_stay ts s d at in
      let end = behind ts at in
      let last = expr_stays g.Whole us f x (next end) in
      rw (both ts (sign COMMA comma ∷ us) at)
      (record { found = _; is = g.and (end 0) first.is last.is; same = same_joined bare_expr s.items first.found.items f.expr last.found.expr first.same last.same.expr })

  pub args_stay : Stays IsArgs IsArgs SameArgs
  args_stay _ _ (g.no_args left right) at = record { found = _; is = g.no_args (at 0) (next at 0); same = refl }
  args_stay _ _ (g.some_args left right {ts} {s} x) at =
      let inner = exprs_stay ts s x (next at) in
      rw (both ts (sign CLOSE_PAREN right ∷ []) (next at)) (record { found = _; is = g.some_args (at 0) (behind ts (next at) 0) inner.is; same = inner.same })

  pub init_stays : Stays IsInit IsInit SameInit
  init_stays _ _ (g.value {ts} {f} d) at = let inner = expr_stays g.Whole ts f d at in record { found = _; is = g.value inner.is; same = value_same f.expr inner.found.expr inner.same.expr }
  init_stays _ _ (g.entries open_at {ts} {s} d) at =
      let inner = items_stay ts s d (next at) in
      record { found = _; is = g.entries (at 0) inner.is; same = items_same s.items inner.found.items (across open_at s.end) (across (at 0) inner.found.end) inner.same }

  pub inits_stay : Stays IsInits IsInits SameInits
  inits_stay _ _ (g.first {ts} {i} d) at = let inner = init_stays ts i d at in record { found = _; is = g.first inner.is; same = same_joined bare_init [] [] i.init inner.found.init refl inner.same }
  inits_stay _ _ (g.later comma {ts} {us} {s} {i} d x) at =
      let first = inits_stay ts s d at in
      let end = behind ts at in
      let last = init_stays us i x (next end) in
      rw (both ts (sign COMMA comma ∷ us) at)
      (record { found = _; is = g.later (end 0) first.is last.is; same = same_joined bare_init s.items first.found.items i.init last.found.init first.same last.same })

  pub items_stay : Stays IsItems IsItems SameInits
  items_stay _ _ (g.no_items right) at = record { found = _; is = g.no_items (at 0); same = refl }
  items_stay _ _ (g.some_items right {ts} {s} d) at =
      let inner = inits_stay ts s d at in
      rw (both ts (sign CLOSE_BRACE right ∷ []) at) (record { found = _; is = g.some_items (behind ts at 0) inner.is; same = inner.same })
  items_stay _ _ (g.with_comma comma right {ts} {s} d) at =
      let inner = inits_stay ts s d at in
      let end = behind ts at in
      rw (both ts (sign COMMA comma ∷ sign CLOSE_BRACE right ∷ []) at) (record { found = _; is = g.with_comma (end 0) (next end 0) inner.is; same = inner.same })

pub run_stays : Stays IsStatementExpr IsStatementExpr SameFound
run_stays ts f d at = let inner = expr_stays g.Whole ts f d.is at in record { found = inner.found; is = record { is = inner.is; form = sym inner.same.form ∙ d.form }; same = inner.same }
