-- Expressions and initialisers stand where their tokens are, with their parts in them.
use Rattle.std.proofs.Common.{◌≡◌, ◌≤◌, ◌<◌, ℕ, suc, negsuc, true, false, List, [], ◌∷◌, ◌++◌, map, Some, None, sym, ap, subst, ◌∙◌, arith}
use Rattle.ix_text.specs.declared.span.Span.{Span}
use Rattle.ix_lexer.specs.declared.token.Token.{Token}
use Rattle.ix_lexer.specs.declared.fixed.TheConstants.{DOT, COMMA, CLOSE_PAREN, OPEN_BRACKET, CLOSE_BRACKET, OPEN_BRACE, CLOSE_BRACE}
use Rattle.ix_lexer.specs.Spans.{InOrder}
use Rattle.ix_tree.specs.declared.annot.Ident.{Ident}
use Rattle.ix_tree.specs.declared.expr.ExprKind.{ExprKind}
use Rattle.ix_tree.specs.declared.expr.ExprKind.TheVariants as e
use Rattle.ix_tree.specs.Placed.{Layout, LaidOut, row, piece, name_piece, new_type_piece, expr_piece, init_piece}
use Rattle.ix_tree.proofs.Layouts.{Lies, Laid, laid_more, laid_first, laid_one, laid_two, laid_node, laid_name}
use Rattle.ix_tree.proofs.LayoutParts.{kind_row, expr_is, int_kind, bool_kind, null_kind, this_kind, name_kind, select_kind, index_kind, call_kind, call_on_kind, new_kind, new_array_kind, new_items_kind, unary_kind, binary_kind, assign_kind, step_is, value_is, items_are}
use Rattle.ix_grammar.specs.declared.found.Args.{Args}
use Rattle.ix_grammar.specs.declared.found.Found.{Found}
use Rattle.ix_grammar.specs.declared.found.FoundInit.{FoundInit}
use Rattle.ix_grammar.specs.declared.found.FoundItems.{FoundItems}
use Rattle.ix_grammar.specs.declared.found.Several.{Several}
use Rattle.ix_grammar.specs.Nodes.{across}
use Rattle.ix_grammar.specs.Patterns.{sign, name_token}
use Rattle.ix_grammar.specs.ExprNodes.{created_type}
use Rattle.ix_grammar.specs.ExprGrammar as g
use Rattle.ix_grammar.specs.ExprGrammar.{Kind, IsExpr, IsExprs, IsArgs, IsInit, IsInits, IsItems}
use Rattle.ix_lexer.proofs.SplitInOrder.{order_both}
use Rattle.ix_grammar_rules.proofs.TypePlaces.{pairs_lie}
use Rattle.ix_grammar_rules.proofs.ExprPlaces.{expr_stands, args_stand, init_stands, items_stand, more_pairs_lie}
use Rattle.ix_grammar_rules.proofs.ListsLaid.{laid_joined}
use Rattle.ix_grammar_rules.proofs.TypeLaid.{new_type_laid}

-- where a part of the grammar stands
pub expr_lies : (lo hi : ℕ) (k : Kind) (ts : List Token) (f : Found) → IsExpr k ts f → InOrder lo hi ts → Lies lo hi f.outer
expr_lies lo hi k ts f d o = (expr_stands lo hi k ts f d o).0

pub args_lie : (lo hi : ℕ) (ts : List Token) (a : Args) → IsArgs ts a → InOrder lo hi ts → Lies lo hi a.end
args_lie lo hi ts a d o = (args_stand lo hi ts a d o).0

-- An expression stands from its first token to its last one.
abbrev pub WholeLaid : Found → Type 0
WholeLaid f = (start : ℕ) → LaidOut start f.outer.from f.outer.to (expr_piece f.expr)

-- further out
pub whole_in : (start lo hi : ℕ) (f : Found) → WholeLaid f → lo ≤ f.outer.from → f.outer.to ≤ hi → LaidOut start lo hi (expr_piece f.expr)
whole_in start lo hi f w a b = laid_more start f.outer.from f.outer.to start lo hi (expr_piece f.expr) (omega arith) a b (w start)

-- a node with its parts
made : (kind : ExprKind) (parts : List Layout) (span : Span) → kind_row kind ≡ parts → span.from < span.to → Laid span.from span.from span.to parts
    → (start : ℕ) → LaidOut start span.from span.to (expr_piece (record { kind = kind; span = span }))
made kind parts span is some s start = subst (λ y. LaidOut start span.from span.to y) (sym (expr_is kind span ∙ ap (λ y. piece span y) is))
    (laid_node start span.from span.to span parts (omega arith, some, omega arith) s)

leaf_made : (kind : ExprKind) (span : Span) → kind_row kind ≡ [] → span.from < span.to → (start : ℕ) → LaidOut start span.from span.to (expr_piece (record { kind = kind; span = span }))
leaf_made kind span is some start = made kind [] span is some (omega (arith, some)) start

-- one part
one_made : (kind : ExprKind) (f : Found) (span : Span) → kind_row kind ≡ expr_piece f.expr ∷ [] → WholeLaid f → span.from ≤ f.outer.from → f.outer.from < f.outer.to → f.outer.to ≤ span.to
    → (start : ℕ) → LaidOut start span.from span.to (expr_piece (record { kind = kind; span = span }))
one_made kind f span is w a b c start =
    made kind (expr_piece f.expr ∷ []) span is (omega (arith, a, b, c)) (laid_one span.from span.from span.to (expr_piece f.expr) (whole_in span.from span.from span.to f w a c)) start

-- two parts
two_made : (kind : ExprKind) (f h : Found) (span : Span) → kind_row kind ≡ expr_piece f.expr ∷ expr_piece h.expr ∷ [] → WholeLaid f → WholeLaid h
    → span.from ≤ f.outer.from → f.outer.from < f.outer.to → f.outer.to ≤ h.outer.from → h.outer.from < h.outer.to → h.outer.to ≤ span.to
    → (start : ℕ) → LaidOut start span.from span.to (expr_piece (record { kind = kind; span = span }))
two_made kind f h span is w x a b c d e start =
    made kind (expr_piece f.expr ∷ expr_piece h.expr ∷ []) span is (omega (arith, a, b, c, d, e))
    (laid_two span.from span.from f.outer.to h.outer.from span.to (expr_piece f.expr) (expr_piece h.expr) (whole_in span.from span.from f.outer.to f w a (omega arith)) (whole_in span.from h.outer.from span.to h x (omega arith) e) c) start

-- a name, and what stands behind it
name_first : (start lo hi : ℕ) (x : Ident) (xs : List Layout) → lo ≤ x.span.from → x.span.from < x.span.to → Laid start x.span.to hi xs → Laid start lo hi (name_piece x ∷ xs)
name_first start lo hi x xs a b s = laid_first start lo x.span.to x.span.to hi (name_piece x) xs (laid_name start lo x.span.to x (a, b, omega arith)) s (omega arith)

-- ---- the grammar

mutual
  pub expr_laid : (lo hi : ℕ) (k : Kind) (ts : List Token) (f : Found) → IsExpr k ts f → InOrder lo hi ts → (start : ℕ) → LaidOut start f.outer.from f.outer.to (expr_piece f.expr)
  expr_laid lo hi _ _ _ (g.number n s) o start = leaf_made (e.Int n) s (int_kind n) o.1 start
  expr_laid lo hi _ _ _ (g.truth s) o start = leaf_made (e.Bool true) s (bool_kind true) o.1 start
  expr_laid lo hi _ _ _ (g.falsity s) o start = leaf_made (e.Bool false) s (bool_kind false) o.1 start
  expr_laid lo hi _ _ _ (g.null s) o start = leaf_made e.Null s null_kind o.1 start
  expr_laid lo hi _ _ _ (g.this s) o start = leaf_made e.This s this_kind o.1 start
  expr_laid lo hi _ _ _ (g.variable x) o start = made (e.Name x) (name_piece x ∷ []) x.span (name_kind x) o.1
      (laid_one x.span.from x.span.from x.span.to (name_piece x) (laid_name x.span.from x.span.from x.span.to x (omega arith, o.1, omega arith))) start
  expr_laid lo hi _ _ _ (g.call x {ts} {a} d) (p, q, o) start =
      let l = args_lie x.span.to hi ts a d o in
      made (e.Call None x a.items) (name_piece x ∷ map expr_piece a.items) (across x.span a.end) (call_kind x a.items) (omega (arith, q, l.0, l.1))
      (name_first x.span.from x.span.from a.end.to x (map expr_piece a.items) (omega arith) q (args_laid x.span.from x.span.to hi ts a d o)) start
  expr_laid lo hi _ _ _ (g.paren left right {ts} {f} d) (p, q, o) start =
      let (mid, a, b, r, t) = order_both left.to hi ts (sign CLOSE_PAREN right ∷ []) o in
      let l = expr_lies left.to mid g.Whole ts f d r in
      whole_in start left.from right.to f (expr_laid left.to mid g.Whole ts f d r) (omega (arith, q, l.0)) (omega (arith, l.2, t.0, t.1))
  expr_laid lo hi _ _ _ (g.new_object start_at x {ts} {a} d) (p, q, (r, s, o)) start =
      let l = args_lie x.span.to hi ts a d o in
      made (e.New x a.items) (name_piece x ∷ map expr_piece a.items) (across start_at a.end) (new_kind x a.items) (omega (arith, q, r, s, l.0, l.1))
      (name_first start_at.from start_at.from a.end.to x (map expr_piece a.items) (omega (arith, q, r)) s (args_laid start_at.from x.span.to hi ts a d o)) start
  expr_laid lo hi _ _ _ (g.array_of_length start_at left right {before} {base_tokens} {us} {tokens} {notes} {base} {g = h} {brackets} d b x m) (p, q, o) start =
      let sized = us ++ sign CLOSE_BRACKET right ∷ tokens in
      let (one, a1, b1, o1, p1) = order_both start_at.to hi before (base_tokens ++ sign OPEN_BRACKET left ∷ sized) o in
      let (two, a2, b2, o2, p2) = order_both one hi base_tokens (sign OPEN_BRACKET left ∷ sized) p1 in
      let (three, a3, b3, o3, p3) = order_both left.to hi us (sign CLOSE_BRACKET right ∷ tokens) p2.2 in
      let last = more_pairs_lie three right.to hi right tokens brackets m (p3.0, p3.1, omega arith) p3.2 in
      let l = expr_lies left.to three g.Whole us h x o3 in
      let w = expr_laid left.to three g.Whole us h x o3 in
      let ty = (created_type base notes brackets).ty in
      let n = new_type_laid start_at.to one two left.to brackets.span.to before base_tokens notes base brackets (expr_piece h.expr ∷ []) d b o1 o2 a1 (omega (arith, p2.0, p2.1)) (omega (arith, a3, last.0), last.1, omega arith)
      (λ s. laid_one s left.to brackets.span.to (expr_piece h.expr) (whole_in s left.to brackets.span.to h w l.0 (omega (arith, l.2, last.0, last.1)))) in
      made (e.NewArray ty h.expr) (new_type_piece ty (expr_piece h.expr ∷ []) ∷ []) (across start_at brackets.span) (new_array_kind ty h.expr) (omega (arith, q, n.lies.0, n.lies.1, n.lies.2))
      (laid_one start_at.from start_at.from brackets.span.to (new_type_piece ty (expr_piece h.expr ∷ []))
      (laid_more start_at.from ty.span.from brackets.span.to start_at.from start_at.from brackets.span.to (new_type_piece ty (expr_piece h.expr ∷ [])) (omega arith) (omega (arith, q, n.lies.0)) (omega arith) (n.laid start_at.from))) start
  expr_laid lo hi _ _ _ (g.array_of_items start_at open_at {before} {base_tokens} {tokens} {us} {notes} {base} {brackets} {s} d b m x) (p, q, o) start =
      let filled = tokens ++ sign OPEN_BRACE open_at ∷ us in
      let (one, a1, b1, o1, p1) = order_both start_at.to hi before (base_tokens ++ filled) o in
      let (two, a2, b2, o2, p2) = order_both one hi base_tokens filled p1 in
      let (three, a3, b3, o3, p3) = order_both two hi tokens (sign OPEN_BRACE open_at ∷ us) p2 in
      let last = pairs_lie two three tokens brackets m o3 in
      let l = (items_stand open_at.to hi us s x p3.2).0 in
      let ty = (created_type base notes brackets).ty in
      let n = new_type_laid start_at.to one two two three before base_tokens notes base brackets [] d b o1 o2 a1 (omega arith) last (λ t. omega (arith, last.0, last.1)) in
      made (e.NewItems ty s.items) (new_type_piece ty [] ∷ map init_piece s.items) (across start_at s.end) (new_items_kind ty s.items) (omega (arith, q, n.lies.0, n.lies.1, n.lies.2, last.2, p3.0, p3.1, l.0, l.1))
      (laid_first start_at.from start_at.from three open_at.to s.end.to (new_type_piece ty []) (map init_piece s.items)
      (laid_more start_at.from ty.span.from three start_at.from start_at.from three (new_type_piece ty []) (omega arith) (omega (arith, q, n.lies.0)) (omega arith) (n.laid start_at.from))
      (items_laid start_at.from open_at.to hi us s x p3.2) (omega (arith, p3.0, p3.1))) start
  expr_laid lo hi _ _ _ (g.select dot x {ts} {f} d) o start =
      let (mid, a, b, p, q) = order_both lo hi ts (sign DOT dot ∷ name_token x ∷ []) o in
      let l = expr_lies lo mid g.Primary ts f d p in
      let w = expr_laid lo mid g.Primary ts f d p in
      made (e.Select f.expr x) (expr_piece f.expr ∷ name_piece x ∷ []) (across f.outer x.span) (select_kind f.expr x) (omega (arith, l.1, l.2, q.0, q.1, q.2.0, q.2.1))
      (laid_two f.outer.from f.outer.from f.outer.to x.span.from x.span.to (expr_piece f.expr) (name_piece x) (w f.outer.from) (laid_name f.outer.from x.span.from x.span.to x (omega arith, q.2.1, omega arith)) (omega (arith, l.2, q.0, q.1, q.2.0))) start
  expr_laid lo hi _ _ _ (g.call_on dot x {ts} {us} {f} {a = r} d c) o start =
      let (mid, a, b, p, q) = order_both lo hi ts (sign DOT dot ∷ name_token x ∷ us) o in
      let l = expr_lies lo mid g.Primary ts f d p in
      let w = expr_laid lo mid g.Primary ts f d p in
      let m = args_lie x.span.to hi us r c q.2.2 in
      made (e.Call (Some f.expr) x r.items) (expr_piece f.expr ∷ name_piece x ∷ map expr_piece r.items) (across f.outer r.end) (call_on_kind f.expr x r.items) (omega (arith, l.1, l.2, q.0, q.1, q.2.0, q.2.1, m.0, m.1))
      (laid_first f.outer.from f.outer.from f.outer.to x.span.from r.end.to (expr_piece f.expr) (name_piece x ∷ map expr_piece r.items) (w f.outer.from)
      (name_first f.outer.from x.span.from r.end.to x (map expr_piece r.items) (omega arith) q.2.1 (args_laid f.outer.from x.span.to hi us r c q.2.2)) (omega (arith, l.2, q.0, q.1, q.2.0))) start
  expr_laid lo hi _ _ _ (g.index left right {ts} {us} {f} {g = h} d n x) o start =
      let (mid, a, b, p, q) = order_both lo hi ts (sign OPEN_BRACKET left ∷ (us ++ sign CLOSE_BRACKET right ∷ [])) o in
      let (end, a2, b2, p2, q2) = order_both left.to hi us (sign CLOSE_BRACKET right ∷ []) q.2 in
      let l = expr_lies lo mid g.Primary ts f d p in
      let m = expr_lies left.to end g.Whole us h x p2 in
      two_made (e.Index f.expr h.expr) f h (across f.outer right) (index_kind f.expr h.expr) (expr_laid lo mid g.Primary ts f d p) (expr_laid left.to end g.Whole us h x p2)
      (omega arith) l.1 (omega (arith, l.2, q.0, q.1, m.0)) m.1 (omega (arith, m.2, q2.0, q2.1)) start
  expr_laid lo hi _ _ _ (g.primary {ts} {f} d) o start = expr_laid lo hi g.Primary ts f d o start
  expr_laid lo hi _ _ _ (g.least minus literal) (a, b, (c, d, f)) start = leaf_made (e.Int (negsuc 2147483647)) (across minus literal) (int_kind (negsuc 2147483647)) (omega (arith, b, c, d)) start
  expr_laid lo hi _ _ _ (g.signed number op s {ts} {f} r d) (a, b, o) start =
      let l = expr_lies s.to hi (g.Level 0) ts f d o in
      one_made (e.Unary op f.expr) f (across s f.outer) (unary_kind op f.expr) (expr_laid s.to hi (g.Level 0) ts f d o) (omega (arith, b, l.0)) l.1 (omega arith) start
  expr_laid lo hi _ _ _ (g.step_before number up s {ts} {f} r d v) (a, b, o) start =
      let l = expr_lies s.to hi g.Primary ts f d o in
      one_made (e.Step up false f.expr) f (across s f.outer) (step_is up false f.expr) (expr_laid s.to hi g.Primary ts f d o) (omega (arith, b, l.0)) l.1 (omega arith) start
  expr_laid lo hi _ _ _ (g.step_after number up s {ts} {f} r d v) o start =
      let (mid, a, b, p, q) = order_both lo hi ts (sign number s ∷ []) o in
      let l = expr_lies lo mid g.Primary ts f d p in
      one_made (e.Step up true f.expr) f (across f.outer s) (step_is up true f.expr) (expr_laid lo mid g.Primary ts f d p) (omega arith) l.1 (omega (arith, l.2, q.0, q.1)) start
  expr_laid lo hi _ _ _ (g.wider {level} {ts} {f} d) o start = expr_laid lo hi (g.Level level) ts f d o start
  expr_laid lo hi _ _ _ (g.operators level number op s {ts} {us} {f} {g = h} r d x) o start =
      let (mid, a, b, p, q) = order_both lo hi ts (sign number s ∷ us) o in
      let l = expr_lies lo mid (g.Level (suc level)) ts f d p in
      let m = expr_lies s.to hi (g.Level level) us h x q.2 in
      two_made (e.Binary op f.expr h.expr) f h (across f.outer h.outer) (binary_kind op f.expr h.expr) (expr_laid lo mid (g.Level (suc level)) ts f d p) (expr_laid s.to hi (g.Level level) us h x q.2)
      (omega arith) l.1 (omega (arith, l.2, q.0, q.1, m.0)) m.1 (omega arith) start
  expr_laid lo hi _ _ _ (g.binary {ts} {f} d) o start = expr_laid lo hi (g.Level 10) ts f d o start
  expr_laid lo hi _ _ _ (g.assign number op s {ts} {us} {f} {g = h} r d v x) o start =
      let (mid, a, b, p, q) = order_both lo hi ts (sign number s ∷ us) o in
      let l = expr_lies lo mid g.Primary ts f d p in
      let m = expr_lies s.to hi g.Whole us h x q.2 in
      two_made (e.Assign op f.expr h.expr) f h (across f.outer h.outer) (assign_kind op f.expr h.expr) (expr_laid lo mid g.Primary ts f d p) (expr_laid s.to hi g.Whole us h x q.2)
      (omega arith) l.1 (omega (arith, l.2, q.0, q.1, m.0)) m.1 (omega arith) start

  pub exprs_laid : (start lo hi : ℕ) (ts : List Token) (s : Several) → IsExprs ts s → InOrder lo hi ts → Laid start lo hi (map expr_piece s.items)
  exprs_laid start lo hi _ _ (g.one {ts} {f} d) o =
      let l = expr_lies lo hi g.Whole ts f d o in laid_one start lo hi (expr_piece f.expr) (whole_in start lo hi f (expr_laid lo hi g.Whole ts f d o) l.0 l.2)
  exprs_laid start lo hi _ _ (g.and comma {ts} {us} {s} {f} d x) o =
      let (mid, a, b, p, q) = order_both lo hi ts (sign COMMA comma ∷ us) o in
      let l = expr_lies comma.to hi g.Whole us f x q.2 in
      laid_joined expr_piece start lo mid comma.to hi s.items f.expr (exprs_laid start lo mid ts s d p) (whole_in start comma.to hi f (expr_laid comma.to hi g.Whole us f x q.2) l.0 l.2) (omega (arith, q.0, q.1))

  -- between the parentheses
  pub args_laid : (start lo hi : ℕ) (ts : List Token) (a : Args) → IsArgs ts a → InOrder lo hi ts → Laid start lo a.end.to (map expr_piece a.items)
  args_laid start lo hi _ _ (g.no_args left right) (a, b, (c, d, f)) = omega (arith, a, b, c, d)
  args_laid start lo hi _ _ (g.some_args left right {ts} {s} x) (p, q, o) =
      let (mid, a, b, r, t) = order_both left.to hi ts (sign CLOSE_PAREN right ∷ []) o in
      laid_more start left.to mid start lo right.to (row (map expr_piece s.items)) (omega arith) (omega (arith, p, q)) (omega (arith, t.0, t.1)) (exprs_laid start left.to mid ts s x r)

  pub init_laid : (lo hi : ℕ) (ts : List Token) (i : FoundInit) → IsInit ts i → InOrder lo hi ts → (start : ℕ) → LaidOut start lo i.end.to (init_piece i.init)
  init_laid lo hi _ _ (g.value {ts} {f} d) o start =
      let l = expr_lies lo hi g.Whole ts f d o in
      subst (λ y. LaidOut start lo f.outer.to y) (sym (value_is f.expr)) (whole_in start lo f.outer.to f (expr_laid lo hi g.Whole ts f d o) l.0 (omega arith))
  init_laid lo hi _ _ (g.entries open_at {ts} {s} d) (a, b, o) start =
      let l = (items_stand open_at.to hi ts s d o).0 in
      let span = across open_at s.end in
      subst (λ y. LaidOut start lo s.end.to y) (sym (items_are s.items span))
      (laid_node start lo s.end.to span (map init_piece s.items) (a, omega (arith, b, l.0, l.1), omega arith)
      (laid_more span.from open_at.to span.to span.from span.from span.to (row (map init_piece s.items)) (omega arith) (omega (arith, b)) (omega arith) (items_laid span.from open_at.to hi ts s d o)))

  pub inits_laid : (start lo hi : ℕ) (ts : List Token) (s : FoundItems) → IsInits ts s → InOrder lo hi ts → Laid start lo hi (map init_piece s.items)
  inits_laid start lo hi _ _ (g.first {ts} {i} d) o =
      let l = (init_stands lo hi ts i d o).0 in
      laid_one start lo hi (init_piece i.init) (laid_more start lo i.end.to start lo hi (init_piece i.init) (omega arith) (omega arith) l.2 (init_laid lo hi ts i d o start))
  inits_laid start lo hi _ _ (g.later comma {ts} {us} {s} {i} d x) o =
      let (mid, a, b, p, q) = order_both lo hi ts (sign COMMA comma ∷ us) o in
      let l = (init_stands comma.to hi us i x q.2).0 in
      laid_joined init_piece start lo mid comma.to hi s.items i.init (inits_laid start lo mid ts s d p)
      (laid_more start comma.to i.end.to start comma.to hi (init_piece i.init) (omega arith) (omega arith) l.2 (init_laid comma.to hi us i x q.2 start)) (omega (arith, q.0, q.1))

  -- between the braces
  pub items_laid : (start lo hi : ℕ) (ts : List Token) (s : FoundItems) → IsItems ts s → InOrder lo hi ts → Laid start lo s.end.to (map init_piece s.items)
  items_laid start lo hi _ _ (g.no_items right) o = omega (arith, o.0, o.1)
  items_laid start lo hi _ _ (g.some_items right {ts} {s} d) o =
      let (mid, a, b, p, q) = order_both lo hi ts (sign CLOSE_BRACE right ∷ []) o in
      laid_more start lo mid start lo right.to (row (map init_piece s.items)) (omega arith) (omega arith) (omega (arith, q.0, q.1)) (inits_laid start lo mid ts s d p)
  items_laid start lo hi _ _ (g.with_comma comma right {ts} {s} d) o =
      let (mid, a, b, p, q) = order_both lo hi ts (sign COMMA comma ∷ sign CLOSE_BRACE right ∷ []) o in
      laid_more start lo mid start lo right.to (row (map init_piece s.items)) (omega arith) (omega arith) (omega (arith, q.0, q.1, q.2.0, q.2.1)) (inits_laid start lo mid ts s d p)
