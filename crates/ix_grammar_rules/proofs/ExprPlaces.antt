-- Where the parts of expressions and initialisers stand.
use Rattle.std.proofs.Common.{◌≡◌, ◌≤◌, ◌<◌, ◌+◌, ℕ, suc, negsuc, true, false, List, [], ◌∷◌, ◌++◌, length, Some, None, sym, ap, subst, ◌∙◌, arith, length-append, inl, inr}
use Rattle.ix_text.specs.declared.span.Span.{Span}
use Rattle.ix_lexer.specs.declared.token.Token.{Token}
use Rattle.ix_lexer.specs.declared.fixed.TheConstants.{DOT, COMMA, CLOSE_PAREN, OPEN_BRACKET, CLOSE_BRACKET, OPEN_BRACE, CLOSE_BRACE}
use Rattle.ix_lexer.specs.Spans.{InOrder}
use Rattle.ix_tree.specs.declared.annot.BaseTree.{BaseTree}
use Rattle.ix_tree.specs.declared.annot.BaseTree.TheVariants.{Int, Boolean, Named}
use Rattle.ix_tree.specs.declared.annot.Ident.{Ident}
use Rattle.ix_tree.specs.declared.expr.Expr.{Expr}
use Rattle.ix_tree.specs.declared.expr.ExprKind.{ExprKind}
use Rattle.ix_tree.specs.declared.expr.ExprKind.TheVariants as e
use Rattle.ix_tree.specs.Parts.{Part, expression, statement, declaration, in_type, elsewhere, entries, Apart, All, nodes, listed, each, annot_parts, base_parts, type_parts, expr_parts, init_parts}
use Rattle.ix_grammar.specs.Nodes.{across}
use Rattle.ix_grammar.specs.declared.found.Args.{Args}
use Rattle.ix_grammar.specs.declared.found.At.{At}
use Rattle.ix_grammar.specs.declared.found.Found.{Found}
use Rattle.ix_grammar.specs.declared.found.FoundInit.{FoundInit}
use Rattle.ix_grammar.specs.declared.found.FoundItems.{FoundItems}
use Rattle.ix_grammar.specs.declared.found.Notes.{Notes}
use Rattle.ix_grammar.specs.declared.found.Several.{Several}
use Rattle.ix_grammar.specs.Patterns.{sign, name_token}
use Rattle.ix_grammar.specs.AnnotGrammar.{IsNotes}
use Rattle.ix_grammar.specs.TypeGrammar.{IsBase}
use Rattle.ix_grammar.specs.ExprNodes.{selected, called, called_on, created_type, new_array, new_items}
use Rattle.ix_grammar.specs.ExprGrammar as g
use Rattle.ix_grammar.specs.ExprGrammar.{Kind, IsMorePairs, IsExpr, IsExprs, IsArgs, IsInit, IsInits, IsItems}
use Rattle.ix_lexer.proofs.SplitInOrder.{order_within, order_both}
use Rattle.ix_tree.proofs.PartPlaces.{stand_two, stand_joined, stand_alone, stand_no_entries, Inside, Stand, stand_more, stand_none, stand_elsewhere, Free, free_beyond, free_both, stand_expression}
use Rattle.ix_tree.proofs.Layouts.{Lies}
use Rattle.ix_grammar_rules.proofs.AnnotPlaces.{notes_stand}
use Rattle.ix_grammar_rules.proofs.TypePlaces.{base_stands}
use Rattle.ix_tree.proofs.TreeParts.{kind_parts, expr_is, int_kind, bool_kind, null_kind, this_kind, name_kind, select_kind, index_kind, call_kind, call_on_kind, new_kind, new_array_kind, new_items_kind, unary_kind, binary_kind, assign_kind, step_is, value_is, items_are}

abbrev pub Stands : ℕ → ℕ → ℕ → Found → Type 0
Stands lo hi n f = Lies lo hi f.outer × Stand lo hi n (expr_parts f.expr)

abbrev pub ArgsStand : ℕ → ℕ → ℕ → Args → Type 0
ArgsStand lo hi n a = Lies lo hi a.end × Stand lo hi n (listed (each expr_parts a.items))

abbrev pub EntriesStand : ℕ → ℕ → ℕ → FoundItems → Type 0
EntriesStand lo hi n s = Lies lo hi s.end × Stand lo hi n (listed (each init_parts s.items))

-- An expression has a token.
pub expr_tokens : (lo hi n : ℕ) (x : Expr) → Stand lo hi n (expr_parts x) → 1 ≤ n
expr_tokens lo hi n x s = omega (arith, s.few_nodes, ap nodes (expr_is x.kind x.span))

-- ---- nodes

-- a node round its parts, which stand further in
node_stands : (lo hi k a b n : ℕ) (kind : ExprKind) (ps : List Part) (span : Span) → kind_parts kind ≡ ps → Lies lo hi span → Free span ps → Stand a b n ps → lo ≤ a → b ≤ hi → n + 1 ≤ k
    → Stand lo hi k (expr_parts (record { kind = kind; span = span }))
node_stands lo hi k a b n kind ps span is lies free s low high le = subst (λ y. Stand lo hi k y) (sym (expr_is kind span ∙ ap (λ y. expression span ∷ y) is))
    (stand_more lo hi (n + 1) lo hi k (expression span ∷ ps) (omega arith) (omega arith) le (stand_expression lo hi n span ps lies free (stand_more a b n lo hi n ps low high (omega arith) s)))

leaf_stands : (lo hi k : ℕ) (kind : ExprKind) (span : Span) → kind_parts kind ≡ [] → Lies lo hi span → 1 ≤ k → Stand lo hi k (expr_parts (record { kind = kind; span = span }))
leaf_stands lo hi k kind span is lies le = node_stands lo hi k lo hi 0 kind [] span is lies tt (stand_none lo hi 0) (omega arith) (omega arith) (omega (arith, le))

-- behind a token that is the node's first
behind_stands : (lo hi n k : ℕ) (kind : ExprKind) (ps : List Part) (start end : Span) → kind_parts kind ≡ ps → lo ≤ start.from → start.from < start.to → Lies start.to hi end → Stand start.to hi n ps → n + 1 ≤ k
    → Lies lo hi (across start end) × Stand lo hi k (expr_parts (record { kind = kind; span = across start end }))
behind_stands lo hi n k kind ps start end is a b l s le =
    let lies : Lies lo hi (across start end) = (a, omega (arith, b, l.0, l.1), l.2) in
    (lies, node_stands lo hi k start.to hi n kind ps (across start end) is lies (free_beyond start.to hi (across start end) ps (inl b) s.inside) s (omega (arith, a, b)) (omega arith) le)

-- before the node's last token
before_stands : (lo mid hi n k : ℕ) (kind : ExprKind) (f : Found) (end : Span) → kind_parts kind ≡ expr_parts f.expr → Stands lo mid n f → mid ≤ end.from → end.from < end.to → end.to ≤ hi → n + 1 ≤ k
    → Lies lo hi (across f.outer end) × Stand lo hi k (expr_parts (record { kind = kind; span = across f.outer end }))
before_stands lo mid hi n k kind f end is (l, s) a b c le =
    let lies : Lies lo hi (across f.outer end) = (l.0, omega (arith, l.1, l.2, a, b), c) in (
      lies,
      node_stands lo hi k lo mid n kind (expr_parts f.expr) (across f.outer end) is lies (free_beyond lo mid (across f.outer end) (expr_parts f.expr) (inr (omega (arith, a, b))) s.inside) s
          (omega arith) (omega (arith, a, b, c)) le,
    )

-- an expression, and something behind it, where the node's first token is that of the expression and its last one stands further out than the expression
pair_stands : (lo mid next far hi n m k : ℕ) (kind : ExprKind) (f : Found) (ps : List Part) (end : Span) → kind_parts kind ≡ expr_parts f.expr ++ ps → Stands lo mid n f → Stand next far m ps
    → Free (across f.outer end) ps → mid ≤ next → next ≤ far → far ≤ hi → mid < end.to → end.to ≤ hi → n + m + 1 ≤ k
    → Lies lo hi (across f.outer end) × Stand lo hi k (expr_parts (record { kind = kind; span = across f.outer end }))
pair_stands lo mid next far hi n m k kind f ps end is (l, s) t free a b c d e le =
    let lies : Lies lo hi (across f.outer end) = (l.0, omega (arith, l.1, l.2, d), e) in (
      lies,
      node_stands lo hi k lo far (n + m) kind (expr_parts f.expr ++ ps) (across f.outer end) is lies
          (free_both (across f.outer end) (expr_parts f.expr) ps (free_beyond lo mid (across f.outer end) (expr_parts f.expr) (inr d) s.inside) free)
          (stand_two lo mid next far n m (n + m) (expr_parts f.expr) ps s t (omega (arith, l.0, l.1, l.2)) a b (omega arith))
          (omega arith) c le,
    )

two_stand : (lo mid next hi n m k : ℕ) (kind : ExprKind) (f h : Found) → kind_parts kind ≡ expr_parts f.expr ++ expr_parts h.expr → Stands lo mid n f → Stands next hi m h → mid < next → n + m + 1 ≤ k
    → Lies lo hi (across f.outer h.outer) × Stand lo hi k (expr_parts (record { kind = kind; span = across f.outer h.outer }))
two_stand lo mid next hi n m k kind f h is s (l, t) a le =
    pair_stands lo mid next hi hi n m k kind f (expr_parts h.expr) h.outer is s t (free_beyond next hi (across f.outer h.outer) (expr_parts h.expr) (inl (omega (arith, s.0.1, s.0.2, a))) t.inside)
    (omega (arith, a)) (omega (arith, l.0, l.1, l.2)) (omega arith) (omega (arith, a, l.0, l.1)) l.2 le

-- ---- names with something behind them

name_before : (lo hi n : ℕ) (x : Ident) (ps : List Part) → lo ≤ x.span.from → x.span.from < x.span.to → x.span.to ≤ hi → Stand x.span.to hi n ps → Stand lo hi n (elsewhere x ∷ ps)
name_before lo hi n x ps a b c s = stand_two lo x.span.to x.span.to hi 0 n n (elsewhere x ∷ []) ps (stand_elsewhere lo x.span.to 0 x (a, b, omega arith)) s (omega (arith, a, b)) (omega arith) c (omega arith)

called_stands : (lo hi n k : ℕ) (x : Ident) (a : Args) → lo ≤ x.span.from → x.span.from < x.span.to → ArgsStand x.span.to hi n a → n + 1 ≤ k → Stands lo hi k (called x a)
called_stands lo hi n k x a b c (l, s) le =
    let lies : Lies lo hi (across x.span a.end) = (b, omega (arith, c, l.0, l.1), l.2) in (
      lies,
      node_stands lo hi k lo hi n (e.Call None x a.items) (elsewhere x ∷ listed (each expr_parts a.items)) (across x.span a.end) (call_kind x a.items) lies
          (tt, free_beyond x.span.to hi (across x.span a.end) (listed (each expr_parts a.items)) (inl c) s.inside)
          (name_before lo hi n x (listed (each expr_parts a.items)) b c (omega (arith, l.0, l.1, l.2)) s) (omega arith) (omega arith) le,
    )

selected_stands : (lo mid hi n k : ℕ) (f : Found) (x : Ident) → Stands lo mid n f → mid ≤ x.span.from → x.span.from < x.span.to → x.span.to ≤ hi → n + 1 ≤ k → Stands lo hi k (selected f x)
selected_stands lo mid hi n k f x s a b c le =
    pair_stands lo mid x.span.from hi hi n 0 k (e.Select f.expr x) f (elsewhere x ∷ []) x.span (select_kind f.expr x) s (stand_elsewhere x.span.from hi 0 x (omega arith, b, c)) (tt, tt)
    a (omega (arith, b, c)) (omega arith) (omega (arith, a, b)) c (omega (arith, le))

called_on_stands : (lo mid hi n m k : ℕ) (f : Found) (x : Ident) (a : Args) → Stands lo mid n f → mid ≤ x.span.from → x.span.from < x.span.to → ArgsStand x.span.to hi m a → n + m + 1 ≤ k → Stands lo hi k (called_on f x a)
called_on_stands lo mid hi n m k f x a s b c (l, t) le =
    pair_stands lo mid x.span.from hi hi n m k (e.Call (Some f.expr) x a.items) f (elsewhere x ∷ listed (each expr_parts a.items)) a.end (call_on_kind f.expr x a.items) s
    (name_before x.span.from hi m x (listed (each expr_parts a.items)) (omega arith) c (omega (arith, l.0, l.1, l.2)) t)
    (tt, free_beyond x.span.to hi (across f.outer a.end) (listed (each expr_parts a.items)) (inl (omega (arith, s.0.1, s.0.2, b, c))) t.inside)
    b (omega (arith, c, l.0, l.1, l.2)) (omega arith) (omega (arith, b, c, l.0, l.1)) l.2 le

-- ---- the types of new arrays, whose annotations stand before their base

name_apart : (lo mid hi : ℕ) (name : Ident) → Lies mid hi name.span → (p : Part) → Inside lo mid p → Apart (in_type name) p
name_apart lo mid hi name l (in_type x) i = λ same. absurd (omega (arith, l.0, i.1, i.2, ap (λ (s : Span). s.from) same))
name_apart lo mid hi name l (elsewhere x) i = λ same. omega (arith, l.0, i.1, i.2, ap (λ (s : Span). s.from) same)
name_apart lo mid hi name l (expression span) i = tt
name_apart lo mid hi name l (statement span) i = tt
name_apart lo mid hi name l declaration i = tt
name_apart lo mid hi name l (entries n) i = tt

name_all_apart : (lo mid hi : ℕ) (name : Ident) → Lies mid hi name.span → (ps : List Part) → All (Inside lo mid) ps → All (Apart (in_type name)) ps
name_all_apart lo mid hi name l [] i = tt
name_all_apart lo mid hi name l (p ∷ ps) (i, is) = (name_apart lo mid hi name l p i, name_all_apart lo mid hi name l ps is)

base_behind : (lo mid hi n m k : ℕ) (base : BaseTree) (ps : List Part) → Stand lo mid n ps → Stand mid hi m (base_parts base) → lo ≤ mid → mid ≤ hi → n ≤ k → Stand lo hi k (base_parts base ++ ps)
base_behind lo mid hi n m k Int ps s t a b le = stand_more lo mid n lo hi k ps (omega arith) b le s
base_behind lo mid hi n m k Boolean ps s t a b le = stand_more lo mid n lo hi k ps (omega arith) b le s
base_behind lo mid hi n m k (Named name) ps s t a b le = let w = stand_more lo mid n lo hi k ps (omega arith) b le s in let l = t.inside.0 in record {
  apart = (name_all_apart lo mid hi name l ps s.inside, s.apart);
  inside = ((omega (arith, a, l.0), l.1, l.2), w.inside);
  short = (tt, w.short);
  few_declarations = w.few_declarations;
  few_nodes = w.few_nodes;
}

created_stands : (lo mid hi k : ℕ) (before tokens : List Token) (notes : Notes) (base : At BaseTree) → IsNotes before notes → IsBase tokens base → InOrder lo mid before → InOrder mid hi tokens → length before ≤ k
    → Stand lo hi k (base_parts base.value ++ listed (each annot_parts notes.annots))
created_stands lo mid hi k before tokens notes base d b p q le =
    base_behind lo mid hi (length before) (length tokens) k base.value (listed (each annot_parts notes.annots)) (notes_stand lo mid before notes d p) (base_stands mid hi tokens base b q).1 (order_within lo mid before p) (order_within mid hi tokens q) le

-- the last bracket
pub more_pairs_lie : (lo mid hi : ℕ) (last : Span) (ts : List Token) (pairs : At ℕ) → IsMorePairs last ts pairs → Lies lo mid last → InOrder mid hi ts → Lies lo hi pairs.span
more_pairs_lie lo mid hi last _ _ g.no_more l o = (l.0, l.1, omega (arith, l.2, o))
more_pairs_lie lo mid hi last _ _ (g.one_more left right {tokens} {pairs} d) l o =
    let (next, a, b, p, q) = order_both mid hi tokens (sign OPEN_BRACKET left ∷ sign CLOSE_BRACKET right ∷ []) o in
    (omega (arith, l.0, l.1, l.2, a, q.0, q.1, q.2.0), q.2.1, q.2.2)

array_stands : (lo mid next far hi n m k : ℕ) (start : Span) (base : At BaseTree) (notes : Notes) (brackets : At ℕ) (h : Found) (end : Span) → lo ≤ start.from → start.from < start.to
    → Stand start.to mid n (base_parts base.value ++ listed (each annot_parts notes.annots)) → Stands next far m h → start.to ≤ mid → mid ≤ next → far ≤ end.from → Lies lo hi end → n + m + 1 ≤ k
    → Stands lo hi k (new_array start (created_type base notes brackets) h end)
array_stands lo mid next far hi n m k start base notes brackets h end a b t (l, s) c d v w le =
    let ty = (created_type base notes brackets).ty in
    behind_stands lo hi (n + m) k (e.NewArray ty h.expr) (type_parts ty ++ expr_parts h.expr) start end (new_array_kind ty h.expr) a b (omega (arith, c, d, v, l.0, l.1, l.2), w.1, w.2)
    (stand_two start.to mid next hi n m (n + m) (type_parts ty) (expr_parts h.expr) t (stand_more next far m next hi m (expr_parts h.expr) (omega arith) (omega (arith, v, w.1, w.2)) (omega arith) s)
    c d (omega (arith, v, w.1, w.2, l.0, l.1, l.2)) (omega arith)) le

entries_stand : (lo mid next hi n m k : ℕ) (start : Span) (base : At BaseTree) (notes : Notes) (brackets : At ℕ) (s : FoundItems) → lo ≤ start.from → start.from < start.to
    → Stand start.to mid n (base_parts base.value ++ listed (each annot_parts notes.annots)) → EntriesStand next hi m s → start.to ≤ mid → mid ≤ next → n + m + 1 ≤ k
    → Stands lo hi k (new_items start (created_type base notes brackets) s)
entries_stand lo mid next hi n m k start base notes brackets s a b t (l, u) c d le =
    let ty = (created_type base notes brackets).ty in
    behind_stands lo hi (n + m) k (e.NewItems ty s.items) (type_parts ty ++ listed (each init_parts s.items)) start s.end (new_items_kind ty s.items) a b (omega (arith, c, d, l.0), l.1, l.2)
    (stand_two start.to mid next hi n m (n + m) (type_parts ty) (listed (each init_parts s.items)) t u c d (omega (arith, l.0, l.1, l.2)) (omega arith)) le

-- ---- the grammar

init_tokens : (ts : List Token) (i : FoundInit) → IsInit ts i → (lo hi : ℕ) → Stand lo hi (length ts) (init_parts i.init) → 1 ≤ length ts
init_tokens _ _ (g.value {ts} {f} d) lo hi s = expr_tokens lo hi (length ts) f.expr (subst (λ y. Stand lo hi (length ts) y) (value_is f.expr) s)
init_tokens _ _ (g.entries open_at d) lo hi s = omega arith

mutual
  pub expr_stands : (lo hi : ℕ) (k : Kind) (ts : List Token) (f : Found) → IsExpr k ts f → InOrder lo hi ts → Lies lo hi f.outer × Stand lo hi (length ts) (expr_parts f.expr)
  expr_stands lo hi _ _ _ (g.number n s) o = (o, leaf_stands lo hi 1 (e.Int n) s (int_kind n) o (omega arith))
  expr_stands lo hi _ _ _ (g.truth s) o = (o, leaf_stands lo hi 1 (e.Bool true) s (bool_kind true) o (omega arith))
  expr_stands lo hi _ _ _ (g.falsity s) o = (o, leaf_stands lo hi 1 (e.Bool false) s (bool_kind false) o (omega arith))
  expr_stands lo hi _ _ _ (g.null s) o = (o, leaf_stands lo hi 1 e.Null s null_kind o (omega arith))
  expr_stands lo hi _ _ _ (g.this s) o = (o, leaf_stands lo hi 1 e.This s this_kind o (omega arith))
  expr_stands lo hi _ _ _ (g.variable x) o = (o, node_stands lo hi 1 lo hi 0 (e.Name x) (elsewhere x ∷ []) x.span (name_kind x) o (tt, tt) (stand_elsewhere lo hi 0 x o) (omega arith) (omega arith) (omega arith))
  expr_stands lo hi _ _ _ (g.call x {ts} {a} d) (p, q, o) = called_stands lo hi (length ts) (suc (length ts)) x a p q (args_stand x.span.to hi ts a d o) (omega arith)
  expr_stands lo hi _ _ _ (g.paren left right {ts} {f} d) (p, q, o) =
      let (mid, a, b, r, t) = order_both left.to hi ts (sign CLOSE_PAREN right ∷ []) o in
      let (l, s) = expr_stands left.to mid g.Whole ts f d r in
      let n = suc (length (ts ++ sign CLOSE_PAREN right ∷ [])) in
      ((p, omega (arith, q, a, t.0, t.1), t.2), stand_more left.to mid (length ts) lo hi n (expr_parts f.expr) (omega (arith, p, q)) b (omega (arith, length-append ts (sign CLOSE_PAREN right ∷ []))) s)
  expr_stands lo hi _ _ _ (g.new_object start x {ts} {a} d) (p, q, (r, s, o)) =
      let (l, t) = args_stand x.span.to hi ts a d o in
      behind_stands lo hi (length ts) (suc (suc (length ts))) (e.New x a.items) (elsewhere x ∷ listed (each expr_parts a.items)) start a.end (new_kind x a.items) p q (omega (arith, r, s, l.0), l.1, l.2)
      (name_before start.to hi (length ts) x (listed (each expr_parts a.items)) r s (omega (arith, l.0, l.1, l.2)) t) (omega arith)
  expr_stands lo hi _ _ _ (g.array_of_length start left right {before} {base_tokens} {us} {tokens} {notes} {base} {g = h} {brackets} d b x m) (p, q, o) =
      let sized = us ++ sign CLOSE_BRACKET right ∷ tokens in
      let (one, a1, b1, o1, p1) = order_both start.to hi before (base_tokens ++ sign OPEN_BRACKET left ∷ sized) o in
      let (two, a2, b2, o2, p2) = order_both one hi base_tokens (sign OPEN_BRACKET left ∷ sized) p1 in
      let (three, a3, b3, o3, p3) = order_both left.to hi us (sign CLOSE_BRACKET right ∷ tokens) p2.2 in
      let last = more_pairs_lie three right.to hi right tokens brackets m (p3.0, p3.1, omega arith) p3.2 in
      array_stands lo two left.to three hi (length before) (length us) (suc (length (before ++ (base_tokens ++ sign OPEN_BRACKET left ∷ sized)))) start base notes brackets h brackets.span p q
      (created_stands start.to one two (length before) before base_tokens notes base d b o1 o2 (omega arith)) (expr_stands left.to three g.Whole us h x o3)
      (omega (arith, a1, a2)) (omega (arith, p2.0, p2.1)) last.0 (omega (arith, p, q, a1, a2, p2.0, p2.1, a3, last.0), last.1, last.2)
      (omega (arith, length-append before (base_tokens ++ sign OPEN_BRACKET left ∷ sized), length-append base_tokens (sign OPEN_BRACKET left ∷ sized), length-append us (sign CLOSE_BRACKET right ∷ tokens)))
  expr_stands lo hi _ _ _ (g.array_of_items start open_at {before} {base_tokens} {tokens} {us} {notes} {base} {brackets} {s} d b m x) (p, q, o) =
      let filled = tokens ++ sign OPEN_BRACE open_at ∷ us in
      let (one, a1, b1, o1, p1) = order_both start.to hi before (base_tokens ++ filled) o in
      let (two, a2, b2, o2, p2) = order_both one hi base_tokens filled p1 in
      let (three, a3, b3, o3, p3) = order_both two hi tokens (sign OPEN_BRACE open_at ∷ us) p2 in
      entries_stand lo two open_at.to hi (length before) (length us) (suc (length (before ++ (base_tokens ++ filled)))) start base notes brackets s p q
      (created_stands start.to one two (length before) before base_tokens notes base d b o1 o2 (omega arith)) (items_stand open_at.to hi us s x p3.2)
      (omega (arith, a1, a2)) (omega (arith, a3, p3.0, p3.1))
      (omega (arith, length-append before (base_tokens ++ filled), length-append base_tokens filled, length-append tokens (sign OPEN_BRACE open_at ∷ us)))
  expr_stands lo hi _ _ _ (g.select dot x {ts} {f} d) o =
      let (mid, a, b, p, q) = order_both lo hi ts (sign DOT dot ∷ name_token x ∷ []) o in
      selected_stands lo mid hi (length ts) (length (ts ++ sign DOT dot ∷ name_token x ∷ [])) f x (expr_stands lo mid g.Primary ts f d p)
      (omega (arith, q.0, q.1, q.2.0)) q.2.1 q.2.2 (omega (arith, length-append ts (sign DOT dot ∷ name_token x ∷ [])))
  expr_stands lo hi _ _ _ (g.call_on dot x {ts} {us} {f} {a = r} d c) o =
      let (mid, a, b, p, q) = order_both lo hi ts (sign DOT dot ∷ name_token x ∷ us) o in
      called_on_stands lo mid hi (length ts) (length us) (length (ts ++ sign DOT dot ∷ name_token x ∷ us)) f x r (expr_stands lo mid g.Primary ts f d p)
      (omega (arith, q.0, q.1, q.2.0)) q.2.1 (args_stand x.span.to hi us r c q.2.2) (omega (arith, length-append ts (sign DOT dot ∷ name_token x ∷ us)))
  expr_stands lo hi _ _ _ (g.index left right {ts} {us} {f} {g = h} d n x) o =
      let (mid, a, b, p, q) = order_both lo hi ts (sign OPEN_BRACKET left ∷ (us ++ sign CLOSE_BRACKET right ∷ [])) o in
      let (end, a2, b2, p2, q2) = order_both left.to hi us (sign CLOSE_BRACKET right ∷ []) q.2 in
      let s = expr_stands lo mid g.Primary ts f d p in
      let t = expr_stands left.to end g.Whole us h x p2 in
      pair_stands lo mid left.to end hi (length ts) (length us) (length (ts ++ sign OPEN_BRACKET left ∷ (us ++ sign CLOSE_BRACKET right ∷ []))) (e.Index f.expr h.expr) f (expr_parts h.expr) right (index_kind f.expr h.expr) s t.1
      (free_beyond left.to end (across f.outer right) (expr_parts h.expr) (inl (omega (arith, s.0.1, s.0.2, q.0, q.1))) t.1.inside)
      (omega (arith, q.0, q.1)) a2 b2 (omega (arith, q.0, q.1, a2, q2.0, q2.1)) q2.2
      (omega (arith, length-append ts (sign OPEN_BRACKET left ∷ (us ++ sign CLOSE_BRACKET right ∷ [])), length-append us (sign CLOSE_BRACKET right ∷ [])))
  expr_stands lo hi _ _ _ (g.primary {ts} {f} d) o = expr_stands lo hi g.Primary ts f d o
  expr_stands lo hi _ _ _ (g.least minus literal) (a, b, (c, d, f)) =
      let lies : Lies lo hi (across minus literal) = (a, omega (arith, b, c, d), f) in
      (lies, leaf_stands lo hi 2 (e.Int (negsuc 2147483647)) (across minus literal) (int_kind (negsuc 2147483647)) lies (omega arith))
  expr_stands lo hi _ _ _ (g.signed number op s {ts} {f} r d) (a, b, o) =
      let (l, t) = expr_stands s.to hi (g.Level 0) ts f d o in
      behind_stands lo hi (length ts) (suc (length ts)) (e.Unary op f.expr) (expr_parts f.expr) s f.outer (unary_kind op f.expr) a b l t (omega arith)
  expr_stands lo hi _ _ _ (g.step_before number up s {ts} {f} r d v) (a, b, o) =
      let (l, t) = expr_stands s.to hi g.Primary ts f d o in
      behind_stands lo hi (length ts) (suc (length ts)) (e.Step up false f.expr) (expr_parts f.expr) s f.outer (step_is up false f.expr) a b l t (omega arith)
  expr_stands lo hi _ _ _ (g.step_after number up s {ts} {f} r d v) o =
      let (mid, a, b, p, q) = order_both lo hi ts (sign number s ∷ []) o in
      before_stands lo mid hi (length ts) (length (ts ++ sign number s ∷ [])) (e.Step up true f.expr) f s (step_is up true f.expr) (expr_stands lo mid g.Primary ts f d p) q.0 q.1 q.2
      (omega (arith, length-append ts (sign number s ∷ [])))
  expr_stands lo hi _ _ _ (g.wider {level} {ts} {f} d) o = expr_stands lo hi (g.Level level) ts f d o
  expr_stands lo hi _ _ _ (g.operators level number op s {ts} {us} {f} {g = h} r d x) o =
      let (mid, a, b, p, q) = order_both lo hi ts (sign number s ∷ us) o in
      two_stand lo mid s.to hi (length ts) (length us) (length (ts ++ sign number s ∷ us)) (e.Binary op f.expr h.expr) f h (binary_kind op f.expr h.expr)
      (expr_stands lo mid (g.Level (suc level)) ts f d p) (expr_stands s.to hi (g.Level level) us h x q.2) (omega (arith, q.0, q.1)) (omega (arith, length-append ts (sign number s ∷ us)))
  expr_stands lo hi _ _ _ (g.binary {ts} {f} d) o = expr_stands lo hi (g.Level 10) ts f d o
  expr_stands lo hi _ _ _ (g.assign number op s {ts} {us} {f} {g = h} r d v x) o =
      let (mid, a, b, p, q) = order_both lo hi ts (sign number s ∷ us) o in
      two_stand lo mid s.to hi (length ts) (length us) (length (ts ++ sign number s ∷ us)) (e.Assign op f.expr h.expr) f h (assign_kind op f.expr h.expr)
      (expr_stands lo mid g.Primary ts f d p) (expr_stands s.to hi g.Whole us h x q.2) (omega (arith, q.0, q.1)) (omega (arith, length-append ts (sign number s ∷ us)))

  pub exprs_stand : (lo hi : ℕ) (ts : List Token) (s : Several) → IsExprs ts s → InOrder lo hi ts → Stand lo hi (length ts) (listed (each expr_parts s.items))
  exprs_stand lo hi _ _ (g.one {ts} {f} d) o = let (l, s) = expr_stands lo hi g.Whole ts f d o in stand_alone expr_parts lo hi (length ts) f.expr s (expr_tokens lo hi (length ts) f.expr s)
  exprs_stand lo hi _ _ (g.and comma {ts} {us} {s} {f} d x) o =
      let (mid, a, b, p, q) = order_both lo hi ts (sign COMMA comma ∷ us) o in
      let (l, t) = expr_stands comma.to hi g.Whole us f x q.2 in
      stand_joined expr_parts lo mid comma.to hi (length ts) (length us) (length (ts ++ sign COMMA comma ∷ us)) s.items f.expr (exprs_stand lo mid ts s d p) t
      a (omega (arith, q.0, q.1)) (omega (arith, l.0, l.1, l.2)) (expr_tokens comma.to hi (length us) f.expr t) (omega (arith, length-append ts (sign COMMA comma ∷ us)))

  pub args_stand : (lo hi : ℕ) (ts : List Token) (a : Args) → IsArgs ts a → InOrder lo hi ts → Lies lo hi a.end × Stand lo hi (length ts) (listed (each expr_parts a.items))
  args_stand lo hi _ _ (g.no_args left right) (a, b, (c, d, f)) = ((omega (arith, a, b, c), d, f), stand_no_entries expr_parts lo hi 2)
  args_stand lo hi _ _ (g.some_args left right {ts} {s} x) (p, q, o) =
      let (mid, a, b, r, t) = order_both left.to hi ts (sign CLOSE_PAREN right ∷ []) o in
      let n = suc (length (ts ++ sign CLOSE_PAREN right ∷ [])) in (
        (omega (arith, p, q, a, t.0), t.1, t.2),
        stand_more left.to mid (length ts) lo hi n (listed (each expr_parts s.items)) (omega (arith, p, q)) b (omega (arith, length-append ts (sign CLOSE_PAREN right ∷ []))) (exprs_stand left.to mid ts s x r),
      )

  pub init_stands : (lo hi : ℕ) (ts : List Token) (i : FoundInit) → IsInit ts i → InOrder lo hi ts → Lies lo hi i.end × Stand lo hi (length ts) (init_parts i.init)
  init_stands lo hi _ _ (g.value {ts} {f} d) o = let (l, s) = expr_stands lo hi g.Whole ts f d o in (l, subst (λ y. Stand lo hi (length ts) y) (sym (value_is f.expr)) s)
  init_stands lo hi _ _ (g.entries open_at {ts} {s} d) (a, b, o) =
      let (l, t) = items_stand open_at.to hi ts s d o in (
        (omega (arith, a, b, l.0), l.1, l.2),
        subst (λ y. Stand lo hi (suc (length ts)) y) (sym (items_are s.items (across open_at s.end)))
            (stand_more open_at.to hi (length ts) lo hi (suc (length ts)) (listed (each init_parts s.items)) (omega (arith, a, b)) (omega arith) (omega arith) t),
      )

  pub inits_stand : (lo hi : ℕ) (ts : List Token) (s : FoundItems) → IsInits ts s → InOrder lo hi ts → Stand lo hi (length ts) (listed (each init_parts s.items))
  inits_stand lo hi _ _ (g.first {ts} {i} d) o = let (l, s) = init_stands lo hi ts i d o in stand_alone init_parts lo hi (length ts) i.init s (init_tokens ts i d lo hi s)
  inits_stand lo hi _ _ (g.later comma {ts} {us} {s} {i} d x) o =
      let (mid, a, b, p, q) = order_both lo hi ts (sign COMMA comma ∷ us) o in
      let (l, t) = init_stands comma.to hi us i x q.2 in
      stand_joined init_parts lo mid comma.to hi (length ts) (length us) (length (ts ++ sign COMMA comma ∷ us)) s.items i.init (inits_stand lo mid ts s d p) t
      a (omega (arith, q.0, q.1)) (omega (arith, l.0, l.1, l.2)) (init_tokens us i x comma.to hi t) (omega (arith, length-append ts (sign COMMA comma ∷ us)))

  pub items_stand : (lo hi : ℕ) (ts : List Token) (s : FoundItems) → IsItems ts s → InOrder lo hi ts → Lies lo hi s.end × Stand lo hi (length ts) (listed (each init_parts s.items))
  items_stand lo hi _ _ (g.no_items right) o = (o, stand_no_entries init_parts lo hi 1)
  items_stand lo hi _ _ (g.some_items right {ts} {s} d) o =
      let (mid, a, b, p, q) = order_both lo hi ts (sign CLOSE_BRACE right ∷ []) o in (
        (omega (arith, a, q.0), q.1, q.2),
        stand_more lo mid (length ts) lo hi (length (ts ++ sign CLOSE_BRACE right ∷ [])) (listed (each init_parts s.items)) (omega arith) b
            (omega (arith, length-append ts (sign CLOSE_BRACE right ∷ []))) (inits_stand lo mid ts s d p),
      )
  items_stand lo hi _ _ (g.with_comma comma right {ts} {s} d) o =
      let (mid, a, b, p, q) = order_both lo hi ts (sign COMMA comma ∷ sign CLOSE_BRACE right ∷ []) o in (
        (omega (arith, a, q.0, q.1, q.2.0), q.2.1, q.2.2),
        stand_more lo mid (length ts) lo hi (length (ts ++ sign COMMA comma ∷ sign CLOSE_BRACE right ∷ [])) (listed (each init_parts s.items)) (omega arith) b
            (omega (arith, length-append ts (sign COMMA comma ∷ sign CLOSE_BRACE right ∷ []))) (inits_stand lo mid ts s d p),
      )
