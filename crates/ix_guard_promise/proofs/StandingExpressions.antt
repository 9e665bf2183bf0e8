-- In expressions and initialisers of the grammar an index that is a name stands where its name does.
use Rattle.std.proofs.Common.{◌≡◌, suc, negsuc, true, false, List, [], ◌∷◌, ◌++◌, map, Some, None, refl, sym, ap, subst, ◌∙◌}
use Rattle.ix_text.specs.declared.span.Span.{Span}
use Rattle.ix_lexer.specs.declared.token.Token.{Token}
use Rattle.ix_tree.specs.declared.expr.Expr.{Expr}
use Rattle.ix_tree.specs.declared.expr.ExprKind.{ExprKind}
use Rattle.ix_tree.specs.declared.expr.ExprKind.TheVariants as e
use Rattle.ix_tree.specs.declared.expr.Init.{Init}
use Rattle.ix_tree.proofs.FoldsOfForms as fold
use Rattle.ix_grammar.specs.declared.found.Args.{Args}
use Rattle.ix_grammar.specs.declared.found.Found.{Found}
use Rattle.ix_grammar.specs.declared.found.FoundInit.{FoundInit}
use Rattle.ix_grammar.specs.declared.found.FoundItems.{FoundItems}
use Rattle.ix_grammar.specs.declared.found.Several.{Several}
use Rattle.ix_grammar.specs.Nodes.{across}
use Rattle.ix_grammar.specs.ExprNodes.{created_type}
use Rattle.ix_grammar.specs.ExprGrammar as g
use Rattle.ix_grammar.specs.ExprGrammar.{Kind, IsExpr, IsExprs, IsArgs, IsInit, IsInits, IsItems}
use Rattle.ix_formed.specs.Additions.{AllOf}
use Rattle.ix_formed.proofs.NumberLists.{all_joined}
use Rattle.ix_guard_promise.specs.AllAccesses as every
use Rattle.ix_guard_promise.specs.AllAccesses.{AnyAccess, Form, Reading, all, inside, unnamed, accessing, reading, all_accesses, init_accesses}
use Rattle.ix_guard_promise.specs.StandingIndices.{NamedAt, IndexStands, IndicesStand}

-- An expression that is a name stands where its name does, and so does each index in it that is a name.
pub record Stands (found : Reading) : Type 0 where
  pub named : NamedAt found.form.name found.span
  pub inside : IndicesStand found.form.accesses

abbrev pub ExprStands : Expr → Type 0
ExprStands e = Stands (reading e)

abbrev pub InitStands : Init → Type 0
InitStands i = IndicesStand (init_accesses i)

abbrev kind_form : ExprKind → Form
kind_form = fold.of_kind every.kind_step every.init_step every.expr_step

node_stands : (k : ExprKind) (span : Span) (form : Form) → kind_form k ≡ form → NamedAt form.name span → IndicesStand form.accesses → ExprStands (record { kind = k; span = span })
node_stands k span form is named all =
    subst Stands (sym (fold.expr_is every.kind_step every.init_step every.expr_step k span ∙ ap (λ (f : Form). let r : Reading = record { form = f; span = span } in r) is)) (record { named = named; inside = all })

-- an expression that is no name, with these accesses in it
other_stands : (k : ExprKind) (span : Span) (accesses : List AnyAccess) → kind_form k ≡ unnamed accesses → IndicesStand accesses → ExprStands (record { kind = k; span = span })
other_stands k span accesses is all = node_stands k span (unnamed accesses) is tt all

exprs_inside : (xs : List Expr) → AllOf ExprStands xs → IndicesStand (all (map inside (map reading xs)))
exprs_inside [] all = tt
exprs_inside (x ∷ xs) all = all_joined IndexStands (all_accesses x) _ all.0.inside (exprs_inside xs all.1)

inits_inside : (is : List Init) → AllOf InitStands is → IndicesStand (every.all (map init_accesses is))
inits_inside [] all = tt
inits_inside (i ∷ is) all = all_joined IndexStands (init_accesses i) _ all.0 (inits_inside is all.1)

two_inside : (x y : Expr) → ExprStands x → ExprStands y → IndicesStand (all_accesses x ++ all_accesses y)
two_inside x y a b = all_joined IndexStands (all_accesses x) (all_accesses y) a.inside b.inside

mutual
  pub expr_stands : (k : Kind) (ts : List Token) (f : Found) → IsExpr k ts f → ExprStands f.expr
  expr_stands _ _ _ (g.number n s) = other_stands (e.Int n) s [] (fold.int_kind every.kind_step every.init_step every.expr_step n) tt
  expr_stands _ _ _ (g.truth s) = other_stands (e.Bool true) s [] (fold.bool_kind every.kind_step every.init_step every.expr_step true) tt
  expr_stands _ _ _ (g.falsity s) = other_stands (e.Bool false) s [] (fold.bool_kind every.kind_step every.init_step every.expr_step false) tt
  expr_stands _ _ _ (g.null s) = other_stands e.Null s [] (fold.null_kind every.kind_step every.init_step every.expr_step) tt
  expr_stands _ _ _ (g.this s) = other_stands e.This s [] (fold.this_kind every.kind_step every.init_step every.expr_step) tt
  expr_stands _ _ _ (g.variable x) = node_stands (e.Name x) x.span (record { name = Some x; accesses = [] }) (fold.name_kind every.kind_step every.init_step every.expr_step x) refl tt
  expr_stands _ _ _ (g.call x {ts} {a} d) = other_stands (e.Call None x a.items) (across x.span a.end) _ (fold.call_kind every.kind_step every.init_step every.expr_step x a.items) (exprs_inside a.items (args_stand ts a d))
  expr_stands _ _ _ (g.paren left right {ts} {f} d) = expr_stands g.Whole ts f d
  expr_stands _ _ _ (g.select dot x {ts} {f} d) =
      other_stands (e.Select f.expr x) (across f.outer x.span) _ (fold.select_kind every.kind_step every.init_step every.expr_step f.expr x) (expr_stands g.Primary ts f d).inside
  expr_stands _ _ _ (g.call_on dot x {ts} {us} {f} {a} d c) =
      other_stands (e.Call (Some f.expr) x a.items) (across f.outer a.end) _ (fold.call_on_kind every.kind_step every.init_step every.expr_step f.expr x a.items)
      (all_joined IndexStands (all_accesses f.expr) _ (expr_stands g.Primary ts f d).inside (exprs_inside a.items (args_stand us a c)))
  expr_stands _ _ _ (g.index left right {ts} {us} {f} {g = h} d n x) =
      let one = expr_stands g.Primary ts f d in
      let two = expr_stands g.Whole us h x in
      other_stands (e.Index f.expr h.expr) (across f.outer right) (accessing (reading f.expr) (reading h.expr) ∷ (all_accesses f.expr ++ all_accesses h.expr))
      (fold.index_kind every.kind_step every.init_step every.expr_step f.expr h.expr) (two.named, two_inside f.expr h.expr one two)
  expr_stands _ _ _ (g.new_object start x {ts} {a} d) = other_stands (e.New x a.items) (across start a.end) _ (fold.new_kind every.kind_step every.init_step every.expr_step x a.items) (exprs_inside a.items (args_stand ts a d))
  expr_stands _ _ _ (g.array_of_length start left right {before} {base_tokens} {us} {tokens} {notes} {base} {g = h} {brackets} n b x m) =
      let ty = (created_type base notes brackets).ty in
      other_stands (e.NewArray ty h.expr) (across start brackets.span) _ (fold.new_array_kind every.kind_step every.init_step every.expr_step ty h.expr) (expr_stands g.Whole us h x).inside
  expr_stands _ _ _ (g.array_of_items start open_at {before} {base_tokens} {tokens} {us} {notes} {base} {brackets} {s} n b m x) =
      let ty = (created_type base notes brackets).ty in
      other_stands (e.NewItems ty s.items) (across start s.end) _ (fold.new_items_kind every.kind_step every.init_step every.expr_step ty s.items) (inits_inside s.items (items_stand us s x))
  expr_stands _ _ _ (g.primary {ts} {f} d) = expr_stands g.Primary ts f d
  expr_stands _ _ _ (g.least minus literal) = other_stands (e.Int (negsuc 2147483647)) (across minus literal) [] (fold.int_kind every.kind_step every.init_step every.expr_step (negsuc 2147483647)) tt
  expr_stands _ _ _ (g.signed number op s {ts} {f} r x) = other_stands (e.Unary op f.expr) (across s f.outer) _ (fold.unary_kind every.kind_step every.init_step every.expr_step op f.expr) (expr_stands (g.Level 0) ts f x).inside
  expr_stands _ _ _ (g.step_before number up s {ts} {f} r x v) =
      other_stands (e.Step up false f.expr) (across s f.outer) _ (fold.step_kind every.kind_step every.init_step every.expr_step up false f.expr) (expr_stands g.Primary ts f x).inside
  expr_stands _ _ _ (g.step_after number up s {ts} {f} r x v) =
      other_stands (e.Step up true f.expr) (across f.outer s) _ (fold.step_kind every.kind_step every.init_step every.expr_step up true f.expr) (expr_stands g.Primary ts f x).inside
  expr_stands _ _ _ (g.wider {level} {ts} {f} d) = expr_stands (g.Level level) ts f d
  expr_stands _ _ _ (g.operators level number op s {ts} {us} {f} {g = h} r x y) =
      other_stands (e.Binary op f.expr h.expr) (across f.outer h.outer) _ (fold.binary_kind every.kind_step every.init_step every.expr_step op f.expr h.expr)
      (two_inside f.expr h.expr (expr_stands (g.Level (suc level)) ts f x) (expr_stands (g.Level level) us h y))
  expr_stands _ _ _ (g.binary {ts} {f} d) = expr_stands (g.Level 10) ts f d
  expr_stands _ _ _ (g.assign number op s {ts} {us} {f} {g = h} r x v y) =
      other_stands (e.Assign op f.expr h.expr) (across f.outer h.outer) _ (fold.assign_kind every.kind_step every.init_step every.expr_step op f.expr h.expr)
      (two_inside f.expr h.expr (expr_stands g.Primary ts f x) (expr_stands g.Whole us h y))

  exprs_stand : (ts : List Token) (s : Several) → IsExprs ts s → AllOf ExprStands s.items
  exprs_stand _ _ (g.one {ts} {f} d) = (expr_stands g.Whole ts f d, tt)
  exprs_stand _ _ (g.and comma {ts} {us} {s} {f} d x) = all_joined ExprStands s.items (f.expr ∷ []) (exprs_stand ts s d) (expr_stands g.Whole us f x, tt)

  args_stand : (ts : List Token) (a : Args) → IsArgs ts a → AllOf ExprStands a.items
  args_stand _ _ (g.no_args left right) = tt
  args_stand _ _ (g.some_args left right {ts} {s} x) = exprs_stand ts s x

  pub init_stands : (ts : List Token) (i : FoundInit) → IsInit ts i → InitStands i.init
  init_stands _ _ (g.value {ts} {f} d) = subst IndicesStand (sym (fold.value_is every.kind_step every.init_step every.expr_step f.expr)) (expr_stands g.Whole ts f d).inside
  init_stands _ _ (g.entries open_at {ts} {s} d) = subst IndicesStand (sym (fold.items_are every.kind_step every.init_step every.expr_step s.items (across open_at s.end))) (inits_inside s.items (items_stand ts s d))

  inits_stand : (ts : List Token) (s : FoundItems) → IsInits ts s → AllOf InitStands s.items
  inits_stand _ _ (g.first {ts} {i} d) = (init_stands ts i d, tt)
  inits_stand _ _ (g.later comma {ts} {us} {s} {i} d x) = all_joined InitStands s.items (i.init ∷ []) (inits_stand ts s d) (init_stands us i x, tt)

  items_stand : (ts : List Token) (s : FoundItems) → IsItems ts s → AllOf InitStands s.items
  items_stand _ _ (g.no_items right) = tt
  items_stand _ _ (g.some_items right {ts} {s} d) = inits_stand ts s d
  items_stand _ _ (g.with_comma comma right {ts} {s} d) = inits_stand ts s d
