-- Expressions and initialisers of the grammar have the forms that lowering rests on.
use Rattle.std.proofs.Common.{◌≡◌, ℕ, ◌+◌, suc, negsuc, Bool, true, false, List, [], ◌∷◌, ◌++◌, map, Some, None, refl, ap, ◌∙◌, arith}
use Rattle.std.specs.Prelude.{nat_lt, ◌&&◌}
use Rattle.std.proofs.lemmas.Bool.Decides.{nat_tests}
use Rattle.ix_text.specs.declared.span.Span.{Span}
use Rattle.ix_lexer.specs.declared.token.Token.{Token}
use Rattle.ix_lexer.specs.declared.fixed.TheConstants.{DOT, COMMA, CLOSE_PAREN, OPEN_BRACKET, CLOSE_BRACKET, OPEN_BRACE, CLOSE_BRACE}
use Rattle.ix_tree.specs.declared.expr.Expr.{Expr}
use Rattle.ix_tree.specs.declared.expr.ExprKind.{ExprKind}
use Rattle.ix_tree.specs.declared.expr.ExprKind.TheVariants as e
use Rattle.ix_tree.specs.declared.expr.Init.{Init}
use Rattle.ix_grammar.specs.declared.found.Args.{Args}
use Rattle.ix_grammar.specs.declared.found.At.{At}
use Rattle.ix_grammar.specs.declared.found.Form.{Form}
use Rattle.ix_grammar.specs.declared.found.Form.TheVariants as form
use Rattle.ix_grammar.specs.declared.found.Found.{Found}
use Rattle.ix_grammar.specs.declared.found.FoundInit.{FoundInit}
use Rattle.ix_grammar.specs.declared.found.FoundItems.{FoundItems}
use Rattle.ix_grammar.specs.declared.found.Several.{Several}
use Rattle.ix_grammar.specs.Nodes.{across}
use Rattle.ix_grammar.specs.Patterns.{sign, name_token}
use Rattle.ix_grammar.specs.TypeGrammar as types
use Rattle.ix_grammar.specs.TypeGrammar.{IsPairs}
use Rattle.ix_grammar.specs.ExprNodes.{created_type}
use Rattle.ix_grammar.specs.ExprGrammar as g
use Rattle.ix_grammar.specs.ExprGrammar.{Kind, IsMorePairs, IsExpr, IsExprs, IsArgs, IsInit, IsInits, IsItems}
use Rattle.ix_formed.specs.Additions.{AllOf}
use Rattle.ix_formed.specs.Readable as readable
use Rattle.ix_formed.specs.Readable.{Shape, shape, is_readable_expr, is_readable_init, all_fine}
use Rattle.ix_formed.specs.Written as written
use Rattle.ix_formed.specs.Written.{is_written_expr, is_written_init, all_true, each_true}
use Rattle.ix_formed.proofs.NumberLists.{both_true, all_joined, all_split}
use Rattle.ix_formed.specs.IntTokens.{IsInt, HaveInts}
use Rattle.ix_tree.proofs.FoldsOfForms as fold

-- ---- lists

pub each_is : {A : Type 0} (is : A → Bool) (So : A → Type 0) → ((x : A) → So x → is x ≡ true) → (xs : List A) → AllOf So xs → each_true is xs ≡ true
each_is is So so [] all = refl
each_is is So so (x ∷ xs) all = both_true (is x) (each_true is xs) (so x all.0) (each_is is So so xs all.1)

pub all_are : {A : Type 0} (is : A → Bool) (So : A → Type 0) → ((x : A) → So x → is x ≡ true) → (xs : List A) → AllOf So xs → all_true (map is xs) ≡ true
all_are is So so [] all = refl
all_are is So so (x ∷ xs) all = both_true (is x) (all_true (map is xs)) (so x all.0) (all_are is So so xs all.1)

-- the tokens behind others
pub ints_split : (before tokens : List Token) → HaveInts (before ++ tokens) → HaveInts before × HaveInts tokens
ints_split before tokens ints = all_split IsInt before tokens ints

-- ---- expressions

pub record IsFine (x : Expr) : Type 0 where
  pub written : is_written_expr x ≡ true
  pub readable : is_readable_expr x ≡ true

-- An expression, which may be assigned where the grammar says that it is a variable.
pub record IsFound (x : Expr) (f : Form) : Type 0 where
  pub fine : IsFine x
  pub place : f ≡ form.Variable → (shape x).place ≡ true

pub record IsFineInit (i : Init) : Type 0 where
  pub written : is_written_init i ≡ true
  pub readable : is_readable_init i ≡ true

abbrev kind_written : ExprKind → Bool
kind_written = fold.of_kind written.kind_step written.init_step written.expr_step

abbrev kind_shape : ExprKind → Shape
kind_shape = fold.of_kind readable.kind_step readable.init_step readable.expr_step

-- a node of a form by the two folds over it
node_found : (k : ExprKind) (span : Span) (f : Form) (w : Bool) (s : Shape) → kind_written k ≡ w → kind_shape k ≡ s → w ≡ true → s.fine ≡ true → (f ≡ form.Variable → s.place ≡ true) → IsFound (record { kind = k; span = span }) f
node_found k span f w s is_w is_s fine readable_too place =
    let one = fold.expr_is written.kind_step written.init_step written.expr_step k span in
    let other : shape (record { kind = k; span = span }) ≡ s = fold.expr_is readable.kind_step readable.init_step readable.expr_step k span ∙ is_s in
    record {
      fine = record { written = one ∙ is_w ∙ fine; readable = ap (λ (x : Shape). x.fine) other ∙ readable_too };
      place = λ v. ap (λ (x : Shape). x.place) other ∙ place v;
    }

args_written : (xs : List Expr) → AllOf IsFine xs → all_true (map is_written_expr xs) ≡ true
args_written xs all = all_are is_written_expr IsFine (λ x f. f.written) xs all

args_fine : (xs : List Expr) → AllOf IsFine xs → all_fine (map shape xs) ≡ true
args_fine [] all = refl
args_fine (x ∷ xs) all = both_true (shape x).fine (all_fine (map shape xs)) all.0.readable (args_fine xs all.1)

inits_written : (is : List Init) → AllOf IsFineInit is → all_true (map is_written_init is) ≡ true
inits_written is all = all_are is_written_init IsFineInit (λ i f. f.written) is all

inits_readable : (is : List Init) → AllOf IsFineInit is → all_true (map is_readable_init is) ≡ true
inits_readable is all = all_are is_readable_init IsFineInit (λ i f. f.readable) is all

-- ---- brackets

some_more : (n : ℕ) → nat_lt 0 (n + 1) ≡ true
some_more n = grind (arith, nat_tests)

pub more_pairs : (last : Span) (ts : List Token) (pairs : At ℕ) → IsMorePairs last ts pairs → nat_lt 0 pairs.value ≡ true
more_pairs last _ _ g.no_more = refl
more_pairs last _ _ (g.one_more left right {tokens} {pairs} d) = some_more pairs.value

pub some_pairs : (ts : List Token) (pairs : At ℕ) → IsPairs ts pairs → nat_lt 0 pairs.value ≡ true
some_pairs _ _ (types.pair left right) = refl
some_pairs _ _ (types.more_pairs {tokens} {pairs} left right d) = some_more pairs.value

-- ---- the grammar

mutual
  pub expr_found : (k : Kind) (ts : List Token) (f : Found) → IsExpr k ts f → HaveInts ts → IsFound f.expr f.form
  expr_found _ _ _ (g.number n s) ints = node_found (e.Int n) s form.Value _ _ (fold.int_kind written.kind_step written.init_step written.expr_step n) (fold.int_kind readable.kind_step readable.init_step readable.expr_step n) ints.0 refl (λ v. cc)
  expr_found _ _ _ (g.truth s) ints = node_found (e.Bool true) s form.Value _ _ (fold.bool_kind written.kind_step written.init_step written.expr_step true) (fold.bool_kind readable.kind_step readable.init_step readable.expr_step true) refl refl (λ v. cc)
  expr_found _ _ _ (g.falsity s) ints = node_found (e.Bool false) s form.Value _ _ (fold.bool_kind written.kind_step written.init_step written.expr_step false) (fold.bool_kind readable.kind_step readable.init_step readable.expr_step false) refl refl (λ v. cc)
  expr_found _ _ _ (g.null s) ints = node_found e.Null s form.Value _ _ (fold.null_kind written.kind_step written.init_step written.expr_step) (fold.null_kind readable.kind_step readable.init_step readable.expr_step) refl refl (λ v. cc)
  expr_found _ _ _ (g.this s) ints = node_found e.This s form.Value _ _ (fold.this_kind written.kind_step written.init_step written.expr_step) (fold.this_kind readable.kind_step readable.init_step readable.expr_step) refl refl (λ v. cc)
  expr_found _ _ _ (g.variable x) ints = node_found (e.Name x) x.span form.Variable _ _ (fold.name_kind written.kind_step written.init_step written.expr_step x) (fold.name_kind readable.kind_step readable.init_step readable.expr_step x) refl refl (λ v. refl)
  expr_found _ _ _ (g.call x {ts} {a} d) ints =
      let all = args_found ts a d ints.1 in
      node_found (e.Call None x a.items) (across x.span a.end) form.Statement _ _ (fold.call_kind written.kind_step written.init_step written.expr_step x a.items) (fold.call_kind readable.kind_step readable.init_step readable.expr_step x a.items)
      (args_written a.items all) (args_fine a.items all) (λ v. cc)
  expr_found _ _ _ (g.paren left right {ts} {f} d) ints = let r = expr_found g.Whole ts f d (ints_split ts (sign CLOSE_PAREN right ∷ []) ints.1).0 in record { fine = r.fine; place = λ v. cc }
  expr_found _ _ _ (g.select dot x {ts} {f} d) ints =
      let r = (expr_found g.Primary ts f d (ints_split ts (sign DOT dot ∷ name_token x ∷ []) ints).0).fine in
      node_found (e.Select f.expr x) (across f.outer x.span) form.Variable _ _ (fold.select_kind written.kind_step written.init_step written.expr_step f.expr x) (fold.select_kind readable.kind_step readable.init_step readable.expr_step f.expr x)
      r.written r.readable (λ v. refl)
  expr_found _ _ _ (g.call_on dot x {ts} {us} {f} {a} d c) ints =
      let i = ints_split ts (sign DOT dot ∷ name_token x ∷ us) ints in
      let r = (expr_found g.Primary ts f d i.0).fine in
      let all = args_found us a c i.1.1.1 in
      node_found (e.Call (Some f.expr) x a.items) (across f.outer a.end) form.Statement _ _ (fold.call_on_kind written.kind_step written.init_step written.expr_step f.expr x a.items) (fold.call_on_kind readable.kind_step readable.init_step readable.expr_step f.expr x a.items)
      (both_true (is_written_expr f.expr) (all_true (map is_written_expr a.items)) r.written (args_written a.items all)) (both_true (shape f.expr).fine (all_fine (map shape a.items)) r.readable (args_fine a.items all)) (λ v. cc)
  expr_found _ _ _ (g.index left right {ts} {us} {f} {g = h} d n x) ints =
      let i = ints_split ts (sign OPEN_BRACKET left ∷ (us ++ sign CLOSE_BRACKET right ∷ [])) ints in
      let r = (expr_found g.Primary ts f d i.0).fine in
      let q = (expr_found g.Whole us h x (ints_split us (sign CLOSE_BRACKET right ∷ []) i.1.1).0).fine in
      node_found (e.Index f.expr h.expr) (across f.outer right) form.Variable _ _ (fold.index_kind written.kind_step written.init_step written.expr_step f.expr h.expr) (fold.index_kind readable.kind_step readable.init_step readable.expr_step f.expr h.expr)
      (both_true (is_written_expr f.expr) (is_written_expr h.expr) r.written q.written) (both_true (shape f.expr).fine (shape h.expr).fine r.readable q.readable) (λ v. refl)
  expr_found _ _ _ (g.new_object start x {ts} {a} d) ints =
      let all = args_found ts a d ints.1.1 in
      node_found (e.New x a.items) (across start a.end) form.Statement _ _ (fold.new_kind written.kind_step written.init_step written.expr_step x a.items) (fold.new_kind readable.kind_step readable.init_step readable.expr_step x a.items)
      (args_written a.items all) (args_fine a.items all) (λ v. cc)
  expr_found _ _ _ (g.array_of_length start left right {before} {base_tokens} {us} {tokens} {notes} {base} {g = h} {brackets} n b x m) ints =
      let ty = (created_type base notes brackets).ty in
      let i = (ints_split before (base_tokens ++ sign OPEN_BRACKET left ∷ (us ++ sign CLOSE_BRACKET right ∷ tokens)) ints.1).1 in
      let j = (ints_split base_tokens (sign OPEN_BRACKET left ∷ (us ++ sign CLOSE_BRACKET right ∷ tokens)) i).1.1 in
      let q = (expr_found g.Whole us h x (ints_split us (sign CLOSE_BRACKET right ∷ tokens) j).0).fine in
      node_found (e.NewArray ty h.expr) (across start brackets.span) form.Array _ _ (fold.new_array_kind written.kind_step written.init_step written.expr_step ty h.expr) (fold.new_array_kind readable.kind_step readable.init_step readable.expr_step ty h.expr)
      (both_true (nat_lt 0 brackets.value) (is_written_expr h.expr) (more_pairs right tokens brackets m) q.written) q.readable (λ v. cc)
  expr_found _ _ _ (g.array_of_items start open_at {before} {base_tokens} {tokens} {us} {notes} {base} {brackets} {s} n b m x) ints =
      let ty = (created_type base notes brackets).ty in
      let i = (ints_split before (base_tokens ++ (tokens ++ sign OPEN_BRACE open_at ∷ us)) ints.1).1 in
      let j = (ints_split base_tokens (tokens ++ sign OPEN_BRACE open_at ∷ us) i).1 in
      let all = items_found us s x (ints_split tokens (sign OPEN_BRACE open_at ∷ us) j).1.1 in
      node_found (e.NewItems ty s.items) (across start s.end) form.Array _ _ (fold.new_items_kind written.kind_step written.init_step written.expr_step ty s.items) (fold.new_items_kind readable.kind_step readable.init_step readable.expr_step ty s.items)
      (both_true (nat_lt 0 brackets.value) (all_true (map is_written_init s.items)) (some_pairs tokens brackets m) (inits_written s.items all)) (inits_readable s.items all) (λ v. cc)
  expr_found _ _ _ (g.primary {ts} {f} d) ints = expr_found g.Primary ts f d ints
  expr_found _ _ _ (g.least minus literal) ints = node_found (e.Int (negsuc 2147483647)) (across minus literal) form.Value _ _ (fold.int_kind written.kind_step written.init_step written.expr_step (negsuc 2147483647)) (fold.int_kind readable.kind_step readable.init_step readable.expr_step (negsuc 2147483647)) refl refl (λ v. cc)
  expr_found _ _ _ (g.signed number op s {ts} {f} r x) ints =
      let q = (expr_found (g.Level 0) ts f x ints.1).fine in
      node_found (e.Unary op f.expr) (across s f.outer) form.Value _ _ (fold.unary_kind written.kind_step written.init_step written.expr_step op f.expr) (fold.unary_kind readable.kind_step readable.init_step readable.expr_step op f.expr)
      q.written q.readable (λ v. cc)
  expr_found _ _ _ (g.step_before number up s {ts} {f} r x v) ints =
      let q = expr_found g.Primary ts f x ints.1 in
      node_found (e.Step up false f.expr) (across s f.outer) form.Statement _ _ (fold.step_kind written.kind_step written.init_step written.expr_step up false f.expr) (fold.step_kind readable.kind_step readable.init_step readable.expr_step up false f.expr)
      q.fine.written (both_true (shape f.expr).place (shape f.expr).fine (q.place v) q.fine.readable) (λ v. cc)
  expr_found _ _ _ (g.step_after number up s {ts} {f} r x v) ints =
      let q = expr_found g.Primary ts f x (ints_split ts (sign number s ∷ []) ints).0 in
      node_found (e.Step up true f.expr) (across f.outer s) form.Statement _ _ (fold.step_kind written.kind_step written.init_step written.expr_step up true f.expr) (fold.step_kind readable.kind_step readable.init_step readable.expr_step up true f.expr)
      q.fine.written (both_true (shape f.expr).place (shape f.expr).fine (q.place v) q.fine.readable) (λ v. cc)
  expr_found _ _ _ (g.wider {level} {ts} {f} d) ints = expr_found (g.Level level) ts f d ints
  expr_found _ _ _ (g.operators level number op s {ts} {us} {f} {g = h} r x y) ints =
      let i = ints_split ts (sign number s ∷ us) ints in
      let p = (expr_found (g.Level (suc level)) ts f x i.0).fine in
      let q = (expr_found (g.Level level) us h y i.1.1).fine in
      node_found (e.Binary op f.expr h.expr) (across f.outer h.outer) form.Value _ _ (fold.binary_kind written.kind_step written.init_step written.expr_step op f.expr h.expr) (fold.binary_kind readable.kind_step readable.init_step readable.expr_step op f.expr h.expr)
      (both_true (is_written_expr f.expr) (is_written_expr h.expr) p.written q.written) (both_true (shape f.expr).fine (shape h.expr).fine p.readable q.readable) (λ v. cc)
  expr_found _ _ _ (g.binary {ts} {f} d) ints = expr_found (g.Level 10) ts f d ints
  expr_found _ _ _ (g.assign number op s {ts} {us} {f} {g = h} r x v y) ints =
      let i = ints_split ts (sign number s ∷ us) ints in
      let p = expr_found g.Primary ts f x i.0 in
      let q = (expr_found g.Whole us h y i.1.1).fine in
      node_found (e.Assign op f.expr h.expr) (across f.outer h.outer) form.Statement _ _ (fold.assign_kind written.kind_step written.init_step written.expr_step op f.expr h.expr) (fold.assign_kind readable.kind_step readable.init_step readable.expr_step op f.expr h.expr)
      (both_true (is_written_expr f.expr) (is_written_expr h.expr) p.fine.written q.written)
      (both_true (shape f.expr).place ((shape f.expr).fine && (shape h.expr).fine) (p.place v) (both_true (shape f.expr).fine (shape h.expr).fine p.fine.readable q.readable)) (λ v. cc)

  exprs_found : (ts : List Token) (s : Several) → IsExprs ts s → HaveInts ts → AllOf IsFine s.items
  exprs_found _ _ (g.one {ts} {f} d) ints = ((expr_found g.Whole ts f d ints).fine, tt)
  exprs_found _ _ (g.and comma {ts} {us} {s} {f} d x) ints =
      let i = ints_split ts (sign COMMA comma ∷ us) ints in
      all_joined IsFine s.items (f.expr ∷ []) (exprs_found ts s d i.0) ((expr_found g.Whole us f x i.1.1).fine, tt)

  pub args_found : (ts : List Token) (a : Args) → IsArgs ts a → HaveInts ts → AllOf IsFine a.items
  args_found _ _ (g.no_args left right) ints = tt
  args_found _ _ (g.some_args left right {ts} {s} x) ints = exprs_found ts s x (ints_split ts (sign CLOSE_PAREN right ∷ []) ints.1).0

  pub init_found : (ts : List Token) (i : FoundInit) → IsInit ts i → HaveInts ts → IsFineInit i.init
  init_found _ _ (g.value {ts} {f} d) ints =
      let r = (expr_found g.Whole ts f d ints).fine in
      record {
        written = fold.value_is written.kind_step written.init_step written.expr_step f.expr ∙ r.written;
        readable = fold.value_is readable.kind_step readable.init_step readable.expr_step f.expr ∙ r.readable;
      }
  init_found _ _ (g.entries open_at {ts} {s} d) ints =
      let all = items_found ts s d ints.1 in
      record {
        written = fold.items_are written.kind_step written.init_step written.expr_step s.items (across open_at s.end) ∙ inits_written s.items all;
        readable = fold.items_are readable.kind_step readable.init_step readable.expr_step s.items (across open_at s.end) ∙ inits_readable s.items all;
      }

  inits_found : (ts : List Token) (s : FoundItems) → IsInits ts s → HaveInts ts → AllOf IsFineInit s.items
  inits_found _ _ (g.first {ts} {i} d) ints = (init_found ts i d ints, tt)
  inits_found _ _ (g.later comma {ts} {us} {s} {i} d x) ints =
      let j = ints_split ts (sign COMMA comma ∷ us) ints in
      all_joined IsFineInit s.items (i.init ∷ []) (inits_found ts s d j.0) (init_found us i x j.1.1, tt)

  items_found : (ts : List Token) (s : FoundItems) → IsItems ts s → HaveInts ts → AllOf IsFineInit s.items
  items_found _ _ (g.no_items right) ints = tt
  items_found _ _ (g.some_items right {ts} {s} d) ints = inits_found ts s d (ints_split ts (sign CLOSE_BRACE right ∷ []) ints).0
  items_found _ _ (g.with_comma comma right {ts} {s} d) ints = inits_found ts s d (ints_split ts (sign COMMA comma ∷ sign CLOSE_BRACE right ∷ []) ints).0
