-- Statements that are in the grammar are read.
use Rattle.std.proofs.Common.{◌≡◌, ℕ, suc, ◌+◌, ◌-◌, ◌<◌, ◌≤◌, ◌==◌, max, Bool, true, false, List, [], ◌∷◌, ◌++◌, length, Option, Some, None, Ok, refl, sym, ap, subst, ◌∙◌, append_assoc, arith, length-append, ◌⊎◌, inl, inr}
use Rattle.std.proofs.lemmas.Bool.{le-leb}
use Rattle.ix_text.specs.declared.span.Span.{Span}
use Rattle.ix_lexer.specs.declared.token.Token.{Token}
use Rattle.ix_lexer.specs.declared.token.TokenKind.{TokenKind}
use Rattle.ix_lexer.specs.declared.token.TokenKind.TheVariants as k
use Rattle.ix_lexer.specs.declared.fixed.TheConstants.{MINUS, IF, ELSE, WHILE, DO, FOR, BREAK, CONTINUE, RETURN, THROW, NEW, SUPER, TRUE, FALSE, NULL, THIS, FINAL, INT, BOOLEAN, AT, DOT, COMMA, SEMICOLON, OPEN_PAREN, CLOSE_PAREN, OPEN_BRACE, CLOSE_BRACE}
use Rattle.ix_tree.specs.declared.annot.Ident.{Ident}
use Rattle.ix_tree.specs.declared.expr.UnaryOp.TheVariants as op
use Rattle.ix_tree.specs.declared.stmt.StmtKind.TheVariants as s
use Rattle.ix_grammar.specs.Nodes.{across}
use Rattle.ix_grammar.specs.declared.classes.Stmts.{Stmts}
use Rattle.ix_grammar.specs.declared.declarations.FoundMods.{FoundMods}
use Rattle.ix_grammar.specs.declared.found.Found.{Found}
use Rattle.ix_grammar.specs.declared.found.FoundDecls.{FoundDecls}
use Rattle.ix_grammar.specs.declared.found.FoundStmt.{FoundStmt}
use Rattle.ix_grammar.specs.declared.found.FoundType.{FoundType}
use Rattle.ix_grammar.specs.declared.found.Several.{Several}
use Rattle.ix_lexer.proofs.Scans.{chosen}
use Rattle.ix_grammar_rules.specs.declared.begun.Begun.{Begun}
use Rattle.ix_grammar_rules.specs.declared.begun.Begun.TheVariants.{Local, Run, Print}
use Rattle.ix_grammar_rules.specs.Rule.{Rule, take, bind, stop, loop, On, Done, look, rest, run, Outcome, and_then}
use Rattle.ix_grammar.specs.Patterns.{sign, name_token, string_token, a_sign, fixed_of, one_of, one_of_kind, row, unary_signs, step_signs}
use Rattle.ix_grammar.specs.Lists as lists
use Rattle.ix_grammar.specs.Lists.{IsSeparated}
use Rattle.ix_grammar_rules.specs.ListRules.{more_of, next_inside, braces_of, placed}
use Rattle.ix_grammar.specs.DeclGrammar.{no_mods, local_words, shared, IsDecls}
use Rattle.ix_grammar_rules.specs.DeclRules.{next_mod, mods}
use Rattle.ix_grammar.specs.ClassGrammar.{no_stmts, with_stmt}
use Rattle.ix_grammar.specs.TypeGrammar.{IsType}
use Rattle.ix_grammar.specs.ExprNodes.{no_exprs, with_expr}
use Rattle.ix_grammar_rules.specs.ExprRules.{expr, statement_expr}
use Rattle.ix_grammar.specs.ExprGrammar as e
use Rattle.ix_grammar.specs.ExprGrammar.{Kind, Whole, IsExpr, IsInit, IsStatementExpr}
use Rattle.ix_grammar.specs.StmtGrammar as g
use Rattle.ix_grammar.specs.StmtGrammar.{IsStmt, IsBlockStmt, IsStmts, IsForFirst, IsMaybe, IsUpdate, IsLocal, begins_print, stmt_node, block_stmt, if_stmt, if_else_stmt, while_stmt, do_stmt, for_stmt, return_stmt, throw_stmt, print_stmt, run_stmt, one_run, with_run, one_expr, local_stmt}
use Rattle.ix_grammar_rules.specs.StmtRules.{begun, finished, condition, else_part, if_rule, while_rule, do_rule, for_body, for_update, for_condition, for_part, for_rule, return_rule, throw_end, throw_rule, block_rule, stmt_of, stmts_below, stmt, block_statement}
use Rattle.ix_grammar_rules.proofs.Runs.{loop_on, loop_done, same_ok}
use Rattle.ix_grammar_rules.proofs.CompleteRules.{bind_reads, then_assoc}
use Rattle.ix_grammar_rules.proofs.Tables.{other_sign}
use Rattle.ix_grammar_rules.proofs.ListsComplete.{separated_reads, more_done}
use Rattle.ix_grammar_rules.proofs.TypeComplete.{type_starts}
use Rattle.ix_grammar_rules.proofs.DeclComplete.{mods_before_type, mods_start, local_are}
use Rattle.ix_grammar_rules.proofs.Follows.{Free, AfterWhole, after_comma, after_semicolon, after_close_paren, tall}
use Rattle.ix_grammar_rules.proofs.ExprComplete.{Complete, complete}
use Rattle.ix_grammar_rules.proofs.StatementComplete.{statement_reads}
use Rattle.ix_grammar_rules.proofs.BegunComplete.{seen_sign, seen_name, begun_run, run_expr}
use Rattle.ix_grammar_rules.proofs.LocalComplete.{mods_begun, typed_reads, types_low, type_begun}
use Rattle.ix_grammar_rules.proofs.StmtSound.{six, print_reads, Printed, printed}

-- ---- declarations of locals

no_words : (ts : List Token) → Free FINAL ts → look (one_of local_words) ts ≡ None
no_words [] h = refl
no_words (t ∷ ts) h = at t.kind t.span h
  where
    at : (kind : TokenKind) (span : Span) → fixed_of FINAL kind span ≡ None → one_of_kind local_words kind span ≡ None
    at (k.Ident x) span h = refl
    at (k.Int n) span h = refl
    at k.MinLit span h = refl
    at (k.Str t) span h = refl
    at (k.Fixed m) span h = elim (chosen (m == FINAL) (Some span) None None h) [
      | inl w ↦ absurd (cc)
      | inr w ↦ rw w.0 refl
    ]

next_mod_ends : (left : ℕ) (found : FoundMods) (ts : List Token) → look (one_of local_words) ts ≡ None → Free AT ts → run (next_mod local_words left found) ts ≡ Ok (Done found, ts)
unfolding next_mod run
next_mod_ends left found ts w a = rw (w, a) refl

abbrev paired : FoundMods → List Token → FoundMods × List Token
paired m ts = (m, ts)

mods_none : (left : ℕ) (ts : List Token) → Free FINAL ts → Free AT ts → run (mods local_words left) ts ≡ Ok (no_mods, ts)
unfolding mods
mods_none left ts f a = loop_done (next_mod local_words left) no_mods no_mods ts ts (last left ts (no_words ts f) a)
  where
    last : (left : ℕ) (ts : List Token) → look (one_of local_words) ts ≡ None → Free AT ts → run (next_mod local_words left no_mods) ts ≡ Ok (Done no_mods, ts)
    last left ts w a = next_mod_ends left no_mods ts w a

local_reads : (ts : List Token) (m : FoundMods) (ty : FoundType) (found : FoundDecls) → IsLocal ts m ty found → (prints : Bool) (left : ℕ) → found.height + 1 ≤ left → (end : Span) (us : List Token)
    → run (begun prints true left) (ts ++ sign SEMICOLON end ∷ us) ≡ Ok (Local m ty found, sign SEMICOLON end ∷ us)
local_reads _ m ty found (g.local {first} {second} {third} a t d) prints left le end us = subst (λ y. run (begun prints true left) y ≡ Ok (Local m ty found, sign SEMICOLON end ∷ us)) (sym shape) (by_mods (seen_sign FINAL all) (seen_sign AT all))
  where
    later : List Token
    later = third ++ sign SEMICOLON end ∷ us

    all : List Token
    all = first ++ (second ++ later)

    shape : (first ++ (second ++ third)) ++ sign SEMICOLON end ∷ us ≡ all
    shape = append_assoc first (second ++ third) (sign SEMICOLON end ∷ us) ∙ ap (λ y. first ++ y) (append_assoc second third (sign SEMICOLON end ∷ us))

    low : 1 + max (max m.height ty.height) 1 ≤ found.height
    low = types_low left m ty third found d le end us

    read : run (mods local_words (left - 2)) all ≡ Ok (m, second ++ later)
    read = mods_before_type local_words local_are (left - 2) (omega (arith, le, low)) first m a (omega (arith, le, low)) second ty t later

    plain : Free FINAL all → Free AT all → run (begun prints true left) all ≡ Ok (Local m ty found, sign SEMICOLON end ∷ us)
    plain f n = without (same_ok (no_mods, all) (m, second ++ later) (sym (mods_none (left - 2) all f n) ∙ read))
      where
        without : paired no_mods all ≡ paired m (second ++ later) → run (begun prints true left) all ≡ Ok (Local m ty found, sign SEMICOLON end ∷ us)
        without q =
            let none : no_mods ≡ m = ap (λ (p : FoundMods × List Token). p.0) q in
            let rest : all ≡ second ++ later = ap (λ (p : FoundMods × List Token). p.1) q in
            ap (run (begun prints true left)) rest ∙ from_none m ty second third found t d le none
          where
            from_none : (m : FoundMods) (ty : FoundType) (second third : List Token) (found : FoundDecls) → IsType second ty → IsDecls IsInit (shared m ty) third found → found.height + 1 ≤ left → no_mods ≡ m
                → run (begun prints true left) (second ++ (third ++ sign SEMICOLON end ∷ us)) ≡ Ok (Local m ty found, sign SEMICOLON end ∷ us)
            from_none m ty second third found t d le none = subst (λ m. IsDecls IsInit (shared m ty) third found → run (begun prints true left) (second ++ (third ++ sign SEMICOLON end ∷ us)) ≡ Ok (Local m ty found, sign SEMICOLON end ∷ us)) none (λ d. type_begun prints left ty third found d le end us second t) d

    by_mods : Free FINAL all ⊎ ((s : Span) × (us : List Token) × (all ≡ sign FINAL s ∷ us)) → Free AT all ⊎ ((s : Span) × (us : List Token) × (all ≡ sign AT s ∷ us)) → run (begun prints true left) all ≡ Ok (Local m ty found, sign SEMICOLON end ∷ us)
    by_mods (inr f) n = mods_begun left m ty third found d le end us prints all (second ++ later) read (typed_reads left m ty third found d le end us second t) (inl f)
    by_mods (inl f) (inr n) = mods_begun left m ty third found d le end us prints all (second ++ later) read (typed_reads left m ty third found d le end us second t) (inr n)
    by_mods (inl f) (inl n) = plain f n

local_starts : (n : ℕ) → row local_words n ≡ None → (AT == n) ≡ false → (INT == n) ≡ false → (BOOLEAN == n) ≡ false → (ts : List Token) (m : FoundMods) (ty : FoundType) (found : FoundDecls) → IsLocal ts m ty found → (us : List Token) → Free n (ts ++ us)
local_starts n a b c e _ m ty found (g.local {first} {second} {third} x t d) us = ap (look (a_sign n)) (append_assoc first (second ++ third) us ∙ ap (λ y. first ++ y) (append_assoc second third us))
    ∙ mods_start local_words n a b first m x (second ++ (third ++ us)) (type_starts n c e second ty t (third ++ us))

-- ---- with what an expression doesn't begin

abbrev words : List (ℕ × Bool)
words = (TRUE, true) ∷ (FALSE, true) ∷ (NULL, true) ∷ (THIS, true) ∷ (NEW, true) ∷ (OPEN_PAREN, true) ∷ []

-- a sign that begins no expression
abbrev No : ℕ → Type 0
No n = (row words n ≡ None) × (row unary_signs n ≡ None) × (row step_signs n ≡ None)

expr_starts : (n : ℕ) → No n → {kind : Kind} {ts : List Token} {f : Found} → IsExpr kind ts f → (us : List Token) → Free n (ts ++ us)
expr_starts n h (e.number m s) us = refl
expr_starts n h (e.truth s) us = other_sign words TRUE n true s us h.0 refl
expr_starts n h (e.falsity s) us = other_sign words FALSE n true s us h.0 refl
expr_starts n h (e.null s) us = other_sign words NULL n true s us h.0 refl
expr_starts n h (e.this s) us = other_sign words THIS n true s us h.0 refl
expr_starts n h (e.variable x) us = refl
expr_starts n h (e.call x a) us = refl
expr_starts n h (e.paren l r d) us = other_sign words OPEN_PAREN n true l [] h.0 refl
expr_starts n h (e.new_object s x a) us = other_sign words NEW n true s [] h.0 refl
expr_starts n h (e.array_of_length s l r c b d p) us = other_sign words NEW n true s [] h.0 refl
expr_starts n h (e.array_of_items s o c b p i) us = other_sign words NEW n true s [] h.0 refl
expr_starts n h (e.select dot x d) us = rw append_assoc (expr_starts n h d _)
expr_starts n h (e.call_on dot x d a) us = rw append_assoc (expr_starts n h d _)
expr_starts n h (e.index l r d c x) us = rw append_assoc (expr_starts n h d _)
expr_starts n h (e.primary d) us = expr_starts n h d us
expr_starts n h (e.least m l) us = other_sign unary_signs MINUS n op.Minus m [] h.1 refl
expr_starts n h (e.signed number o s r d) us = other_sign unary_signs number n o s [] h.1 r
expr_starts n h (e.step_before number up s r d v) us = other_sign step_signs number n up s [] h.2 r
expr_starts n h (e.step_after number up s r d v) us = rw append_assoc (expr_starts n h d _)
expr_starts n h (e.wider d) us = expr_starts n h d us
expr_starts n h (e.operators level number o s r d x) us = rw append_assoc (expr_starts n h d _)
expr_starts n h (e.binary d) us = expr_starts n h d us
expr_starts n h (e.assign number o s r d v x) us = rw append_assoc (expr_starts n h d _)

-- ---- parts

abbrev pub CompleteStmt : Bool → List Token → FoundStmt → Type 0
CompleteStmt ends ts a = (locals : Bool) (left : ℕ) (us : List Token) → a.height ≤ left → (ends ≡ true → Free ELSE us) → run (stmt_of (stmts_below left) locals left) (ts ++ us) ≡ Ok (a, us)

plain_below : (left k : ℕ) → left ≡ suc k → (stmts_below left).plain ≡ stmt k
unfolding stmts_below
plain_below left k e = rw e refl

block_below : (left k : ℕ) → left ≡ suc k → (stmts_below left).block ≡ block_statement k
unfolding stmts_below
block_below left k e = rw e refl

plain_reads : (ends : Bool) (ts : List Token) (a : FoundStmt) → CompleteStmt ends ts a → (left : ℕ) (us : List Token) → a.height < left → (ends ≡ true → Free ELSE us) → run ((stmts_below left).plain) (ts ++ us) ≡ Ok (a, us)
plain_reads ends ts a c left us lt f = rw (plain_below left (left - 1) (omega (arith, lt))) (c false (left - 1) us (omega (arith, lt)) f)

condition_reads : (left : ℕ) (f : Found) (o c : Span) (ts us : List Token) → run (expr (left - 1)) ts ≡ Ok (f, sign CLOSE_PAREN c ∷ us) → run (condition left) (sign OPEN_PAREN o ∷ ts) ≡ Ok (f, us)
unfolding condition run
condition_reads left f o c ts us h = rw h refl

in_parens : (ts : List Token) (f : Found) → IsExpr Whole ts f → (left : ℕ) → f.height < left → (o c : Span) (us : List Token) → run (condition left) (sign OPEN_PAREN o ∷ (ts ++ sign CLOSE_PAREN c ∷ us)) ≡ Ok (f, us)
in_parens ts f d left lt o c us = let x : Complete Whole ts f = complete d in condition_reads left f o c (ts ++ sign CLOSE_PAREN c ∷ us) us (x (left - 1) (sign CLOSE_PAREN c ∷ us) (omega (arith, lt)) (after_close_paren c us))

-- ---- each statement

module _ (locals : Bool) (left : ℕ) where
  abbrev Stmt : List Token → Outcome FoundStmt
  Stmt ts = run (stmt_of (stmts_below left) locals left) ts

  if_step : (start : Span) (ts : List Token) → 2 ≤ left → Stmt (sign IF start ∷ ts) ≡ run (if_rule (stmts_below left) left start) ts
  unfolding stmt_of run
  if_step start ts le = rw (le-leb 2 left le) refl

  while_step : (start : Span) (ts : List Token) → 2 ≤ left → Stmt (sign WHILE start ∷ ts) ≡ run (while_rule (stmts_below left) left start) ts
  unfolding stmt_of run
  while_step start ts le = rw (le-leb 2 left le) refl

  do_step : (start : Span) (ts : List Token) → 2 ≤ left → Stmt (sign DO start ∷ ts) ≡ run (do_rule (stmts_below left) left start) ts
  unfolding stmt_of run
  do_step start ts le = rw (le-leb 2 left le) refl

  for_step : (start : Span) (ts : List Token) → 2 ≤ left → Stmt (sign FOR start ∷ ts) ≡ run (for_rule (stmts_below left) left start) ts
  unfolding stmt_of run
  for_step start ts le = rw (le-leb 2 left le) refl

  return_step : (start : Span) (ts : List Token) → 1 ≤ left → Stmt (sign RETURN start ∷ ts) ≡ run (return_rule left start) ts
  unfolding stmt_of run
  return_step start ts le = rw (le-leb 1 left le) refl

  throw_step : (start : Span) (ts : List Token) → 2 ≤ left → Stmt (sign THROW start ∷ ts) ≡ run (throw_rule start) ts
  unfolding stmt_of run
  throw_step start ts le = rw (le-leb 2 left le) refl

  block_step : (o : Span) (ts : List Token) → 1 ≤ left → Stmt (sign OPEN_BRACE o ∷ ts) ≡ run (block_rule (stmts_below left) o) ts
  unfolding stmt_of run
  block_step o ts le = rw (le-leb 1 left le) refl

  empty_reads : (end : Span) (us : List Token) → 1 ≤ left → Stmt (sign SEMICOLON end ∷ us) ≡ Ok (stmt_node s.Empty 0 end, us)
  unfolding stmt_of run
  empty_reads end us le = rw (le-leb 1 left le) refl

  break_reads : (start end : Span) (us : List Token) → 1 ≤ left → Stmt (sign BREAK start ∷ sign SEMICOLON end ∷ us) ≡ Ok (stmt_node s.Break 0 (across start end), us)
  unfolding stmt_of run
  break_reads start end us le = rw (le-leb 1 left le) refl

  continue_reads : (start end : Span) (us : List Token) → 1 ≤ left → Stmt (sign CONTINUE start ∷ sign SEMICOLON end ∷ us) ≡ Ok (stmt_node s.Continue 0 (across start end), us)
  unfolding stmt_of run
  continue_reads start end us le = rw (le-leb 1 left le) refl

  -- what begins with no word of its own
  unworded : (ts : List Token) → Free OPEN_BRACE ts → Free SEMICOLON ts → Free IF ts → Free WHILE ts → Free DO ts → Free FOR ts → Free BREAK ts → Free CONTINUE ts → Free RETURN ts → Free THROW ts → Stmt ts ≡ run (bind (begun true locals left) (finished left)) ts
  unfolding stmt_of run
  unworded ts a b c d e f g h i j = rw (a, b, c, d, e, f, g, h, i, j) refl

  finish : (ts us vs : List Token) (r : Begun) (a : FoundStmt) → run (begun true locals left) ts ≡ Ok (r, us) → run (finished left r) us ≡ Ok (a, vs) → run (bind (begun true locals left) (finished left)) ts ≡ Ok (a, vs)
  unfolding run
  finish ts us vs r a h e = rw h e

  finish_run : (f : Found) (end : Span) (us : List Token) → run (finished left (Run f)) (sign SEMICOLON end ∷ us) ≡ Ok (run_stmt f end, us)
  unfolding finished run
  finish_run f end us = refl

  finish_local : (m : FoundMods) (ty : FoundType) (found : FoundDecls) (end : Span) (us : List Token) → run (finished left (Local m ty found)) (sign SEMICOLON end ∷ us) ≡ Ok (local_stmt m ty found end, us)
  unfolding finished run
  finish_local m ty found end us = refl

  finish_print : (system : Span) (f : Found) (c end : Span) (ts us : List Token) → run (expr (left - 1)) ts ≡ Ok (f, sign CLOSE_PAREN c ∷ sign SEMICOLON end ∷ us) → run (finished left (Print system)) ts ≡ Ok (print_stmt system f end, us)
  unfolding finished run
  finish_print system f c end ts us h = rw h refl

  run_from : (ts us : List Token) (f : Found) → run (statement_expr (left - 1)) ts ≡ Ok (f, us) → run (run_expr left) ts ≡ Ok (Run f, us)
  unfolding run
  run_from ts us f h = rw h refl

pub begins_no : (n : ℕ) → No n → {kind : Kind} {ts : List Token} {f : Found} → IsExpr kind ts f → (us : List Token) → Free n (ts ++ us)
begins_no n h d us = expr_starts n h d us

-- an expression statement where a statement begins with no word of its own
expr_begun : (ts : List Token) (f : Found) → IsStatementExpr ts f → (prints locals : Bool) (left : ℕ) → f.height < left → (us : List Token) → AfterWhole us → (prints ≡ true → begins_print (ts ++ us) ≡ false) → run (begun prints locals left) (ts ++ us) ≡ Ok (Run f, us)
expr_begun ts f d prints locals left lt us a p =
    begun_run left prints locals (ts ++ us) us (Run f) (expr_starts FINAL (refl, refl, refl) d.is us) (expr_starts AT (refl, refl, refl) d.is us) (expr_starts INT (refl, refl, refl) d.is us) (expr_starts BOOLEAN (refl, refl, refl) d.is us) p
    (run_from locals left (ts ++ us) us f (statement_reads d.is d.form (left - 1) us (omega (arith, lt)) a)) (seen_name (ts ++ us))

-- ---- the semicolon behind an expression makes no print statement of it

abbrev kind_fixed : ℕ → TokenKind
kind_fixed n = k.Fixed n

abbrev kind_word : List ℕ → TokenKind
kind_word text = k.Ident text

abbrev fixed_number : TokenKind → ℕ
fixed_number (k.Fixed n) = n
fixed_number kind = 0

first_kind : List Token → TokenKind
first_kind [] = k.MinLit
first_kind (t ∷ ts) = t.kind

no_word : (text : List ℕ) → kind_fixed SEMICOLON ≡ kind_word text → ⊥
no_word text h = cc

no_paren : kind_fixed SEMICOLON ≡ kind_fixed OPEN_PAREN → ⊥
no_paren h = let e : SEMICOLON ≡ OPEN_PAREN = ap fixed_number h in absurd (omega (arith, e))

no_dot : kind_fixed SEMICOLON ≡ kind_fixed DOT → ⊥
no_dot h = let e : SEMICOLON ≡ DOT = ap fixed_number h in absurd (omega (arith, e))

ended : (ts us : List Token) (end : Span) → Printed (ts ++ sign SEMICOLON end ∷ us) → begins_print ts ≡ false → begins_print (ts ++ sign SEMICOLON end ∷ us) ≡ false
unfolding first_kind
ended (t0 ∷ t1 ∷ t2 ∷ t3 ∷ t4 ∷ t5 ∷ later) us end p h = h
ended [] us end p h = absurd (no_word g.SYSTEM (ap first_kind p.is))
ended (t0 ∷ []) us end p h = absurd (no_dot (ap (λ y. first_kind (rest y)) p.is))
ended (t0 ∷ t1 ∷ []) us end p h = absurd (no_word g.OUT (ap (λ y. first_kind (rest (rest y))) p.is))
ended (t0 ∷ t1 ∷ t2 ∷ []) us end p h = absurd (no_dot (ap (λ y. first_kind (rest (rest (rest y)))) p.is))
ended (t0 ∷ t1 ∷ t2 ∷ t3 ∷ []) us end p h = absurd (no_word g.PRINTLN (ap (λ y. first_kind (rest (rest (rest (rest y))))) p.is))
ended (t0 ∷ t1 ∷ t2 ∷ t3 ∷ t4 ∷ []) us end p h = absurd (no_paren (ap (λ y. first_kind (rest (rest (rest (rest (rest y)))))) p.is))

not_printed : (ts us : List Token) (end : Span) → begins_print ts ≡ false → (b : Bool) → begins_print (ts ++ sign SEMICOLON end ∷ us) ≡ b → begins_print (ts ++ sign SEMICOLON end ∷ us) ≡ false
not_printed ts us end h true e = ended ts us end (printed (ts ++ sign SEMICOLON end ∷ us) e) h
not_printed ts us end h false e = e

-- ---- the cases

run_case : (locals : Bool) (left : ℕ) (end : Span) (ts us : List Token) (f : Found) → IsStatementExpr ts f → begins_print ts ≡ false → f.height < left → run (stmt_of (stmts_below left) locals left) (ts ++ sign SEMICOLON end ∷ us) ≡ Ok (run_stmt f end, us)
run_case locals left end ts us f d p lt =
    let w = sign SEMICOLON end ∷ us in
    unworded locals left (ts ++ w) (expr_starts OPEN_BRACE (refl, refl, refl) d.is w) (expr_starts SEMICOLON (refl, refl, refl) d.is w) (expr_starts IF (refl, refl, refl) d.is w) (expr_starts WHILE (refl, refl, refl) d.is w) (expr_starts DO (refl, refl, refl) d.is w)
    (expr_starts FOR (refl, refl, refl) d.is w) (expr_starts BREAK (refl, refl, refl) d.is w) (expr_starts CONTINUE (refl, refl, refl) d.is w) (expr_starts RETURN (refl, refl, refl) d.is w) (expr_starts THROW (refl, refl, refl) d.is w)
    ∙ finish locals left (ts ++ w) w us (Run f) (run_stmt f end) (expr_begun ts f d true locals left lt w (after_semicolon end us) (λ t. not_printed ts us end p (begins_print (ts ++ w)) refl)) (finish_run locals left f end us)

local_case : (left : ℕ) (end : Span) (ts us : List Token) (m : FoundMods) (ty : FoundType) (found : FoundDecls) → IsLocal ts m ty found → found.height < left → run (block_statement left) (ts ++ sign SEMICOLON end ∷ us) ≡ Ok (local_stmt m ty found end, us)
local_case left end ts us m ty found d lt =
    let w = sign SEMICOLON end ∷ us in
    unworded true left (ts ++ w) (local_starts OPEN_BRACE refl refl refl refl ts m ty found d w) (local_starts SEMICOLON refl refl refl refl ts m ty found d w) (local_starts IF refl refl refl refl ts m ty found d w) (local_starts WHILE refl refl refl refl ts m ty found d w)
    (local_starts DO refl refl refl refl ts m ty found d w) (local_starts FOR refl refl refl refl ts m ty found d w) (local_starts BREAK refl refl refl refl ts m ty found d w) (local_starts CONTINUE refl refl refl refl ts m ty found d w) (local_starts RETURN refl refl refl refl ts m ty found d w) (local_starts THROW refl refl refl refl ts m ty found d w)
    ∙ finish true left (ts ++ w) w us (Local m ty found) (local_stmt m ty found end) (local_reads ts m ty found d true left (omega (arith, lt)) end us) (finish_local true left m ty found end us)

print_case : (locals : Bool) (left : ℕ) (system dot out second println o c end : Span) (ts us : List Token) (f : Found) → IsExpr Whole ts f → f.height < left → run (stmt_of (stmts_below left) locals left) (six system dot out second println o (ts ++ sign CLOSE_PAREN c ∷ sign SEMICOLON end ∷ us)) ≡ Ok (print_stmt system f end, us)
print_case locals left system dot out second println o c end ts us f d lt =
    let w = ts ++ sign CLOSE_PAREN c ∷ sign SEMICOLON end ∷ us in
    let x : Complete Whole ts f = complete d in
    unworded locals left (six system dot out second println o w) refl refl refl refl refl refl refl refl refl refl
    ∙ finish locals left (six system dot out second println o w) w us (Print system) (print_stmt system f end) (print_reads locals left system dot out second println o w (omega (arith, lt, tall d)))
    (finish_print locals left system f c end w us (x (left - 1) (sign CLOSE_PAREN c ∷ sign SEMICOLON end ∷ us) (omega (arith, lt)) (after_close_paren c (sign SEMICOLON end ∷ us))))

if_from : (left : ℕ) (start : Span) (f : Found) (a : FoundStmt) (ts us vs : List Token) → run (condition left) ts ≡ Ok (f, us) → run ((stmts_below left).plain) us ≡ Ok (a, vs) → Free ELSE vs → run (if_rule (stmts_below left) left start) ts ≡ Ok (if_stmt start f a, vs)
unfolding if_rule else_part run
if_from left start f a ts us vs h p n = rw (h, p, n) refl

if_else_from : (left : ℕ) (start m : Span) (f : Found) (a b : FoundStmt) (ts us vs ws : List Token) → run (condition left) ts ≡ Ok (f, us) → run ((stmts_below left).plain) us ≡ Ok (a, sign ELSE m ∷ vs) → run ((stmts_below left).plain) vs ≡ Ok (b, ws) → run (if_rule (stmts_below left) left start) ts ≡ Ok (if_else_stmt start f a b, ws)
unfolding if_rule else_part run
if_else_from left start m f a b ts us vs ws h p q = rw (h, p, q) refl

while_from : (left : ℕ) (start : Span) (f : Found) (a : FoundStmt) (ts us vs : List Token) → run (condition left) ts ≡ Ok (f, us) → run ((stmts_below left).plain) us ≡ Ok (a, vs) → run (while_rule (stmts_below left) left start) ts ≡ Ok (while_stmt start f a, vs)
unfolding while_rule run
while_from left start f a ts us vs h p = rw (h, p) refl

do_from : (left : ℕ) (start m end : Span) (f : Found) (a : FoundStmt) (ts us vs : List Token) → run ((stmts_below left).plain) ts ≡ Ok (a, sign WHILE m ∷ us) → run (condition left) us ≡ Ok (f, sign SEMICOLON end ∷ vs) → run (do_rule (stmts_below left) left start) ts ≡ Ok (do_stmt start a f end, vs)
unfolding do_rule run
do_from left start m end f a ts us vs p h = rw (p, h) refl

return_none : (left : ℕ) (start end : Span) (us : List Token) → run (return_rule left start) (sign SEMICOLON end ∷ us) ≡ Ok (return_stmt start None end, us)
unfolding return_rule run
return_none left start end us = refl

return_some : (left : ℕ) (start end : Span) (f : Found) (ts us : List Token) → Free SEMICOLON ts → run (expr (left - 1)) ts ≡ Ok (f, sign SEMICOLON end ∷ us) → run (return_rule left start) ts ≡ Ok (return_stmt start (Some f) end, us)
unfolding return_rule run
return_some left start end f ts us n h = rw (n, h) refl

throw_none : (start m : Span) (x : Ident) (o c end : Span) (us : List Token) → run (throw_rule start) (sign NEW m ∷ name_token x ∷ sign OPEN_PAREN o ∷ sign CLOSE_PAREN c ∷ sign SEMICOLON end ∷ us) ≡ Ok (throw_stmt start x end, us)
unfolding throw_rule throw_end run
throw_none start m x o c end us = refl

throw_some : (start m : Span) (x : Ident) (o : Span) (text : List ℕ) (t c end : Span) (us : List Token) → run (throw_rule start) (sign NEW m ∷ name_token x ∷ sign OPEN_PAREN o ∷ string_token text t ∷ sign CLOSE_PAREN c ∷ sign SEMICOLON end ∷ us) ≡ Ok (throw_stmt start x end, us)
unfolding throw_rule throw_end run
throw_some start m x o text t c end us = refl

block_from : (left : ℕ) (o : Span) (found : Stmts) (r : Span) (ts us : List Token) → run (braces_of (stmts_below left).block with_stmt no_stmts) ts ≡ Ok (placed found r, us) → run (block_rule (stmts_below left) o) ts ≡ Ok (block_stmt o found r, us)
unfolding block_rule run
block_from left o found r ts us h = rw h refl

-- ---- `for`

for_end : (left : ℕ) (start : Span) (first : Stmts) (cond : Option Found) (update : Several) (a : FoundStmt) (ts us : List Token) → run ((stmts_below left).plain) ts ≡ Ok (a, us) → run (for_body (stmts_below left) start first cond update) ts ≡ Ok (for_stmt start first cond update a, us)
unfolding for_body run
for_end left start first cond update a ts us h = rw h refl

update_none : (left : ℕ) (start : Span) (first : Stmts) (cond : Option Found) (r : Span) (ts : List Token) → run (for_update (stmts_below left) left start first cond) (sign CLOSE_PAREN r ∷ ts) ≡ run (for_body (stmts_below left) start first cond no_exprs) ts
unfolding for_update run
update_none left start first cond r ts = refl

-- the expressions of the update
updates : ℕ → Rule Several
updates left = bind (statement_expr (left - 1)) (λ f. more_of (statement_expr (left - 1)) with_expr (one_expr f))

update_some : (left : ℕ) (start : Span) (first : Stmts) (cond : Option Found) (u : Several) (r : Span) (ts us : List Token) → Free CLOSE_PAREN ts → run (updates left) ts ≡ Ok (u, sign CLOSE_PAREN r ∷ us) → run (for_update (stmts_below left) left start first cond) ts ≡ run (for_body (stmts_below left) start first cond u) us
unfolding for_update updates run
update_some left start first cond u r ts us n h = rw n
    (sym (then_assoc (run (statement_expr (left - 1)) ts) (λ f. run (more_of (statement_expr (left - 1)) with_expr (one_expr f))) (λ update. run (take (a_sign CLOSE_PAREN) true (λ right. for_body (stmts_below left) start first cond update) stop)))
    ∙ ap (λ o. and_then o (λ update. run (take (a_sign CLOSE_PAREN) true (λ right. for_body (stmts_below left) start first cond update) stop))) h)

updates_begin : (left : ℕ) (ts : List Token) (f : Found) → IsStatementExpr ts f → f.height < left → (us : List Token) → AfterWhole us → run (updates left) (ts ++ us) ≡ run (more_of (statement_expr (left - 1)) with_expr (one_expr f)) us
unfolding updates
updates_begin left ts f d lt us a = bind_reads (statement_expr (left - 1)) (λ f. more_of (statement_expr (left - 1)) with_expr (one_expr f)) (ts ++ us) us f (statement_reads d.is d.form (left - 1) us (omega (arith, lt)) a)

updates_read : (left : ℕ) (ts : List Token) (u : Several) → IsSeparated IsStatementExpr one_expr with_expr ts u → u.height < left → (r : Span) (us : List Token) → run (updates left) (ts ++ sign CLOSE_PAREN r ∷ us) ≡ Ok (u, sign CLOSE_PAREN r ∷ us)
updates_read left ts u d lt r us =
    separated_reads IsStatementExpr one_expr with_expr (statement_expr (left - 1)) AfterWhole (λ f. f.height < left) (λ s. s.height < left) (λ c us. after_comma c us) (λ f q. omega (arith, q)) (λ s f q. (omega (arith, q), omega (arith, q)))
    (λ ts f i q us c. statement_reads i.is i.form (left - 1) us (omega (arith, q)) c) (run (updates left)) (λ o. o) (updates_begin left) ts u d lt (sign CLOSE_PAREN r ∷ us) (after_close_paren r us)
    ∙ more_done (statement_expr (left - 1)) with_expr u (sign CLOSE_PAREN r ∷ us) refl

separated_free : (n : ℕ) → No n → {S : Type 0} (start : Found → S) (add : S → Found → S) (ts : List Token) (u : S) → IsSeparated IsStatementExpr start add ts u → (us : List Token) → Free n (ts ++ us)
separated_free n h start add _ _ (lists.first_item i) us = expr_starts n h i.is us
separated_free n h start add _ _ (lists.next_item {before} {tokens} {items = s} c d i) us = ap (look (a_sign n)) (append_assoc before (sign COMMA c ∷ tokens) us) ∙ separated_free n h start add before s d (sign COMMA c ∷ (tokens ++ us))

update_reads : (left : ℕ) (start : Span) (first : Stmts) (cond : Option Found) (vs : List Token) (u : Several) → IsUpdate vs u → u.height < left → (r : Span) (ts us : List Token) (a : FoundStmt) → run ((stmts_below left).plain) ts ≡ Ok (a, us)
    → run (for_update (stmts_below left) left start first cond) (vs ++ sign CLOSE_PAREN r ∷ ts) ≡ Ok (for_stmt start first cond u a, us)
update_reads left start first cond _ u g.no_update lt r ts us a h = update_none left start first cond r ts ∙ for_end left start first cond no_exprs a ts us h
update_reads left start first cond _ u (g.updates {ts = vs} d) lt r ts us a h =
    update_some left start first cond u r (vs ++ sign CLOSE_PAREN r ∷ ts) ts (separated_free CLOSE_PAREN (refl, refl, refl) one_expr with_expr vs u d (sign CLOSE_PAREN r ∷ ts)) (updates_read left vs u d lt r ts) ∙ for_end left start first cond u a ts us h

cond_none : (left : ℕ) (start : Span) (first : Stmts) (end : Span) (ts : List Token) → run (for_condition (stmts_below left) left start first) (sign SEMICOLON end ∷ ts) ≡ run (for_update (stmts_below left) left start first None) ts
unfolding for_condition run
cond_none left start first end ts = refl

cond_some : (left : ℕ) (start : Span) (first : Stmts) (f : Found) (end : Span) (ts us : List Token) → Free SEMICOLON ts → run (expr (left - 1)) ts ≡ Ok (f, sign SEMICOLON end ∷ us) → run (for_condition (stmts_below left) left start first) ts ≡ run (for_update (stmts_below left) left start first (Some f)) us
unfolding for_condition run
cond_some left start first f end ts us n h = rw (n, h) refl

cond_reads : (left : ℕ) (start : Span) (first : Stmts) (us : List Token) (cond : Option Found) → IsMaybe us cond → g.maybe_height cond < left → (end : Span) (ts : List Token) → run (for_condition (stmts_below left) left start first) (us ++ sign SEMICOLON end ∷ ts) ≡ run (for_update (stmts_below left) left start first cond) ts
cond_reads left start first _ _ g.absent lt end ts = cond_none left start first end ts
cond_reads left start first _ _ (g.present {ts = us} {f} d) lt end ts = let x : Complete Whole us f = complete d in
    cond_some left start first f end (us ++ sign SEMICOLON end ∷ ts) ts (expr_starts SEMICOLON (refl, refl, refl) d (sign SEMICOLON end ∷ ts)) (x (left - 1) (sign SEMICOLON end ∷ ts) (omega (arith, lt)) (after_semicolon end ts))

first_none : (left : ℕ) (start o end : Span) (ts : List Token) → run (for_rule (stmts_below left) left start) (sign OPEN_PAREN o ∷ sign SEMICOLON end ∷ ts) ≡ run (for_condition (stmts_below left) left start no_stmts) ts
unfolding for_rule run
first_none left start o end ts = refl

firsts : ℕ → Rule Stmts
firsts left = bind (begun false true (left - 1)) (for_part left)

first_some : (left : ℕ) (start o end : Span) (first : Stmts) (ts us : List Token) → Free SEMICOLON ts → run (firsts left) ts ≡ Ok (first, sign SEMICOLON end ∷ us) → run (for_rule (stmts_below left) left start) (sign OPEN_PAREN o ∷ ts) ≡ run (for_condition (stmts_below left) left start first) us
unfolding for_rule firsts run
first_some left start o end first ts us n h = rw n
    (sym (then_assoc (run (begun false true (left - 1)) ts) (λ r. run (for_part left r)) (λ stmts. run (take (a_sign SEMICOLON) true (λ end. for_condition (stmts_below left) left start stmts) stop)))
    ∙ ap (λ o. and_then o (λ stmts. run (take (a_sign SEMICOLON) true (λ end. for_condition (stmts_below left) left start stmts) stop))) h)

firsts_from : (left : ℕ) (ts us : List Token) (r : Begun) → run (begun false true (left - 1)) ts ≡ Ok (r, us) → run (firsts left) ts ≡ run (for_part left r) us
unfolding firsts
firsts_from left ts us r h = bind_reads (begun false true (left - 1)) (for_part left) ts us r h

part_local : (left : ℕ) (m : FoundMods) (ty : FoundType) (found : FoundDecls) (us : List Token) → run (for_part left (Local m ty found)) us ≡ Ok (with_stmt no_stmts (local_stmt m ty found found.end), us)
unfolding for_part run
part_local left m ty found us = refl

part_run : (left : ℕ) (f : Found) (us : List Token) → run (for_part left (Run f)) us ≡ run (more_of (statement_expr (left - 2)) with_run (one_run f)) us
unfolding for_part
part_run left f us = refl

runs_begin : (left : ℕ) (ts : List Token) (f : Found) → IsStatementExpr ts f → f.height + 1 < left → (us : List Token) → AfterWhole us → run (firsts left) (ts ++ us) ≡ run (more_of (statement_expr (left - 2)) with_run (one_run f)) us
runs_begin left ts f d lt us a = firsts_from left (ts ++ us) us (Run f) (expr_begun ts f d false true (left - 1) (omega (arith, lt)) us a (λ t. absurd (cc))) ∙ part_run left f us

runs_read : (left : ℕ) (ts : List Token) (found : Stmts) → IsSeparated IsStatementExpr one_run with_run ts found → found.height < left → (end : Span) (us : List Token) → run (firsts left) (ts ++ sign SEMICOLON end ∷ us) ≡ Ok (found, sign SEMICOLON end ∷ us)
runs_read left ts found d lt end us =
    separated_reads IsStatementExpr one_run with_run (statement_expr (left - 2)) AfterWhole (λ f. f.height + 1 < left) (λ s. s.height < left) (λ c us. after_comma c us) (λ f q. omega (arith, q)) (λ s f q. (omega (arith, q), omega (arith, q)))
    (λ ts f i q us c. statement_reads i.is i.form (left - 2) us (omega (arith, q)) c) (run (firsts left)) (λ o. o) (runs_begin left) ts found d lt (sign SEMICOLON end ∷ us) (after_semicolon end us)
    ∙ more_done (statement_expr (left - 2)) with_run found (sign SEMICOLON end ∷ us) refl

first_reads : (left : ℕ) (start : Span) (vs : List Token) (first : Stmts) → IsForFirst vs first → first.height < left → (o end : Span) (ts : List Token) → run (for_rule (stmts_below left) left start) (sign OPEN_PAREN o ∷ (vs ++ sign SEMICOLON end ∷ ts)) ≡ run (for_condition (stmts_below left) left start first) ts
first_reads left start _ _ g.no_first lt o end ts = first_none left start o end ts
first_reads left start _ _ (g.locals {ts = vs} {mods = m} {ty} {found} d) lt o end ts =
    first_some left start o end (with_stmt no_stmts (local_stmt m ty found found.end)) (vs ++ sign SEMICOLON end ∷ ts) ts (local_starts SEMICOLON refl refl refl refl vs m ty found d (sign SEMICOLON end ∷ ts))
    (firsts_from left (vs ++ sign SEMICOLON end ∷ ts) (sign SEMICOLON end ∷ ts) (Local m ty found) (local_reads vs m ty found d false (left - 1) (omega (arith, lt)) end ts) ∙ part_local left m ty found (sign SEMICOLON end ∷ ts))
first_reads left start _ first (g.runs {ts = vs} d) lt o end ts =
    first_some left start o end first (vs ++ sign SEMICOLON end ∷ ts) ts (separated_free SEMICOLON (refl, refl, refl) one_run with_run vs first d (sign SEMICOLON end ∷ ts)) (runs_read left vs first d lt end ts)

-- ---- what is in the grammar is read

abbrev pub CompleteBlock : List Token → FoundStmt → Type 0
CompleteBlock ts a = (left : ℕ) (us : List Token) → a.height ≤ left → Free ELSE us → run (block_statement left) (ts ++ us) ≡ Ok (a, us)

abbrev pub CompleteStmts : List Token → Stmts → Type 0
CompleteStmts ts found = (left : ℕ) (us : List Token) → found.height < left → Free ELSE us
    → run (loop (next_inside (stmts_below left).block with_stmt) no_stmts) (ts ++ us) ≡ run (loop (next_inside (stmts_below left).block with_stmt) found) us

inside_body : (p : Rule FoundStmt) (found : Stmts) (a : FoundStmt) (ts us : List Token) → Free CLOSE_BRACE ts → run p ts ≡ Ok (a, us) → run (next_inside p with_stmt found) ts ≡ Ok (On (with_stmt found a), us)
unfolding next_inside run
inside_body p found a ts us n h = rw (n, h) refl

inside_end : (p : Rule FoundStmt) (found : Stmts) (r : Span) (us : List Token) → run (next_inside p with_stmt found) (sign CLOSE_BRACE r ∷ us) ≡ Ok (Done (placed found r), us)
unfolding next_inside run
inside_end p found r us = refl

braces_from : (p : Rule FoundStmt) (ts us : List Token) (found : Stmts) (r : Span) → run (loop (next_inside p with_stmt) no_stmts) ts ≡ Ok (placed found r, us) → run (braces_of p with_stmt no_stmts) ts ≡ Ok (placed found r, us)
unfolding braces_of
braces_from p ts us found r h = h

pub tall_stmt : {ends : Bool} {ts : List Token} {a : FoundStmt} → IsStmt ends ts a → 0 < a.height
tall_stmt (g.block l r d) = omega arith
tall_stmt (g.empty end) = omega arith
tall_stmt (g.if_then a b c d x) = omega arith
tall_stmt (g.if_else a b c m d x y) = omega arith
tall_stmt (g.while_do a b c d x) = omega arith
tall_stmt (g.do_while a b c d end x y) = omega arith
tall_stmt (g.for_do a b c d f x y z w) = omega arith
tall_stmt (g.breaks a b) = omega arith
tall_stmt (g.continues a b) = omega arith
tall_stmt (g.returns a b d) = omega arith
tall_stmt (g.throws a b x l r end d) = omega arith
tall_stmt (g.print a b c d f l r end x) = omega arith
tall_stmt (g.runs end d p) = omega arith

-- a statement begins with a sign that is none of these, a name or an expression
stmt_free : (n : ℕ) → No n → (OPEN_BRACE == n) ≡ false → (SEMICOLON == n) ≡ false → (IF == n) ≡ false → (WHILE == n) ≡ false → (DO == n) ≡ false → (FOR == n) ≡ false → (BREAK == n) ≡ false → (CONTINUE == n) ≡ false → (RETURN == n) ≡ false → (THROW == n) ≡ false
    → {ends : Bool} {ts : List Token} {a : FoundStmt} → IsStmt ends ts a → (us : List Token) → Free n (ts ++ us)
stmt_free n h a b c d e f i j l m (g.block o r x) us = rw a refl
stmt_free n h a b c d e f i j l m (g.empty end) us = rw b refl
stmt_free n h a b c d e f i j l m (g.if_then s o p x y) us = rw c refl
stmt_free n h a b c d e f i j l m (g.if_else s o p q x y z) us = rw c refl
stmt_free n h a b c d e f i j l m (g.while_do s o p x y) us = rw d refl
stmt_free n h a b c d e f i j l m (g.do_while s o p q r x y) us = rw e refl
stmt_free n h a b c d e f i j l m (g.for_do s o p q r x y z w) us = rw f refl
stmt_free n h a b c d e f i j l m (g.breaks s o) us = rw i refl
stmt_free n h a b c d e f i j l m (g.continues s o) us = rw j refl
stmt_free n h a b c d e f i j l m (g.returns s o x) us = rw l refl
stmt_free n h a b c d e f i j l m (g.throws s o x p q r y) us = rw m refl
stmt_free n h a b c d e f i j l m (g.print s o p q r u v w x) us = refl
stmt_free n h a b c d e f i j l m (g.runs end {ts} x p) us = ap (look (a_sign n)) (append_assoc ts (sign SEMICOLON end ∷ []) us) ∙ expr_starts n h x.is (sign SEMICOLON end ∷ us)

block_free : (n : ℕ) → No n → (OPEN_BRACE == n) ≡ false → (SEMICOLON == n) ≡ false → (IF == n) ≡ false → (WHILE == n) ≡ false → (DO == n) ≡ false → (FOR == n) ≡ false → (BREAK == n) ≡ false → (CONTINUE == n) ≡ false → (RETURN == n) ≡ false → (THROW == n) ≡ false
    → row local_words n ≡ None → (AT == n) ≡ false → (INT == n) ≡ false → (BOOLEAN == n) ≡ false → {ts : List Token} {a : FoundStmt} → IsBlockStmt ts a → (us : List Token) → Free n (ts ++ us)
block_free n h a b c d e f i j l m w x y z (g.locals end {ts} {mods = q} {ty} {found} v) us = ap (look (a_sign n)) (append_assoc ts (sign SEMICOLON end ∷ []) us) ∙ local_starts n w x y z ts q ty found v (sign SEMICOLON end ∷ us)
block_free n h a b c d e f i j l m w x y z (g.stmt v) us = stmt_free n h a b c d e f i j l m v us

pub no_else : {ts : List Token} {a : FoundStmt} → IsBlockStmt ts a → (us : List Token) → Free ELSE (ts ++ us)
no_else d us = block_free ELSE (refl, refl, refl) refl refl refl refl refl refl refl refl refl refl refl refl refl refl d us

pub no_brace : {ts : List Token} {a : FoundStmt} → IsBlockStmt ts a → (us : List Token) → Free CLOSE_BRACE (ts ++ us)
no_brace d us = block_free CLOSE_BRACE (refl, refl, refl) refl refl refl refl refl refl refl refl refl refl refl refl refl refl d us

pub no_super : {ts : List Token} {a : FoundStmt} → IsBlockStmt ts a → (us : List Token) → Free SUPER (ts ++ us)
no_super d us = block_free SUPER (refl, refl, refl) refl refl refl refl refl refl refl refl refl refl refl refl refl refl d us

pub takes_stmt : {ends : Bool} {ts : List Token} {a : FoundStmt} → IsStmt ends ts a → 0 < length ts
takes_stmt (g.block l r d) = omega arith
takes_stmt (g.empty end) = omega arith
takes_stmt (g.if_then a b c d x) = omega arith
takes_stmt (g.if_else a b c m d x y) = omega arith
takes_stmt (g.while_do a b c d x) = omega arith
takes_stmt (g.do_while a b c d end x y) = omega arith
takes_stmt (g.for_do a b c d f x y z w) = omega arith
takes_stmt (g.breaks a b) = omega arith
takes_stmt (g.continues a b) = omega arith
takes_stmt (g.returns a b d) = omega arith
takes_stmt (g.throws a b x l r end d) = omega arith
takes_stmt (g.print a b c d f l r end x) = omega arith
takes_stmt (g.runs end {ts} d p) = omega (arith, length-append ts (sign SEMICOLON end ∷ []))

pub takes_block : {ts : List Token} {a : FoundStmt} → IsBlockStmt ts a → 0 < length ts
takes_block (g.locals end {ts} d) = omega (arith, length-append ts (sign SEMICOLON end ∷ []))
takes_block (g.stmt d) = takes_stmt d

mutual
  pub complete_stmt : {ends : Bool} {ts : List Token} {a : FoundStmt} → IsStmt ends ts a → CompleteStmt ends ts a
  complete_stmt (g.block l r {ts} {found} d) = λ locals left us le f. rw append_assoc
      (block_step locals left l (ts ++ sign CLOSE_BRACE r ∷ us) (omega (arith, le)) ∙ block_from left l found r (ts ++ sign CLOSE_BRACE r ∷ us) us
      (braces_from (stmts_below left).block (ts ++ sign CLOSE_BRACE r ∷ us) us found r (complete_stmts d left (sign CLOSE_BRACE r ∷ us) (omega (arith, le)) refl
      ∙ loop_done (next_inside (stmts_below left).block with_stmt) found (placed found r) (sign CLOSE_BRACE r ∷ us) us (inside_end (stmts_below left).block found r us))))
  complete_stmt (g.empty end) = λ locals left us le f. empty_reads locals left end us (omega (arith, le))
  complete_stmt (g.if_then start o c {ends} {ts} {us = later} {f = h} {found = a} d x) = λ locals left us le f. rw append_assoc
      (if_step locals left start (sign OPEN_PAREN o ∷ (ts ++ sign CLOSE_PAREN c ∷ (later ++ us))) (omega (arith, le, tall d)) ∙ if_from left start h a (sign OPEN_PAREN o ∷ (ts ++ sign CLOSE_PAREN c ∷ (later ++ us))) (later ++ us) us
      (in_parens ts h d left (omega (arith, le)) o c (later ++ us)) (plain_reads ends later a (complete_stmt x) left us (omega (arith, le)) (λ t. f refl)) (f refl))
  complete_stmt (g.if_else start o c m {ends} {ts} {us = later} {vs = more} {f = h} {found = a} {other = b} d x y) = λ locals left us le f. rw (append_assoc, append_assoc)
      (if_step locals left start (sign OPEN_PAREN o ∷ (ts ++ sign CLOSE_PAREN c ∷ (later ++ sign ELSE m ∷ (more ++ us)))) (omega (arith, le, tall d))
      ∙ if_else_from left start m h a b (sign OPEN_PAREN o ∷ (ts ++ sign CLOSE_PAREN c ∷ (later ++ sign ELSE m ∷ (more ++ us)))) (later ++ sign ELSE m ∷ (more ++ us)) (more ++ us) us
      (in_parens ts h d left (omega (arith, le)) o c (later ++ sign ELSE m ∷ (more ++ us))) (plain_reads false later a (complete_stmt x) left (sign ELSE m ∷ (more ++ us)) (omega (arith, le)) (λ t. absurd (cc))) (plain_reads ends more b (complete_stmt y) left us (omega (arith, le)) f))
  complete_stmt (g.while_do start o c {ends} {ts} {us = later} {f = h} {found = a} d x) = λ locals left us le f. rw append_assoc
      (while_step locals left start (sign OPEN_PAREN o ∷ (ts ++ sign CLOSE_PAREN c ∷ (later ++ us))) (omega (arith, le, tall d)) ∙ while_from left start h a (sign OPEN_PAREN o ∷ (ts ++ sign CLOSE_PAREN c ∷ (later ++ us))) (later ++ us) us
      (in_parens ts h d left (omega (arith, le)) o c (later ++ us)) (plain_reads ends later a (complete_stmt x) left us (omega (arith, le)) f))
  complete_stmt (g.do_while start m o c end {ends} {ts} {us = later} {f = h} {found = a} x d) = λ locals left us le f. rw (append_assoc, append_assoc)
      (do_step locals left start (later ++ sign WHILE m ∷ sign OPEN_PAREN o ∷ (ts ++ sign CLOSE_PAREN c ∷ sign SEMICOLON end ∷ us)) (omega (arith, le, tall d))
      ∙ do_from left start m end h a (later ++ sign WHILE m ∷ sign OPEN_PAREN o ∷ (ts ++ sign CLOSE_PAREN c ∷ sign SEMICOLON end ∷ us)) (sign OPEN_PAREN o ∷ (ts ++ sign CLOSE_PAREN c ∷ sign SEMICOLON end ∷ us)) us
      (plain_reads ends later a (complete_stmt x) left (sign WHILE m ∷ sign OPEN_PAREN o ∷ (ts ++ sign CLOSE_PAREN c ∷ sign SEMICOLON end ∷ us)) (omega (arith, le)) (λ t. refl)) (in_parens ts h d left (omega (arith, le)) o c (sign SEMICOLON end ∷ us)))
  complete_stmt (g.for_do start o fe ce r {ends} {ts} {us = mid} {vs} {ws} {first} {cond} {update} {found = a} x y z w) = λ locals left us le f. rw (append_assoc, append_assoc, append_assoc)
      (for_step locals left start (sign OPEN_PAREN o ∷ (ts ++ sign SEMICOLON fe ∷ (mid ++ sign SEMICOLON ce ∷ (vs ++ sign CLOSE_PAREN r ∷ (ws ++ us))))) (omega (arith, le, tall_stmt w))
      ∙ first_reads left start ts first x (omega (arith, le)) o fe (mid ++ sign SEMICOLON ce ∷ (vs ++ sign CLOSE_PAREN r ∷ (ws ++ us)))
      ∙ cond_reads left start first mid cond y (omega (arith, le)) ce (vs ++ sign CLOSE_PAREN r ∷ (ws ++ us))
      ∙ update_reads left start first cond vs update z (omega (arith, le)) r (ws ++ us) us a (plain_reads ends ws a (complete_stmt w) left us (omega (arith, le)) f))
  complete_stmt (g.breaks start end) = λ locals left us le f. break_reads locals left start end us (omega (arith, le))
  complete_stmt (g.continues start end) = λ locals left us le f. continue_reads locals left start end us (omega (arith, le))
  complete_stmt (g.returns start end g.absent) = λ locals left us le f. return_step locals left start (sign SEMICOLON end ∷ us) (omega (arith, le)) ∙ return_none left start end us
  complete_stmt (g.returns start end (g.present {ts} {f = h} d)) = λ locals left us le f. let x : Complete Whole ts h = complete d in rw append_assoc
      (return_step locals left start (ts ++ sign SEMICOLON end ∷ us) (omega (arith, le)) ∙ return_some left start end h (ts ++ sign SEMICOLON end ∷ us) us (expr_starts SEMICOLON (refl, refl, refl) d (sign SEMICOLON end ∷ us)) (x (left - 1) (sign SEMICOLON end ∷ us) (omega (arith, le)) (after_semicolon end us)))
  complete_stmt (g.throws start m x o c end g.no_reason) = λ locals left us le f. throw_step locals left start (sign NEW m ∷ name_token x ∷ sign OPEN_PAREN o ∷ sign CLOSE_PAREN c ∷ sign SEMICOLON end ∷ us) (omega (arith, le)) ∙ throw_none start m x o c end us
  complete_stmt (g.throws start m x o c end (g.reason text t)) = λ locals left us le f. throw_step locals left start (sign NEW m ∷ name_token x ∷ sign OPEN_PAREN o ∷ string_token text t ∷ sign CLOSE_PAREN c ∷ sign SEMICOLON end ∷ us) (omega (arith, le)) ∙ throw_some start m x o text t c end us
  complete_stmt (g.print system dot out second println o c end {ts} {f = h} d) = λ locals left us le f. rw append_assoc (print_case locals left system dot out second println o c end ts us h d (omega (arith, le)))
  complete_stmt (g.runs end {ts} {f = h} d p) = λ locals left us le f. rw append_assoc (run_case locals left end ts us h d p (omega (arith, le)))

  pub complete_block : {ts : List Token} {a : FoundStmt} → IsBlockStmt ts a → CompleteBlock ts a
  complete_block (g.locals end {ts} {mods = m} {ty} {found} d) = λ left us le n. rw append_assoc (local_case left end ts us m ty found d (omega (arith, le)))
  complete_block (g.stmt d) = λ left us le n. complete_stmt d true left us le (λ t. n)

  pub complete_stmts : {ts : List Token} {found : Stmts} → IsStmts ts found → CompleteStmts ts found
  complete_stmts g.none = λ left us le n. refl
  complete_stmts (g.one_more {ts} {us = later} {found} {last = a} d x) = λ left us le n. rw append_assoc
      (complete_stmts d left (later ++ us) (omega (arith, le)) (no_else x us)
      ∙ loop_on (next_inside (stmts_below left).block with_stmt) found (with_stmt found a) (later ++ us) us
      (inside_body (stmts_below left).block found a (later ++ us) us (no_brace x us) (rw (block_below left (left - 1) (omega (arith, le))) (complete_block x (left - 1) us (omega (arith, le)) n)))
      (omega (arith, length-append later us, takes_block x)))
