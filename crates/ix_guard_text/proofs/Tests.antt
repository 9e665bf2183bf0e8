-- The tests before a statement: their bytes are their tokens, and these are statements.
use Rattle.std.proofs.Common.{◌≡◌, ℕ, true, false, if◌then◌else◌, List, [], ◌∷◌, ◌++◌, map, refl, sym, ap, subst, ◌∙◌, append_assoc, append-nil}
use Rattle.std.specs.Prelude.{codes}
use Rattle.ix_text.specs.declared.span.Span.{Span}
use Rattle.ix_lexer.specs.declared.token.Token.{Token}
use Rattle.ix_tree.specs.declared.decl.LocalDecl.{LocalDecl}
use Rattle.ix_tree.specs.declared.expr.Expr.{Expr}
use Rattle.ix_tree.specs.declared.stmt.Stmt.{Stmt}
use Rattle.ix_grammar.specs.declared.classes.Stmts.{Stmts}
use Rattle.ix_grammar.specs.declared.found.FoundStmt.{FoundStmt}
use Rattle.ix_grammar.specs.ClassGrammar.{no_stmts, with_stmt}
use Rattle.ix_grammar.specs.StmtGrammar as g
use Rattle.ix_grammar.specs.StmtGrammar.{IsBlockStmt, IsStmts}
use Rattle.ix_guard_text.specs.Bare.{bare_stmt}
use Rattle.ix_guard_text.proofs.ClassesAgain.{map_both}
use Rattle.ix_guard_text.specs.Woven.{IsInserted}
use Rattle.ix_guard_text.specs.Names.{Piece}
use Rattle.ix_guard_text.proofs.Readings.{no_piece, two_pieces, inserted_piece}
use Rattle.ix_guard.specs.Accesses.{Access, parts_of, all_decl_parts}
use Rattle.ix_guard.specs.Tests.{Site, Changes, Pair, pair_of, is_tested, test, tests_behind, expression_tests, declaration_tests}
use Rattle.ix_guard.specs.Trees.{tested_behind, expression_tested, declaration_tested, test_tree, test_trees}
use Rattle.ix_guard_text.proofs.NamedAccesses.{AllNamed}
use Rattle.ix_guard_text.proofs.TestTokens.{test_tokens, test_made}
use Rattle.ix_guard_text.proofs.TestTexts.{test_piece, open_token, close_token, open_piece, close_piece}

-- ---- bytes

abbrev pub bytes_of : List Access → List ℕ
bytes_of [] = []
bytes_of (access ∷ rest) = test access ++ bytes_of rest

behind_bytes : (site : Site) (changes : Changes) (before : List Pair) (accesses : List Access) → tests_behind site changes before accesses ≡ bytes_of (tested_behind site changes before accesses)
behind_bytes site changes before [] = refl
behind_bytes site changes before (access ∷ rest) =
    elim (is_tested site changes before access) as (λ t. (if t then test access ++ tests_behind site changes (before ++ pair_of site access ∷ []) rest else tests_behind site changes before rest)
    ≡ bytes_of (if t then access ∷ tested_behind site changes (before ++ pair_of site access ∷ []) rest else tested_behind site changes before rest)) [
      | true ↦ ap (λ l. test access ++ l) (behind_bytes site changes (before ++ pair_of site access ∷ []) rest)
      | false ↦ behind_bytes site changes before rest
    ]

pub expression_bytes : (site : Site) (x : Expr) → expression_tests site x ≡ bytes_of (expression_tested site x)
expression_bytes site x = behind_bytes site (record { assigned = map site.names.meaning (parts_of x).assigned; declared = [] }) [] (parts_of x).accesses

pub declaration_bytes : (site : Site) (decls : List LocalDecl) → declaration_tests site decls ≡ bytes_of (declaration_tested site decls)
declaration_bytes site decls = behind_bytes site (record { assigned = map site.names.meaning (all_decl_parts decls).assigned; declared = decls }) [] (all_decl_parts decls).accesses

-- ---- names

behind_named : (site : Site) (changes : Changes) (before : List Pair) (accesses : List Access) → AllNamed accesses → AllNamed (tested_behind site changes before accesses)
behind_named site changes before [] h = tt
behind_named site changes before (access ∷ rest) h =
    elim (is_tested site changes before access) as (λ t. AllNamed (if t then access ∷ tested_behind site changes (before ++ pair_of site access ∷ []) rest else tested_behind site changes before rest)) [
      | true ↦ (h.0, behind_named site changes (before ++ pair_of site access ∷ []) rest h.1)
      | false ↦ behind_named site changes before rest h.1
    ]

pub expression_named : (site : Site) (x : Expr) → AllNamed (parts_of x).accesses → AllNamed (expression_tested site x)
expression_named site x h = behind_named site (record { assigned = map site.names.meaning (parts_of x).assigned; declared = [] }) [] (parts_of x).accesses h

pub declaration_named : (site : Site) (decls : List LocalDecl) → AllNamed (all_decl_parts decls).accesses → AllNamed (declaration_tested site decls)
declaration_named site decls h = behind_named site (record { assigned = map site.names.meaning (all_decl_parts decls).assigned; declared = decls }) [] (all_decl_parts decls).accesses h

-- ---- tokens

abbrev pub tokens_of : List Access → List Token
tokens_of [] = []
tokens_of (access ∷ rest) = test_tokens access ++ tokens_of rest

abbrev tests_piece : (accesses : List Access) → AllNamed accesses → Piece (bytes_of accesses) (tokens_of accesses)
tests_piece [] h = no_piece
tests_piece (access ∷ rest) h = two_pieces (test access) (bytes_of rest) (test_tokens access) (tokens_of rest) (test_piece access h.0.array h.0.index) (tests_piece rest h.1)

pub tests_inserted : (access : Access) (rest : List Access) → AllNamed (access ∷ rest) → IsInserted (bytes_of (access ∷ rest)) 105 (tokens_of (access ∷ rest))
tests_inserted access rest h = inserted_piece (bytes_of (access ∷ rest)) 105 _ (tokens_of (access ∷ rest)) (tests_piece (access ∷ rest) h) refl

pub opening_inserted : (accesses : List Access) → AllNamed accesses → IsInserted (codes "{ " ++ bytes_of accesses) 123 (open_token ∷ tokens_of accesses)
opening_inserted accesses h =
    inserted_piece (codes "{ " ++ bytes_of accesses) 123 _ (open_token ∷ tokens_of accesses) (two_pieces (codes "{ ") (bytes_of accesses) (open_token ∷ []) (tokens_of accesses) open_piece (tests_piece accesses h)) refl

pub closing_inserted : IsInserted (codes " }") 32 (close_token ∷ [])
closing_inserted = inserted_piece (codes " }") 32 _ (close_token ∷ []) close_piece refl

-- ---- statements

-- These tokens are statements, which are these up to places.
pub record Listed (ts : List Token) (statements : List Stmt) : Type 0 where
  pub found : Stmts
  pub is : IsStmts ts found
  pub same : map bare_stmt found.stmts ≡ map bare_stmt statements

-- statements behind others
stmts_both : (ts us : List Token) (x y : Stmts) → IsStmts ts x → IsStmts us y → (z : Stmts) × IsStmts (ts ++ us) z × (z.stmts ≡ x.stmts ++ y.stmts)
stmts_both ts _ x _ c g.none = (x, subst (λ l. IsStmts l x) (sym (append-nil ts)) c, sym (append-nil x.stmts))
stmts_both ts _ x _ c (g.one_more {ts = us} {us = vs} {found} {last} b s) =
    let r = stmts_both ts us x found c b in
    (with_stmt r.0 last, subst (λ l. IsStmts l (with_stmt r.0 last)) (append_assoc ts us vs) (g.one_more r.1 s), ap (λ l. l ++ last.stmt ∷ []) r.2 ∙ append_assoc x.stmts found.stmts (last.stmt ∷ []))

pub no_statements : Listed [] []
no_statements = record { found = no_stmts; is = g.none; same = refl }

pub one_statement : (ts : List Token) (x : FoundStmt) (y : Stmt) → IsBlockStmt ts x → bare_stmt x.stmt ≡ bare_stmt y → Listed ts (y ∷ [])
one_statement ts x y c e = record { found = with_stmt no_stmts x; is = g.one_more g.none c; same = ap (λ z. z ∷ []) e }

pub listed_both : (ts us : List Token) (xs ys : List Stmt) → Listed ts xs → Listed us ys → Listed (ts ++ us) (xs ++ ys)
listed_both ts us xs ys a b =
    let r = stmts_both ts us a.found b.found a.is b.is in
    record {
      found = r.0;
      is = r.1;
      same = ap (map bare_stmt) r.2 ∙ map_both bare_stmt a.found.stmts b.found.stmts ∙ ap (λ l. l ++ map bare_stmt b.found.stmts) a.same ∙ ap (λ l. map bare_stmt xs ++ l) b.same ∙ sym (map_both bare_stmt xs ys);
    }

pub tests_listed : (span : Span) (accesses : List Access) → Listed (tokens_of accesses) (test_trees span accesses)
tests_listed span [] = no_statements
tests_listed span (access ∷ rest) =
    let made = test_made span access in
    listed_both (test_tokens access) (tokens_of rest) (test_tree span access ∷ []) (test_trees span rest) (one_statement (test_tokens access) made.found (test_tree span access) (g.stmt made.is) made.same) (tests_listed span rest)
