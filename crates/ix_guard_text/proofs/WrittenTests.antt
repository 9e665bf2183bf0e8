-- The tokens of tests at any places are statements, each of which is its access's test with its parts where its tokens stand.
use Rattle.std.proofs.Common.{◌≡◌, ℕ, suc, true, List, [], ◌∷◌, ◌++◌, refl, sym, ap, subst, ◌∙◌, append_assoc, append-nil}
use Rattle.std.specs.Prelude.{codes, pos}
use Rattle.ix_num.specs.declared.rel.Rel.TheVariants.{Eq, Lt, Ge}
use Rattle.ix_lexer.specs.declared.token.Token.{Token}
use Rattle.ix_lexer.specs.declared.fixed.TheConstants.{LESS, EQUAL, GREATER_OR_EQUAL, OR_ELSE}
use Rattle.ix_tree.specs.declared.expr.BinaryOp.TheVariants.{Compare, OrElse}
use Rattle.ix_grammar.specs.declared.classes.Stmts.{Stmts}
use Rattle.ix_grammar.specs.declared.found.Found.{Found}
use Rattle.ix_grammar.specs.declared.found.FoundStmt.{FoundStmt}
use Rattle.ix_grammar.specs.Nodes.{across}
use Rattle.ix_grammar.specs.ClassGrammar.{no_stmts, with_stmt}
use Rattle.ix_grammar.specs.ExprGrammar as g
use Rattle.ix_grammar.specs.ExprGrammar.{IsExpr, Level}
use Rattle.ix_grammar.specs.StmtGrammar as t
use Rattle.ix_grammar.specs.StmtGrammar.{IsStmt, IsStmts}
use Rattle.ix_guard_text.specs.Respanned.{Places, behind, respanned}
use Rattle.ix_guard.specs.Accesses.{Access}
use Rattle.ix_guard.specs.Trees.{ident}
use Rattle.ix_guard_text.proofs.TestTokens.{test_tokens}
use Rattle.ix_guard_text.proofs.Tests.{tokens_of}
use Rattle.ix_guard_text.specs.Moved.{Move}
use Rattle.ix_guard_text.specs.GuardedPlaces as q
use Rattle.ix_guard_text.specs.GuardedPlaces.{AreTests}
use Rattle.ix_guard_text.specs.Interleaved.{news}
use Rattle.ix_guard_text.specs.TestParts.{Parts, guard_of, IsWritten}
use Rattle.ix_guard_text.proofs.Realisations.{AllNew, new_parts}

-- ---- one test

-- The parts of a test whose tokens stand at these places: `if ( array == null || index < 0 || index >= array . length ) throw new Thrown ( "guard" ) ;`
abbrev parts_at : Places → Access → Parts
parts_at at access = record {
  null_array = ident access.array.text (at 2);
  negative_index = ident access.index.text (at 6);
  high_index = ident access.index.text (at 10);
  length_array = ident access.array.text (at 12);
  length = ident (codes "length") (at 14);
  thrown = ident (codes "IndexOutOfBoundsException") (at 18);
  null = at 4;
  zero = at 8;
  selection = across (at 12) (at 14);
  is_null = across (at 2) (at 4);
  is_negative = across (at 6) (at 8);
  is_too_high = across (at 10) (at 14);
  first_two = across (at 2) (at 8);
  condition = across (at 2) (at 14);
  throw = across (at 16) (at 22);
  whole = across (at 0) (at 22);
}

-- each begins where a token does, and none of these is old
parts_new : (move : Move) (at : Places) (access : Access) → AllNew move at (news (test_tokens access)) → IsWritten move access (parts_at at access)
parts_new move at access h =
    let at2 = h.1.1 in
    let at4 = at2.1.1 in
    let at6 = at4.1.1 in
    let at8 = at6.1.1 in
    let at10 = at8.1.1 in
    let at12 = at10.1.1 in
    let at14 = at12.1.1 in
    let at16 = at14.1.1 in
    let at18 = at16.1.1 in
    record {
      names = record { null_array = refl; negative_index = refl; high_index = refl; length_array = refl; length = refl; thrown = refl };
      new = (at2.0, (at6.0, (at10.0, (at12.0, (at14.0, (at18.0, (at4.0, (at8.0, (at12.0, (at2.0, (at6.0, (at10.0, (at2.0, (at2.0, (at16.0, (h.0, tt))))))))))))))));
    }

-- what is of one level is of the fourth above it
up4 : {level : ℕ} {ts : List Token} {f : Found} → IsExpr (Level level) ts f → IsExpr (Level (suc (suc (suc (suc level))))) ts f
up4 d = g.wider (g.wider (g.wider (g.wider d)))

-- These tokens are the test with these parts.
record TestMade (ts : List Token) (parts : Parts) : Type 0 where
  pub found : FoundStmt
  pub is : IsStmt true ts found
  pub same : found.stmt ≡ guard_of parts

test_made : (at : Places) (access : Access) → TestMade (respanned at (test_tokens access)) (parts_at at access)
test_made at access =
    let null_test = g.operators 4 EQUAL (Compare Eq) (at 3) refl (g.wider (up4 (g.primary (g.variable (ident access.array.text (at 2)))))) (up4 (g.primary (g.null (at 4)))) in
    let negative_test = g.operators 3 LESS (Compare Lt) (at 7) refl (up4 (g.primary (g.variable (ident access.index.text (at 6))))) (g.wider (g.wider (g.wider (g.primary (g.number (pos 0) (at 8)))))) in
    let length = g.select (at 13) (ident (codes "length") (at 14)) (g.variable (ident access.array.text (at 12))) in
    let high_test = g.operators 3 GREATER_OR_EQUAL (Compare Ge) (at 11) refl (up4 (g.primary (g.variable (ident access.index.text (at 10))))) (g.wider (g.wider (g.wider (g.primary length)))) in
    let first_two = g.operators 9 OR_ELSE OrElse (at 5) refl (g.wider (up4 null_test)) (g.wider (up4 negative_test)) in
    let condition = g.operators 9 OR_ELSE OrElse (at 9) refl first_two (g.wider (up4 high_test)) in
    let thrown = t.throws (at 16) (at 17) (ident (codes "IndexOutOfBoundsException") (at 18)) (at 19) (at 21) (at 22) (t.reason (codes "guard") (at 20)) in
    record { found = _; is = t.if_then (at 0) (at 1) (at 15) (g.binary condition) thrown; same = refl }

-- ---- several

-- statements behind others
pub stmts_both : (ts us : List Token) (x y : Stmts) → IsStmts ts x → IsStmts us y → (z : Stmts) × IsStmts (ts ++ us) z × (z.stmts ≡ x.stmts ++ y.stmts)
stmts_both ts _ x _ c t.none = (x, subst (λ l. IsStmts l x) (sym (append-nil ts)) c, sym (append-nil x.stmts))
stmts_both ts _ x _ c (t.one_more {ts = us} {us = vs} {found} {last} b s) =
    let r = stmts_both ts us x found c b in
    (with_stmt r.0 last, subst (λ l. IsStmts l (with_stmt r.0 last)) (append_assoc ts us vs) (t.one_more r.1 s), ap (λ l. l ++ last.stmt ∷ []) r.2 ∙ append_assoc x.stmts found.stmts (last.stmt ∷ []))

-- These tokens are the tests of these accesses.
pub record TestsMade (move : Move) (ts : List Token) (accesses : List Access) : Type 0 where
  pub found : Stmts
  pub is : IsStmts ts found
  pub are : AreTests (IsWritten move) accesses found.stmts

pub tests_made : (move : Move) (at : Places) (accesses : List Access) → AllNew move at (news (tokens_of accesses)) → TestsMade move (respanned at (tokens_of accesses)) accesses
tests_made move at [] h = record { found = no_stmts; is = t.none; are = q.none }
tests_made move at (access ∷ rest) h =
    let first = test_tokens access in
    let new = new_parts move (news first) (news (tokens_of rest)) at h in
    let one = test_made at access in
    let more = tests_made move (behind first at) rest new.1 in
    let both = stmts_both (respanned at first) (respanned (behind first at) (tokens_of rest)) (with_stmt no_stmts one.found) more.found (t.one_more t.none (t.stmt one.is)) more.is in
    let Tests = AreTests (IsWritten move) (access ∷ rest) in
    let are : Tests (guard_of (parts_at at access) ∷ more.found.stmts) = q.one_more access (parts_at at access) (parts_new move at access new.0) more.are in
    record { found = both.0; is = both.1; are = subst Tests (sym both.2) (subst (λ x. Tests (x ∷ more.found.stmts)) (sym one.same) are) }
