-- A statement with its tests in a block: the tokens that are put around it, and what they are.
use Rattle.std.proofs.Common.{◌≡◌, ℕ, Bool, false, List, [], ◌∷◌, ◌++◌, refl, sym, ap, subst, append_assoc, append-nil}
use Rattle.std.specs.Prelude.{codes}
use Rattle.ix_text.specs.declared.span.Span.{Span}
use Rattle.ix_lexer.specs.declared.token.Token.{Token}
use Rattle.ix_tree.specs.declared.stmt.Stmt.{Stmt}
use Rattle.ix_tree.specs.declared.stmt.StmtKind.TheVariants as s
use Rattle.ix_grammar.specs.declared.found.FoundStmt.{FoundStmt}
use Rattle.ix_grammar.specs.Nodes.{across}
use Rattle.ix_grammar.specs.StmtGrammar as g
use Rattle.ix_grammar.specs.StmtGrammar.{IsStmt}
use Rattle.ix_guard_text.specs.Bare.{nowhere, bare_stmt}
use Rattle.ix_guard_text.proofs.StmtsAgain.{node_same, block_same}
use Rattle.ix_guard_text.specs.Woven.{Added, is_word_like, Woven, done, keep, before, behind}
use Rattle.ix_guard.specs.declared.insertion.Insertion.{Insertion}
use Rattle.ix_guard.specs.Accesses.{Access}
use Rattle.ix_guard.specs.Guards.{opening, closing}
use Rattle.ix_guard.specs.Trees.{Guarded, alone, test_trees}
use Rattle.ix_guard_text.specs.Inserted.{of_insertion, added}
use Rattle.ix_guard_text.proofs.NamedAccesses.{AllNamed}
use Rattle.ix_guard_text.proofs.TestTexts.{open_token, close_token}
use Rattle.ix_guard_text.proofs.Tests.{bytes_of, tokens_of, opening_inserted, closing_inserted, one_statement, listed_both, tests_listed}

-- ---- insertions

pub added_both : (xs ys : List Insertion) → added (xs ++ ys) ≡ added xs ++ added ys
added_both [] ys = refl
added_both (x ∷ xs) ys = ap (λ l. of_insertion x ∷ l) (added_both xs ys)

-- ---- woven tokens one behind the other

pub chained : {word mid last : Bool} {at far end : ℕ} {olds more news others : List Token} {first second : List Added} → Woven word at olds first news mid far → Woven mid far more second others last end
    → Woven word at (olds ++ more) (first ++ second) (news ++ others) last end
chained done v = v
chained (keep t w) v = keep t (chained w v)
chained {others = others} (before {news} t new first tokens here x may w) v = rw (append_assoc tokens (t ∷ news) others) (before t new first tokens here x may (chained w v))
chained {others = others} (behind {news} new tokens here x w) v = rw (append_assoc tokens news others) (behind new tokens here x (chained w v))

-- the same before tokens that stay
pub chained_kept : {word mid last : Bool} {at far end : ℕ} {olds more news others : List Token} {first : List Added} → Woven word at olds first news mid far → ((word : Bool) (at : ℕ) → Woven word at more [] others last end)
    → Woven word at (olds ++ more) first (news ++ others) last end
chained_kept {word} {mid} {last} {at} {far} {end} {olds} {more} {news} {others} {first} w v = subst (λ l. Woven word at (olds ++ more) l (news ++ others) last end) (append-nil first) (chained w (v mid far))

-- tokens that stay as they are, before a token that does
pub keeps : {last : Bool} {end : ℕ} {olds news : List Token} {new : List Added} (ts : List Token) → ((word : Bool) (at : ℕ) → Woven word at olds new news last end)
    → (word : Bool) (at : ℕ) → Woven word at (ts ++ olds) new (ts ++ news) last end
keeps [] w word at = w word at
keeps (t ∷ ts) w word at = keep t (keeps ts w (is_word_like t.kind) t.span.to)

-- ---- statements

-- A statement that begins with this token, with what is inserted in it and nothing around it: these are its tokens then, and what they are.
pub record Core (ts : List Token) (inside : List Added) (span : Span) (tree : Stmt) (ends : Bool) : Type 0 where
  pub first : Token
  pub later : List Token
  pub whole : ts ≡ first ∷ later
  pub from : first.span.from ≡ span.from
  pub news : List Token
  pub woven : Woven (is_word_like first.kind) first.span.to later inside news false span.to
  pub last : Bool
  pub less : ends ≡ false → last ≡ false
  pub found : FoundStmt
  pub is : IsStmt last (first ∷ news) found
  pub same : bare_stmt found.stmt ≡ bare_stmt tree

-- A statement with all that is inserted for it.
pub record Guards (ts : List Token) (new : List Added) (to : ℕ) (guarded : Guarded) (ends : Bool) : Type 0 where
  pub news : List Token
  pub woven : (word : Bool) (at : ℕ) → Woven word at ts new news false to
  pub last : Bool
  pub less : ends ≡ false → last ≡ false
  pub found : FoundStmt
  pub is : IsStmt last news found
  pub same : bare_stmt found.stmt ≡ bare_stmt (alone guarded)
  pub plain : guarded.declares ≡ false

pub guards_as : (ts : List Token) (new other : List Added) (to : ℕ) (guarded more : Guarded) (ends : Bool) → new ≡ other → guarded ≡ more → Guards ts new to guarded ends → Guards ts other to more ends
guards_as ts new other to guarded more ends e f g = subst (λ n. Guards ts n to more ends) e (subst (λ x. Guards ts new to x ends) f g)

-- a statement without tests
pub untested_guards : (ts : List Token) (inside : List Added) (span : Span) (tree : Stmt) (ends : Bool) → Core ts inside span tree ends → Guards ts inside span.to (record { tests = []; itself = tree; declares = false }) ends
untested_guards ts inside span tree ends c = record {
  news = c.first ∷ c.news;
  woven = λ word at. subst (λ l. Woven word at l inside (c.first ∷ c.news) false span.to) (sym c.whole) (keep c.first c.woven);
  last = c.last;
  less = c.less;
  found = c.found;
  is = c.is;
  same = c.same;
  plain = refl;
}

around_woven : (ts : List Token) (inside : List Added) (span : Span) (tree : Stmt) (ends : Bool) (c : Core ts inside span tree ends) (accesses : List Access) → AllNamed accesses → (word : Bool) (at : ℕ)
    → Woven word at (c.first ∷ c.later) (record { place = span.from; bytes = codes "{ " ++ bytes_of accesses } ∷ (inside ++ record { place = span.to; bytes = codes " }" } ∷ []))
    ((open_token ∷ tokens_of accesses) ++ c.first ∷ (c.news ++ close_token ∷ [])) false span.to
around_woven ts inside span tree ends c accesses names word at =
    let close : Woven false span.to [] (record { place = span.to; bytes = codes " }" } ∷ []) (close_token ∷ []) false span.to = behind (record { place = span.to; bytes = codes " }" }) (close_token ∷ []) refl closing_inserted done in
    let inner : Woven (is_word_like c.first.kind) c.first.span.to (c.later ++ []) (inside ++ record { place = span.to; bytes = codes " }" } ∷ []) (c.news ++ close_token ∷ []) false span.to = chained c.woven close in
    before c.first (record { place = span.from; bytes = codes "{ " ++ bytes_of accesses }) 123 (open_token ∷ tokens_of accesses) (sym c.from) (opening_inserted accesses names) refl
    (subst (λ l. Woven (is_word_like c.first.kind) c.first.span.to l (inside ++ record { place = span.to; bytes = codes " }" } ∷ []) (c.news ++ close_token ∷ []) false span.to) (append-nil c.later) inner)

-- a statement with its tests, in a block where there are some
pub tested_guards : (ts : List Token) (inside : List Added) (span : Span) (tree : Stmt) (ends : Bool) → Core ts inside span tree ends → (at : Span) (accesses : List Access) → AllNamed accesses
    → Guards ts (added (opening span (bytes_of accesses)) ++ (inside ++ added (closing span (bytes_of accesses)))) span.to (record { tests = test_trees at accesses; itself = tree; declares = false }) ends
tested_guards ts inside span tree ends c at [] names =
    guards_as ts inside (inside ++ []) span.to (record { tests = []; itself = tree; declares = false }) (record { tests = []; itself = tree; declares = false }) ends (sym (append-nil inside)) refl (untested_guards ts inside span tree ends c)
tested_guards ts inside span tree ends c at (access ∷ rest) names =
    let accesses = access ∷ rest in
    let tests = tests_listed at accesses in
    let itself = one_statement (c.first ∷ c.news) c.found tree (g.stmt c.is) c.same in
    let listed = listed_both (tokens_of accesses) (c.first ∷ c.news) (test_trees at accesses) (tree ∷ []) tests itself in
    let made = g.block_stmt nowhere listed.found nowhere in
    let block : IsStmt false (open_token ∷ ((tokens_of accesses ++ c.first ∷ c.news) ++ close_token ∷ [])) made = g.block nowhere nowhere listed.is in
    let tokens : open_token ∷ ((tokens_of accesses ++ c.first ∷ c.news) ++ close_token ∷ []) ≡ (open_token ∷ tokens_of accesses) ++ c.first ∷ (c.news ++ close_token ∷ []) =
    ap (λ l. open_token ∷ l) (append_assoc (tokens_of accesses) (c.first ∷ c.news) (close_token ∷ [])) in
    record {
      news = (open_token ∷ tokens_of accesses) ++ c.first ∷ (c.news ++ close_token ∷ []);
      woven = λ word at.
          subst (λ l. Woven word at l (record { place = span.from; bytes = codes "{ " ++ bytes_of accesses } ∷ (inside ++ record { place = span.to; bytes = codes " }" } ∷ [])) ((open_token ∷ tokens_of accesses) ++ c.first ∷ (c.news ++ close_token ∷ [])) false span.to)
          (sym c.whole) (around_woven ts inside span tree ends c accesses names word at);
      last = false;
      less = λ e. refl;
      found = made;
      is = subst (λ l. IsStmt false l made) tokens block;
      same = node_same (s.Block listed.found.stmts) (s.Block (test_trees at accesses ++ tree ∷ [])) (across nowhere nowhere) tree.span (block_same listed.found.stmts (test_trees at accesses ++ tree ∷ []) listed.same);
      plain = refl;
    }
