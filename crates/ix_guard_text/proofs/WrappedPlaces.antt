-- A statement with its tests in a block: its pieces, and what the tokens are that these are.
use Rattle.std.proofs.Common.{◌≡◌, ℕ, Bool, false, List, [], ◌∷◌, ◌++◌, refl, sym, ap, subst, ◌∙◌, append_assoc, append-nil}
use Rattle.std.specs.Prelude.{codes}
use Rattle.ix_text.specs.declared.span.Span.{Span}
use Rattle.ix_lexer.specs.declared.token.Token.{Token}
use Rattle.ix_lexer.specs.declared.fixed.TheConstants.{OPEN_BRACE, CLOSE_BRACE}
use Rattle.ix_tree.specs.declared.stmt.Stmt.{Stmt}
use Rattle.ix_tree.specs.declared.stmt.StmtKind.TheVariants as s
use Rattle.ix_grammar.specs.declared.found.FoundStmt.{FoundStmt}
use Rattle.ix_grammar.specs.Nodes.{across}
use Rattle.ix_grammar.specs.Patterns.{sign}
use Rattle.ix_grammar.specs.ClassGrammar.{no_stmts, with_stmt}
use Rattle.ix_grammar.specs.StmtGrammar as g
use Rattle.ix_grammar.specs.StmtGrammar.{IsStmt}
use Rattle.ix_guard_text.specs.Respanned.{Places, next, respanned}
use Rattle.ix_guard_text.specs.Woven.{Added, is_word_like}
use Rattle.ix_guard.specs.Accesses.{Access}
use Rattle.ix_guard.specs.Guards.{opening, closing}
use Rattle.ix_guard.specs.Tests.{Site}
use Rattle.ix_guard.specs.Trees.{statement}
use Rattle.ix_guard_text.proofs.NamedAccesses.{AllNamed}
use Rattle.ix_guard_text.proofs.TestTexts.{open_token, close_token}
use Rattle.ix_guard_text.proofs.Tests.{bytes_of, tokens_of, opening_inserted, closing_inserted}
use Rattle.ix_guard_text.specs.Inserted.{added}
use Rattle.ix_guard_text.specs.Moved.{Move}
use Rattle.ix_guard_text.specs.Interleaved.{Piece, old, new, olds, news, Interleaved, done, keep, before, behind}
use Rattle.ix_guard_text.specs.GuardedPlaces as q
use Rattle.ix_guard_text.specs.GuardedPlaces.{Inner, Alone}
use Rattle.ix_guard_text.specs.TestParts.{IsWritten}
use Rattle.ix_guard_text.proofs.Realisations.{far, realised, AllNew, new_parts, real_both, new_both}
use Rattle.ix_guard_text.proofs.WrittenTests.{stmts_both, TestsMade, tests_made}

-- ---- pieces one behind the other

pub chained : {word mid last : Bool} {at there end : ℕ} {tokens more : List Token} {pieces others : List Piece} {first second : List Added} → Interleaved word at tokens first pieces mid there → Interleaved mid there more second others last end
    → Interleaved word at (tokens ++ more) (first ++ second) (pieces ++ others) last end
chained done v = v
chained (keep t w) v = keep t (chained w v)
chained {others = others} (before {pieces} t text first inserted here x may w) v = rw (append_assoc (news inserted) (old t ∷ pieces) others) (before t text first inserted here x may (chained w v))
chained {others = others} (behind {pieces} text inserted here x w) v = rw (append_assoc (news inserted) pieces others) (behind text inserted here x (chained w v))

-- the same before tokens that stay
pub chained_kept : {word mid last : Bool} {at there end : ℕ} {tokens more : List Token} {pieces others : List Piece} {first : List Added} → Interleaved word at tokens first pieces mid there
    → ((word : Bool) (at : ℕ) → Interleaved word at more [] others last end) → Interleaved word at (tokens ++ more) first (pieces ++ others) last end
chained_kept {word} {mid} {last} {at} {there} {end} {tokens} {more} {pieces} {others} {first} w v = subst (λ l. Interleaved word at (tokens ++ more) l (pieces ++ others) last end) (append-nil first) (chained w (v mid there))

-- tokens that stay as they are, before one that does
pub keeps : {last : Bool} {end : ℕ} {tokens : List Token} {pieces : List Piece} {new : List Added} (ts : List Token) → ((word : Bool) (at : ℕ) → Interleaved word at tokens new pieces last end)
    → (word : Bool) (at : ℕ) → Interleaved word at (ts ++ tokens) new (olds ts ++ pieces) last end
keeps [] w word at = w word at
keeps (t ∷ ts) w word at = keep t (keeps ts w (is_word_like t.kind) t.span.to)

-- the same where all that follows stays
pub keeps_all : {last : Bool} {end : ℕ} {tokens : List Token} (ts : List Token) → ((word : Bool) (at : ℕ) → Interleaved word at tokens [] (olds tokens) last end)
    → (word : Bool) (at : ℕ) → Interleaved word at (ts ++ tokens) [] (olds (ts ++ tokens)) last end
keeps_all [] w word at = w word at
keeps_all (t ∷ ts) w word at = keep t (keeps_all ts w (is_word_like t.kind) t.span.to)

module _ (site : Site) (move : Move) where
  -- ---- statements

  pub record InnerMade (last : Bool) (ts : List Token) (x : Stmt) (accesses : List Access) : Type 0 where
    pub found : FoundStmt
    pub is : IsStmt last ts found
    pub inner : Inner site move (IsWritten move) x found.stmt accesses

  pub record AloneMade (last : Bool) (ts : List Token) (x : Stmt) : Type 0 where
    pub found : FoundStmt
    pub is : IsStmt last ts found
    pub alone : Alone site move (IsWritten move) x found.stmt

  -- A statement that begins with this token, with what is inserted in it and nothing around it: these are its pieces then, and what the tokens are that these are.
  pub record Core (ts : List Token) (inside : List Added) (x : Stmt) (accesses : List Access) (ends : Bool) : Type 0 where
    pub first : Token
    pub later : List Token
    pub whole : ts ≡ first ∷ later
    pub from : first.span.from ≡ x.span.from
    pub pieces : List Piece
    pub woven : Interleaved (is_word_like first.kind) first.span.to later inside pieces false x.span.to
    pub last : Bool
    pub less : ends ≡ false → last ≡ false
    pub made : (at : Places) → AllNew move at (old first ∷ pieces) → InnerMade last (realised move at (old first ∷ pieces)) x accesses

  -- A statement with all that is inserted for it.
  pub record Guards (ts : List Token) (new : List Added) (x : Stmt) (ends : Bool) : Type 0 where
    pub pieces : List Piece
    pub woven : (word : Bool) (at : ℕ) → Interleaved word at ts new pieces false x.span.to
    pub last : Bool
    pub less : ends ≡ false → last ≡ false
    pub made : (at : Places) → AllNew move at pieces → AloneMade last (realised move at pieces) x

  -- a statement without tests
  pub untested_guards : (ts : List Token) (inside : List Added) (x : Stmt) (ends : Bool) → Core ts inside x [] ends → Guards ts inside x ends
  untested_guards ts inside x ends c = record {
    pieces = old c.first ∷ c.pieces;
    woven = λ word at. subst (λ l. Interleaved word at l inside (old c.first ∷ c.pieces) false x.span.to) (sym c.whole) (keep c.first c.woven);
    last = c.last;
    less = c.less;
    made = λ at h. let m = c.made at h in record { found = m.found; is = m.is; alone = q.untested x m.found.stmt m.inner };
  }

  around_woven : (ts : List Token) (inside : List Added) (x : Stmt) (accesses : List Access) (ends : Bool) (c : Core ts inside x accesses ends) → AllNamed accesses → (word : Bool) (at : ℕ)
      → Interleaved word at (c.first ∷ c.later) (record { place = x.span.from; bytes = codes "{ " ++ bytes_of accesses } ∷ (inside ++ record { place = x.span.to; bytes = codes " }" } ∷ []))
      (news (open_token ∷ tokens_of accesses) ++ old c.first ∷ (c.pieces ++ new close_token ∷ [])) false x.span.to
  around_woven ts inside x accesses ends c names word at =
      let close : Interleaved false x.span.to [] (record { place = x.span.to; bytes = codes " }" } ∷ []) (news (close_token ∷ []) ++ []) false x.span.to = behind (record { place = x.span.to; bytes = codes " }" }) (close_token ∷ []) refl closing_inserted done in
      let inner : Interleaved (is_word_like c.first.kind) c.first.span.to (c.later ++ []) (inside ++ record { place = x.span.to; bytes = codes " }" } ∷ []) (c.pieces ++ new close_token ∷ []) false x.span.to = chained c.woven close in
      before c.first (record { place = x.span.from; bytes = codes "{ " ++ bytes_of accesses }) 123 (open_token ∷ tokens_of accesses) (sym c.from) (opening_inserted accesses names) refl
      (subst (λ l. Interleaved (is_word_like c.first.kind) c.first.span.to l (inside ++ record { place = x.span.to; bytes = codes " }" } ∷ []) (c.pieces ++ new close_token ∷ []) false x.span.to) (append-nil c.later) inner)

  -- the tokens of a block with tests and a statement
  block_tokens : (at : Places) (tests : List Token) (first : Token) (pieces : List Piece)
      → realised move at (news (open_token ∷ tests) ++ old first ∷ (pieces ++ new close_token ∷ []))
      ≡ sign OPEN_BRACE (at 0) ∷ ((respanned (next at) tests ++ realised move (far (news tests) (next at)) (old first ∷ pieces)) ++ sign CLOSE_BRACE (far (old first ∷ pieces) (far (news tests) (next at)) 0) ∷ [])
  block_tokens at tests first pieces =
      let at1 = next at in
      let at2 = far (news tests) at1 in
      let last : List Token = sign CLOSE_BRACE (far (old first ∷ pieces) at2 0) ∷ [] in
      ap (λ l. sign OPEN_BRACE (at 0) ∷ l)
      (new_both move tests (old first ∷ (pieces ++ new close_token ∷ [])) at1
      ∙ ap (λ l. respanned at1 tests ++ l) (real_both move (old first ∷ pieces) (new close_token ∷ []) at2)
      ∙ sym (append_assoc (respanned at1 tests) (realised move at2 (old first ∷ pieces)) last))

  block_made : (last : Bool) (left right : Span) (tests ts : List Token) (x : Stmt) (access : Access) (rest : List Access) → TestsMade move tests (access ∷ rest) → InnerMade last ts x (access ∷ rest)
      → AloneMade false (sign OPEN_BRACE left ∷ ((tests ++ ts) ++ sign CLOSE_BRACE right ∷ [])) x
  block_made last left right tests ts x access rest t m =
      let both = stmts_both tests ts t.found (with_stmt no_stmts m.found) t.is (g.one_more g.none (g.stmt m.is)) in
      record {
        found = g.block_stmt left both.0 right;
        is = g.block left right both.1;
        alone = subst (λ l. Alone site move (IsWritten move) x (statement (s.Block l) (across left right))) (sym both.2) (q.tested x m.found.stmt access rest t.found.stmts (across left right) m.inner t.are);
      }

  -- a statement with its tests, in a block where there are some
  pub tested_guards : (ts : List Token) (inside : List Added) (x : Stmt) (accesses : List Access) (ends : Bool) → Core ts inside x accesses ends → AllNamed accesses
      → Guards ts (added (opening x.span (bytes_of accesses)) ++ (inside ++ added (closing x.span (bytes_of accesses)))) x ends
  tested_guards ts inside x [] ends c names = subst (λ l. Guards ts l x ends) (sym (append-nil inside)) (untested_guards ts inside x ends c)
  tested_guards ts inside x (access ∷ rest) ends c names =
      let accesses = access ∷ rest in
      record {
        pieces = news (open_token ∷ tokens_of accesses) ++ old c.first ∷ (c.pieces ++ new close_token ∷ []);
        woven = λ word at.
            subst (λ l. Interleaved word at l (record { place = x.span.from; bytes = codes "{ " ++ bytes_of accesses } ∷ (inside ++ record { place = x.span.to; bytes = codes " }" } ∷ []))
            (news (open_token ∷ tokens_of accesses) ++ old c.first ∷ (c.pieces ++ new close_token ∷ [])) false x.span.to)
            (sym c.whole) (around_woven ts inside x accesses ends c names word at);
        last = false;
        less = λ e. refl;
        made = λ at h.
            let at1 = next at in
            let at2 = far (news (tokens_of accesses)) at1 in
            let right = far (old c.first ∷ c.pieces) at2 0 in
            let tested = new_parts move (news (tokens_of accesses)) (old c.first ∷ (c.pieces ++ new close_token ∷ [])) at1 h.1 in
            let inside = new_parts move (old c.first ∷ c.pieces) (new close_token ∷ []) at2 tested.1 in
            subst (λ l. AloneMade false l x) (sym (block_tokens at (tokens_of accesses) c.first c.pieces))
            (block_made c.last (at 0) right (respanned at1 (tokens_of accesses)) (realised move at2 (old c.first ∷ c.pieces)) x access rest (tests_made move at1 accesses tested.0) (c.made at2 inside.0));
      }
