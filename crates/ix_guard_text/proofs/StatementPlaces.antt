-- Statements with what is inserted for them: the tree of each is the old one with its places moved, and with tests.
use Rattle.std.proofs.Common.{◌≡◌, ℕ, Bool, true, false, List, [], ◌∷◌, ◌++◌, map, Option, Some, None, refl, sym, ap, subst, ◌∙◌, append_assoc, append-nil}
use Rattle.ix_text.specs.declared.span.Span.{Span}
use Rattle.ix_lexer.specs.declared.token.Token.{Token}
use Rattle.ix_lexer.specs.declared.fixed.TheConstants.{IF, ELSE, WHILE, DO, FOR, BREAK, CONTINUE, RETURN, THROW, NEW, DOT, SEMICOLON, OPEN_PAREN, CLOSE_PAREN, OPEN_BRACE, CLOSE_BRACE}
use Rattle.ix_tree.specs.declared.expr.Expr.{Expr}
use Rattle.ix_tree.specs.declared.stmt.Stmt.{Stmt}
use Rattle.ix_tree.specs.declared.stmt.StmtKind.{StmtKind}
use Rattle.ix_tree.specs.declared.stmt.StmtKind.TheVariants as s
use Rattle.ix_tree.proofs.FoldsOfForms as fold
use Rattle.ix_grammar.specs.declared.classes.Stmts.{Stmts}
use Rattle.ix_grammar.specs.declared.declarations.FoundMods.{FoundMods}
use Rattle.ix_grammar.specs.declared.found.Found.{Found}
use Rattle.ix_grammar.specs.declared.found.FoundDecls.{FoundDecls}
use Rattle.ix_grammar.specs.declared.found.FoundStmt.{FoundStmt}
use Rattle.ix_grammar.specs.declared.found.FoundType.{FoundType}
use Rattle.ix_grammar.specs.Nodes.{across}
use Rattle.ix_grammar.specs.Patterns.{sign, name_token}
use Rattle.ix_grammar.specs.ClassGrammar.{no_stmts, with_stmt}
use Rattle.ix_grammar.specs.ExprGrammar.{Whole}
use Rattle.ix_grammar.specs.StmtGrammar as g
use Rattle.ix_grammar.specs.StmtGrammar.{SYSTEM, OUT, PRINTLN, word_token, maybe_expr, stmt_node, local_stmt, IsLocal, IsMaybe, IsStmt, IsBlockStmt, IsStmts}
use Rattle.ix_guard_text.specs.Bare.{bare_maybe as maybe}
use Rattle.ix_guard_text.specs.Respanned.{Places, next, respanned}
use Rattle.ix_guard_text.specs.Names.{HaveNames}
use Rattle.ix_guard_text.specs.Woven.{Added, is_word_like}
use Rattle.ix_guard.specs.declared.insertion.Insertion.{Insertion}
use Rattle.ix_guard.specs.Accesses.{Access, parts_of}
use Rattle.ix_guard.specs.Tests.{Site, expression_tests}
use Rattle.ix_guard.specs.Guards as text
use Rattle.ix_guard.specs.Guards.{Inserting, inserting, opening, closing, each_listed}
use Rattle.ix_guard.specs.Trees.{statement, expression_tested, declaration_tested}
use Rattle.ix_guard_text.proofs.NamedAccesses.{AllNamed, names_split, accesses_named, local_named}
use Rattle.ix_guard_text.proofs.FirstTokens.{expr_begins, local_begins}
use Rattle.ix_guard_text.proofs.Tests.{bytes_of, expression_bytes, declaration_bytes, expression_named, declaration_named, tokens_of, tests_inserted}
use Rattle.ix_guard_text.specs.Inserted.{added}
use Rattle.ix_guard_text.proofs.Wrapped.{added_both}
use Rattle.ix_guard_text.specs.Moved.{Move, moved_span, moved_tokens, moved_name, moved_expr, moved_decl, stmt_kind_step, stmt_step, moved_stmt}
use Rattle.ix_guard_text.specs.MovedFound.{moved_found, moved_several, moved_stmts}
use Rattle.ix_guard_text.proofs.ExprsMoved.{expr_moves}
use Rattle.ix_guard_text.proofs.StmtsMoved.{moved_stmt_kind, stmt_moved, first_moves, maybe_moves, maybe_expr_moved, updates_move, stmt_moves, block_stmt_moves}
use Rattle.ix_guard_text.specs.Interleaved.{Piece, old, olds, news, Interleaved, done, keep, before}
use Rattle.ix_guard_text.specs.GuardedPlaces as q
use Rattle.ix_guard_text.specs.GuardedPlaces.{Inner, InList}
use Rattle.ix_guard_text.specs.TestParts.{IsWritten}
use Rattle.ix_guard_text.proofs.Realisations.{far, realised, AllNew, new_parts, new_behind, real_both, real_olds, old_both, new_both}
use Rattle.ix_guard_text.proofs.WrappedPlaces.{chained, chained_kept, keeps, keeps_all, Core, Guards, untested_guards, tested_guards}
use Rattle.ix_guard_text.proofs.WrittenTests.{stmts_both, tests_made}

module _ (site : Site) (move : Move) where
  -- ---- what is inserted for a statement

  abbrev text_kind : StmtKind → Span → Inserting
  text_kind = fold.of_stmt_kind (text.kind_step site) text.stmt_step

  inserts : (k : StmtKind) (span : Span) (listed : Bool) (is : Span → Inserting) → text_kind k ≡ is → inserting site (statement k span) listed ≡ is span listed
  inserts k span listed is e = ap (λ (f : Inserting). f listed) (fold.stmt_is (text.kind_step site) text.stmt_step k span) ∙ ap (λ (f : Span → Inserting). f span listed) e

  abbrev pub GuardsOf : List Token → Stmt → Bool → Bool → Type 0
  GuardsOf ts x listed ends = Guards site move ts (added (inserting site x listed)) x ends

  -- a statement for which this is inserted
  guards_of : (ts : List Token) (k : StmtKind) (span : Span) (listed ends : Bool) (put : List Insertion) (is : Span → Inserting) → text_kind k ≡ is → put ≡ is span listed → Guards site move ts (added put) (statement k span) ends
      → GuardsOf ts (statement k span) listed ends
  guards_of ts k span listed ends put is e f h = subst (λ l. Guards site move ts (added l) (statement k span) ends) (f ∙ sym (inserts k span listed is e)) h

  -- an expression's tests around what is inserted inside
  around_inside : (span : Span) (x : Expr) (inside : List Insertion) → added (opening span (bytes_of (expression_tested site x))) ++ (added inside ++ added (closing span (bytes_of (expression_tested site x))))
      ≡ added (opening span (expression_tests site x) ++ (inside ++ closing span (expression_tests site x)))
  around_inside span x inside =
      let b = bytes_of (expression_tested site x) in
      ap (λ l. added (opening span b) ++ l) (sym (added_both inside (closing span b))) ∙ sym (added_both (opening span b) (inside ++ closing span b))
      ∙ ap (λ l. added (opening span l ++ (inside ++ closing span l))) (sym (expression_bytes site x))

  -- a statement with the tests of an expression
  with_guards : (ts : List Token) (inside : List Insertion) (x : Stmt) (ends : Bool) (condition : Expr) → Core site move ts (added inside) x (expression_tested site condition) ends → AllNamed (parts_of condition).accesses
      → Guards site move ts (added (opening x.span (expression_tests site condition) ++ (inside ++ closing x.span (expression_tests site condition)))) x ends
  with_guards ts inside x ends condition core names =
      subst (λ l. Guards site move ts l x ends) (around_inside x.span condition inside)
      (tested_guards site move ts (added inside) x (expression_tested site condition) ends core (expression_named site condition names))

  -- ---- statements without statements in them

  kept_core : (first : Token) (later : List Token) (k l : StmtKind) (parts : ℕ) (span : Span) (accesses : List Access) (ends : Bool) → first.span.from ≡ span.from
      → Interleaved (is_word_like first.kind) first.span.to later [] (olds later) false span.to → IsStmt ends (first ∷ later) (stmt_node k parts span) → moved_stmt_kind move k ≡ l
      → Inner site move (IsWritten move) (statement k span) (statement l (moved_span move span)) accesses → Core site move (first ∷ later) [] (statement k span) accesses ends
  kept_core first later k l parts span accesses ends from woven is e inner = record {
    first = first;
    later = later;
    whole = refl;
    from = from;
    pieces = olds later;
    woven = woven;
    last = ends;
    less = λ e. e;
    made = λ at h.
        let found = stmt_node l parts (moved_span move span) in
        let moved : IsStmt ends (moved_tokens move (first ∷ later)) found = subst (λ x. IsStmt ends (moved_tokens move (first ∷ later)) x) (sym (stmt_moved move k l parts span (moved_span move span) e refl)) (stmt_moves move ends (first ∷ later) (stmt_node k parts span) is) in
        record { found = found; is = subst (λ l. IsStmt ends l found) (sym (real_olds move (first ∷ later) at)) moved; inner = inner };
  }

  to_semicolon : (ts : List Token) (end : Span) (word : Bool) (at : ℕ) → Interleaved word at (ts ++ sign SEMICOLON end ∷ []) [] (olds (ts ++ sign SEMICOLON end ∷ [])) false end.to
  to_semicolon ts end = keeps_all ts (λ word at. keep (sign SEMICOLON end) done)

  -- ---- lists of statements

  pub record ListMade (ts : List Token) (xs : List Stmt) : Type 0 where
    pub found : Stmts
    pub is : IsStmts ts found
    pub list : InList site move (IsWritten move) xs found.stmts

  -- A statement of a list with all that is inserted for it.
  record OneInList (ts : List Token) (new : List Added) (x : Stmt) : Type 0 where
    pub pieces : List Piece
    pub woven : (at : ℕ) → Interleaved false at ts new pieces false x.span.to
    pub made : (at : Places) → AllNew move at pieces → ListMade (realised move at pieces) (x ∷ [])

  -- Statements of a list.
  pub record AllInList (ts : List Token) (new : List Added) (xs : List Stmt) : Type 0 where
    pub pieces : List Piece
    pub woven : (at : ℕ) → (end : ℕ) × Interleaved false at ts new pieces false end
    pub made : (at : Places) → AllNew move at pieces → ListMade (realised move at pieces) xs

  listed_joined : (xs : List Stmt) (x : Stmt) → each_listed (map (inserting site) (xs ++ x ∷ [])) ≡ each_listed (map (inserting site) xs) ++ inserting site x true
  listed_joined [] x = append-nil (inserting site x true)
  listed_joined (y ∷ xs) x = ap (λ l. inserting site y true ++ l) (listed_joined xs x) ∙ sym (append_assoc (inserting site y true) (each_listed (map (inserting site) xs)) (inserting site x true))

  lists_both : {xs ys more others : List Stmt} → InList site move (IsWritten move) xs ys → InList site move (IsWritten move) more others → InList site move (IsWritten move) (xs ++ more) (ys ++ others)
  lists_both q.none v = v
  lists_both {others = others} (q.declared decls span tests statements rest t w) v =
      rw (append_assoc tests (statement (s.Local (map (moved_decl move) decls)) (moved_span move span) ∷ rest) others) (q.declared decls span tests _ _ t (lists_both w v))
  lists_both (q.other x y statements rest a w) v = q.other x y _ _ a (lists_both w v)

  both_made : (ts us : List Token) (xs ys : List Stmt) → ListMade ts xs → ListMade us ys → ListMade (ts ++ us) (xs ++ ys)
  both_made ts us xs ys a b =
      let r = stmts_both ts us a.found b.found a.is b.is in
      record { found = r.0; is = r.1; list = subst (λ l. InList site move (IsWritten move) (xs ++ ys) l) (sym r.2) (lists_both a.list b.list) }

  -- ---- a declaration in a list

  local_moved_is : (ts : List Token) (mods : FoundMods) (ty : FoundType) (found : FoundDecls) (end : Span) → IsLocal ts mods ty found
      → IsBlockStmt (moved_tokens move (ts ++ sign SEMICOLON end ∷ [])) (stmt_node (s.Local (map (moved_decl move) found.decls)) found.height (moved_span move (local_stmt mods ty found end).stmt.span))
  local_moved_is ts mods ty found end d =
      let span = (local_stmt mods ty found end).stmt.span in
      subst (λ x. IsBlockStmt (moved_tokens move (ts ++ sign SEMICOLON end ∷ [])) x)
      (sym (stmt_moved move (s.Local found.decls) (s.Local (map (moved_decl move) found.decls)) found.height span (moved_span move span) (fold.local_kind (stmt_kind_step move) (stmt_step move) found.decls) refl))
      (block_stmt_moves move (ts ++ sign SEMICOLON end ∷ []) (local_stmt mods ty found end) (g.locals end d))

  local_made : (ts : List Token) (mods : FoundMods) (ty : FoundType) (found : FoundDecls) (end : Span) → IsLocal ts mods ty found → (accesses : List Access) → accesses ≡ declaration_tested site found.decls → (at : Places)
      → AllNew move at (news (tokens_of accesses) ++ olds (ts ++ sign SEMICOLON end ∷ [])) → ListMade (realised move at (news (tokens_of accesses) ++ olds (ts ++ sign SEMICOLON end ∷ []))) ((local_stmt mods ty found end).stmt ∷ [])
  local_made ts mods ty found end d accesses e at h =
      let span = (local_stmt mods ty found end).stmt.span in
      let all = ts ++ sign SEMICOLON end ∷ [] in
      let node = stmt_node (s.Local (map (moved_decl move) found.decls)) found.height (moved_span move span) in
      let tests = tests_made move at accesses (new_parts move (news (tokens_of accesses)) (olds all) at h).0 in
      let both = stmts_both (respanned at (tokens_of accesses)) (moved_tokens move all) tests.found (with_stmt no_stmts node) tests.is (g.one_more g.none (local_moved_is ts mods ty found end d)) in
      let list = q.declared found.decls span tests.found.stmts [] [] (subst (λ l. q.AreTests (IsWritten move) l tests.found.stmts) e tests.are) q.none in
      subst (λ l. ListMade l ((local_stmt mods ty found end).stmt ∷ [])) (sym (new_both move (tokens_of accesses) (olds all) at ∙ ap (λ l. respanned at (tokens_of accesses) ++ l) (real_olds move all (far (news (tokens_of accesses)) at))))
      (record { found = both.0; is = both.1; list = subst (λ l. InList site move (IsWritten move) ((local_stmt mods ty found end).stmt ∷ []) l) (sym both.2) list })

  local_in_list : (ts : List Token) (mods : FoundMods) (ty : FoundType) (found : FoundDecls) (end : Span) → IsLocal ts mods ty found → (accesses : List Access) → accesses ≡ declaration_tested site found.decls → AllNamed accesses
      → OneInList (ts ++ sign SEMICOLON end ∷ []) (added (text.before (local_stmt mods ty found end).stmt.span (bytes_of accesses))) (local_stmt mods ty found end).stmt
  local_in_list ts mods ty found end d [] e names = record {
    pieces = olds (ts ++ sign SEMICOLON end ∷ []);
    woven = λ at. to_semicolon ts end false at;
    made = λ at h. local_made ts mods ty found end d [] e at h;
  }
  local_in_list ts mods ty found end d (access ∷ rest) e names =
      let accesses = access ∷ rest in
      let span = (local_stmt mods ty found end).stmt.span in
      let begins = local_begins ts mods ty found d in
      let tests : Added = record { place = span.from; bytes = bytes_of accesses } in
      let later = to_semicolon begins.later end (is_word_like begins.first.kind) begins.first.span.to in
      record {
        pieces = news (tokens_of accesses) ++ olds (ts ++ sign SEMICOLON end ∷ []);
        woven = λ at.
            subst (λ l. Interleaved false at (l ++ sign SEMICOLON end ∷ []) (tests ∷ []) (news (tokens_of accesses) ++ olds (l ++ sign SEMICOLON end ∷ [])) false end.to) (sym begins.whole)
            (before begins.first tests 105 (tokens_of accesses) (sym begins.from) (tests_inserted access rest names) refl later);
        made = λ at h. local_made ts mods ty found end d accesses e at h;
      }

  -- ---- the grammar

  returned : (start end : Span) (ts : List Token) (value : Option Found) → IsMaybe ts value → HaveNames ts → (listed : Bool) → GuardsOf (sign RETURN start ∷ (ts ++ sign SEMICOLON end ∷ [])) (g.return_stmt start value end).stmt listed false
  returned start end _ _ g.absent h listed =
      let span = across start end in
      guards_of (sign RETURN start ∷ sign SEMICOLON end ∷ []) (s.Return None) span listed false [] _ (fold.return_kind (text.kind_step site) text.stmt_step None) refl
      (untested_guards site move _ [] (statement (s.Return None) span) false
      (kept_core (sign RETURN start) (sign SEMICOLON end ∷ []) (s.Return None) (s.Return None) 0 span [] false refl (keep (sign SEMICOLON end) done) (g.returns start end g.absent) (fold.return_kind (stmt_kind_step move) (stmt_step move) None) (q.returns None span)))
  returned start end _ _ (g.present {ts} {f} d) h listed =
      let span = across start end in
      let kind = s.Return (Some f.expr) in
      guards_of (sign RETURN start ∷ (ts ++ sign SEMICOLON end ∷ [])) kind span listed false _ _ (fold.return_kind (text.kind_step site) text.stmt_step (Some f.expr)) refl
      (with_guards _ [] (statement kind span) false f.expr
      (kept_core (sign RETURN start) (ts ++ sign SEMICOLON end ∷ []) kind (s.Return (Some (moved_expr move f.expr))) f.height span (expression_tested site f.expr) false refl (to_semicolon ts end _ _) (g.returns start end (g.present d))
      (fold.return_kind (stmt_kind_step move) (stmt_step move) (Some f.expr)) (q.returns (Some f.expr) span)) (accesses_named ts f d h))

  -- what stands behind the name of a print statement or of an exception
  to_call_end : (ts : List Token) (left right end : Span) (word : Bool) (at : ℕ)
      → Interleaved word at (sign OPEN_PAREN left ∷ (ts ++ sign CLOSE_PAREN right ∷ sign SEMICOLON end ∷ [])) [] (olds (sign OPEN_PAREN left ∷ (ts ++ sign CLOSE_PAREN right ∷ sign SEMICOLON end ∷ []))) false end.to
  to_call_end ts left right end word at = keep (sign OPEN_PAREN left) (keeps_all ts (λ word at. keep (sign CLOSE_PAREN right) (keep (sign SEMICOLON end) done)) _ _)

  mutual
    pub stmt_placed : (ends : Bool) (ts : List Token) (found : FoundStmt) → IsStmt ends ts found → HaveNames ts → (listed : Bool) → GuardsOf ts found.stmt listed ends
    stmt_placed _ _ _ (g.block left right {ts} {found} d) h listed =
        let span = across left right in
        let one = stmts_placed ts found d (names_split ts (sign CLOSE_BRACE right ∷ []) h.1).0 in
        let inside = each_listed (map (inserting site) found.stmts) in
        let kind = s.Block found.stmts in
        let core : Core site move (sign OPEN_BRACE left ∷ (ts ++ sign CLOSE_BRACE right ∷ [])) (added inside) (statement kind span) [] false = record {
          first = sign OPEN_BRACE left;
          later = ts ++ sign CLOSE_BRACE right ∷ [];
          whole = refl;
          from = refl;
          pieces = one.pieces ++ old (sign CLOSE_BRACE right) ∷ [];
          woven = chained_kept (one.woven left.to).1 (λ word at. keep (sign CLOSE_BRACE right) done);
          last = false;
          less = λ e. e;
          made = λ at fresh.
              let m = one.made (next at) (new_parts move one.pieces (old (sign CLOSE_BRACE right) ∷ []) (next at) fresh).0 in
              rw (real_both move one.pieces (old (sign CLOSE_BRACE right) ∷ []) (next at))
              (record { found = g.block_stmt (moved_span move left) m.found (moved_span move right); is = g.block (moved_span move left) (moved_span move right) m.is; inner = q.block found.stmts m.found.stmts span (across (moved_span move left) (moved_span move right)) refl m.list });
        } in
        guards_of _ kind span listed false inside _ (fold.block_kind (text.kind_step site) text.stmt_step found.stmts) refl (untested_guards site move _ (added inside) (statement kind span) false core)
    stmt_placed _ _ _ (g.empty end) h listed =
        guards_of (sign SEMICOLON end ∷ []) s.Empty end listed false [] _ (fold.empty_kind (text.kind_step site) text.stmt_step) refl
        (untested_guards site move _ [] (statement s.Empty end) false (kept_core (sign SEMICOLON end) [] s.Empty s.Empty 0 end [] false refl done (g.empty end) (fold.empty_kind (stmt_kind_step move) (stmt_step move)) (q.empty end)))
    stmt_placed _ _ _ (g.breaks start end) h listed =
        let span = across start end in
        guards_of (sign BREAK start ∷ sign SEMICOLON end ∷ []) s.Break span listed false [] _ (fold.break_kind (text.kind_step site) text.stmt_step) refl
        (untested_guards site move _ [] (statement s.Break span) false
        (kept_core (sign BREAK start) (sign SEMICOLON end ∷ []) s.Break s.Break 0 span [] false refl (keep (sign SEMICOLON end) done) (g.breaks start end) (fold.break_kind (stmt_kind_step move) (stmt_step move)) (q.breaks span)))
    stmt_placed _ _ _ (g.continues start end) h listed =
        let span = across start end in
        guards_of (sign CONTINUE start ∷ sign SEMICOLON end ∷ []) s.Continue span listed false [] _ (fold.continue_kind (text.kind_step site) text.stmt_step) refl
        (untested_guards site move _ [] (statement s.Continue span) false
        (kept_core (sign CONTINUE start) (sign SEMICOLON end ∷ []) s.Continue s.Continue 0 span [] false refl (keep (sign SEMICOLON end) done) (g.continues start end) (fold.continue_kind (stmt_kind_step move) (stmt_step move)) (q.continues span)))
    stmt_placed _ _ _ (g.throws start middle x left right end {ts} d) h listed =
        let span = across start end in
        let later = sign NEW middle ∷ name_token x ∷ sign OPEN_PAREN left ∷ (ts ++ sign CLOSE_PAREN right ∷ sign SEMICOLON end ∷ []) in
        guards_of (sign THROW start ∷ later) (s.Throw x) span listed false [] _ (fold.throw_kind (text.kind_step site) text.stmt_step x) refl
        (untested_guards site move _ [] (statement (s.Throw x) span) false
        (kept_core (sign THROW start) later (s.Throw x) (s.Throw (moved_name move x)) 1 span [] false refl (keep (sign NEW middle) (keep (name_token x) (to_call_end ts left right end _ _))) (g.throws start middle x left right end d)
        (fold.throw_kind (stmt_kind_step move) (stmt_step move) x) (q.throws x span)))
    stmt_placed _ _ _ (g.returns start end {ts} {value} d) h listed = returned start end ts value d (names_split ts (sign SEMICOLON end ∷ []) h.1).0 listed
    stmt_placed _ _ _ (g.print system dot out second println left right end {ts} {f} d) h listed =
        let span = across system end in
        let kind = s.Print f.expr in
        let later = sign DOT dot ∷ word_token OUT out ∷ sign DOT second ∷ word_token PRINTLN println ∷ sign OPEN_PAREN left ∷ (ts ++ sign CLOSE_PAREN right ∷ sign SEMICOLON end ∷ []) in
        let woven = keep (sign DOT dot) (keep (word_token OUT out) (keep (sign DOT second) (keep (word_token PRINTLN println) (to_call_end ts left right end _ _)))) in
        guards_of (word_token SYSTEM system ∷ later) kind span listed false _ _ (fold.print_kind (text.kind_step site) text.stmt_step f.expr) refl
        (with_guards _ [] (statement kind span) false f.expr
        (kept_core (word_token SYSTEM system) later kind (s.Print (moved_expr move f.expr)) f.height span (expression_tested site f.expr) false refl woven (g.print system dot out second println left right end d)
        (fold.print_kind (stmt_kind_step move) (stmt_step move) f.expr) (q.prints f.expr span)) (accesses_named ts f d (names_split ts (sign CLOSE_PAREN right ∷ sign SEMICOLON end ∷ []) h.1.1.1.1.1.1).0))
    stmt_placed _ _ _ (g.runs end {ts} {f} d other) h listed =
        let span = across f.outer end in
        let kind = s.Run f.expr in
        let begins = expr_begins Whole ts f d.is in
        let core : Core site move (begins.first ∷ (begins.later ++ sign SEMICOLON end ∷ [])) [] (statement kind span) (expression_tested site f.expr) false =
        kept_core begins.first (begins.later ++ sign SEMICOLON end ∷ []) kind (s.Run (moved_expr move f.expr)) f.height span (expression_tested site f.expr) false begins.from (to_semicolon begins.later end _ _)
        (subst (λ l. IsStmt false (l ++ sign SEMICOLON end ∷ []) (g.run_stmt f end)) begins.whole (g.runs end d other)) (fold.run_kind (stmt_kind_step move) (stmt_step move) f.expr) (q.runs f.expr span) in
        guards_of (ts ++ sign SEMICOLON end ∷ []) kind span listed false _ _ (fold.run_kind (text.kind_step site) text.stmt_step f.expr) refl
        (with_guards _ [] (statement kind span) false f.expr
        (subst (λ l. Core site move (l ++ sign SEMICOLON end ∷ []) [] (statement kind span) (expression_tested site f.expr) false) (sym begins.whole) core)
        (accesses_named ts f d.is (names_split ts (sign SEMICOLON end ∷ []) h).0))
    stmt_placed _ _ _ (g.if_then start left right {ends} {ts} {us} {f} {found} d x) h listed =
        let span = across start found.stmt.span in
        let n = names_split ts (sign CLOSE_PAREN right ∷ us) h.1.1 in
        let one = stmt_placed ends us found x n.1.1 false in
        let inside = inserting site found.stmt false in
        let kind = s.If f.expr found.stmt None in
        let core : Core site move (sign IF start ∷ sign OPEN_PAREN left ∷ (ts ++ sign CLOSE_PAREN right ∷ us)) (added inside) (statement kind span) (expression_tested site f.expr) true = record {
          first = sign IF start;
          later = sign OPEN_PAREN left ∷ (ts ++ sign CLOSE_PAREN right ∷ us);
          whole = refl;
          from = refl;
          pieces = old (sign OPEN_PAREN left) ∷ (olds ts ++ old (sign CLOSE_PAREN right) ∷ one.pieces);
          woven = keep (sign OPEN_PAREN left) (keeps ts (λ word at. keep (sign CLOSE_PAREN right) (one.woven _ _)) _ _);
          last = true;
          less = λ e. e;
          made = λ at fresh.
              let at2 = next (next at) in
              let m = one.made (next (far (olds ts) at2)) (new_behind move ts (old (sign CLOSE_PAREN right) ∷ one.pieces) at2 fresh) in
              rw (old_both move ts (old (sign CLOSE_PAREN right) ∷ one.pieces) at2)
              (record {
                found = g.if_stmt (moved_span move start) (moved_found move f) m.found;
                is = g.if_then (moved_span move start) (moved_span move left) (moved_span move right) (expr_moves move Whole ts f d) m.is;
                inner = q.if_then f.expr found.stmt m.found.stmt span (across (moved_span move start) m.found.stmt.span) refl m.alone;
              });
        } in
        let o = opening span (expression_tests site f.expr) in
        let c = closing span (expression_tests site f.expr) in
        guards_of _ kind span listed true _ _ (fold.if_kind (text.kind_step site) text.stmt_step f.expr found.stmt) (sym (append_assoc o inside c)) (with_guards _ inside (statement kind span) true f.expr core (accesses_named ts f d n.0))
    stmt_placed _ _ _ (g.if_else start left right middle {ends} {ts} {us} {vs} {f} {found} {other} d x y) h listed =
        let span = across start other.stmt.span in
        let n = names_split ts (sign CLOSE_PAREN right ∷ (us ++ sign ELSE middle ∷ vs)) h.1.1 in
        let m = names_split us (sign ELSE middle ∷ vs) n.1.1 in
        let one = stmt_placed false us found x m.0 false in
        let two = stmt_placed ends vs other y m.1.1 false in
        let first = inserting site found.stmt false in
        let second = inserting site other.stmt false in
        let kind = s.If f.expr found.stmt (Some other.stmt) in
        let core : Core site move (sign IF start ∷ sign OPEN_PAREN left ∷ (ts ++ sign CLOSE_PAREN right ∷ (us ++ sign ELSE middle ∷ vs))) (added (first ++ second)) (statement kind span) (expression_tested site f.expr) ends = record {
          first = sign IF start;
          later = sign OPEN_PAREN left ∷ (ts ++ sign CLOSE_PAREN right ∷ (us ++ sign ELSE middle ∷ vs));
          whole = refl;
          from = refl;
          pieces = old (sign OPEN_PAREN left) ∷ (olds ts ++ old (sign CLOSE_PAREN right) ∷ (one.pieces ++ old (sign ELSE middle) ∷ two.pieces));
          woven = rw (added_both first second) (keep (sign OPEN_PAREN left) (keeps ts (λ word at. keep (sign CLOSE_PAREN right) (chained (one.woven _ _) (keep (sign ELSE middle) (two.woven _ _)))) _ _));
          last = two.last;
          less = two.less;
          made = λ at fresh.
              let at2 = next (next at) in
              let at3 = next (far (olds ts) at2) in
              let both = new_parts move one.pieces (old (sign ELSE middle) ∷ two.pieces) at3 (new_behind move ts (old (sign CLOSE_PAREN right) ∷ (one.pieces ++ old (sign ELSE middle) ∷ two.pieces)) at2 fresh) in
              let a = one.made at3 both.0 in
              let b = two.made (next (far one.pieces at3)) both.1 in
              rw (old_both move ts (old (sign CLOSE_PAREN right) ∷ (one.pieces ++ old (sign ELSE middle) ∷ two.pieces)) at2, real_both move one.pieces (old (sign ELSE middle) ∷ two.pieces) at3)
              (record {
                found = g.if_else_stmt (moved_span move start) (moved_found move f) a.found b.found;
                is = g.if_else (moved_span move start) (moved_span move left) (moved_span move right) (moved_span move middle) (expr_moves move Whole ts f d) (subst (λ b. IsStmt b (realised move at3 one.pieces) a.found) (one.less refl) a.is) b.is;
                inner = q.if_else f.expr found.stmt a.found.stmt other.stmt b.found.stmt span (across (moved_span move start) b.found.stmt.span) refl a.alone b.alone;
              });
        } in
        let o = opening span (expression_tests site f.expr) in
        let c = closing span (expression_tests site f.expr) in
        guards_of _ kind span listed ends _ _ (fold.if_else_kind (text.kind_step site) text.stmt_step f.expr found.stmt other.stmt) (ap (λ l. o ++ l) (append_assoc first second c) ∙ sym (append_assoc o first (second ++ c)))
        (with_guards _ (first ++ second) (statement kind span) ends f.expr core (accesses_named ts f d n.0))
    stmt_placed _ _ _ (g.while_do start left right {ends} {ts} {us} {f} {found} d x) h listed =
        let span = across start found.stmt.span in
        let n = names_split ts (sign CLOSE_PAREN right ∷ us) h.1.1 in
        let one = stmt_placed ends us found x n.1.1 false in
        let inside = inserting site found.stmt false in
        let kind = s.While f.expr found.stmt in
        let core : Core site move (sign WHILE start ∷ sign OPEN_PAREN left ∷ (ts ++ sign CLOSE_PAREN right ∷ us)) (added inside) (statement kind span) [] ends = record {
          first = sign WHILE start;
          later = sign OPEN_PAREN left ∷ (ts ++ sign CLOSE_PAREN right ∷ us);
          whole = refl;
          from = refl;
          pieces = old (sign OPEN_PAREN left) ∷ (olds ts ++ old (sign CLOSE_PAREN right) ∷ one.pieces);
          woven = keep (sign OPEN_PAREN left) (keeps ts (λ word at. keep (sign CLOSE_PAREN right) (one.woven _ _)) _ _);
          last = one.last;
          less = one.less;
          made = λ at fresh.
              let at2 = next (next at) in
              let m = one.made (next (far (olds ts) at2)) (new_behind move ts (old (sign CLOSE_PAREN right) ∷ one.pieces) at2 fresh) in
              rw (old_both move ts (old (sign CLOSE_PAREN right) ∷ one.pieces) at2)
              (record {
                found = g.while_stmt (moved_span move start) (moved_found move f) m.found;
                is = g.while_do (moved_span move start) (moved_span move left) (moved_span move right) (expr_moves move Whole ts f d) m.is;
                inner = q.while_do f.expr found.stmt m.found.stmt span (across (moved_span move start) m.found.stmt.span) refl m.alone;
              });
        } in
        guards_of _ kind span listed ends inside _ (fold.while_kind (text.kind_step site) text.stmt_step f.expr found.stmt) refl (untested_guards site move _ (added inside) (statement kind span) ends core)
    stmt_placed _ _ _ (g.do_while start middle left right end {ends} {ts} {us} {f} {found} x d) h listed =
        let span = across start end in
        let rest = sign WHILE middle ∷ sign OPEN_PAREN left ∷ (ts ++ sign CLOSE_PAREN right ∷ sign SEMICOLON end ∷ []) in
        let behind = old (sign CLOSE_PAREN right) ∷ old (sign SEMICOLON end) ∷ [] in
        let later = old (sign WHILE middle) ∷ old (sign OPEN_PAREN left) ∷ (olds ts ++ behind) in
        let one = stmt_placed ends us found x (names_split us rest h.1).0 false in
        let inside = inserting site found.stmt false in
        let kind = s.Do found.stmt f.expr in
        let core : Core site move (sign DO start ∷ (us ++ rest)) (added inside) (statement kind span) [] false = record {
          first = sign DO start;
          later = us ++ rest;
          whole = refl;
          from = refl;
          pieces = one.pieces ++ later;
          woven = chained_kept (one.woven _ _) (λ word at. keep (sign WHILE middle) (keep (sign OPEN_PAREN left) (keeps ts (λ word at. keep (sign CLOSE_PAREN right) (keep (sign SEMICOLON end) done)) _ _)));
          last = false;
          less = λ e. e;
          made = λ at fresh.
              let at1 = next at in
              let m = one.made at1 (new_parts move one.pieces later at1 fresh).0 in
              rw (real_both move one.pieces later at1, old_both move ts behind (next (next (far one.pieces at1))))
              (record {
                found = g.do_stmt (moved_span move start) m.found (moved_found move f) (moved_span move end);
                is = g.do_while (moved_span move start) (moved_span move middle) (moved_span move left) (moved_span move right) (moved_span move end) m.is (expr_moves move Whole ts f d);
                inner = q.do_while f.expr found.stmt m.found.stmt span (across (moved_span move start) (moved_span move end)) refl m.alone;
              });
        } in
        guards_of _ kind span listed false inside _ (fold.do_kind (text.kind_step site) text.stmt_step found.stmt f.expr) refl (untested_guards site move _ (added inside) (statement kind span) false core)
    stmt_placed _ _ _ (g.for_do start left first_end cond_end right {ends} {ts} {us} {vs} {ws} {first} {cond} {update} {found} d c u x) h listed =
        let span = across start found.stmt.span in
        let third = vs ++ sign CLOSE_PAREN right ∷ ws in
        let second = us ++ sign SEMICOLON cond_end ∷ third in
        let n1 = names_split ts (sign SEMICOLON first_end ∷ second) h.1.1 in
        let n2 = names_split us (sign SEMICOLON cond_end ∷ third) n1.1.1 in
        let n3 = names_split vs (sign CLOSE_PAREN right ∷ ws) n2.1.1 in
        let one = stmt_placed ends ws found x n3.1.1 false in
        let inside = inserting site found.stmt false in
        let kind = s.For first.stmts (maybe_expr cond) update.items found.stmt in
        let p3 = old (sign CLOSE_PAREN right) ∷ one.pieces in
        let p2 = old (sign SEMICOLON cond_end) ∷ (olds vs ++ p3) in
        let p1 = old (sign SEMICOLON first_end) ∷ (olds us ++ p2) in
        let core : Core site move (sign FOR start ∷ sign OPEN_PAREN left ∷ (ts ++ sign SEMICOLON first_end ∷ second)) (added inside) (statement kind span) [] ends = record {
          first = sign FOR start;
          later = sign OPEN_PAREN left ∷ (ts ++ sign SEMICOLON first_end ∷ second);
          whole = refl;
          from = refl;
          pieces = old (sign OPEN_PAREN left) ∷ (olds ts ++ p1);
          woven = keep (sign OPEN_PAREN left) (keeps ts (λ word at. keep (sign SEMICOLON first_end) (keeps us (λ word at. keep (sign SEMICOLON cond_end) (keeps vs (λ word at. keep (sign CLOSE_PAREN right) (one.woven _ _)) _ _)) _ _)) _ _);
          last = one.last;
          less = one.less;
          made = λ at fresh.
              let at1 = next (next at) in
              let at2 = next (far (olds ts) at1) in
              let at3 = next (far (olds us) at2) in
              let m = one.made (next (far (olds vs) at3)) (new_behind move vs p3 at3 (new_behind move us p2 at2 (new_behind move ts p1 at1 fresh))) in
              let end = across (moved_span move start) m.found.stmt.span in
              let made = λ (e : Option Expr). statement (s.For (map (moved_stmt move) first.stmts) e (map (moved_expr move) update.items) m.found.stmt) end in
              rw (old_both move ts p1 at1, old_both move us p2 at2, old_both move vs p3 at3)
              (record {
                found = g.for_stmt (moved_span move start) (moved_stmts move first) (maybe (moved_found move) cond) (moved_several move update) m.found;
                is = g.for_do (moved_span move start) (moved_span move left) (moved_span move first_end) (moved_span move cond_end) (moved_span move right) (first_moves move ts first d) (maybe_moves move us cond c) (updates_move move vs update u) m.is;
                inner = subst (λ e. Inner site move (IsWritten move) (statement kind span) (made e) []) (sym (maybe_expr_moved move cond)) (q.for_do first.stmts (maybe_expr cond) update.items found.stmt m.found.stmt span end refl m.alone);
              });
        } in
        guards_of _ kind span listed ends inside _ (fold.for_kind (text.kind_step site) text.stmt_step first.stmts (maybe_expr cond) update.items found.stmt) refl (untested_guards site move _ (added inside) (statement kind span) ends core)

    block_stmt_placed : (ts : List Token) (found : FoundStmt) → IsBlockStmt ts found → HaveNames ts → OneInList ts (added (inserting site found.stmt true)) found.stmt
    block_stmt_placed _ _ (g.locals end {ts} {mods} {ty} {found} d) h =
        let x = (local_stmt mods ty found end).stmt in
        let accesses = declaration_tested site found.decls in
        let names = declaration_named site found.decls (local_named ts mods ty found d (names_split ts (sign SEMICOLON end ∷ []) h).0) in
        subst (λ l. OneInList (ts ++ sign SEMICOLON end ∷ []) (added l) x) (ap (text.before x.span) (sym (declaration_bytes site found.decls)) ∙ sym (inserts (s.Local found.decls) x.span true _ (fold.local_kind (text.kind_step site) text.stmt_step found.decls)))
        (local_in_list ts mods ty found end d accesses refl names)
    block_stmt_placed _ _ (g.stmt {ends} {ts} {found} d) h =
        let one = stmt_placed ends ts found d h true in
        record {
          pieces = one.pieces;
          woven = λ at. one.woven false at;
          made = λ at fresh. let m = one.made at fresh in record { found = with_stmt no_stmts m.found; is = g.one_more g.none (g.stmt m.is); list = q.other found.stmt m.found.stmt [] [] m.alone q.none };
        }

    pub stmts_placed : (ts : List Token) (found : Stmts) → IsStmts ts found → HaveNames ts → AllInList ts (added (each_listed (map (inserting site) found.stmts))) found.stmts
    stmts_placed _ _ g.none h = record { pieces = []; woven = λ at. (at, done); made = λ at fresh. record { found = no_stmts; is = g.none; list = q.none } }
    stmts_placed _ _ (g.one_more {ts} {us} {found} {last} d x) h =
        let n = names_split ts us h in
        let one = stmts_placed ts found d n.0 in
        let two = block_stmt_placed us last x n.1 in
        let first = each_listed (map (inserting site) found.stmts) in
        let second = inserting site last.stmt true in
        let both : AllInList (ts ++ us) (added first ++ added second) (found.stmts ++ last.stmt ∷ []) = record {
          pieces = one.pieces ++ two.pieces;
          woven = λ at. let w = one.woven at in (last.stmt.span.to, chained w.1 (two.woven w.0));
          made = λ at fresh.
              let new = new_parts move one.pieces two.pieces at fresh in
              rw (real_both move one.pieces two.pieces at)
              (both_made (realised move at one.pieces) (realised move (far one.pieces at) two.pieces) found.stmts (last.stmt ∷ []) (one.made at new.0) (two.made (far one.pieces at) new.1));
        } in
        subst (λ l. AllInList (ts ++ us) l (found.stmts ++ last.stmt ∷ [])) (sym (added_both first second) ∙ ap added (sym (listed_joined found.stmts last.stmt))) both
