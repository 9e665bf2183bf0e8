-- Statements with what is inserted for them are statements, whose trees are the guarded ones up to places.
use Rattle.std.proofs.Common.{◌≡◌, ℕ, Bool, true, false, if◌then◌else◌, List, [], ◌∷◌, ◌++◌, map, Option, Some, None, refl, sym, ap, subst, ◌∙◌, append_assoc, append-nil}
use Rattle.ix_text.specs.declared.span.Span.{Span}
use Rattle.ix_lexer.specs.declared.token.Token.{Token}
use Rattle.ix_lexer.specs.declared.fixed.TheConstants.{IF, ELSE, WHILE, DO, FOR, BREAK, CONTINUE, RETURN, THROW, NEW, DOT, SEMICOLON, OPEN_PAREN, CLOSE_PAREN, OPEN_BRACE, CLOSE_BRACE}
use Rattle.ix_tree.specs.declared.expr.Expr.{Expr}
use Rattle.ix_tree.specs.declared.stmt.Stmt.{Stmt}
use Rattle.ix_tree.specs.declared.stmt.StmtKind.{StmtKind}
use Rattle.ix_tree.specs.declared.stmt.StmtKind.TheVariants as s
use Rattle.ix_tree.proofs.FoldsOfForms as fold
use Rattle.ix_grammar.specs.declared.classes.Stmts.{Stmts}
use Rattle.ix_grammar.specs.declared.declarations.FoundMods.{FoundMods}
use Rattle.ix_grammar.specs.declared.found.Found.{Found}
use Rattle.ix_grammar.specs.declared.found.FoundDecls.{FoundDecls}
use Rattle.ix_grammar.specs.declared.found.FoundStmt.{FoundStmt}
use Rattle.ix_grammar.specs.declared.found.FoundType.{FoundType}
use Rattle.ix_grammar.specs.Nodes.{across}
use Rattle.ix_grammar.specs.Patterns.{sign, name_token}
use Rattle.ix_grammar.specs.Lists.{IsSeparated, first_item, next_item}
use Rattle.ix_grammar.specs.ExprGrammar.{Whole, IsStatementExpr}
use Rattle.ix_grammar.specs.StmtGrammar as g
use Rattle.ix_grammar.specs.StmtGrammar.{SYSTEM, OUT, PRINTLN, word_token, maybe_expr, run_part, one_run, with_run, local_stmt, IsLocal, IsForFirst, IsMaybe, IsStmt, IsBlockStmt, IsStmts}
use Rattle.ix_guard_text.specs.Bare.{bare_stmt}
use Rattle.ix_guard_text.proofs.ListsAgain.{map_joined}
use Rattle.ix_guard_text.proofs.StmtsAgain.{node_same, block_same, if_same, if_else_same, while_same, do_same, for_same}
use Rattle.ix_guard_text.specs.Names.{HaveNames}
use Rattle.ix_guard_text.specs.Woven.{Added, is_word_like, Woven, done, keep, before}
use Rattle.ix_guard.specs.declared.insertion.Insertion.{Insertion}
use Rattle.ix_guard.specs.Accesses.{Access, parts_of}
use Rattle.ix_guard.specs.Tests.{Site, expression_tests}
use Rattle.ix_guard.specs.Guards as text
use Rattle.ix_guard.specs.Guards.{Inserting, inserting, opening, closing, together, each_listed}
use Rattle.ix_guard.specs.Trees as tree
use Rattle.ix_guard.specs.Trees.{Guarded, guarding, alone, in_list, each_in_list, statement, untested, with_tests, test_trees, expression_tested, declaration_tested}
use Rattle.ix_guard_text.proofs.NamedAccesses.{AllNamed, names_split, accesses_named, local_named}
use Rattle.ix_guard_text.proofs.FirstTokens.{expr_begins, local_begins}
use Rattle.ix_guard_text.proofs.Tests.{bytes_of, expression_bytes, declaration_bytes, expression_named, declaration_named, tokens_of, tests_inserted, Listed, no_statements, one_statement, listed_both, tests_listed}
use Rattle.ix_guard_text.specs.Inserted.{added}
use Rattle.ix_guard_text.proofs.Wrapped.{added_both, chained, chained_kept, keeps, Core, Guards, guards_as, untested_guards, tested_guards}

module _ (site : Site) where
  -- ---- what the two folds make of a statement

  abbrev text_kind : StmtKind → Span → Inserting
  text_kind = fold.of_stmt_kind (text.kind_step site) text.stmt_step

  abbrev tree_kind : StmtKind → Span → Guarded
  tree_kind = fold.of_stmt_kind (tree.kind_step site) tree.stmt_step

  inserts : (k : StmtKind) (span : Span) (listed : Bool) (is : Span → Inserting) → text_kind k ≡ is → inserting site (record { kind = k; span = span }) listed ≡ is span listed
  inserts k span listed is e = ap (λ (f : Inserting). f listed) (fold.stmt_is (text.kind_step site) text.stmt_step k span) ∙ ap (λ (f : Span → Inserting). f span listed) e

  makes : (k : StmtKind) (span : Span) (is : Span → Guarded) → tree_kind k ≡ is → guarding site (record { kind = k; span = span }) ≡ is span
  makes k span is e = fold.stmt_is (tree.kind_step site) tree.stmt_step k span ∙ ap (λ (f : Span → Guarded). f span) e

  -- a statement for which this is inserted, and of which this is made
  guards_of : (ts : List Token) (k : StmtKind) (span : Span) (listed : Bool) (ends : Bool) (new : List Insertion) (guarded : Guarded) (text_is : Span → Inserting) (tree_is : Span → Guarded) → text_kind k ≡ text_is → tree_kind k ≡ tree_is
      → new ≡ text_is span listed → guarded ≡ tree_is span → (to : ℕ) → Guards ts (added new) to guarded ends
      → Guards ts (added (inserting site (record { kind = k; span = span }) listed)) to (guarding site (record { kind = k; span = span })) ends
  guards_of ts k span listed ends new guarded text_is tree_is e f a b to h =
      guards_as ts (added new) (added (inserting site (record { kind = k; span = span }) listed)) to guarded (guarding site (record { kind = k; span = span })) ends
      (ap added (a ∙ sym (inserts k span listed text_is e))) (b ∙ sym (makes k span tree_is f)) h

  -- ---- statements without insertions of their own

  kept_core : (first : Token) (later : List Token) (span : Span) (itself : Stmt) (ends : Bool) (found : FoundStmt) → first.span.from ≡ span.from → Woven (is_word_like first.kind) first.span.to later [] later false span.to
      → IsStmt ends (first ∷ later) found → bare_stmt found.stmt ≡ bare_stmt itself → Core (first ∷ later) [] span itself ends
  kept_core first later span itself ends found from woven is same = record { first = first; later = later; whole = refl; from = from; news = later; woven = woven; last = ends; less = λ e. e; found = found; is = is; same = same }

  -- ---- the tests around a statement

  -- an expression's tests around what is inserted inside
  around_inside : (span : Span) (x : Expr) (inside : List Insertion) → added (opening span (bytes_of (expression_tested site x))) ++ (added inside ++ added (closing span (bytes_of (expression_tested site x))))
      ≡ added (opening span (expression_tests site x) ++ (inside ++ closing span (expression_tests site x)))
  around_inside span x inside =
      let b = bytes_of (expression_tested site x) in
      ap (λ l. added (opening span b) ++ l) (sym (added_both inside (closing span b))) ∙ sym (added_both (opening span b) (inside ++ closing span b))
      ∙ ap (λ l. added (opening span l ++ (inside ++ closing span l))) (sym (expression_bytes site x))

  -- a statement with the tests of an expression
  with_guards : (ts : List Token) (inside : List Insertion) (span : Span) (itself : Stmt) (ends : Bool) (x : Expr) → Core ts (added inside) span itself ends → AllNamed (parts_of x).accesses
      → Guards ts (added (opening span (expression_tests site x) ++ (inside ++ closing span (expression_tests site x)))) span.to (record { tests = test_trees span (expression_tested site x); itself = itself; declares = false }) ends
  with_guards ts inside span itself ends x core names =
      let guarded : Guarded = record { tests = test_trees span (expression_tested site x); itself = itself; declares = false } in
      guards_as ts _ _ span.to guarded guarded ends (around_inside span x inside) refl
      (tested_guards ts (added inside) span itself ends core span (expression_tested site x) (expression_named site x names))

  -- ---- heads of `for`

  part_same : (f : Found) → (guarding site (run_part f).stmt).itself ≡ (run_part f).stmt
  part_same f = ap (λ (x : Guarded). x.itself) (makes (s.Run f.expr) f.outer _ (fold.run_kind (tree.kind_step site) tree.stmt_step f.expr))

  abbrev itself_of : Stmt → Stmt
  itself_of x = (guarding site x).itself

  all_itself : (xs : List Stmt) → map (λ (part : Guarded). part.itself) (map (guarding site) xs) ≡ map itself_of xs
  all_itself [] = refl
  all_itself (x ∷ xs) = ap (λ l. itself_of x ∷ l) (all_itself xs)

  parts_same : (ts : List Token) (first : Stmts) → IsSeparated IsStatementExpr one_run with_run ts first → map itself_of first.stmts ≡ first.stmts
  parts_same _ _ (first_item {tokens} {item} x) = ap (λ y. y ∷ []) (part_same item)
  parts_same _ _ (next_item {before} {tokens} {items} {item} comma d x) =
      map_joined itself_of items.stmts (run_part item).stmt ∙ ap (λ l. l ++ itself_of (run_part item).stmt ∷ []) (parts_same before items d) ∙ ap (λ y. items.stmts ++ y ∷ []) (part_same item)

  first_same : (ts : List Token) (first : Stmts) → IsForFirst ts first → map itself_of first.stmts ≡ first.stmts
  first_same _ _ g.no_first = refl
  first_same _ _ (g.locals {ts} {mods} {ty} {found} d) =
      ap (λ y. y ∷ []) (ap (λ (x : Guarded). x.itself) (makes (s.Local found.decls) (local_stmt mods ty found found.end).stmt.span _ (fold.local_kind (tree.kind_step site) tree.stmt_step found.decls)))
  first_same _ _ (g.runs {ts} {found} d) = parts_same ts found d

  -- ---- lists of statements

  -- A statement of a list with all that is inserted for it.
  record InList (ts : List Token) (new : List Added) (to : ℕ) (trees : List Stmt) : Type 0 where
    pub news : List Token
    pub woven : (at : ℕ) → Woven false at ts new news false to
    pub listed : Listed news trees

  -- Statements of a list.
  pub record AllInList (ts : List Token) (new : List Added) (trees : List Stmt) : Type 0 where
    pub news : List Token
    pub woven : (at : ℕ) → (end : ℕ) × Woven false at ts new news false end
    pub listed : Listed news trees

  together_both : (xs ys : List (List Insertion)) → together (xs ++ ys) ≡ together xs ++ together ys
  together_both [] ys = refl
  together_both (x ∷ xs) ys = ap (λ l. x ++ l) (together_both xs ys) ∙ sym (append_assoc x (together xs) (together ys))

  listed_joined : (xs : List Stmt) (x : Stmt) → each_listed (map (inserting site) (xs ++ x ∷ [])) ≡ each_listed (map (inserting site) xs) ++ inserting site x true
  listed_joined [] x = append-nil (inserting site x true)
  listed_joined (y ∷ xs) x = ap (λ l. inserting site y true ++ l) (listed_joined xs x) ∙ sym (append_assoc (inserting site y true) (each_listed (map (inserting site) xs)) (inserting site x true))

  trees_joined : (xs : List Stmt) (x : Stmt) → each_in_list (map (guarding site) (xs ++ x ∷ [])) ≡ each_in_list (map (guarding site) xs) ++ in_list (guarding site x)
  trees_joined [] x = append-nil (in_list (guarding site x))
  trees_joined (y ∷ xs) x = ap (λ l. in_list (guarding site y) ++ l) (trees_joined xs x) ∙ sym (append_assoc (in_list (guarding site y)) (each_in_list (map (guarding site) xs)) (in_list (guarding site x)))

  in_list_alone : (x : Guarded) → x.declares ≡ false → alone x ∷ [] ≡ in_list x
  in_list_alone x e = ap (λ b. if b then x.tests ++ x.itself ∷ [] else alone x ∷ []) (sym e)

  abbrev pub AllInListOf : List Token → Stmts → Type 0
  AllInListOf ts found = AllInList ts (added (each_listed (map (inserting site) found.stmts))) (each_in_list (map (guarding site) found.stmts))

  abbrev pub GuardsOf : List Token → FoundStmt → Bool → Bool → Type 0
  GuardsOf ts found listed ends = Guards ts (added (inserting site found.stmt listed)) found.stmt.span.to (guarding site found.stmt) ends

  -- ---- a declaration in a list

  local_in_list : (ts : List Token) (mods : FoundMods) (ty : FoundType) (found : FoundDecls) (end : Span) → IsLocal ts mods ty found → (accesses : List Access) → AllNamed accesses
      → InList (ts ++ sign SEMICOLON end ∷ []) (added (text.before (local_stmt mods ty found end).stmt.span (bytes_of accesses))) end.to (test_trees (local_stmt mods ty found end).stmt.span accesses ++ (local_stmt mods ty found end).stmt ∷ [])
  local_in_list ts mods ty found end d [] names = record {
    news = ts ++ sign SEMICOLON end ∷ [];
    woven = λ at. keeps ts (λ word at. keep (sign SEMICOLON end) done) false at;
    listed = one_statement (ts ++ sign SEMICOLON end ∷ []) (local_stmt mods ty found end) (local_stmt mods ty found end).stmt (g.locals end d) refl;
  }
  local_in_list ts mods ty found end d (access ∷ rest) names =
      let accesses = access ∷ rest in
      let span = (local_stmt mods ty found end).stmt.span in
      let begins = local_begins ts mods ty found d in
      let new : Added = record { place = span.from; bytes = bytes_of accesses } in
      let tokens = tokens_of accesses in
      let later : Woven (is_word_like begins.first.kind) begins.first.span.to (begins.later ++ sign SEMICOLON end ∷ []) [] (begins.later ++ sign SEMICOLON end ∷ []) false end.to =
      keeps begins.later (λ word at. keep (sign SEMICOLON end) done) (is_word_like begins.first.kind) begins.first.span.to in
      record {
        news = tokens ++ (ts ++ sign SEMICOLON end ∷ []);
        woven = λ at.
            subst (λ l. Woven false at (l ++ sign SEMICOLON end ∷ []) (new ∷ []) (tokens ++ (l ++ sign SEMICOLON end ∷ [])) false end.to) (sym begins.whole)
            (before begins.first new 105 tokens (sym begins.from) (tests_inserted access rest names) refl later);
        listed = listed_both tokens (ts ++ sign SEMICOLON end ∷ []) (test_trees span accesses) ((local_stmt mods ty found end).stmt ∷ []) (tests_listed span accesses)
            (one_statement (ts ++ sign SEMICOLON end ∷ []) (local_stmt mods ty found end) (local_stmt mods ty found end).stmt (g.locals end d) refl);
      }

  in_list_as : (ts : List Token) (new other : List Added) (to : ℕ) (trees more : List Stmt) → new ≡ other → trees ≡ more → InList ts new to trees → InList ts other to more
  in_list_as ts new other to trees more e f h = subst (λ n. InList ts n to more) e (subst (λ t. InList ts new to t) f h)

  -- ---- the grammar

  returned : (start end : Span) (ts : List Token) (value : Option Found) → IsMaybe ts value → HaveNames ts → (listed : Bool) → GuardsOf (sign RETURN start ∷ (ts ++ sign SEMICOLON end ∷ [])) (g.return_stmt start value end) listed false
  returned start end _ _ g.absent h listed =
      let span = across start end in
      let core = kept_core (sign RETURN start) (sign SEMICOLON end ∷ []) span (statement (s.Return None) span) false (g.return_stmt start None end) refl (keep (sign SEMICOLON end) done) (g.returns start end g.absent) refl in
      guards_of (sign RETURN start ∷ sign SEMICOLON end ∷ []) (s.Return None) span listed false [] (untested (s.Return None) span) _ _
      (fold.return_kind (text.kind_step site) text.stmt_step None) (fold.return_kind (tree.kind_step site) tree.stmt_step None) refl refl end.to
      (untested_guards _ [] span (statement (s.Return None) span) false core)
  returned start end _ _ (g.present {ts} {f} d) h listed =
      let span = across start end in
      let kind = s.Return (Some f.expr) in
      let core = kept_core (sign RETURN start) (ts ++ sign SEMICOLON end ∷ []) span (statement kind span) false (g.return_stmt start (Some f) end) refl (keeps ts (λ word at. keep (sign SEMICOLON end) done) _ _) (g.returns start end (g.present d)) refl in
      guards_of (sign RETURN start ∷ (ts ++ sign SEMICOLON end ∷ [])) kind span listed false _ (with_tests kind span (expression_tested site f.expr)) _ _
      (fold.return_kind (text.kind_step site) text.stmt_step (Some f.expr)) (fold.return_kind (tree.kind_step site) tree.stmt_step (Some f.expr)) refl refl end.to
      (with_guards _ [] span (statement kind span) false f.expr core (accesses_named ts f d h))

  mutual
    pub stmt_guarded : (ends : Bool) (ts : List Token) (found : FoundStmt) → IsStmt ends ts found → HaveNames ts → (listed : Bool) → GuardsOf ts found listed ends
    stmt_guarded _ _ _ (g.block left right {ts} {found} d) h listed =
        let span = across left right in
        let inner = stmts_guarded ts found d (names_split ts (sign CLOSE_BRACE right ∷ []) h.1).0 in
        let inside = each_listed (map (inserting site) found.stmts) in
        let kind = s.Block (each_in_list (map (guarding site) found.stmts)) in
        let all = sign OPEN_BRACE left ∷ (ts ++ sign CLOSE_BRACE right ∷ []) in
        let core : Core all (added inside) span (statement kind span) false = record {
          first = sign OPEN_BRACE left;
          later = ts ++ sign CLOSE_BRACE right ∷ [];
          whole = refl;
          from = refl;
          news = inner.news ++ sign CLOSE_BRACE right ∷ [];
          woven = chained_kept (inner.woven left.to).1 (λ word at. keep (sign CLOSE_BRACE right) done);
          last = false;
          less = λ e. e;
          found = g.block_stmt left inner.listed.found right;
          is = g.block left right inner.listed.is;
          same = node_same (s.Block inner.listed.found.stmts) kind span span (block_same inner.listed.found.stmts (each_in_list (map (guarding site) found.stmts)) inner.listed.same);
        } in
        guards_of all (s.Block found.stmts) span listed false inside (untested kind span) _ _ (fold.block_kind (text.kind_step site) text.stmt_step found.stmts) (fold.block_kind (tree.kind_step site) tree.stmt_step found.stmts) refl refl right.to
        (untested_guards all (added inside) span (statement kind span) false core)
    stmt_guarded _ _ _ (g.empty end) h listed =
        let core = kept_core (sign SEMICOLON end) [] end (statement s.Empty end) false (g.stmt_node s.Empty 0 end) refl done (g.empty end) refl in
        guards_of (sign SEMICOLON end ∷ []) s.Empty end listed false [] (untested s.Empty end) _ _ (fold.empty_kind (text.kind_step site) text.stmt_step) (fold.empty_kind (tree.kind_step site) tree.stmt_step) refl refl end.to
        (untested_guards _ [] end (statement s.Empty end) false core)
    stmt_guarded _ _ _ (g.breaks start end) h listed =
        let span = across start end in
        let core = kept_core (sign BREAK start) (sign SEMICOLON end ∷ []) span (statement s.Break span) false (g.stmt_node s.Break 0 span) refl (keep (sign SEMICOLON end) done) (g.breaks start end) refl in
        guards_of (sign BREAK start ∷ sign SEMICOLON end ∷ []) s.Break span listed false [] (untested s.Break span) _ _ (fold.break_kind (text.kind_step site) text.stmt_step) (fold.break_kind (tree.kind_step site) tree.stmt_step) refl refl end.to
        (untested_guards _ [] span (statement s.Break span) false core)
    stmt_guarded _ _ _ (g.continues start end) h listed =
        let span = across start end in
        let core = kept_core (sign CONTINUE start) (sign SEMICOLON end ∷ []) span (statement s.Continue span) false (g.stmt_node s.Continue 0 span) refl (keep (sign SEMICOLON end) done) (g.continues start end) refl in
        guards_of (sign CONTINUE start ∷ sign SEMICOLON end ∷ []) s.Continue span listed false [] (untested s.Continue span) _ _ (fold.continue_kind (text.kind_step site) text.stmt_step) (fold.continue_kind (tree.kind_step site) tree.stmt_step) refl refl end.to
        (untested_guards _ [] span (statement s.Continue span) false core)
    stmt_guarded _ _ _ (g.throws start middle x left right end {ts} d) h listed =
        let span = across start end in
        let later = sign NEW middle ∷ name_token x ∷ sign OPEN_PAREN left ∷ (ts ++ sign CLOSE_PAREN right ∷ sign SEMICOLON end ∷ []) in
        let woven = keep (sign NEW middle) (keep (name_token x) (keep (sign OPEN_PAREN left) (keeps ts (λ word at. keep (sign CLOSE_PAREN right) (keep (sign SEMICOLON end) done)) _ _))) in
        let core = kept_core (sign THROW start) later span (statement (s.Throw x) span) false (g.throw_stmt start x end) refl woven (g.throws start middle x left right end d) refl in
        guards_of (sign THROW start ∷ later) (s.Throw x) span listed false [] (untested (s.Throw x) span) _ _ (fold.throw_kind (text.kind_step site) text.stmt_step x) (fold.throw_kind (tree.kind_step site) tree.stmt_step x) refl refl end.to
        (untested_guards _ [] span (statement (s.Throw x) span) false core)
    stmt_guarded _ _ _ (g.returns start end {ts} {value} d) h listed = returned start end ts value d (names_split ts (sign SEMICOLON end ∷ []) h.1).0 listed
    stmt_guarded _ _ _ (g.print system dot out second println left right end {ts} {f} d) h listed =
        let span = across system end in
        let later = sign DOT dot ∷ word_token OUT out ∷ sign DOT second ∷ word_token PRINTLN println ∷ sign OPEN_PAREN left ∷ (ts ++ sign CLOSE_PAREN right ∷ sign SEMICOLON end ∷ []) in
        let woven = keep (sign DOT dot) (keep (word_token OUT out) (keep (sign DOT second) (keep (word_token PRINTLN println) (keep (sign OPEN_PAREN left) (keeps ts (λ word at. keep (sign CLOSE_PAREN right) (keep (sign SEMICOLON end) done)) _ _))))) in
        let core = kept_core (word_token SYSTEM system) later span (statement (s.Print f.expr) span) false (g.print_stmt system f end) refl woven (g.print system dot out second println left right end d) refl in
        let names = accesses_named ts f d (names_split ts (sign CLOSE_PAREN right ∷ sign SEMICOLON end ∷ []) h.1.1.1.1.1.1).0 in
        guards_of (word_token SYSTEM system ∷ later) (s.Print f.expr) span listed false _ (with_tests (s.Print f.expr) span (expression_tested site f.expr)) _ _
        (fold.print_kind (text.kind_step site) text.stmt_step f.expr) (fold.print_kind (tree.kind_step site) tree.stmt_step f.expr) refl refl end.to
        (with_guards _ [] span (statement (s.Print f.expr) span) false f.expr core names)
    stmt_guarded _ _ _ (g.runs end {ts} {f} d other) h listed =
        let span = across f.outer end in
        let begins = expr_begins Whole ts f d.is in
        let later = begins.later ++ sign SEMICOLON end ∷ [] in
        let core : Core (ts ++ sign SEMICOLON end ∷ []) [] span (statement (s.Run f.expr) span) false = record {
          first = begins.first;
          later = later;
          whole = ap (λ l. l ++ sign SEMICOLON end ∷ []) begins.whole;
          from = begins.from;
          news = later;
          woven = keeps begins.later (λ word at. keep (sign SEMICOLON end) done) (is_word_like begins.first.kind) begins.first.span.to;
          last = false;
          less = λ e. e;
          found = g.run_stmt f end;
          is = subst (λ l. IsStmt false (l ++ sign SEMICOLON end ∷ []) (g.run_stmt f end)) begins.whole (g.runs end d other);
          same = refl;
        } in
        let names = accesses_named ts f d.is (names_split ts (sign SEMICOLON end ∷ []) h).0 in
        guards_of (ts ++ sign SEMICOLON end ∷ []) (s.Run f.expr) span listed false _ (with_tests (s.Run f.expr) span (expression_tested site f.expr)) _ _
        (fold.run_kind (text.kind_step site) text.stmt_step f.expr) (fold.run_kind (tree.kind_step site) tree.stmt_step f.expr) refl refl end.to
        (with_guards _ [] span (statement (s.Run f.expr) span) false f.expr core names)
    stmt_guarded _ _ _ (g.if_then start left right {ends} {ts} {us} {f} {found} d x) h listed =
        let span = across start found.stmt.span in
        let n = names_split ts (sign CLOSE_PAREN right ∷ us) h.1.1 in
        let one = stmt_guarded ends us found x n.1.1 false in
        let inside = inserting site found.stmt false in
        let kind = s.If f.expr (alone (guarding site found.stmt)) None in
        let core : Core (sign IF start ∷ sign OPEN_PAREN left ∷ (ts ++ sign CLOSE_PAREN right ∷ us)) (added inside) span (statement kind span) true = record {
          first = sign IF start;
          later = sign OPEN_PAREN left ∷ (ts ++ sign CLOSE_PAREN right ∷ us);
          whole = refl;
          from = refl;
          news = sign OPEN_PAREN left ∷ (ts ++ sign CLOSE_PAREN right ∷ one.news);
          woven = keep (sign OPEN_PAREN left) (keeps ts (λ word at. keep (sign CLOSE_PAREN right) (one.woven _ _)) _ _);
          last = true;
          less = λ e. e;
          found = g.if_stmt start f one.found;
          is = g.if_then start left right d one.is;
          same = node_same (s.If f.expr one.found.stmt None) kind (across start one.found.stmt.span) span (if_same f.expr f.expr one.found.stmt (alone (guarding site found.stmt)) refl one.same);
        } in
        let o = opening span (expression_tests site f.expr) in
        let c = closing span (expression_tests site f.expr) in
        guards_of _ (s.If f.expr found.stmt None) span listed true _ (with_tests kind span (expression_tested site f.expr)) _ _
        (fold.if_kind (text.kind_step site) text.stmt_step f.expr found.stmt) (fold.if_kind (tree.kind_step site) tree.stmt_step f.expr found.stmt) (sym (append_assoc o inside c)) refl found.stmt.span.to
        (with_guards _ inside span (statement kind span) true f.expr core (accesses_named ts f d n.0))
    stmt_guarded _ _ _ (g.if_else start left right middle {ends} {ts} {us} {vs} {f} {found} {other} d x y) h listed =
        let span = across start other.stmt.span in
        let n = names_split ts (sign CLOSE_PAREN right ∷ (us ++ sign ELSE middle ∷ vs)) h.1.1 in
        let m = names_split us (sign ELSE middle ∷ vs) n.1.1 in
        let one = stmt_guarded false us found x m.0 false in
        let two = stmt_guarded ends vs other y m.1.1 false in
        let first = inserting site found.stmt false in
        let second = inserting site other.stmt false in
        let kind = s.If f.expr (alone (guarding site found.stmt)) (Some (alone (guarding site other.stmt))) in
        let core : Core (sign IF start ∷ sign OPEN_PAREN left ∷ (ts ++ sign CLOSE_PAREN right ∷ (us ++ sign ELSE middle ∷ vs))) (added (first ++ second)) span (statement kind span) ends = record {
          first = sign IF start;
          later = sign OPEN_PAREN left ∷ (ts ++ sign CLOSE_PAREN right ∷ (us ++ sign ELSE middle ∷ vs));
          whole = refl;
          from = refl;
          news = sign OPEN_PAREN left ∷ (ts ++ sign CLOSE_PAREN right ∷ (one.news ++ sign ELSE middle ∷ two.news));
          woven = rw (added_both first second) (keep (sign OPEN_PAREN left) (keeps ts (λ word at. keep (sign CLOSE_PAREN right) (chained (one.woven _ _) (keep (sign ELSE middle) (two.woven _ _)))) _ _));
          last = two.last;
          less = two.less;
          found = g.if_else_stmt start f one.found two.found;
          is = g.if_else start left right middle d (subst (λ b. IsStmt b one.news one.found) (one.less refl) one.is) two.is;
          same = node_same (s.If f.expr one.found.stmt (Some two.found.stmt)) kind (across start two.found.stmt.span) span
              (if_else_same f.expr f.expr one.found.stmt (alone (guarding site found.stmt)) two.found.stmt (alone (guarding site other.stmt)) refl one.same two.same);
        } in
        let o = opening span (expression_tests site f.expr) in
        let c = closing span (expression_tests site f.expr) in
        guards_of _ (s.If f.expr found.stmt (Some other.stmt)) span listed ends _ (with_tests kind span (expression_tested site f.expr)) _ _
        (fold.if_else_kind (text.kind_step site) text.stmt_step f.expr found.stmt other.stmt) (fold.if_else_kind (tree.kind_step site) tree.stmt_step f.expr found.stmt other.stmt)
        (ap (λ l. o ++ l) (append_assoc first second c) ∙ sym (append_assoc o first (second ++ c))) refl other.stmt.span.to
        (with_guards _ (first ++ second) span (statement kind span) ends f.expr core (accesses_named ts f d n.0))
    stmt_guarded _ _ _ (g.while_do start left right {ends} {ts} {us} {f} {found} d x) h listed =
        let span = across start found.stmt.span in
        let n = names_split ts (sign CLOSE_PAREN right ∷ us) h.1.1 in
        let one = stmt_guarded ends us found x n.1.1 false in
        let inside = inserting site found.stmt false in
        let kind = s.While f.expr (alone (guarding site found.stmt)) in
        let core : Core (sign WHILE start ∷ sign OPEN_PAREN left ∷ (ts ++ sign CLOSE_PAREN right ∷ us)) (added inside) span (statement kind span) ends = record {
          first = sign WHILE start;
          later = sign OPEN_PAREN left ∷ (ts ++ sign CLOSE_PAREN right ∷ us);
          whole = refl;
          from = refl;
          news = sign OPEN_PAREN left ∷ (ts ++ sign CLOSE_PAREN right ∷ one.news);
          woven = keep (sign OPEN_PAREN left) (keeps ts (λ word at. keep (sign CLOSE_PAREN right) (one.woven _ _)) _ _);
          last = one.last;
          less = one.less;
          found = g.while_stmt start f one.found;
          is = g.while_do start left right d one.is;
          same = node_same (s.While f.expr one.found.stmt) kind (across start one.found.stmt.span) span (while_same f.expr f.expr one.found.stmt (alone (guarding site found.stmt)) refl one.same);
        } in
        guards_of _ (s.While f.expr found.stmt) span listed ends inside (untested kind span) _ _
        (fold.while_kind (text.kind_step site) text.stmt_step f.expr found.stmt) (fold.while_kind (tree.kind_step site) tree.stmt_step f.expr found.stmt) refl refl found.stmt.span.to
        (untested_guards _ (added inside) span (statement kind span) ends core)
    stmt_guarded _ _ _ (g.do_while start middle left right end {ends} {ts} {us} {f} {found} x d) h listed =
        let span = across start end in
        let rest = sign WHILE middle ∷ sign OPEN_PAREN left ∷ (ts ++ sign CLOSE_PAREN right ∷ sign SEMICOLON end ∷ []) in
        let one = stmt_guarded ends us found x (names_split us rest h.1).0 false in
        let inside = inserting site found.stmt false in
        let kind = s.Do (alone (guarding site found.stmt)) f.expr in
        let core : Core (sign DO start ∷ (us ++ rest)) (added inside) span (statement kind span) false = record {
          first = sign DO start;
          later = us ++ rest;
          whole = refl;
          from = refl;
          news = one.news ++ rest;
          woven = chained_kept (one.woven _ _) (λ word at. keep (sign WHILE middle) (keep (sign OPEN_PAREN left) (keeps ts (λ word at. keep (sign CLOSE_PAREN right) (keep (sign SEMICOLON end) done)) _ _)));
          last = false;
          less = λ e. e;
          found = g.do_stmt start one.found f end;
          is = g.do_while start middle left right end one.is d;
          same = node_same (s.Do one.found.stmt f.expr) kind span span (do_same f.expr f.expr one.found.stmt (alone (guarding site found.stmt)) refl one.same);
        } in
        guards_of _ (s.Do found.stmt f.expr) span listed false inside (untested kind span) _ _
        (fold.do_kind (text.kind_step site) text.stmt_step found.stmt f.expr) (fold.do_kind (tree.kind_step site) tree.stmt_step found.stmt f.expr) refl refl end.to
        (untested_guards _ (added inside) span (statement kind span) false core)
    stmt_guarded _ _ _ (g.for_do start left first_end cond_end right {ends} {ts} {us} {vs} {ws} {first} {cond} {update} {found} d c u x) h listed =
        let span = across start found.stmt.span in
        let third = vs ++ sign CLOSE_PAREN right ∷ ws in
        let second = us ++ sign SEMICOLON cond_end ∷ third in
        let n1 = names_split ts (sign SEMICOLON first_end ∷ second) h.1.1 in
        let n2 = names_split us (sign SEMICOLON cond_end ∷ third) n1.1.1 in
        let n3 = names_split vs (sign CLOSE_PAREN right ∷ ws) n2.1.1 in
        let one = stmt_guarded ends ws found x n3.1.1 false in
        let inside = inserting site found.stmt false in
        let parts = map (λ (part : Guarded). part.itself) (map (guarding site) first.stmts) in
        let kind = s.For parts (maybe_expr cond) update.items (alone (guarding site found.stmt)) in
        let core : Core (sign FOR start ∷ sign OPEN_PAREN left ∷ (ts ++ sign SEMICOLON first_end ∷ second)) (added inside) span (statement kind span) ends = record {
          first = sign FOR start;
          later = sign OPEN_PAREN left ∷ (ts ++ sign SEMICOLON first_end ∷ second);
          whole = refl;
          from = refl;
          news = sign OPEN_PAREN left ∷ (ts ++ sign SEMICOLON first_end ∷ (us ++ sign SEMICOLON cond_end ∷ (vs ++ sign CLOSE_PAREN right ∷ one.news)));
          woven = keep (sign OPEN_PAREN left) (keeps ts (λ word at. keep (sign SEMICOLON first_end) (keeps us (λ word at. keep (sign SEMICOLON cond_end) (keeps vs (λ word at. keep (sign CLOSE_PAREN right) (one.woven _ _)) _ _)) _ _)) _ _);
          last = one.last;
          less = one.less;
          found = g.for_stmt start first cond update one.found;
          is = g.for_do start left first_end cond_end right d c u one.is;
          same = node_same (s.For first.stmts (maybe_expr cond) update.items one.found.stmt) kind (across start one.found.stmt.span) span
              (for_same first.stmts parts (maybe_expr cond) (maybe_expr cond) update.items update.items one.found.stmt (alone (guarding site found.stmt)) (ap (map bare_stmt) (sym (all_itself first.stmts ∙ first_same ts first d))) refl refl one.same);
        } in
        guards_of _ (s.For first.stmts (maybe_expr cond) update.items found.stmt) span listed ends inside (untested kind span) _ _
        (fold.for_kind (text.kind_step site) text.stmt_step first.stmts (maybe_expr cond) update.items found.stmt) (fold.for_kind (tree.kind_step site) tree.stmt_step first.stmts (maybe_expr cond) update.items found.stmt) refl refl found.stmt.span.to
        (untested_guards _ (added inside) span (statement kind span) ends core)

    block_stmt_guarded : (ts : List Token) (found : FoundStmt) → IsBlockStmt ts found → HaveNames ts → InList ts (added (inserting site found.stmt true)) found.stmt.span.to (in_list (guarding site found.stmt))
    block_stmt_guarded _ _ (g.locals end {ts} {mods} {ty} {found} d) h =
        let span = (local_stmt mods ty found end).stmt.span in
        let kind = s.Local found.decls in
        let accesses = declaration_tested site found.decls in
        let names = declaration_named site found.decls (local_named ts mods ty found d (names_split ts (sign SEMICOLON end ∷ []) h).0) in
        in_list_as _ (added (text.before span (bytes_of accesses))) (added (inserting site (local_stmt mods ty found end).stmt true)) end.to (test_trees span accesses ++ (local_stmt mods ty found end).stmt ∷ []) (in_list (guarding site (local_stmt mods ty found end).stmt))
        (ap (λ b. added (text.before span b)) (sym (declaration_bytes site found.decls)) ∙ ap added (sym (inserts kind span true _ (fold.local_kind (text.kind_step site) text.stmt_step found.decls))))
        (ap in_list (sym (makes kind span _ (fold.local_kind (tree.kind_step site) tree.stmt_step found.decls))))
        (local_in_list ts mods ty found end d accesses names)
    block_stmt_guarded _ _ (g.stmt {ends} {ts} {found} d) h =
        let one = stmt_guarded ends ts found d h true in
        record {
          news = one.news;
          woven = λ at. one.woven false at;
          listed = let l = one_statement one.news one.found (alone (guarding site found.stmt)) (g.stmt one.is) one.same in
              subst (λ t. Listed one.news t) (in_list_alone (guarding site found.stmt) one.plain) l;
        }

    pub stmts_guarded : (ts : List Token) (found : Stmts) → IsStmts ts found → HaveNames ts → AllInListOf ts found
    stmts_guarded _ _ g.none h = record { news = []; woven = λ at. (at, done); listed = no_statements }
    stmts_guarded _ _ (g.one_more {ts} {us} {found} {last} d x) h =
        let n = names_split ts us h in
        let one = stmts_guarded ts found d n.0 in
        let two = block_stmt_guarded us last x n.1 in
        let first = each_listed (map (inserting site) found.stmts) in
        let second = inserting site last.stmt true in
        let trees = each_in_list (map (guarding site) found.stmts) in
        let more = in_list (guarding site last.stmt) in
        let both : AllInList (ts ++ us) (added first ++ added second) (trees ++ more) = record {
          news = one.news ++ two.news;
          woven = λ at. let w = one.woven at in (last.stmt.span.to, chained w.1 (two.woven w.0));
          listed = listed_both one.news two.news trees more one.listed two.listed;
        } in
        all_as (ts ++ us) (added first ++ added second) (added (each_listed (map (inserting site) (found.stmts ++ last.stmt ∷ [])))) (trees ++ more) (each_in_list (map (guarding site) (found.stmts ++ last.stmt ∷ [])))
        (sym (added_both first second) ∙ ap added (sym (listed_joined found.stmts last.stmt))) (sym (trees_joined found.stmts last.stmt)) both
      where
        all_as : (ts : List Token) (new other : List Added) (trees more : List Stmt) → new ≡ other → trees ≡ more → AllInList ts new trees → AllInList ts other more
        all_as ts new other trees more e f h = subst (λ n. AllInList ts n more) e (subst (λ t. AllInList ts new t) f h)
