-- In statements of the grammar an index that is a name stands where its name does.
use Rattle.std.proofs.Common.{◌≡◌, Bool, false, List, [], ◌∷◌, ◌++◌, map, Option, Some, None, refl, sym, subst, ◌∙◌}
use Rattle.ix_text.specs.declared.span.Span.{Span}
use Rattle.ix_lexer.specs.declared.token.Token.{Token}
use Rattle.ix_tree.specs.declared.decl.LocalDecl.{LocalDecl}
use Rattle.ix_tree.specs.declared.expr.Expr.{Expr}
use Rattle.ix_tree.specs.declared.stmt.Stmt.{Stmt}
use Rattle.ix_tree.specs.declared.stmt.StmtKind.{StmtKind}
use Rattle.ix_tree.specs.declared.stmt.StmtKind.TheVariants as s
use Rattle.ix_tree.proofs.FoldsOfForms as fold
use Rattle.ix_grammar.specs.declared.classes.Stmts.{Stmts}
use Rattle.ix_grammar.specs.declared.declarations.FoundDecl.{FoundDecl}
use Rattle.ix_grammar.specs.declared.declarations.FoundMods.{FoundMods}
use Rattle.ix_grammar.specs.declared.declarations.Shared.{Shared}
use Rattle.ix_grammar.specs.declared.found.Found.{Found}
use Rattle.ix_grammar.specs.declared.found.FoundDecls.{FoundDecls}
use Rattle.ix_grammar.specs.declared.found.FoundStmt.{FoundStmt}
use Rattle.ix_grammar.specs.declared.found.FoundType.{FoundType}
use Rattle.ix_grammar.specs.declared.found.Several.{Several}
use Rattle.ix_grammar.specs.Nodes.{across}
use Rattle.ix_grammar.specs.Lists.{IsSeparated, IsRepeated, first_item, next_item, no_item, one_more}
use Rattle.ix_grammar.specs.DeclGrammar as d
use Rattle.ix_grammar.specs.DeclGrammar.{IsDecl, IsDecls, shared, one_decl, with_decl}
use Rattle.ix_grammar.specs.ExprNodes.{with_expr}
use Rattle.ix_grammar.specs.ExprGrammar.{Whole, IsInit, IsStatementExpr}
use Rattle.ix_grammar.specs.StmtGrammar as g
use Rattle.ix_grammar.specs.StmtGrammar.{maybe_expr, run_part, one_run, with_run, one_expr, local_stmt, IsLocal, IsForFirst, IsMaybe, IsUpdate, IsStmt, IsBlockStmt, IsStmts}
use Rattle.ix_formed.specs.Additions.{AllOf}
use Rattle.ix_formed.proofs.NumberLists.{all_joined, all_so}
use Rattle.ix_guard.specs.Tests.{Site}
use Rattle.ix_guard.specs.Trees.{expression_tested, declaration_tested, returning}
use Rattle.ix_guard_promise.specs.AllAccesses.{AnyAccess, all_accesses, maybe, each_of, decl_accesses}
use Rattle.ix_guard_promise.specs.Outlines as outlining
use Rattle.ix_guard_promise.specs.Outlines.{Outline, nothing, followed, joined, everything, behind, untested, outline}
use Rattle.ix_guard_promise.specs.StandingIndices.{IndexStands, IndicesStand}
use Rattle.ix_guard_promise.proofs.StandingOutlines.{node_stand, followed_stand, joined_stand, each_stands}
use Rattle.ix_guard_promise.proofs.StandingExpressions.{ExprStands, expr_stands, init_stands}

-- ---- repetitions of the grammar

module _ {A B : Type 0} (Item : List Token → A → Type 0) (tree : A → B) (So : B → Type 0) (found : (ts : List Token) (x : A) → Item ts x → So (tree x)) {S : Type 0} (list : S → List B) (add : S → A → S)
    (adds : (s : S) (x : A) → list (add s x) ≡ list s ++ tree x ∷ []) where
  pub repeated_stand : (none : S) → list none ≡ [] → (ts : List Token) (s : S) → IsRepeated Item none add ts s → AllOf So (list s)
  repeated_stand none empty _ _ no_item = subst (AllOf So) (sym empty) tt
  repeated_stand none empty _ _ (one_more {before} {tokens} {items} {item} r i) =
      subst (AllOf So) (sym (adds items item)) (all_joined So (list items) (tree item ∷ []) (repeated_stand none empty before items r) (found tokens item i, tt))

  pub separated_stand : (first : A → S) → ((x : A) → list (first x) ≡ tree x ∷ []) → (ts : List Token) (s : S) → IsSeparated Item first add ts s → AllOf So (list s)
  separated_stand first starts _ _ (first_item {tokens} {item} i) = subst (AllOf So) (sym (starts item)) (found tokens item i, tt)
  separated_stand first starts _ _ (next_item {before} {tokens} {items} {item} comma r i) =
      subst (AllOf So) (sym (adds items item)) (all_joined So (list items) (tree item ∷ []) (separated_stand first starts before items r) (found tokens item i, tt))

-- ---- declarations

abbrev DeclStands : LocalDecl → Type 0
DeclStands decl = IndicesStand (decl_accesses decl)

decl_stands : (all : Shared) (ts : List Token) (found : FoundDecl) → IsDecl IsInit all ts found → DeclStands found.decl
decl_stands all _ _ (d.plain name) = tt
decl_stands all _ _ (d.with_init name assign {tokens} {found} r) = init_stands tokens found r

decls_stand : (all : Shared) (ts : List Token) (found : FoundDecls) → IsDecls IsInit all ts found → IndicesStand (each_of decl_accesses found.decls)
decls_stand all ts found r =
    each_stands decl_accesses found.decls (separated_stand (IsDecl IsInit all) (λ x. x.decl) DeclStands (decl_stands all) (λ s. s.decls) with_decl (λ s x. refl) one_decl (λ x. refl) ts found r)

-- ---- statements

abbrev pub OutlineStands : Outline → Type 0
OutlineStands o = IndicesStand (everything o)

exprs_stand : (xs : List Expr) → AllOf ExprStands xs → IndicesStand (each_of all_accesses xs)
exprs_stand xs all = each_stands all_accesses xs (all_so ExprStands (λ x. IndicesStand (all_accesses x)) (λ x a. a.inside) xs all)

maybe_stands : (ts : List Token) (value : Option Found) → IsMaybe ts value → IndicesStand (maybe all_accesses (maybe_expr value))
maybe_stands _ _ g.absent = tt
maybe_stands _ _ (g.present {ts} {f} r) = (expr_stands Whole ts f r).inside

updates_stand : (ts : List Token) (update : Several) → IsUpdate ts update → IndicesStand (each_of all_accesses update.items)
updates_stand _ _ g.no_update = tt
updates_stand _ _ (g.updates {ts} {found} r) =
    exprs_stand found.items (separated_stand IsStatementExpr (λ f. f.expr) ExprStands (λ ts f r. expr_stands Whole ts f r.is) (λ x. x.items) with_expr (λ x f. refl) one_expr (λ f. refl) ts found r)

module _ (site : Site) where
  abbrev pub StmtStands : Stmt → Type 0
  StmtStands x = OutlineStands (outline site x)

  abbrev kind_outline : StmtKind → Outline
  kind_outline = fold.of_stmt_kind (outlining.kind_step site) outlining.stmt_step

  stmt_node : (k : StmtKind) (span : Span) (o : Outline) → kind_outline k ≡ o → OutlineStands o → StmtStands (record { kind = k; span = span })
  stmt_node k span o is stand = subst OutlineStands (sym (fold.stmt_is (outlining.kind_step site) outlining.stmt_step k span ∙ is)) stand

  untested_stands : (others : List AnyAccess) (inner : Outline) → IndicesStand others → OutlineStands inner → OutlineStands (untested others inner)
  untested_stands others inner a b = node_stand [] [] others inner nothing tt a b tt

  behind_stands : (tests : _) (own : List AnyAccess) (inner : Outline) → IndicesStand own → OutlineStands inner → OutlineStands (behind tests own inner)
  behind_stands tests own inner a b = node_stand tests own [] inner nothing a tt b tt

  local_stands : (ts : List Token) (mods : FoundMods) (ty : FoundType) (found : FoundDecls) (end : Span) → IsLocal ts mods ty found → StmtStands (local_stmt mods ty found end).stmt
  local_stands _ _ _ _ end (g.local {first} {second} {third} {mods} {ty} {found} m t r) =
      stmt_node (s.Local found.decls) (local_stmt mods ty found end).stmt.span _ (fold.local_kind (outlining.kind_step site) outlining.stmt_step found.decls)
      (behind_stands (declaration_tested site found.decls) (each_of decl_accesses found.decls) nothing (decls_stand (shared mods ty) third found r) tt)

  run_stands : (ts : List Token) (f : Found) → IsStatementExpr ts f → (span : Span) → StmtStands (record { kind = s.Run f.expr; span = span })
  run_stands ts f r span =
      stmt_node (s.Run f.expr) span _ (fold.run_kind (outlining.kind_step site) outlining.stmt_step f.expr) (behind_stands (expression_tested site f.expr) (all_accesses f.expr) nothing (expr_stands Whole ts f r.is).inside tt)

  first_stands : (ts : List Token) (first : Stmts) → IsForFirst ts first → AllOf StmtStands first.stmts
  first_stands _ _ g.no_first = tt
  first_stands _ _ (g.locals {ts} {mods} {ty} {found} r) = (local_stands ts mods ty found found.end r, tt)
  first_stands _ _ (g.runs {ts} {found} r) =
      separated_stand IsStatementExpr (λ f. (run_part f).stmt) StmtStands (λ ts f r. run_stands ts f r f.outer) (λ x. x.stmts) with_run (λ x f. refl) one_run (λ f. refl) ts found r

  mutual
    stmt_stands : (ends : Bool) (ts : List Token) (found : FoundStmt) → IsStmt ends ts found → StmtStands found.stmt
    stmt_stands _ _ _ (g.block left right {ts} {found} r) =
        stmt_node (s.Block found.stmts) (across left right) _ (fold.block_kind (outlining.kind_step site) outlining.stmt_step found.stmts)
        (untested_stands [] (joined (map (outline site) found.stmts)) tt (joined_stand (outline site) found.stmts (stmts_stand ts found r)))
    stmt_stands _ _ _ (g.empty end) = stmt_node s.Empty end _ (fold.empty_kind (outlining.kind_step site) outlining.stmt_step) tt
    stmt_stands _ _ _ (g.if_then start left right {ends} {ts} {us} {f} {found} r x) =
        stmt_node (s.If f.expr found.stmt None) (across start found.stmt.span) _ (fold.if_kind (outlining.kind_step site) outlining.stmt_step f.expr found.stmt)
        (behind_stands (expression_tested site f.expr) (all_accesses f.expr) (outline site found.stmt) (expr_stands Whole ts f r).inside (stmt_stands ends us found x))
    stmt_stands _ _ _ (g.if_else start left right middle {ends} {ts} {us} {vs} {f} {found} {other} r x y) =
        stmt_node (s.If f.expr found.stmt (Some other.stmt)) (across start other.stmt.span) _ (fold.if_else_kind (outlining.kind_step site) outlining.stmt_step f.expr found.stmt other.stmt)
        (behind_stands (expression_tested site f.expr) (all_accesses f.expr) (followed (outline site found.stmt) (outline site other.stmt)) (expr_stands Whole ts f r).inside
        (followed_stand (outline site found.stmt) (outline site other.stmt) (stmt_stands false us found x) (stmt_stands ends vs other y)))
    stmt_stands _ _ _ (g.while_do start left right {ends} {ts} {us} {f} {found} r x) =
        stmt_node (s.While f.expr found.stmt) (across start found.stmt.span) _ (fold.while_kind (outlining.kind_step site) outlining.stmt_step f.expr found.stmt)
        (untested_stands (all_accesses f.expr) (outline site found.stmt) (expr_stands Whole ts f r).inside (stmt_stands ends us found x))
    stmt_stands _ _ _ (g.do_while start middle left right end {ends} {ts} {us} {f} {found} x r) =
        stmt_node (s.Do found.stmt f.expr) (across start end) _ (fold.do_kind (outlining.kind_step site) outlining.stmt_step found.stmt f.expr)
        (untested_stands (all_accesses f.expr) (outline site found.stmt) (expr_stands Whole ts f r).inside (stmt_stands ends us found x))
    stmt_stands _ _ _ (g.for_do start left first_end cond_end right {ends} {ts} {us} {vs} {ws} {first} {cond} {update} {found} r m u x) =
        let heads = everything (joined (map (outline site) first.stmts)) in
        let runs = maybe all_accesses (maybe_expr cond) ++ each_of all_accesses update.items in
        stmt_node (s.For first.stmts (maybe_expr cond) update.items found.stmt) (across start found.stmt.span) _
        (fold.for_kind (outlining.kind_step site) outlining.stmt_step first.stmts (maybe_expr cond) update.items found.stmt)
        (untested_stands (heads ++ runs) (outline site found.stmt)
        (all_joined IndexStands heads runs (joined_stand (outline site) first.stmts (first_stands ts first r))
        (all_joined IndexStands (maybe all_accesses (maybe_expr cond)) (each_of all_accesses update.items) (maybe_stands us cond m) (updates_stand vs update u))) (stmt_stands ends ws found x))
    stmt_stands _ _ _ (g.breaks start end) = stmt_node s.Break (across start end) _ (fold.break_kind (outlining.kind_step site) outlining.stmt_step) tt
    stmt_stands _ _ _ (g.continues start end) = stmt_node s.Continue (across start end) _ (fold.continue_kind (outlining.kind_step site) outlining.stmt_step) tt
    stmt_stands _ _ _ (g.returns start end {ts} {value} r) =
        stmt_node (s.Return (maybe_expr value)) (across start end) _ (fold.return_kind (outlining.kind_step site) outlining.stmt_step (maybe_expr value))
        (behind_stands (returning site (maybe_expr value)) (maybe all_accesses (maybe_expr value)) nothing (maybe_stands ts value r) tt)
    stmt_stands _ _ _ (g.throws start middle x left right end r) = stmt_node (s.Throw x) (across start end) _ (fold.throw_kind (outlining.kind_step site) outlining.stmt_step x) tt
    stmt_stands _ _ _ (g.print system dot out second println left right end {ts} {f} r) =
        stmt_node (s.Print f.expr) (across system end) _ (fold.print_kind (outlining.kind_step site) outlining.stmt_step f.expr)
        (behind_stands (expression_tested site f.expr) (all_accesses f.expr) nothing (expr_stands Whole ts f r).inside tt)
    stmt_stands _ _ _ (g.runs end {ts} {f} r other) = run_stands ts f r (across f.outer end)

    pub block_stmt_stands : (ts : List Token) (found : FoundStmt) → IsBlockStmt ts found → StmtStands found.stmt
    block_stmt_stands _ _ (g.locals end {ts} {mods} {ty} {found} r) = local_stands ts mods ty found end r
    block_stmt_stands _ _ (g.stmt {ends} {ts} {found} r) = stmt_stands ends ts found r

    stmts_stand : (ts : List Token) (found : Stmts) → IsStmts ts found → AllOf StmtStands found.stmts
    stmts_stand _ _ g.none = tt
    stmts_stand _ _ (g.one_more {ts} {us} {found} {last} r x) = all_joined StmtStands found.stmts (last.stmt ∷ []) (stmts_stand ts found r) (block_stmt_stands us last x, tt)
