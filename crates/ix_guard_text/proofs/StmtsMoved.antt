-- Statements of moved tokens.
use Rattle.std.proofs.Common.{◌≡◌, ℕ, ◌+◌, max, Bool, List, [], ◌∷◌, ◌++◌, map, Option, Some, None, refl, sym, ap, ◌∙◌}
use Rattle.ix_text.specs.declared.span.Span.{Span}
use Rattle.ix_lexer.specs.declared.token.Token.{Token}
use Rattle.ix_lexer.specs.declared.fixed.TheConstants.{ELSE, WHILE, SEMICOLON, OPEN_PAREN, CLOSE_PAREN, CLOSE_BRACE}
use Rattle.ix_tree.specs.declared.stmt.Stmt.{Stmt}
use Rattle.ix_tree.specs.declared.stmt.StmtKind.{StmtKind}
use Rattle.ix_tree.specs.declared.stmt.StmtKind.TheVariants as s
use Rattle.ix_tree.proofs.FoldsOfForms as fold
use Rattle.ix_grammar.specs.declared.classes.Stmts.{Stmts}
use Rattle.ix_grammar.specs.declared.declarations.FoundMods.{FoundMods}
use Rattle.ix_grammar.specs.declared.found.Found.{Found}
use Rattle.ix_grammar.specs.declared.found.FoundDecls.{FoundDecls}
use Rattle.ix_grammar.specs.declared.found.FoundStmt.{FoundStmt}
use Rattle.ix_grammar.specs.declared.found.FoundType.{FoundType}
use Rattle.ix_grammar.specs.declared.found.Several.{Several}
use Rattle.ix_grammar.specs.Nodes.{across}
use Rattle.ix_grammar.specs.Patterns.{sign}
use Rattle.ix_grammar.specs.DeclGrammar.{begins, local_words, shared}
use Rattle.ix_grammar.specs.ClassGrammar.{no_stmts, with_stmt}
use Rattle.ix_grammar.specs.ExprNodes.{with_expr}
use Rattle.ix_grammar.specs.ExprGrammar.{Whole, IsStatementExpr}
use Rattle.ix_grammar.specs.StmtGrammar as g
use Rattle.ix_grammar.specs.StmtGrammar.{stmt_node, maybe_expr, maybe_height, begins_print, run_part, one_run, with_run, one_expr, local_stmt, IsLocal, IsForFirst, IsMaybe, IsUpdate, IsReason, IsStmt, IsBlockStmt, IsStmts}
use Rattle.ix_guard_text.specs.Bare.{bare_maybe as maybe}
use Rattle.ix_guard_text.proofs.ListsAgain.{map_joined}
use Rattle.ix_guard_text.specs.Moved.{Move, moved_span, moved_tokens, moved_name, moved_expr, moved_decl, stmt_kind_step, stmt_step, moved_stmt}
use Rattle.ix_guard_text.specs.MovedFound.{moved_found_type, moved_found, moved_several, moved_found_mods, moved_decls, moved_found_stmt, moved_stmts}
use Rattle.ix_guard_text.proofs.ListsMoved.{both, Moves, same_found, separated}
use Rattle.ix_guard_text.proofs.AnnotsMoved.{type_moves}
use Rattle.ix_guard_text.proofs.ExprsMoved.{exprs_joined, expr_moves, run_moves}
use Rattle.ix_guard_text.proofs.DeclsMoved.{begins_moved, mods_move, decls_move}

module _ (move : Move) where
  -- ---- nodes

  abbrev pub moved_stmt_kind : StmtKind → StmtKind
  moved_stmt_kind = fold.of_stmt_kind (stmt_kind_step move) (stmt_step move)

  abbrev as_stmt : StmtKind → Span → Stmt
  as_stmt kind span = record { kind = kind; span = span }

  -- a moved statement stands at its place moved
  pub span_moved : (x : Stmt) → (moved_stmt move x).span ≡ moved_span move x.span
  span_moved x = ap (λ (y : Stmt). y.span) (fold.stmt_is (stmt_kind_step move) (stmt_step move) x.kind x.span)

  -- what a rule gives for moved parts is the moved node
  pub stmt_moved : (k l : StmtKind) (parts : ℕ) (span other : Span) → moved_stmt_kind k ≡ l → other ≡ moved_span move span → stmt_node l parts other ≡ moved_found_stmt move (stmt_node k parts span)
  stmt_moved k l parts span other e f =
      ap (stmt_node l parts) f ∙ ap (λ (x : Stmt). let y : FoundStmt = record { stmt = x; height = parts + 1 } in y) (sym (fold.stmt_is (stmt_kind_step move) (stmt_step move) k span ∙ ap (λ x. as_stmt x (moved_span move span)) e))

  -- from there to the end of a statement
  to_end : (start : Span) (x : Stmt) → across (moved_span move start) (moved_stmt move x).span ≡ moved_span move (across start x.span)
  to_end start x = ap (across (moved_span move start)) (span_moved x)

  -- ---- parts

  pub stmts_joined : (s : Stmts) (x : FoundStmt) → with_stmt (moved_stmts move s) (moved_found_stmt move x) ≡ moved_stmts move (with_stmt s x)
  stmts_joined s x = ap (λ (l : List Stmt). let y : Stmts = record { stmts = l; height = max s.height x.height } in y) (sym (map_joined (moved_stmt move) s.stmts x.stmt))

  pub local_moved : (mods : FoundMods) (ty : FoundType) (found : FoundDecls) (end : Span)
      → local_stmt (moved_found_mods move mods) (moved_found_type move ty) (moved_decls move found) (moved_span move end) ≡ moved_found_stmt move (local_stmt mods ty found end)
  local_moved mods ty found end =
      stmt_moved (s.Local found.decls) (s.Local (map (moved_decl move) found.decls)) found.height (across (begins mods.first ty.ty.span) end) _ (fold.local_kind (stmt_kind_step move) (stmt_step move) found.decls)
      (ap (λ x. across x (moved_span move end)) (begins_moved move mods.first ty.ty.span))

  pub local_moves : (ts : List Token) (mods : FoundMods) (ty : FoundType) (found : FoundDecls) → IsLocal ts mods ty found
      → IsLocal (moved_tokens move ts) (moved_found_mods move mods) (moved_found_type move ty) (moved_decls move found)
  local_moves _ _ _ _ (g.local {first} {second} {third} {mods} {ty} {found} m t d) =
      rw (both move first (second ++ third), both move second third)
      (g.local (mods_move move local_words first mods m) (type_moves move second ty t) (decls_move move (shared mods ty) third found d))

  part_moved : (f : Found) → run_part (moved_found move f) ≡ moved_found_stmt move (run_part f)
  part_moved f = stmt_moved (s.Run f.expr) (s.Run (moved_expr move f.expr)) f.height f.outer (moved_span move f.outer) (fold.run_kind (stmt_kind_step move) (stmt_step move) f.expr) refl

  pub first_moves : Moves move IsForFirst IsForFirst (moved_stmts move)
  first_moves _ _ g.no_first = g.no_first
  first_moves _ _ (g.locals {ts} {mods} {ty} {found} d) =
      same_found IsForFirst (ap (with_stmt no_stmts) (local_moved mods ty found found.end) ∙ stmts_joined no_stmts (local_stmt mods ty found found.end)) (g.locals (local_moves ts mods ty found d))
  first_moves _ _ (g.runs {ts} {found} d) =
      g.runs (separated move IsStatementExpr IsStatementExpr (moved_found move) (run_moves move) (moved_stmts move) with_run
      (λ s x. ap (with_stmt (moved_stmts move s)) (part_moved x) ∙ stmts_joined s (run_part x)) one_run (λ x. ap (with_stmt no_stmts) (part_moved x) ∙ stmts_joined no_stmts (run_part x)) ts found d)

  pub maybe_moves : Moves move IsMaybe IsMaybe (maybe (moved_found move))
  maybe_moves _ _ g.absent = g.absent
  maybe_moves _ _ (g.present {ts} {f} d) = g.present (expr_moves move Whole ts f d)

  pub maybe_expr_moved : (value : Option Found) → maybe_expr (maybe (moved_found move) value) ≡ maybe (moved_expr move) (maybe_expr value)
  maybe_expr_moved None = refl
  maybe_expr_moved (Some f) = refl

  maybe_height_moved : (value : Option Found) → maybe_height (maybe (moved_found move) value) ≡ maybe_height value
  maybe_height_moved None = refl
  maybe_height_moved (Some f) = refl

  pub updates_move : Moves move IsUpdate IsUpdate (moved_several move)
  updates_move _ _ g.no_update = g.no_update
  updates_move _ _ (g.updates {ts} {found} d) =
      g.updates (separated move IsStatementExpr IsStatementExpr (moved_found move) (run_moves move) (moved_several move) with_expr (exprs_joined move) one_expr (λ x. refl) ts found d)

  reason_moves : (ts : List Token) → IsReason ts → IsReason (moved_tokens move ts)
  reason_moves _ g.no_reason = g.no_reason
  reason_moves _ (g.reason text span) = g.reason text (moved_span move span)

  print_moved : (ts : List Token) → begins_print (moved_tokens move ts) ≡ begins_print ts
  print_moved [] = refl
  print_moved (t0 ∷ []) = refl
  print_moved (t0 ∷ t1 ∷ []) = refl
  print_moved (t0 ∷ t1 ∷ t2 ∷ []) = refl
  print_moved (t0 ∷ t1 ∷ t2 ∷ t3 ∷ []) = refl
  print_moved (t0 ∷ t1 ∷ t2 ∷ t3 ∷ t4 ∷ []) = refl
  print_moved (t0 ∷ t1 ∷ t2 ∷ t3 ∷ t4 ∷ t5 ∷ ts) = refl

  return_moved : (start : Span) (value : Option Found) (end : Span) → g.return_stmt (moved_span move start) (maybe (moved_found move) value) (moved_span move end) ≡ moved_found_stmt move (g.return_stmt start value end)
  return_moved start value end =
      ap (λ x. stmt_node (s.Return x) (maybe_height (maybe (moved_found move) value)) (moved_span move (across start end))) (maybe_expr_moved value)
      ∙ ap (λ x. stmt_node (s.Return (maybe (moved_expr move) (maybe_expr value))) x (moved_span move (across start end))) (maybe_height_moved value)
      ∙ stmt_moved (s.Return (maybe_expr value)) _ (maybe_height value) (across start end) _ (fold.return_kind (stmt_kind_step move) (stmt_step move) (maybe_expr value)) refl

  for_moved : (start : Span) (first : Stmts) (cond : Option Found) (update : Several) (found : FoundStmt)
      → g.for_stmt (moved_span move start) (moved_stmts move first) (maybe (moved_found move) cond) (moved_several move update) (moved_found_stmt move found) ≡ moved_found_stmt move (g.for_stmt start first cond update found)
  for_moved start first cond update found =
      let body = moved_stmt move found.stmt in
      let span = across (moved_span move start) body.span in
      let firsts = map (moved_stmt move) first.stmts in
      let updates = map (moved_expr move) update.items in
      ap (λ x. stmt_node (s.For firsts x updates body) (max (max first.height (maybe_height (maybe (moved_found move) cond))) (max update.height found.height)) span) (maybe_expr_moved cond)
      ∙ ap (λ x. stmt_node (s.For firsts (maybe (moved_expr move) (maybe_expr cond)) updates body) (max (max first.height x) (max update.height found.height)) span) (maybe_height_moved cond)
      ∙ stmt_moved (s.For first.stmts (maybe_expr cond) update.items found.stmt) _ (max (max first.height (maybe_height cond)) (max update.height found.height)) (across start found.stmt.span) span
      (fold.for_kind (stmt_kind_step move) (stmt_step move) first.stmts (maybe_expr cond) update.items found.stmt) (to_end start found.stmt)

  -- ---- the grammar

  mutual
    pub stmt_moves : (ends : Bool) → Moves move (IsStmt ends) (IsStmt ends) (moved_found_stmt move)
    stmt_moves _ _ _ (g.block left right {ts} {found} d) =
        rw (both move ts (sign CLOSE_BRACE right ∷ []))
        (same_found (IsStmt _) (stmt_moved (s.Block found.stmts) (s.Block (map (moved_stmt move) found.stmts)) found.height (across left right) _ (fold.block_kind (stmt_kind_step move) (stmt_step move) found.stmts) refl)
        (g.block (moved_span move left) (moved_span move right) (stmts_move ts found d)))
    stmt_moves _ _ _ (g.empty end) = same_found (IsStmt _) (stmt_moved s.Empty s.Empty 0 end _ (fold.empty_kind (stmt_kind_step move) (stmt_step move)) refl) (g.empty (moved_span move end))
    stmt_moves _ _ _ (g.if_then start left right {ends} {ts} {us} {f} {found} d x) =
        rw (both move ts (sign CLOSE_PAREN right ∷ us))
        (same_found (IsStmt _)
        (stmt_moved (s.If f.expr found.stmt None) (s.If (moved_expr move f.expr) (moved_stmt move found.stmt) None) (max f.height found.height) (across start found.stmt.span) _ (fold.if_kind (stmt_kind_step move) (stmt_step move) f.expr found.stmt) (to_end start found.stmt))
        (g.if_then (moved_span move start) (moved_span move left) (moved_span move right) (expr_moves move Whole ts f d) (stmt_moves ends us found x)))
    stmt_moves _ _ _ (g.if_else start left right middle {ends} {ts} {us} {vs} {f} {found} {other} d x y) =
        rw (both move ts (sign CLOSE_PAREN right ∷ (us ++ sign ELSE middle ∷ vs)), both move us (sign ELSE middle ∷ vs))
        (same_found (IsStmt _)
        (stmt_moved (s.If f.expr found.stmt (Some other.stmt)) (s.If (moved_expr move f.expr) (moved_stmt move found.stmt) (Some (moved_stmt move other.stmt))) (max f.height (max found.height other.height)) (across start other.stmt.span) _
        (fold.if_else_kind (stmt_kind_step move) (stmt_step move) f.expr found.stmt other.stmt) (to_end start other.stmt))
        (g.if_else (moved_span move start) (moved_span move left) (moved_span move right) (moved_span move middle) (expr_moves move Whole ts f d) (stmt_moves _ us found x) (stmt_moves ends vs other y)))
    stmt_moves _ _ _ (g.while_do start left right {ends} {ts} {us} {f} {found} d x) =
        rw (both move ts (sign CLOSE_PAREN right ∷ us))
        (same_found (IsStmt _)
        (stmt_moved (s.While f.expr found.stmt) (s.While (moved_expr move f.expr) (moved_stmt move found.stmt)) (max f.height found.height) (across start found.stmt.span) _ (fold.while_kind (stmt_kind_step move) (stmt_step move) f.expr found.stmt) (to_end start found.stmt))
        (g.while_do (moved_span move start) (moved_span move left) (moved_span move right) (expr_moves move Whole ts f d) (stmt_moves ends us found x)))
    stmt_moves _ _ _ (g.do_while start middle left right end {ends} {ts} {us} {f} {found} x d) =
        rw (both move us (sign WHILE middle ∷ sign OPEN_PAREN left ∷ (ts ++ sign CLOSE_PAREN right ∷ sign SEMICOLON end ∷ [])), both move ts (sign CLOSE_PAREN right ∷ sign SEMICOLON end ∷ []))
        (same_found (IsStmt _)
        (stmt_moved (s.Do found.stmt f.expr) (s.Do (moved_stmt move found.stmt) (moved_expr move f.expr)) (max found.height f.height) (across start end) _ (fold.do_kind (stmt_kind_step move) (stmt_step move) found.stmt f.expr) refl)
        (g.do_while (moved_span move start) (moved_span move middle) (moved_span move left) (moved_span move right) (moved_span move end) (stmt_moves ends us found x) (expr_moves move Whole ts f d)))
    stmt_moves _ _ _ (g.for_do start left first_end cond_end right {ends} {ts} {us} {vs} {ws} {first} {cond} {update} {found} d c u x) =
        let third = vs ++ sign CLOSE_PAREN right ∷ ws in
        rw (both move ts (sign SEMICOLON first_end ∷ (us ++ sign SEMICOLON cond_end ∷ third)), both move us (sign SEMICOLON cond_end ∷ third), both move vs (sign CLOSE_PAREN right ∷ ws))
        (same_found (IsStmt _) (for_moved start first cond update found)
        (g.for_do (moved_span move start) (moved_span move left) (moved_span move first_end) (moved_span move cond_end) (moved_span move right) (first_moves ts first d) (maybe_moves us cond c) (updates_move vs update u) (stmt_moves ends ws found x)))
    stmt_moves _ _ _ (g.breaks start end) = same_found (IsStmt _) (stmt_moved s.Break s.Break 0 (across start end) _ (fold.break_kind (stmt_kind_step move) (stmt_step move)) refl) (g.breaks (moved_span move start) (moved_span move end))
    stmt_moves _ _ _ (g.continues start end) = same_found (IsStmt _) (stmt_moved s.Continue s.Continue 0 (across start end) _ (fold.continue_kind (stmt_kind_step move) (stmt_step move)) refl) (g.continues (moved_span move start) (moved_span move end))
    stmt_moves _ _ _ (g.returns start end {ts} {value} d) =
        rw (both move ts (sign SEMICOLON end ∷ [])) (same_found (IsStmt _) (return_moved start value end) (g.returns (moved_span move start) (moved_span move end) (maybe_moves ts value d)))
    stmt_moves _ _ _ (g.throws start middle x left right end {ts} d) =
        rw (both move ts (sign CLOSE_PAREN right ∷ sign SEMICOLON end ∷ []))
        (same_found (IsStmt _) (stmt_moved (s.Throw x) (s.Throw (moved_name move x)) 1 (across start end) _ (fold.throw_kind (stmt_kind_step move) (stmt_step move) x) refl)
        (g.throws (moved_span move start) (moved_span move middle) (moved_name move x) (moved_span move left) (moved_span move right) (moved_span move end) (reason_moves ts d)))
    stmt_moves _ _ _ (g.print system dot out second println left right end {ts} {f} d) =
        rw (both move ts (sign CLOSE_PAREN right ∷ sign SEMICOLON end ∷ []))
        (same_found (IsStmt _) (stmt_moved (s.Print f.expr) (s.Print (moved_expr move f.expr)) f.height (across system end) _ (fold.print_kind (stmt_kind_step move) (stmt_step move) f.expr) refl)
        (g.print (moved_span move system) (moved_span move dot) (moved_span move out) (moved_span move second) (moved_span move println) (moved_span move left) (moved_span move right) (moved_span move end) (expr_moves move Whole ts f d)))
    stmt_moves _ _ _ (g.runs end {ts} {f} d other) =
        rw (both move ts (sign SEMICOLON end ∷ []))
        (same_found (IsStmt _) (stmt_moved (s.Run f.expr) (s.Run (moved_expr move f.expr)) f.height (across f.outer end) _ (fold.run_kind (stmt_kind_step move) (stmt_step move) f.expr) refl)
        (g.runs (moved_span move end) (run_moves move ts f d) (print_moved ts ∙ other)))

    pub block_stmt_moves : Moves move IsBlockStmt IsBlockStmt (moved_found_stmt move)
    block_stmt_moves _ _ (g.locals end {ts} {mods} {ty} {found} d) =
        rw (both move ts (sign SEMICOLON end ∷ [])) (same_found IsBlockStmt (local_moved mods ty found end) (g.locals (moved_span move end) (local_moves ts mods ty found d)))
    block_stmt_moves _ _ (g.stmt {ends} {ts} {found} d) = g.stmt (stmt_moves ends ts found d)

    pub stmts_move : Moves move IsStmts IsStmts (moved_stmts move)
    stmts_move _ _ g.none = g.none
    stmts_move _ _ (g.one_more {ts} {us} {found} {last} d x) =
        rw (both move ts us) (same_found IsStmts (stmts_joined found last) (g.one_more (stmts_move ts found d) (block_stmt_moves us last x)))
