-- A statement at its place moved follows the statement.
use Rattle.std.proofs.Common.{List, [], ◌∷◌, map, Some, None, sym, ap, subst, ◌∙◌}
use Rattle.ix_text.specs.declared.span.Span.{Span}
use Rattle.ix_tree.specs.declared.stmt.Stmt.{Stmt, Stmt-F, ind-Stmt, map-Stmt, roll-Stmt, fold-roll-Stmt}
use Rattle.ix_tree.specs.declared.stmt.StmtKind.{StmtKind, StmtKind-F, map-StmtKind, roll-StmtKind, fold-StmtKind, fold-roll-StmtKind}
use Rattle.ix_source.specs.Context.{Context}
use Rattle.ix_source.specs.Statements as statements
use Rattle.ix_source.specs.Statements.{Normal, Breaks, Continues, Execution, or_nothing, execution}
use Rattle.ix_source.proofs.Equations as equations
use Rattle.ix_source.proofs.Equations.{kind_execution}
use Rattle.ix_guard_text.specs.Bare.{bare_maybe as maybe}
use Rattle.ix_guard_text.specs.Moved as moved
use Rattle.ix_guard_text.specs.Moved.{Move, moved_span, moved_name, moved_expr, moved_decl, moved_stmt}
use Rattle.ix_guard_promise.specs.Behind.{ContextFollows}
use Rattle.ix_guard_promise.proofs.StatementForms.{Keeps, AllKeep, none_keep, more_keep, keeps_as, completes_keeps, throw_keeps, print_keeps, run_keeps, return_keeps, local_keeps, block_keeps, choice_keeps, while_keeps, do_keeps, for_keeps}

module _ (move : Move) (new old : Context) (follows : ContextFollows move new old) where
  abbrev Kept : Execution → Execution → Type 0
  Kept = Keeps move new old

  abbrev AllKept : List Execution → List Execution → Type 0
  AllKept = AllKeep move new old

  abbrev moved_kind : StmtKind → StmtKind
  moved_kind = fold-StmtKind StmtKind Stmt (moved.stmt_kind_step move) (moved.stmt_step move)

  abbrev KindIs : StmtKind → Type 0
  KindIs kind = (span other : Span) → Kept (kind_execution (moved_kind kind) span) (kind_execution kind other)

  abbrev StmtIs : Stmt → Type 0
  StmtIs stmt = Kept (execution (moved_stmt move stmt)) (execution stmt)

  module _ {K S : Type 0} (kind : K → StmtKind) (stmt : S → Stmt) (stmt_is : (x : S) → StmtIs (stmt x)) where
    all_follow : (xs : List S) → AllKept (map execution (map (moved_stmt move) (map stmt xs))) (map execution (map stmt xs))
    all_follow [] = none_keep move new old follows
    all_follow (x ∷ xs) = more_keep move new old follows (execution (moved_stmt move (stmt x))) (execution (stmt x)) (map execution (map (moved_stmt move) (map stmt xs)))
        (map execution (map stmt xs)) (stmt_is x) (all_follow xs)

    kind_layer : (y : StmtKind-F K S) (span other : Span) → let layer = map-StmtKind K S StmtKind Stmt kind stmt y in
        Kept (kind_execution (moved.stmt_kind_step move (map-StmtKind StmtKind Stmt StmtKind Stmt moved_kind (moved_stmt move) layer)) span)
        (statements.kind_step (map-StmtKind StmtKind Stmt (Span → Execution) Execution kind_execution execution layer) other)
    kind_layer (StmtKind-F.Block xs) span other =
        rw (equations.block_kind (map (moved_stmt move) (map stmt xs)) span) (block_keeps move new old follows (map execution (map (moved_stmt move) (map stmt xs))) (map execution (map stmt xs))
        (all_follow xs))
    kind_layer StmtKind-F.Empty span other = rw (equations.empty_kind span) (completes_keeps move new old follows Normal)
    kind_layer (StmtKind-F.Local decls) span other = rw (equations.local_kind (map (moved_decl move) decls) span) (local_keeps move new old follows decls)
    kind_layer (StmtKind-F.If c x None) span other =
        rw (equations.if_kind (moved_expr move c) (moved_stmt move (stmt x)) span)
        (choice_keeps move new old follows c (execution (moved_stmt move (stmt x))) (or_nothing None) (execution (stmt x)) (or_nothing None) (stmt_is x) (completes_keeps move new old follows Normal))
    kind_layer (StmtKind-F.If c x (Some y)) span other =
        rw (equations.if_else_kind (moved_expr move c) (moved_stmt move (stmt x)) (moved_stmt move (stmt y)) span)
        (choice_keeps move new old follows c (execution (moved_stmt move (stmt x))) (execution (moved_stmt move (stmt y))) (execution (stmt x)) (execution (stmt y)) (stmt_is x) (stmt_is y))
    kind_layer (StmtKind-F.While c x) span other =
        rw (equations.while_kind (moved_expr move c) (moved_stmt move (stmt x)) span) (while_keeps move new old follows c (execution (moved_stmt move (stmt x))) (execution (stmt x)) (stmt_is x))
    kind_layer (StmtKind-F.Do x c) span other =
        rw (equations.do_kind (moved_stmt move (stmt x)) (moved_expr move c) span) (do_keeps move new old follows c (execution (moved_stmt move (stmt x))) (execution (stmt x)) (stmt_is x))
    kind_layer (StmtKind-F.For first c update x) span other =
        rw (equations.for_kind (map (moved_stmt move) (map stmt first)) (maybe (moved_expr move) c) (map (moved_expr move) update) (moved_stmt move (stmt x)) span)
        (for_keeps move new old follows (map execution (map (moved_stmt move) (map stmt first))) (map execution (map stmt first)) c update (execution (moved_stmt move (stmt x))) (execution (stmt x))
        (all_follow first) (stmt_is x))
    kind_layer StmtKind-F.Break span other = rw (equations.break_kind span) (completes_keeps move new old follows Breaks)
    kind_layer StmtKind-F.Continue span other = rw (equations.continue_kind span) (completes_keeps move new old follows Continues)
    kind_layer (StmtKind-F.Return value) span other = rw (equations.return_kind (maybe (moved_expr move) value) span) (return_keeps move new old follows value)
    kind_layer (StmtKind-F.Throw name) span other = rw (equations.throw_kind (moved_name move name) span) (throw_keeps move new old follows name.text span.from other.from)
    kind_layer (StmtKind-F.Print expr) span other = rw (equations.print_kind (moved_expr move expr) span) (print_keeps move new old follows expr)
    kind_layer (StmtKind-F.Run expr) span other = rw (equations.run_kind (moved_expr move expr) span) (run_keeps move new old follows expr)

    kind_rolled : (y : StmtKind-F K S) → KindIs (roll-StmtKind (map-StmtKind K S StmtKind Stmt kind stmt y))
    kind_rolled y span other =
        let layer = map-StmtKind K S StmtKind Stmt kind stmt y in
        let a = fold-roll-StmtKind StmtKind Stmt (moved.stmt_kind_step move) (moved.stmt_step move) layer in
        let b = fold-roll-StmtKind (Span → Execution) Execution statements.kind_step statements.stmt_step layer in
        subst (λ k. Kept (kind_execution k span) (kind_execution (roll-StmtKind layer) other)) (sym a)
        (subst (λ (f : Span → Execution). Kept (kind_execution (moved.stmt_kind_step move (map-StmtKind StmtKind Stmt StmtKind Stmt moved_kind (moved_stmt move) layer)) span) (f other)) (sym b)
        (kind_layer y span other))

    stmt_rolled : ((k : K) → KindIs (kind k)) → (y : Stmt-F K S) → StmtIs (roll-Stmt (map-Stmt K S StmtKind Stmt kind stmt y))
    stmt_rolled kind_is y =
        let layer = map-Stmt K S StmtKind Stmt kind stmt y in
        let a = fold-roll-Stmt StmtKind Stmt (moved.stmt_kind_step move) (moved.stmt_step move) layer in
        let b = fold-roll-Stmt (Span → Execution) Execution statements.kind_step statements.stmt_step layer in
        keeps_as move new old follows (execution (moved_stmt move (roll-Stmt layer))) (execution (roll-Stmt layer)) (kind_execution (moved_kind (kind y.kind)) (moved_span move y.span))
        (kind_execution (kind y.kind) y.span)
        (ap execution a ∙ equations.stmt_is (moved_kind (kind y.kind)) (moved_span move y.span)) b (kind_is y.kind (moved_span move y.span) y.span)

  pub moved_follows : (stmt : Stmt) → StmtIs stmt
  moved_follows = ind-Stmt KindIs StmtIs
      (λ x y e. subst (λ layer. KindIs (roll-StmtKind layer)) e (kind_rolled (λ k. k.0) (λ s. s.0) (λ s. s.1) y))
      (λ x y e. subst (λ layer. StmtIs (roll-Stmt layer)) e (stmt_rolled (λ k. k.0) (λ s. s.0) (λ s. s.1) (λ k. k.1) y))

  pub all_moved_follow : (stmts : List Stmt) → AllKept (map execution (map (moved_stmt move) stmts)) (map execution stmts)
  all_moved_follow [] = none_keep move new old follows
  all_moved_follow (stmt ∷ stmts) =
      more_keep move new old follows (execution (moved_stmt move stmt)) (execution stmt) (map execution (map (moved_stmt move) stmts)) (map execution stmts) (moved_follows stmt) (all_moved_follow stmts)
