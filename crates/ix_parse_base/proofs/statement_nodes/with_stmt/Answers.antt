use Rattle.std.proofs.Common.{◌≡◌, ℕ, List, [], ◌∷◌, ◌++◌, max, ap, ◌∙◌}
use Rattle.ix_tree.specs.declared.stmt.Stmt.{Stmt}
use Rattle.ix_grammar.specs.declared.classes.Stmts.{Stmts}
use Rattle.ix_parse_base.proofs.statement_nodes.with_stmt.Goals as goal

abbrev made : List Stmt → ℕ → Stmts
made stmts height = record { stmts = stmts; height = height }

pub returns : goal.returns
returns c =
    let stmts : c.push.new.self ≡ c.args.before.stmts ++ c.args.found.stmt ∷ [] = c.in_ok-push.ensures.added ∙ ap (λ (x : Stmt). c.args.before.stmts ++ x ∷ []) c.into_inner.ensures in
    let height : c.max-height.result ≡ max c.args.before.height c.args.found.height = c.max-height.ensures in
    ap (λ (s : List Stmt). made s c.max-height.result) stmts ∙ ap (made (c.args.before.stmts ++ c.args.found.stmt ∷ [])) height
