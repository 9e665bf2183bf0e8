use Rattle.std.proofs.Common.{◌≡◌, ℕ, List, [], ◌∷◌, ◌++◌, max, ap, ◌∙◌}
use Rattle.ix_tree.specs.declared.expr.Expr.{Expr}
use Rattle.ix_grammar.specs.declared.found.Several.{Several}
use Rattle.ix_parse_base.proofs.nodes.with_expr.Goals as goal

abbrev made : List Expr → ℕ → Several
made items height = record { items = items; height = height }

pub returns : goal.returns
returns c =
    let items : c.push.new.self ≡ c.args.several.items ++ c.args.more.expr ∷ [] = c.in_ok-push.ensures.added ∙ ap (λ (x : Expr). c.args.several.items ++ x ∷ []) c.into_inner.ensures in
    let height : c.max-height.result ≡ max c.args.several.height c.args.more.height = c.max-height.ensures in
    ap (λ (xs : List Expr). made xs c.max-height.result) items ∙ ap (made (c.args.several.items ++ c.args.more.expr ∷ [])) height
