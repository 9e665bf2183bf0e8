use Rattle.std.proofs.Common.{◌≡◌, ℕ, List, [], ◌∷◌, ◌++◌, max, ap, ◌∙◌}
use Rattle.ix_text.specs.declared.span.Span.{Span}
use Rattle.ix_tree.specs.declared.expr.Init.{Init}
use Rattle.ix_grammar.specs.declared.found.FoundItems.{FoundItems}
use Rattle.ix_parse_base.proofs.nodes.with_init.Goals as goal

abbrev made : Span → List Init → ℕ → FoundItems
made end items height = record { items = items; height = height; end = end }

pub returns : goal.returns
returns c =
    let items : c.push.new.self ≡ c.args.entries.items ++ c.args.more.init ∷ [] = c.in_ok-push.ensures.added ∙ ap (λ (x : Init). c.args.entries.items ++ x ∷ []) c.into_inner.ensures in
    let height : c.max-height.result ≡ max c.args.entries.height c.args.more.height = c.max-height.ensures in
    ap (λ (xs : List Init). made c.args.more.end xs c.max-height.result) items ∙ ap (made c.args.more.end (c.args.entries.items ++ c.args.more.init ∷ [])) height
