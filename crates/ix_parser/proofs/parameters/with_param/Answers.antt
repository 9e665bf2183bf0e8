use Rattle.std.proofs.Common.{◌≡◌, ℕ, List, [], ◌∷◌, ◌++◌, max, ap, ◌∙◌}
use Rattle.ix_tree.specs.declared.decl.LocalDecl.{LocalDecl}
use Rattle.ix_grammar.specs.declared.declarations.Params.{Params}
use Rattle.ix_parser.proofs.parameters.with_param.Goals as goal

abbrev made : List LocalDecl → ℕ → Params
made params height = record { params = params; height = height }

pub returns : goal.returns
returns c =
    let params : c.push.new.self ≡ c.args.before.params ++ c.args.found.decl ∷ [] = c.in_ok-push.ensures.added in
    let height : c.max.result ≡ max c.args.before.height c.args.found.height = c.max.ensures in
    ap (λ (more : List LocalDecl). made more c.max.result) params ∙ ap (made (c.args.before.params ++ c.args.found.decl ∷ [])) height
