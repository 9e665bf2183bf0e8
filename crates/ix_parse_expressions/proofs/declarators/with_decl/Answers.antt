use Rattle.std.proofs.Common.{◌≡◌, ℕ, List, [], ◌∷◌, ◌++◌, max, ap, ◌∙◌}
use Rattle.ix_text.specs.declared.span.Span.{Span}
use Rattle.ix_tree.specs.declared.decl.LocalDecl.{LocalDecl}
use Rattle.ix_grammar.specs.declared.found.FoundDecls.{FoundDecls}
use Rattle.ix_parse_expressions.proofs.declarators.with_decl.Goals as goal

abbrev made : Span → List LocalDecl → ℕ → FoundDecls
made end decls height = record { decls = decls; height = height; end = end }

pub returns : goal.returns
returns c =
    let decls : c.push.new.self ≡ c.args.before.decls ++ c.args.found.decl ∷ [] = c.in_ok-push.ensures.added in
    let height : c.max.result ≡ max c.args.before.height c.args.found.height = c.max.ensures in
    ap (λ (more : List LocalDecl). made c.args.found.end more c.max.result) decls ∙ ap (made c.args.found.end (c.args.before.decls ++ c.args.found.decl ∷ [])) height
