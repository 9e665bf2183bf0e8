use Rattle.std.proofs.Common.{◌≡◌, List, [], ◌∷◌, ◌++◌, ap, ◌∙◌}
use Rattle.ix_tree.specs.declared.decl.LocalDecl.{LocalDecl}
use Rattle.ix_grammar.specs.declared.found.FoundDecls.{FoundDecls}
use Rattle.ix_grammar.specs.declared.declarations.FoundDecl.{FoundDecl}
use Rattle.ix_parse_expressions.proofs.declarators.one_decl.Goals as goal

abbrev made : FoundDecl → List LocalDecl → FoundDecls
made found decls = record { decls = decls; height = found.height; end = found.end }

pub returns : goal.returns
returns c =
    let decls : c.push.new.self ≡ c.args.found.decl ∷ [] = c.in_ok-push.ensures.added ∙ ap (λ (none : List LocalDecl). none ++ c.args.found.decl ∷ []) c.new-decls.ensures in
    ap (made c.args.found) decls
