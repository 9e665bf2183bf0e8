use Rattle.std.proofs.Common.{◌≡◌, ℕ, List, [], ◌∷◌, ◌++◌, max, ap, ◌∙◌}
use Rattle.ix_tree.specs.declared.decl.ClassDecl.{ClassDecl}
use Rattle.ix_grammar.specs.declared.classes.Classes.{Classes}
use Rattle.ix_parser.proofs.class_rules.with_class.Goals as goal

abbrev made : List ClassDecl → ℕ → Classes
made classes height = record { classes = classes; height = height }

pub returns : goal.returns
returns c =
    let classes : c.push.new.self ≡ c.args.before.classes ++ c.args.found.class ∷ [] = c.in_ok-push.ensures.added in
    let height : c.max.result ≡ max c.args.before.height c.args.found.height = c.max.ensures in
    ap (λ (more : List ClassDecl). made more c.max.result) classes ∙ ap (made (c.args.before.classes ++ c.args.found.class ∷ [])) height
