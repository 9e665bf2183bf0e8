use Rattle.std.proofs.Common.{◌≡◌, ℕ, List, [], ◌∷◌, ◌++◌, max, ap, ◌∙◌}
use Rattle.ix_tree.specs.declared.decl.Member.{Member}
use Rattle.ix_grammar.specs.declared.classes.Members.{Members}
use Rattle.ix_tree.specs.declared.decl.Member.TheVariants.{Field}
use Rattle.ix_parser.proofs.member_rules.with_field.Goals as goal

abbrev made : List Member → ℕ → Members
made members height = record { members = members; height = height }

pub returns : goal.returns
returns c =
    let members : c.push.new.self ≡ c.args.before.members ++ (Field c.args.found.decl) ∷ [] = c.in_ok-push.ensures.added in
    let height : c.max.result ≡ max c.args.before.height c.args.found.height = c.max.ensures in
    ap (λ (more : List Member). made more c.max.result) members ∙ ap (made (c.args.before.members ++ (Field c.args.found.decl) ∷ [])) height
