use Rattle.std.proofs.Common.{◌≡◌, ℕ, List, ◌++◌, max, ap, ◌∙◌}
use Rattle.ix_tree.specs.declared.decl.Member.{Member}
use Rattle.ix_grammar.specs.declared.classes.Members.{Members}
use Rattle.ix_grammar.specs.ClassGrammar.{method_of}
use Rattle.ix_parser.proofs.member_rules.with_method.Goals as goal

abbrev made : List Member → ℕ → Members
made members height = record { members = members; height = height }

pub returns : goal.returns
returns c =
    let found = method_of c.args.head.start c.args.head.mods c.args.head.result c.args.head.constructor c.args.head.name c.args.rest in
    let members : c.push.new.self ≡ c.args.before.members ++ found.members = c.in_ok-push.ensures.added ∙ ap (λ (more : List Member). c.args.before.members ++ more) c.method_decl.ensures in
    let height : c.max-height.result ≡ max c.args.before.height found.height = c.max-height.ensures ∙ ap (max c.args.before.height) c.method_height.ensures in
    ap (λ (more : List Member). made more c.max-height.result) members ∙ ap (made (c.args.before.members ++ found.members)) height
