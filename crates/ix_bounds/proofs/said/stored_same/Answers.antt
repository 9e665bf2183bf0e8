use Rattle.std.proofs.Common.{ap, ◌∙◌}
use Rattle.ix_facts.specs.Bounds as spec
use Rattle.ix_bounds.proofs.Looks.{same_on_path}
use Rattle.ix_bounds.proofs.said.stored_same.Goals as goal

pub returns : goal.returns
returns g c =
    let f = c.args.facts.now in
    let a = c.args.a.now in
    let b = c.args.b.now in
    c.same_on.ensures ∙ (ap (λ l. spec.stored_same l a b) c.on_path.ensures.facts ∙ same_on_path a b (g.G.Groups.group f a) (g.G.Groups.all f) (g.met.G.Groups.named f a))
