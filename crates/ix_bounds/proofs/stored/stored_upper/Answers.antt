use Rattle.std.proofs.Common.{ap, ◌∙◌}
use Rattle.ix_facts.specs.Bounds as spec
use Rattle.ix_bounds.proofs.OnPath.{stored_upper_is}
use Rattle.ix_bounds.proofs.stored.stored_upper.Goals as goal

pub returns-clause-bound : goal.returns-clause-bound
returns-clause-bound g c =
    let f = c.args.facts.now in
    let all = g.G.Groups.all f in
    let p = c.args.p.now in
    let a = c.args.a.now in
    let o = c.args.offset.now in
    c.stored_upper_on.ensures.bound ∙ (ap (λ l. spec.greatest (spec.stored_upper_by all p a o) l) c.on_path.ensures.facts ∙ stored_upper_is (g.G.Groups.group f p) all p a o (g.met.G.Groups.named f p))
