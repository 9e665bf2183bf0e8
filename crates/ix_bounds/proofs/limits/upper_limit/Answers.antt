use Rattle.std.proofs.Common.{rules, w64, ap, ◌∙◌}
use Rattle.std.proofs.lemmas.Int.{to_z-of_z}
use Rattle.ix_facts.specs.Bounds as spec
use Rattle.ix_bounds.proofs.OnPath.{limit_is}
use Rattle.ix_bounds.proofs.limits.upper_limit.Goals as goal

pub returns-clause-bound : goal.returns-clause-bound
returns-clause-bound g c =
    let f = c.args.facts.now in
    let p = c.args.p.now in
    let all = g.G.Groups.all f in
    to_z-of_z w64 c.limit_among.result (search rules)
    ∙ (c.limit_among.ensures.bound ∙ (ap (λ l. spec.at_most (spec.range_high all p) (spec.least (spec.limit_by all p) l)) c.on_path.ensures.facts ∙ limit_is (g.G.Groups.group f p) all p (g.met.G.Groups.named f p)))
