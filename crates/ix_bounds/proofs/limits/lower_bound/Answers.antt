use Rattle.std.proofs.Common.{rules, w64, ap, ◌∙◌}
use Rattle.std.proofs.lemmas.Int.{to_z-of_z}
use Rattle.ix_facts.specs.Bounds as spec
use Rattle.ix_bounds.proofs.PartsAlone.{lower_of}
use Rattle.ix_bounds.proofs.limits.lower_bound.Goals as goal

pub returns-clause-bound : goal.returns-clause-bound
returns-clause-bound g c =
    let f = c.args.facts.now in
    let p = c.args.p.now in
    let all = g.G.Groups.all f in
    to_z-of_z w64 c.lower_among.result (search rules)
    ∙ (c.lower_among.ensures.bound ∙ (ap (λ l. spec.at_least (spec.range_low all p) (spec.greatest (spec.lower_by all p) l)) c.links_on.ensures.facts ∙ lower_of (g.G.Groups.links f p) all p (g.met.G.Groups.named_links f p)))
