use Rattle.std.proofs.Common.{ap, ◌∙◌}
use Rattle.std.specs.Int.{int_max}
use Rattle.ix_facts.specs.Bounds as spec
use Rattle.ix_bounds.proofs.OnPath.{upper_is}
use Rattle.ix_bounds.proofs.upper.upper_bound.Goals as goal

pub returns-clause-bound : goal.returns-clause-bound
returns-clause-bound g c =
    let f = c.args.facts.now in
    let p = c.args.p.now in
    let a = c.args.a.now in
    let o = c.args.offset.now in
    let all = g.G.Groups.all f in
    let others = c.greatest_upper_by-others.ensures.bound ∙ (ap (λ l. spec.greatest (spec.upper_by all p a o) l) c.on_path.ensures.facts ∙ upper_is (g.G.Groups.group f p) all p a o (g.met.G.Groups.named f p)) in
    let rest = c.greater.ensures ∙ (λ i. spec.best int_max (c.upper_from_ends-ends.ensures.bound i) (others i)) in
    c.greater-2.ensures ∙ (λ i. spec.best int_max (c.shifted_upper.ensures.bound i) (rest i))
