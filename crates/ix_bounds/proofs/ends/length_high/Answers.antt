use Rattle.std.proofs.Common.{rules, w64, ap, ◌∙◌}
use Rattle.std.proofs.lemmas.Int.{to_z-of_z}
use Rattle.ix_facts.specs.Bounds as spec
use Rattle.ix_bounds.proofs.PartsAlone.{length_high_of}
use Rattle.ix_bounds.proofs.ends.length_high.Goals as goal

pub returns-clause-bound : goal.returns-clause-bound
returns-clause-bound g c =
    let f = c.args.facts.now in
    let p = c.args.p.now in
    to_z-of_z w64 c.length_high_on.result (search rules) ∙ (c.length_high_on.ensures.bound ∙ (ap (λ l. spec.length_high l p) c.ends_on.ensures.facts ∙ length_high_of (g.G.Groups.ends f p) (g.G.Groups.all f) p (g.met.G.Groups.named_ends f p)))
