use Rattle.std.specs.Prelude.{Option, ℤ}
use Rattle.std.specs.Int.{int_min}
use Rattle.std.proofs.Common.{ap, sym, ◌∙◌}
use Rattle.ix_facts.specs.Bounds as spec
use Rattle.ix_bounds.specs.Lengths.{length_less_by}
use Rattle.ix_bounds.proofs.LessParts.{less_parts}
use Rattle.ix_bounds.proofs.PartsAlone.{length_less_of}
use Rattle.ix_bounds.proofs.stored.stored_less.Goals as goal

pub returns-clause-bound : goal.returns-clause-bound
returns-clause-bound g c =
    let f = c.args.facts.now in
    let all = g.G.Groups.all f in
    let p = c.args.p.now in
    let q = c.args.q.now in
    let by = length_less_by all p q in
    c.lesser.ensures
    ∙ (ap (λ (x : Option ℤ). spec.best int_min x c.length_less_on-through_lengths.result) c.fact_less.ensures.bound
    ∙ (ap (spec.best int_min (spec.fact_less all p q)) (c.length_less_on-through_lengths.ensures.bound ∙ (ap (spec.least by) c.lengths_on.ensures.facts ∙ length_less_of (g.G.Groups.lengths f q) all p q (g.met.G.Groups.named_lengths f q)))
    ∙ sym (less_parts all p q all)))
