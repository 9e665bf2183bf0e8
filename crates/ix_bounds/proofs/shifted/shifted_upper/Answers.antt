use Rattle.std.proofs.Common.{ap, ◌∙◌}
use Rattle.std.specs.Prelude.{List, Option, ℤ}
use Rattle.std.specs.Int.{int_max}
use Rattle.ix_core.specs.declared.fact.Fact.{Fact}
use Rattle.ix_facts.specs.Bounds as spec
use Rattle.ix_facts.specs.Exact.{each}
use Rattle.ix_bounds.specs.OnArrays.{alike_on}
use Rattle.ix_bounds.proofs.BestOfParts.{counts_second}
use Rattle.ix_bounds.proofs.ArraysAlike.{arrays_are}
use Rattle.ix_bounds.proofs.shifted.shifted_upper.Goals as goal

-- the bound counts the facts on the array
pub shifted_over-requires-clause-counted : goal.shifted_over-requires-clause-counted
shifted_over-requires-clause-counted g c = counts_second c.stored_upper.result _ c.shifted_on-here.result (c.shifted_on-here.ensures.bound ∙ ap (λ l. spec.best int_max c.stored_upper.result (spec.greatest (spec.shifted_by (g.G.Groups.all c.args.facts.now) c.args.p.now c.args.a.now c.args.offset.now) l)) c.on_path-on_a.ensures.facts)

pub returns-clause-bound : goal.returns-clause-bound
returns-clause-bound g c =
    let f = c.args.facts.now in
    let p = c.args.p.now in
    let a = c.args.a.now in
    let o = c.args.offset.now in
    let all = g.G.Groups.all f in
    let group = g.G.Groups.group f in
    let by = spec.shifted_by all p a o in
    let alike : List Fact → Option ℤ = λ l. spec.greatest by (each (alike_on group a) l) in
    c.shifted_over.ensures.bound
    ∙ (ap (λ l. spec.best int_max c.shifted_on-here.result (alike l)) c.on_path-on_a.ensures.facts
    ∙ (ap (λ n. spec.best int_max n (alike (group a))) (c.shifted_on-here.ensures.bound ∙ ap (λ l. spec.best int_max c.stored_upper.result (spec.greatest by l)) c.on_path-on_a.ensures.facts)
    ∙ (arrays_are all group (g.met.G.Groups.named f) (g.met.G.Groups.only f) a p o c.stored_upper.result
    ∙ ap (λ n. spec.best int_max n (spec.greatest by all)) c.stored_upper.ensures.bound)))
