use Rattle.std.proofs.Common.{rules, arith}
use Rattle.ix_facts.specs.Bounds as spec
use Rattle.ix_bounds.specs.OnArrays.{alike_on}
use Rattle.ix_bounds.proofs.BestOfParts.{next_each, counts_still}
use Rattle.ix_bounds.proofs.shifted.shifted_over.Goals as goal

pub loop-fact-preserved : goal.loop-fact-preserved
loop-fact-preserved g c =
    let f = c.args.facts.now in
    let a = c.args.a.now in
    record {
      bound = next_each (spec.shifted_by (g.G.Groups.all f) c.args.p.now a c.args.offset.now) (alike_on (g.G.Groups.group f) a) c.args.on_a.now c.loop-fact.fact-index _ (omega (arith, c.loop-fact-test.true)) c.loop-fact.bound c.shifted_alike-bound.result _ c.shifted_alike-bound.ensures.bound c.loop-fact.invariant.bound;
      counted = counts_still c.loop-fact.bound _ _ c.shifted_alike-bound.result c.loop-fact.invariant.counted c.shifted_alike-bound.ensures.bound;
      small = search rules;
    }
