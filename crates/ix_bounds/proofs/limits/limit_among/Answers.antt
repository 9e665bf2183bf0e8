use Rattle.std.proofs.Common.{ap}
use Rattle.ix_facts.specs.Bounds as spec
use Rattle.ix_bounds.proofs.BoundedNumbers.{end_kept, end_limit, limit_kept, at_most_limit, at_most_step}
use Rattle.ix_bounds.proofs.limits.limit_among.Goals as goal

pub loop-fact-preserved : goal.loop-fact-preserved
loop-fact-preserved g c =
    let better = c.at_most-bound.ensures in
    let small = at_most_limit _ c.at_most-bound.result _ c.loop-fact.invariant.small c.limit_by.ensures.small better in
    let kept = limit_kept c.at_most-bound.result small in
    record {
      bound = rw kept (at_most_step (spec.limit_by (g.G.Groups.all c.args.facts.now) c.args.p.now) c.args.on_p.now c.loop-fact.fact-index _ _ c.at_most-bound.result _ _ c.loop-fact-test.true c.limit_by.ensures.bound better c.loop-fact.invariant.bound);
      small = rw kept small;
    }

pub loop-fact-init : goal.loop-fact-init
loop-fact-init g c =
    let all = g.G.Groups.all c.args.facts.now in
    let kept = end_kept c.range_high-bound.result c.range_high-bound.ensures.small in
    record {
      bound = rw kept (ap (λ n. spec.at_most n (spec.least (spec.limit_by all c.args.p.now) c.args.on_p.now)) c.range_high-bound.ensures.bound);
      small = rw kept (end_limit c.range_high-bound.result c.range_high-bound.ensures.small);
    }
