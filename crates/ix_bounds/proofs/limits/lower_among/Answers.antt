use Rattle.std.proofs.Common.{ap}
use Rattle.ix_facts.specs.Bounds as spec
use Rattle.ix_bounds.proofs.BoundedNumbers.{end_kept, end_limit, limit_kept, at_least_limit, at_least_step}
use Rattle.ix_bounds.proofs.limits.lower_among.Goals as goal

pub loop-fact-preserved : goal.loop-fact-preserved
loop-fact-preserved g c =
    let better = c.at_least-bound.ensures in
    let small = at_least_limit _ c.at_least-bound.result _ c.loop-fact.invariant.small c.lower_by.ensures.small better in
    let kept = limit_kept c.at_least-bound.result small in
    record {
      bound = rw kept (at_least_step (spec.lower_by (g.G.Groups.all c.args.facts.now) c.args.p.now) c.args.on_p.now c.loop-fact.fact-index _ _ c.at_least-bound.result _ _ c.loop-fact-test.true c.lower_by.ensures.bound better c.loop-fact.invariant.bound);
      small = rw kept small;
    }

pub loop-fact-init : goal.loop-fact-init
loop-fact-init g c =
    let all = g.G.Groups.all c.args.facts.now in
    let kept = end_kept c.range_low-bound.result c.range_low-bound.ensures.small in
    record {
      bound = rw kept (ap (λ n. spec.at_least n (spec.greatest (spec.lower_by all c.args.p.now) c.args.on_p.now)) c.range_low-bound.ensures.bound);
      small = rw kept (end_limit c.range_low-bound.result c.range_low-bound.ensures.small);
    }
