use Rattle.ix_facts.specs.Bounds as spec
use Rattle.ix_bounds.proofs.BoundedNumbers.{end_kept, at_least_end, at_least_step}
use Rattle.ix_bounds.proofs.ends.range_low_on.Goals as goal

pub loop-fact-preserved : goal.loop-fact-preserved
loop-fact-preserved c =
    let better = c.at_least-bound.ensures in
    let small = at_least_end _ c.at_least-bound.result _ c.loop-fact.invariant.small c.range_low_by.ensures.small better in
    let kept = end_kept c.at_least-bound.result small in
    record {
      bound = rw kept (at_least_step (spec.range_low_by c.args.p.now) c.args.on_p.now c.loop-fact.fact-index _ _ c.at_least-bound.result _ _ c.loop-fact-test.true c.range_low_by.ensures.bound better c.loop-fact.invariant.bound);
      small = rw kept small;
    }
