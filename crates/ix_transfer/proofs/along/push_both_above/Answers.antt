use Rattle.ix_text.proofs.Chained.{both_ok}
use Rattle.ix_facts.specs.Finish as rule
use Rattle.ix_facts.specs.Exact.{each}
use Rattle.ix_intervals.specs.KeptLaws.{joined_two}
use Rattle.ix_transfer.proofs.along.push_both_above.Goals as goal

pub returns : goal.returns
returns c =
    both_ok c.push_steps_above.result c.push_bounds_above.result c.and.result _ _ _ c.and.ensures c.push_steps_above.ensures c.push_bounds_above.ensures
    (λ one two.
    joined_two c.args.out.now.items c.push_steps_above.new.out.items c.push_bounds_above.new.out.items (each (rule.step_above c.args.t.now c.args.q.now c.args.c.now) c.args.on_other.now) (each (rule.bound_above c.args.t.now c.args.q.now c.args.c.now) c.args.on_other.now) one two)
