use Rattle.ix_text.proofs.Chained.{both_ok}
use Rattle.ix_facts.specs.Finish as rule
use Rattle.ix_facts.specs.Exact.{each}
use Rattle.ix_intervals.specs.KeptLaws.{joined_two}
use Rattle.ix_transfer.proofs.along.push_both_below.Goals as goal

pub returns : goal.returns
returns c =
    both_ok c.push_steps_below.result c.push_bounds_below.result c.and.result _ _ _ c.and.ensures c.push_steps_below.ensures c.push_bounds_below.ensures
    (λ one two.
    joined_two c.args.out.now.items c.push_steps_below.new.out.items c.push_bounds_below.new.out.items (each (rule.step_below c.args.t.now c.args.p.now c.args.c.now) c.args.on_other.now) (each (rule.bound_below c.args.t.now c.args.p.now c.args.c.now) c.args.on_other.now) one two)
