use Rattle.std.proofs.Common.{◌++◌}
use Rattle.ix_text.proofs.Chained.{both_ok}
use Rattle.ix_facts.specs.Finish as rule
use Rattle.ix_facts.specs.Bounds as spec
use Rattle.ix_facts.specs.Exact.{each, if_so}
use Rattle.ix_intervals.specs.KeptLaws.{joined_two}
use Rattle.ix_transfer.proofs.along.push_along_less.Goals as goal

pub returns : goal.returns
returns g c =
    both_ok c.push_all_above.result c.push_all_below.result c.and.result _ _ _ c.and.ensures c.push_all_above.ensures c.push_all_below.ensures
    (λ one two.
    joined_two c.args.out.now.items c.push_all_above.new.out.items c.push_all_below.new.out.items (if_so (spec.is_path c.args.p.now c.args.t.now) (each (rule.step_above c.args.t.now c.args.q.now c.args.c.now) (g.K.Indexed.on_path c.args.know.now c.args.q.now) ++ each (rule.bound_above c.args.t.now c.args.q.now c.args.c.now) (g.K.Indexed.on_path c.args.know.now c.args.q.now))) (if_so (spec.is_path c.args.q.now c.args.t.now) (each (rule.step_below c.args.t.now c.args.p.now c.args.c.now) (g.K.Indexed.on_path c.args.know.now c.args.p.now) ++ each (rule.bound_below c.args.t.now c.args.p.now c.args.c.now) (g.K.Indexed.on_path c.args.know.now c.args.p.now))) one two)
