use Rattle.std.proofs.Common.{arith, refl}
use Rattle.ix_text.proofs.Walked.{none_left}
use Rattle.ix_facts.specs.Exact.{each_path}
use Rattle.ix_core.specs.declared.fact.Fact.TheVariants.{Same}
use Rattle.ix_fact_table.specs.Saturated.{of_class}
use Rattle.ix_fact_table.proofs.OverLabels.{next_path}
use Rattle.ix_fact_table.proofs.labels.push_pairs.Goals as goal

pub loop-a-preserved : goal.loop-a-preserved
loop-a-preserved c = next_path (λ a. of_class c.args.classes.now c.args.arrays.now (Same a) a) c.args.firsts.now c.loop-a.a-index _ (omega (arith, c.loop-a-test.true)) c.loop-a.out.items c.push_of_class.new.out.items _ c.in_ok-push_of_class.ensures c.loop-a.invariant

pub returns : goal.returns
returns c = none_left (λ _. each_path (λ a. of_class c.args.classes.now c.args.arrays.now (Same a) a)) c.args.firsts.now c.loop-a.a-index _ _ c.loop-a-test.false refl c.loop-a.invariant
