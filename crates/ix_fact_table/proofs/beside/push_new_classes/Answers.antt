use Rattle.std.proofs.Common.{arith, refl}
use Rattle.ix_text.proofs.Walked.{none_left}
use Rattle.ix_facts.specs.Exact.{each}
use Rattle.ix_fact_table.specs.Beside.{new_class_of}
use Rattle.ix_fact_table.proofs.OverLabels.{next_fact}
use Rattle.ix_fact_table.proofs.beside.push_new_classes.Goals as goal

pub loop-fact-preserved : goal.loop-fact-preserved
loop-fact-preserved c = next_fact (new_class_of c.args.new.now) c.args.ranges.now c.loop-fact.fact-index _ (omega (arith, c.loop-fact-test.true)) c.loop-fact.out.items c.push_new_class.new.out.items _ c.in_ok-push_new_class.ensures c.loop-fact.invariant

pub returns : goal.returns
returns c = none_left (λ _. each (new_class_of c.args.new.now)) c.args.ranges.now c.loop-fact.fact-index _ _ c.loop-fact-test.false refl c.loop-fact.invariant
