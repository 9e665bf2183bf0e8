use Rattle.std.proofs.Common.{arith, refl}
use Rattle.ix_text.proofs.Walked.{none_left}
use Rattle.ix_facts.specs.Exact.{each}
use Rattle.ix_fact_table.specs.Saturated.{negative_of}
use Rattle.ix_fact_table.proofs.OverLabels.{next_fact}
use Rattle.ix_fact_table.proofs.searches.push_negatives.Goals as goal

pub loop-fact-preserved : goal.loop-fact-preserved
loop-fact-preserved c = next_fact (negative_of c.args.ranges.now) c.args.facts.now c.loop-fact.fact-index _ (omega (arith, c.loop-fact-test.true)) c.loop-fact.out.items c.push_negative_of.new.out.items _ c.in_ok-push_negative_of.ensures c.loop-fact.invariant

pub returns : goal.returns
returns c = none_left (λ _. each (negative_of c.args.ranges.now)) c.args.facts.now c.loop-fact.fact-index _ _ c.loop-fact-test.false refl c.loop-fact.invariant
