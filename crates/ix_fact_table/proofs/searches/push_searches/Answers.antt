use Rattle.std.proofs.Common.{arith, refl}
use Rattle.ix_text.proofs.Walked.{none_left}
use Rattle.ix_facts.specs.Exact.{each}
use Rattle.ix_fact_table.specs.Saturated.{search_of}
use Rattle.ix_fact_table.proofs.OverLabels.{next_fact}
use Rattle.ix_fact_table.proofs.searches.push_searches.Goals as goal

pub loop-fact-preserved : goal.loop-fact-preserved
loop-fact-preserved c = next_fact (search_of) c.args.facts.now c.loop-fact.fact-index _ (omega (arith, c.loop-fact-test.true)) c.loop-fact.out.items c.push_search_of.new.out.items _ c.in_ok-push_search_of.ensures c.loop-fact.invariant

pub returns : goal.returns
returns c = none_left (λ _. each search_of) c.args.facts.now c.loop-fact.fact-index _ _ c.loop-fact-test.false refl c.loop-fact.invariant
