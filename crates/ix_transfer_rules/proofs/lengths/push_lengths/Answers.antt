use Rattle.std.proofs.Common.{[], arith}
use Rattle.ix_facts.specs.AfterOperation as after
use Rattle.ix_intervals.specs.KeptLaws.{all_facts, next_fact}
use Rattle.ix_transfer_rules.proofs.lengths.push_lengths.Goals as goal

pub loop-fact-preserved : goal.loop-fact-preserved
loop-fact-preserved c =
    next_fact (after.length_by [] c.args.t.now c.args.a.now) c.args.on_operand.now c.loop-fact.fact-index _ (omega (arith, c.loop-fact-test.true)) c.loop-fact.out.items c.push_length_by.new.out.items _ c.in_ok-push_length_by.ensures c.loop-fact.invariant

pub returns : goal.returns
returns c = all_facts (after.length_by [] c.args.t.now c.args.a.now) c.args.on_operand.now c.loop-fact.fact-index c.loop-fact-test.false c.loop-fact.out.items _ c.loop-fact.invariant
