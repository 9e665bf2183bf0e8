use Rattle.std.proofs.Common.{[], arith}
use Rattle.ix_facts.specs.AfterOperation as after
use Rattle.ix_intervals.specs.KeptLaws.{all_facts, next_fact}
use Rattle.ix_transfer_rules.proofs.lengths.push_flips.Goals as goal

pub loop-fact-preserved : goal.loop-fact-preserved
loop-fact-preserved c =
    next_fact (after.flip_by [] c.args.t.now c.args.y.now) c.args.on_operand.now c.loop-fact.fact-index _ (omega (arith, c.loop-fact-test.true)) c.loop-fact.out.items c.push_flip_by.new.out.items _ c.in_ok-push_flip_by.ensures c.loop-fact.invariant

pub returns : goal.returns
returns c = all_facts (after.flip_by [] c.args.t.now c.args.y.now) c.args.on_operand.now c.loop-fact.fact-index c.loop-fact-test.false c.loop-fact.out.items _ c.loop-fact.invariant
