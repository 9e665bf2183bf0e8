use Rattle.std.proofs.Common.{arith}
use Rattle.ix_transfer.specs.OverNamed as over
use Rattle.ix_intervals.specs.KeptLaws.{all_facts, next_fact}
use Rattle.ix_transfer.proofs.along.push_along.Goals as goal

pub loop-fact-preserved : goal.loop-fact-preserved
loop-fact-preserved g c =
    next_fact (over.along_by (g.K.Indexed.on_path c.args.know.now) c.args.t.now) c.args.new.now c.loop-fact.fact-index _ (omega (arith, c.loop-fact-test.true)) c.loop-fact.out.items c.push_along_by.new.out.items _ c.in_ok-push_along_by.ensures c.loop-fact.invariant

pub returns : goal.returns
returns g c = all_facts (over.along_by (g.K.Indexed.on_path c.args.know.now) c.args.t.now) c.args.new.now c.loop-fact.fact-index (omega (arith, c.loop-fact-test.false)) c.loop-fact.out.items _ c.loop-fact.invariant
