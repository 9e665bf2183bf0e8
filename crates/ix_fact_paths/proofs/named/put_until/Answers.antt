use Rattle.ix_fact_paths.proofs.PartsNamed.{put_kept, put_further}
use Rattle.ix_fact_paths.proofs.named.put_until.Goals as goal

pub loop-fact-preserved : goal.loop-fact-preserved
loop-fact-preserved c =
    let is = c.in_ok-put_named.ensures.ints in
    record {
      is_put = put_kept c.args.facts.now c.loop-fact.fact-index _ c.args.ints.now c.loop-fact.ints c.put_named.new.ints is c.loop-fact.invariant.is_put;
      all = put_further c.args.facts.now c.loop-fact.fact-index _ c.args.ints.now c.loop-fact.ints c.put_named.new.ints c.loop-fact-test.true is c.loop-fact.invariant.all;
    }
