use Rattle.std.proofs.Common.{◌+◌, ap, ◌∙◌}
use Rattle.ix_bounds.specs.Ends.{is_end}
use Rattle.ix_fact_list.proofs.PartsTaken.{parts_further, further_within}
use Rattle.ix_fact_list.proofs.ends.up_to_ends.Goals as goal

pub loop-fact-preserved : goal.loop-fact-preserved
loop-fact-preserved c =
    let k = c.loop-fact.fact-index in
    let next = c.up_to_end-last.result in
    let one = ap (λ n. n + 1) c.loop-fact.invariant.seen in
    record {
      seen = one;
      within = further_within _ k c.loop-fact.last next (λ t. c.up_to_end-last.ensures.here t ∙ one) c.up_to_end-last.ensures.before c.loop-fact.invariant.within;
      ends = parts_further is_end c.args.facts.now k c.loop-fact.last next _ c.loop-fact-test.true (λ t. c.up_to_end-last.ensures.here t ∙ one) c.up_to_end-last.ensures.before c.loop-fact.invariant.ends;
    }
