use Rattle.ix_text.proofs.Chained.{both_ok}
use Rattle.ix_fact_list.proofs.limits.put_each.Goals as goal

pub returns : goal.returns
returns g c = record {
  raised = both_ok c.put_low.result c.put_high.result c.and.result _ _ _ c.and.ensures c.put_low.ensures.raised c.put_high.ensures.lowered (λ raised lowered. raised);
  lowered = both_ok c.put_low.result c.put_high.result c.and.result _ _ _ c.and.ensures c.put_low.ensures.raised c.put_high.ensures.lowered (λ raised lowered. lowered);
  small_lows = both_ok c.put_low.result c.put_high.result c.and.result _ _ _ c.and.ensures c.put_low.ensures.small c.put_high.ensures.small (λ lows highs. lows);
  small_highs = both_ok c.put_low.result c.put_high.result c.and.result _ _ _ c.and.ensures c.put_low.ensures.small c.put_high.ensures.small (λ lows highs. highs);
}
