use Rattle.ix_fact_paths.proofs.OneOrder.{one_further, not_same}
use Rattle.ix_fact_paths.proofs.orders.have_one_order.Goals as goal

pub loop-fact-preserved : goal.loop-fact-preserved
loop-fact-preserved c =
    λ same. c.loop-fact.invariant (one_further c.args.facts.now c.loop-fact.fact-index _ c.loop-fact-test.true (c.has_one_order.ensures.tells c.if-not-has_one_order.false) (c.has_one_order.ensures.one c.if-not-has_one_order.false) same)

pub returns-then-not-has_one_order-clause-more : goal.returns-then-not-has_one_order-clause-more
returns-then-not-has_one_order-clause-more c =
    λ none same. not_same c.args.facts.now c.loop-fact.fact-index _ c.loop-fact-test.true (c.has_one_order.ensures.two c.if-not-has_one_order.true) same
