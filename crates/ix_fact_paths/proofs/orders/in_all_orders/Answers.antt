use Rattle.std.specs.Prelude.{pos}
use Rattle.std.proofs.Common.{get_or, refl, arith}
use Rattle.ix_text.proofs.Walked.{next_or, none_left}
use Rattle.ix_core.specs.declared.fact.Path.TheVariants.{Slot}
use Rattle.ix_core.specs.declared.fact.Fact.TheVariants.{Rng}
use Rattle.ix_facts.specs.Facts.{in_orders}
use Rattle.ix_fact_paths.proofs.OneOrder.{orders_first}
use Rattle.ix_fact_paths.proofs.orders.in_all_orders.Goals as goal

pub loop-fact-preserved : goal.loop-fact-preserved
loop-fact-preserved c =
    let none = Rng (Slot 0) (pos 0) (pos 0) in
    let fact = get_or c.args.facts.now c.loop-fact.fact-index none in
    record {
      orders = next_or (λ _. in_orders) c.args.facts.now c.loop-fact.fact-index none _ _ _ _ c.loop-fact-test.true (orders_first fact) c.push_in_orders.ensures.orders c.loop-fact.invariant.orders;
      short = omega (arith, c.push_in_orders.ensures.at_most_two, c.loop-fact.invariant.short);
      room = omega (arith, c.push_in_orders.ensures.same_room, c.loop-fact.invariant.room);
    }

pub returns : goal.returns
returns c = none_left (λ _. in_orders) c.args.facts.now c.loop-fact.fact-index _ _ c.loop-fact-test.false refl c.loop-fact.invariant.orders
