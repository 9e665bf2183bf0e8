use Rattle.ix_graph.proofs.Makes.{done_then, turns_added}
use Rattle.ix_graph.proofs.builder.Builder.turns.Goals as goal

pub returns : goal.returns
returns c = record {
  made = done_then c.lead.result _ c.and.result _ _ c.and.ensures c.lead.ensures.led
      (λ x led.
      turns_added _ _ c.args.test_first _ _ _ _ c.order-tested.result _ _ _ _ c.in_ok-head.ensures.number c.in_ok-head.ensures.added c.in_ok-turn.ensures.first c.in_ok-turn.ensures.second c.in_ok-turn.ensures.third c.in_ok-turn.ensures.added
      c.order-tested.ensures led);
}
