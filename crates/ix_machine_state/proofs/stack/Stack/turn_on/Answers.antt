use Rattle.std.proofs.Common.{◌∙◌}
use Rattle.ix_machine_state.proofs.Reach.{shorter}
use Rattle.ix_machine_state.proofs.Opened.{next_turn-popped}
use Rattle.ix_machine_state.proofs.stack.Stack.turn_on.Goals as goal

pub loop-place-preserved : goal.loop-place-preserved
loop-place-preserved c = record {
  tasks = next_turn-popped _ _ c.in-Some.place c.in-Some.ensures.items (λ turn e. c.in_default-place.not-Again turn e) ∙ c.loop-place.invariant.tasks;
  room = c.pop.ensures.room ∙ c.loop-place.invariant.room;
}

pub loop-place-smaller : goal.loop-place-smaller
loop-place-smaller c = shorter _ _ _ c.in-Some.ensures.items
