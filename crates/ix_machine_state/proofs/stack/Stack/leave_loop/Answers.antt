use Rattle.std.proofs.Common.{◌∙◌}
use Rattle.ix_machine_state.proofs.Reach.{shorter}
use Rattle.ix_machine_state.proofs.Opened.{behind_loop-popped}
use Rattle.ix_machine_state.proofs.stack.Stack.leave_loop.Goals as goal

pub loop-place-preserved : goal.loop-place-preserved
loop-place-preserved c = record {
  tasks = behind_loop-popped _ _ c.in-Some.place c.in-Some.ensures.items (λ e. c.in_default-place.not-Out e) ∙ c.loop-place.invariant.tasks;
  room = c.pop.ensures.room ∙ c.loop-place.invariant.room;
}

pub loop-place-smaller : goal.loop-place-smaller
loop-place-smaller c = shorter _ _ _ c.in-Some.ensures.items
