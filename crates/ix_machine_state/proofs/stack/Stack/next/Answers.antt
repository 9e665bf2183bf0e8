use Rattle.ix_machine_state.proofs.Reach.{shorter_same}
use Rattle.ix_machine_state.proofs.stack.Stack.next.Goals as goal

pub loop-place-smaller-in-Rest : goal.loop-place-smaller-in-Rest
loop-place-smaller-in-Rest c = shorter_same _ _ _ _ c.in-Some.ensures.items c.close.ensures.items

pub loop-place-smaller : goal.loop-place-smaller
loop-place-smaller c = shorter_same _ _ _ _ c.in-Some.ensures.items c.close-in-Branch.ensures.items
