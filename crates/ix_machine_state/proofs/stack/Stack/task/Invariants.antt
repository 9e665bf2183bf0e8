use Rattle.std.proofs.Common.{◌≡◌, ◌≤◌, take, length}
use Rattle.ix_machine_state.specs.Places.{tasks_open}
use Rattle.ix_machine_state.proofs.stack.Stack.task.Given as goal

abbrev pub invariant-loop-left : goal.invariant-loop-left
invariant-loop-left l = record {
  tasks : tasks_open l.self.places.items ≡ tasks_open (take l.left l.self.places.items);
  within : l.left ≤ length l.self.places.items;
}

abbrev pub decreases-loop-left : goal.decreases-loop-left
decreases-loop-left l = l.left
