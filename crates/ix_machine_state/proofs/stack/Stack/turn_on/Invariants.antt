use Rattle.std.proofs.Common.{◌≡◌, length}
use Rattle.ix_core.specs.Tasks.{next_turn}
use Rattle.ix_machine_state.specs.Places.{tasks_open}
use Rattle.ix_machine_state.proofs.stack.Stack.turn_on.Given as goal

abbrev pub invariant-loop-place : goal.invariant-loop-place
invariant-loop-place l = record {
  tasks : next_turn (tasks_open l.self.places.items) ≡ next_turn (tasks_open l.initial.self.places.items);
  room : l.self.room ≡ l.initial.self.room;
}

abbrev pub decreases-loop-place : goal.decreases-loop-place
decreases-loop-place l = length l.self.places.items
