use Rattle.std.proofs.Common.{◌≡◌, reverse, if◌then◌else◌, length}
use Rattle.ix_core.specs.Tasks.{followed_by}
use Rattle.ix_machine_state.specs.Places.{branches_of}
use Rattle.ix_machine_state.proofs.stack.Stack.decided.Given as goal

abbrev pub invariant-loop-place : goal.invariant-loop-place
invariant-loop-place l = record {
  tasks : followed_by (if l.now then (branches_of (reverse l.self.places.items)).when_true else (branches_of (reverse l.self.places.items)).when_false) (branches_of (reverse l.self.places.items)).after
      ≡ followed_by (if l.initial.now then (branches_of (reverse l.initial.self.places.items)).when_true else (branches_of (reverse l.initial.self.places.items)).when_false) (branches_of (reverse l.initial.self.places.items)).after;
  room : l.self.room ≡ l.initial.self.room;
}

abbrev pub decreases-loop-place : goal.decreases-loop-place
decreases-loop-place l = length l.self.places.items
