use Rattle.std.proofs.Common.{◌≡◌, ◌≤◌, ◌-◌, ℕ, List, length}
use Rattle.ix_core.specs.Code.{items_code}
use Rattle.ix_core.specs.Machine.{Waiting, with_limits, frame}
use Rattle.ix_core.specs.Tables.{tables_of}
use Rattle.ix_core.specs.Tasks.{Tasks, code_then}
use Rattle.ix_machine_state.specs.View.{heap_of}
use Rattle.ix_machine_state.specs.Fits.{IsFreeFor}
use Rattle.ix_machine_state.specs.Frames.{slots_of}
use Rattle.ix_machine_state.specs.Places.{outer}
use Rattle.ix_machine.specs.Quiet.{LeadsTo}
use Rattle.ix_machine.specs.Turns.{state_with}
use Rattle.ix_machine.proofs.straight.do_row.Given as goal

abbrev pub invariant-loop-made : goal.invariant-loop-made
invariant-loop-made l = record {
  steps : (frames : ℕ) (tasks : Tasks) (below : List Waiting)
      → LeadsTo (with_limits l.initial.heap.most frames) (tables_of l.rows.program.now) l.made
      (state_with (frame l.initial.frame.method (code_then (items_code l.items) tasks) (slots_of l.initial.frame)) below (heap_of l.initial.heap) l.initial.wrapped)
      (state_with (frame l.initial.frame.method (code_then (items_code l.rest) tasks) (slots_of l.frame)) below (heap_of l.heap) l.wrapped);
  made : l.made ≤ l.most;
  free : IsFreeFor (length (outer l.initial.frame.stack.places.items)) l.initial.frame.stack.room (items_code l.rest);
  method : l.frame.method ≡ l.initial.frame.method;
  stack : l.frame.stack ≡ l.initial.frame.stack;
  most : l.heap.most ≡ l.initial.heap.most;
}

abbrev pub decreases-loop-made : goal.decreases-loop-made
decreases-loop-made l = l.most - l.made
