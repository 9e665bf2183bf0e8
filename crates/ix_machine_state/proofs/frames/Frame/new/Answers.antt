use Rattle.std.proofs.Common.{ap, map, ◌∙◌}
use Rattle.ix_core.specs.Machine.{frame}
use Rattle.ix_core.specs.Tasks.{Empty}
use Rattle.ix_machine_state.specs.Rows.{held_of}
use Rattle.ix_machine_state.specs.Places.{tasks_open}
use Rattle.ix_machine_state.proofs.frames.Frame.new.Goals as goal

pub returns-clause-empty : goal.returns-clause-empty
returns-clause-empty c =
    ap (λ places. frame 0 (tasks_open places) (map held_of c.in_ok-slots.slots.items)) c.in_ok-stack.ensures.empty ∙ ap (λ slots. frame 0 Empty (map held_of slots)) c.in_ok-slots.ensures.items
