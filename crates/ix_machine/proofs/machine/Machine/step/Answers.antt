use Rattle.std.proofs.Common.{true, ap, sym, ◌∙◌}
use Rattle.ix_core.specs.Machine.{step}
use Rattle.ix_core.specs.Tables.{tables_of}
use Rattle.ix_machine_state.specs.View.{heap_of}
use Rattle.ix_machine_state.specs.Frames.{frame_of}
use Rattle.ix_machine_state.specs.Waiting.{waits_of}
use Rattle.ix_machine.proofs.Leading.{state_ended}
use Rattle.ix_machine.specs.State.{limits_of}
use Rattle.ix_machine.proofs.machine.Machine.step.Goals as goal

pub returns-in-Done-clause-state : goal.returns-in-Done-clause-state
returns-in-Done-clause-state c =
    let old = c.args.self.now in
    ap (state_ended (frame_of c.turn.new.frame) (waits_of c.turn.new.pool.below.items) (heap_of c.turn.new.heap) old.wrapped) c.requires ∙ (sym (c.in-Done.ensures.state old.wrapped) ∙ ap (λ ended. step (limits_of old) (tables_of old.rows.program.now) (state_ended (frame_of old.frame) (waits_of old.pool.below.items) (heap_of old.heap) old.wrapped ended)) (sym c.requires))

pub returns-in-Printed-clause-state : goal.returns-in-Printed-clause-state
returns-in-Printed-clause-state c =
    let old = c.args.self.now in
    ap (state_ended (frame_of c.turn.new.frame) (waits_of c.turn.new.pool.below.items) (heap_of c.turn.new.heap) old.wrapped) c.requires ∙ (sym (c.in-Printed.ensures.state old.wrapped) ∙ ap (λ ended. step (limits_of old) (tables_of old.rows.program.now) (state_ended (frame_of old.frame) (waits_of old.pool.below.items) (heap_of old.heap) old.wrapped ended)) (sym c.requires))

pub returns-in-Wrapped-clause-state : goal.returns-in-Wrapped-clause-state
returns-in-Wrapped-clause-state c =
    let old = c.args.self.now in
    ap (state_ended (frame_of c.turn.new.frame) (waits_of c.turn.new.pool.below.items) (heap_of c.turn.new.heap) true) c.requires ∙ (sym (c.in-Wrapped.ensures.state old.wrapped) ∙ ap (λ ended. step (limits_of old) (tables_of old.rows.program.now) (state_ended (frame_of old.frame) (waits_of old.pool.below.items) (heap_of old.heap) old.wrapped ended)) (sym c.requires))

pub returns-in-Stopped-clause-state : goal.returns-in-Stopped-clause-state
returns-in-Stopped-clause-state c =
    let old = c.args.self.now in
    sym (c.in-Stopped.ensures.state old.wrapped) ∙ ap (λ ended. step (limits_of old) (tables_of old.rows.program.now) (state_ended (frame_of old.frame) (waits_of old.pool.below.items) (heap_of old.heap) old.wrapped ended)) (sym c.requires)
