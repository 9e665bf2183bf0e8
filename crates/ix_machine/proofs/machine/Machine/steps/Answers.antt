use Rattle.ix_machine_state.specs.Waiting.{waits_of}
use Rattle.ix_machine.proofs.Leading.{goes_then, tells_then}
use Rattle.ix_machine.proofs.machine.Machine.steps.Goals as goal

pub returns-clause-state : goal.returns-clause-state
returns-clause-state c =
    goes_then _ _ _ _ _ _ _ _ _ _ _ _ _ (c.do_operations-made.ensures.steps c.args.self.now.pool.most (waits_of c.args.self.now.pool.below.items)) c.requires.goes c.do_operations-made.ensures.most _ c.step-event.ensures.state

pub returns-clause-printed : goal.returns-clause-printed
returns-clause-printed c =
    tells_then _ _ _ _ _ _ _ _ _ _ _ _ _ (c.do_operations-made.ensures.steps c.args.self.now.pool.most (waits_of c.args.self.now.pool.below.items)) c.requires.goes c.do_operations-made.ensures.most _ c.step-event.ensures.event
