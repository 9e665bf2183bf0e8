use Rattle.ix_core.specs.Machine.{with_limits}
use Rattle.ix_core.specs.Tables.{tables_of}
use Rattle.ix_machine.proofs.Leading.{done_leads, wrapped_leads}
use Rattle.ix_machine.proofs.straight.goes_on.Goals as goal

pub returns-in-Done-clause-step : goal.returns-in-Done-clause-step
returns-in-Done-clause-step c = λ yes frames rest tasks below.
    done_leads (with_limits c.args.heap.now.most frames) (tables_of c.args.rows.now.program.now) c.args.frame.now.method c.args.op.now rest tasks _ _ _ _ below _ (c.in-Done.ensures.done frames)

pub returns-in-Wrapped-clause-step : goal.returns-in-Wrapped-clause-step
returns-in-Wrapped-clause-step c = λ yes frames rest tasks below.
    wrapped_leads (with_limits c.args.heap.now.most frames) (tables_of c.args.rows.now.program.now) c.args.frame.now.method c.args.op.now rest tasks _ _ _ _ below _ (c.in-Wrapped.ensures.done frames)
