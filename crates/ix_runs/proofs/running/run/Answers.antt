use Rattle.std.proofs.Common.{rules}
use Rattle.ix_machine.specs.State.{state_of, limits_of}
use Rattle.ix_runs.proofs.RunPrefixes.{lines_prefix, last_prefix}
use Rattle.ix_runs.proofs.running.run.Goals as goal

pub returns-in_err-write_seen-clause-prefix : goal.returns-in_err-write_seen-clause-prefix
returns-in_err-write_seen-clause-prefix g c =
    lines_prefix c.args.traced c.args.program.now c.args.machine.now.rows.program.now c.args.lines.now (limits_of c.args.machine.now) c.args.steps (state_of c.args.machine.now)
    (g.K.Sink.taken c.args.out.now) (g.K.Sink.taken c.write_seen.new.out) c.requires.program c.write_seen.ensures.prefix

pub returns-in_default-clause-prefix : goal.returns-in_default-clause-prefix
returns-in_default-clause-prefix g c =
    lines_prefix c.args.traced c.args.program.now c.args.machine.now.rows.program.now c.args.lines.now (limits_of c.args.machine.now) c.args.steps (state_of c.args.machine.now)
    (g.K.Sink.taken c.args.out.now) (g.K.Sink.taken c.write_seen.new.out) c.requires.program c.write_seen.ensures.prefix

pub returns-in_err-write_all-clause-prefix : goal.returns-in_err-write_all-clause-prefix
returns-in_err-write_all-clause-prefix g c =
    last_prefix c.args.traced c.args.program.now c.args.machine.now.rows.program.now c.args.lines.now (limits_of c.args.machine.now) c.args.steps (state_of c.args.machine.now)
    (state_of c.write_seen.new.machine) c.as_bytes.result.now (g.K.Sink.taken c.args.out.now) (g.K.Sink.taken c.write_seen.new.out) (g.K.Sink.taken c.write_all.new.out)
    c.requires.program c.in_ok-write_seen.ensures.taken c.in_ok-write_seen.ensures.state (search rules) c.write_all.ensures.prefix

pub returns-clause-prefix : goal.returns-clause-prefix
returns-clause-prefix g c =
    last_prefix c.args.traced c.args.program.now c.args.machine.now.rows.program.now c.args.lines.now (limits_of c.args.machine.now) c.args.steps (state_of c.args.machine.now)
    (state_of c.write_seen.new.machine) c.as_bytes.result.now (g.K.Sink.taken c.args.out.now) (g.K.Sink.taken c.write_seen.new.out) (g.K.Sink.taken c.write_all.new.out)
    c.requires.program c.in_ok-write_seen.ensures.taken c.in_ok-write_seen.ensures.state (search rules) c.write_all.ensures.prefix
