use Rattle.std.proofs.Common.{length}
use Rattle.ix_machine.specs.State.{state_of, limits_of}
use Rattle.ix_runs.proofs.StartedRuns.{started_within, started_shows}
use Rattle.ix_runs.proofs.playing.play.Goals as goal

pub play_machine-requires-clause-within : goal.play_machine-requires-clause-within
play_machine-requires-clause-within g c =
    started_within (length c.args.bytes.now) c.args.program.now (state_of c.in-Ok.machine) (limits_of c.in-Ok.machine) c.args.manner.limits.steps c.requires.within c.in-Ok.ensures.entered

pub play_machine-requires-clause-seen : goal.play_machine-requires-clause-seen
play_machine-requires-clause-seen g c =
    started_shows (length c.args.bytes.now) c.args.program.now (state_of c.in-Ok.machine) (limits_of c.in-Ok.machine) c.args.manner.limits.steps c.requires.within c.in-Ok.ensures.entered
