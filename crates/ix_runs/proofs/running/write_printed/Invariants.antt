use Rattle.std.proofs.Common.{◌≡◌}
use Rattle.ix_core.specs.Machine.{run}
use Rattle.ix_core.specs.Tables.{tables_of}
use Rattle.ix_machine.specs.State.{state_of, limits_of}
use Rattle.ix_runs.specs.Texts.{printed_lines}
use Rattle.ix_runs.proofs.Parts.{Written}
use Rattle.ix_runs.proofs.running.write_printed.Given as goal

abbrev pub invariant-loop-left : goal.invariant-loop-left
invariant-loop-left g l =
    let limits = limits_of l.initial.machine in
    let tables = tables_of l.initial.machine.rows.program.now in
    record {
      state : run limits tables l.left (state_of l.machine) ≡ run limits tables l.steps (state_of l.initial.machine);
      written : Written (g.K.Sink.taken l.initial.out) (g.K.Sink.taken l.out) (printed_lines limits tables l.steps (state_of l.initial.machine)) (printed_lines limits tables l.left (state_of l.machine));
      limits : limits_of l.machine ≡ limits_of l.initial.machine;
      rows : l.machine.rows ≡ l.initial.machine.rows;
      faults : g.K.Sink.faults l.out ≡ g.K.Sink.faults l.initial.out;
    }

abbrev pub decreases-loop-left : goal.decreases-loop-left
decreases-loop-left g l = l.left
