use Rattle.std.proofs.Common.{rules, ◌-◌, suc, ◌≡◌, length, arith, refl, sym, ap, ◌∙◌}
use Rattle.ix_core.specs.Machine.{step}
use Rattle.ix_core.specs.Tables.{tables_of}
use Rattle.ix_machine.specs.State.{state_of, limits_of}
use Rattle.ix_machine.proofs.ManySteps.{final_stays}
use Rattle.ix_runs.proofs.Parts.{written_more, written_all, written_prefix, written_so_far}
use Rattle.ix_runs.proofs.Seen.{final_lines, lines_next, step_next, within_next}
use Rattle.ix_runs.proofs.Steps.{told_final}
use Rattle.ix_runs.proofs.tracing.write_trace.Goals as goal

pub loop-left-preserved : goal.loop-left-preserved
loop-left-preserved g c =
    let inv = c.loop-left.invariant in
    let limits = limits_of c.args.machine.now in
    let tables = tables_of c.args.machine.now.rows.program.now in
    let before = state_of c.loop-left.machine in
    let less = c.loop-left.left - 1 in
    let one : c.loop-left.left ≡ suc less = omega (arith, c.loop-left-test.true) in
    let went = c.in_ok-go_seen.ensures.state ∙ ap (λ l. step l (tables_of c.loop-left.machine.rows.program.now) before) inv.limits
    ∙ ap (λ r. step limits (tables_of r.program.now) before) inv.rows in
    record {
      state = step_next limits tables c.loop-left.left less before _ one went ∙ inv.state;
      written = written_more _ _ _ _ _ _ _ inv.written c.in_ok-go_seen.ensures.taken (lines_next c.args.lines.now limits tables c.loop-left.left less before _ one went);
      within = within_next (length c.args.lines.now) limits tables c.loop-left.left less before _ one went inv.within;
      limits = c.go_seen.ensures.limits ∙ inv.limits;
      rows = c.go_seen.ensures.program ∙ inv.rows;
      faults = search rules;
    }

pub returns-in_err-go_seen-clause-prefix : goal.returns-in_err-go_seen-clause-prefix
returns-in_err-go_seen-clause-prefix g c =
    let inv = c.loop-left.invariant in
    let limits = limits_of c.args.machine.now in
    let tables = tables_of c.args.machine.now.rows.program.now in
    let one : c.loop-left.left ≡ suc (c.loop-left.left - 1) = omega (arith, c.loop-left-test.true) in
    written_prefix _ _ _ _ _ _ _ inv.written c.go_seen.ensures.prefix (lines_next c.args.lines.now limits tables c.loop-left.left (c.loop-left.left - 1) (state_of c.loop-left.machine) (step limits tables (state_of c.loop-left.machine)) one refl)

pub returns-else-is_none-clause-state : goal.returns-else-is_none-clause-state
returns-else-is_none-clause-state g c =
    let inv = c.loop-left.invariant in
    let final = told_final _ c.outcome.result (state_of c.loop-left.machine) c.outcome.ensures (search rules) in
    sym (final_stays (limits_of c.args.machine.now) (tables_of c.args.machine.now.rows.program.now) c.loop-left.left _ final.0 final.1) ∙ inv.state

pub returns-else-is_none-clause-taken : goal.returns-else-is_none-clause-taken
returns-else-is_none-clause-taken g c =
    let inv = c.loop-left.invariant in
    let final = told_final _ c.outcome.result (state_of c.loop-left.machine) c.outcome.ensures (search rules) in
    written_all _ _ _ _ inv.written (final_lines c.args.lines.now (limits_of c.args.machine.now) (tables_of c.args.machine.now.rows.program.now) c.loop-left.left _ final.0 final.1)

pub returns-else-is_none-clause-prefix : goal.returns-else-is_none-clause-prefix
returns-else-is_none-clause-prefix g c = written_so_far _ _ _ _ c.loop-left.invariant.written

pub returns-after-loop-left-clause-prefix : goal.returns-after-loop-left-clause-prefix
returns-after-loop-left-clause-prefix g c = written_so_far _ _ _ _ c.loop-left.invariant.written
