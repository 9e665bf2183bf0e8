use Rattle.std.proofs.Common.{rules, ◌-◌, ◌+◌, ◌≡◌, append-nil, arith, sym, ap, ◌∙◌}
use Rattle.ix_core.specs.Machine.{run}
use Rattle.ix_core.specs.Tables.{tables_of}
use Rattle.ix_machine.specs.State.{state_of, limits_of}
use Rattle.ix_machine.proofs.ManySteps.{final_stays}
use Rattle.ix_runs.specs.Texts.{printed_lines}
use Rattle.ix_runs.proofs.Parts.{written_more, written_all, written_prefix, written_so_far}
use Rattle.ix_runs.proofs.Steps.{final_prints, printed_next, run_next, told_final}
use Rattle.ix_runs.proofs.running.write_printed.Goals as goal

pub loop-left-preserved : goal.loop-left-preserved
loop-left-preserved g c =
    let inv = c.loop-left.invariant in
    let tables = ap (λ r. tables_of r.program.now) inv.rows in
    let made = c.in_ok-made.made in
    let went = c.in_ok-made.ensures.state ∙ ap (λ l. run l (tables_of c.loop-left.machine.rows.program.now) made (state_of c.loop-left.machine)) inv.limits
    ∙ ap (λ t. run (limits_of c.args.machine.now) t made (state_of c.loop-left.machine)) tables in
    let lines = ap (λ l. printed_lines l (tables_of c.loop-left.machine.rows.program.now) made (state_of c.loop-left.machine)) inv.limits
    ∙ ap (λ t. printed_lines (limits_of c.args.machine.now) t made (state_of c.loop-left.machine)) tables in
    let parts : c.loop-left.left ≡ made + (c.loop-left.left - made) = omega (arith, c.in_ok-made.ensures.made.1) in
    record {
      state = run_next (limits_of c.args.machine.now) (tables_of c.args.machine.now.rows.program.now) c.loop-left.left made (c.loop-left.left - made) _ _ parts went ∙ inv.state;
      written = written_more _ _ _ _ _ _ _ inv.written (rw lines at c.in_ok-made.ensures.taken) (printed_next (limits_of c.args.machine.now) (tables_of c.args.machine.now.rows.program.now) c.loop-left.left made (c.loop-left.left - made) _ _ parts went);
      limits = c.go_on.ensures.limits ∙ inv.limits;
      rows = c.go_on.ensures.program ∙ inv.rows;
      faults = search rules;
    }

pub returns-in_err-made-clause-prefix : goal.returns-in_err-made-clause-prefix
returns-in_err-made-clause-prefix g c =
    let inv = c.loop-left.invariant in
    let tables = ap (λ r. tables_of r.program.now) inv.rows in
    let lines = ap (λ l. printed_lines l (tables_of c.loop-left.machine.rows.program.now) c.loop-left.left (state_of c.loop-left.machine)) inv.limits
    ∙ ap (λ t. printed_lines (limits_of c.args.machine.now) t c.loop-left.left (state_of c.loop-left.machine)) tables in
    written_prefix _ _ _ _ _ _ _ inv.written (rw lines at c.go_on.ensures.prefix) (sym (append-nil _))

pub returns-else-is_none-clause-state : goal.returns-else-is_none-clause-state
returns-else-is_none-clause-state g c =
    let inv = c.loop-left.invariant in
    let final = told_final _ c.outcome.result (state_of c.loop-left.machine) c.outcome.ensures (search rules) in
    sym (final_stays (limits_of c.args.machine.now) (tables_of c.args.machine.now.rows.program.now) c.loop-left.left _ final.0 final.1) ∙ inv.state

pub returns-else-is_none-clause-taken : goal.returns-else-is_none-clause-taken
returns-else-is_none-clause-taken g c =
    let inv = c.loop-left.invariant in
    let final = told_final _ c.outcome.result (state_of c.loop-left.machine) c.outcome.ensures (search rules) in
    written_all _ _ _ _ inv.written (final_prints (limits_of c.args.machine.now) (tables_of c.args.machine.now.rows.program.now) c.loop-left.left _ final.0 final.1)

pub returns-else-is_none-clause-prefix : goal.returns-else-is_none-clause-prefix
returns-else-is_none-clause-prefix g c = written_so_far _ _ _ _ c.loop-left.invariant.written

pub returns-after-loop-left-clause-prefix : goal.returns-after-loop-left-clause-prefix
returns-after-loop-left-clause-prefix g c = written_so_far _ _ _ _ c.loop-left.invariant.written
