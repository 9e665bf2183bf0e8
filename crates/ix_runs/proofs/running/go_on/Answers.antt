use Rattle.std.proofs.Common.{refl, ap, sym, ◌∙◌}
use Rattle.ix_core.specs.Machine.{event_values}
use Rattle.ix_core.specs.Tables.{tables_of}
use Rattle.ix_machine_state.specs.Rows.{held_of}
use Rattle.ix_machine.specs.Events.{event_of}
use Rattle.ix_machine.specs.State.{state_of, limits_of}
use Rattle.ix_runs.specs.Texts.{value_line, printed_lines}
use Rattle.ix_runs.proofs.Parts.{prefix_whole}
use Rattle.ix_runs.proofs.Told.{tells_nothing, tells_value, taken_value, taken_prefix}
use Rattle.ix_runs.proofs.running.go_on.Goals as goal

pub returns-in_ok-write_value-in-Printed-clause-taken : goal.returns-in_ok-write_value-in-Printed-clause-taken
returns-in_ok-write_value-in-Printed-clause-taken g c =
    taken_value (limits_of c.args.machine.now) (tables_of c.args.machine.now.rows.program.now) c.steps-went.result.made (state_of c.args.machine.now) (held_of c.in-Printed.value) _ _
    (ap (λ e. event_values (event_of e)) (sym c.in-Printed.is) ∙ c.steps-went.ensures.printed) c.in_ok-write_value-in-Printed.ensures.taken

pub returns-in_ok-write_value-in-Printed-clause-prefix : goal.returns-in_ok-write_value-in-Printed-clause-prefix
returns-in_ok-write_value-in-Printed-clause-prefix g c =
    let told = ap (λ e. event_values (event_of e)) (sym c.in-Printed.is) ∙ c.steps-went.ensures.printed in
    taken_prefix (limits_of c.args.machine.now) (tables_of c.args.machine.now.rows.program.now) c.steps-went.result.made (state_of c.args.machine.now) c.args.most (value_line (held_of c.in-Printed.value)) _ _
    c.steps-went.ensures.most (tells_value (limits_of c.args.machine.now) (tables_of c.args.machine.now.rows.program.now) c.steps-went.result.made (state_of c.args.machine.now) (held_of c.in-Printed.value) told) c.write_value.ensures.prefix

pub returns-in_err-write_value-in-Printed-clause-prefix : goal.returns-in_err-write_value-in-Printed-clause-prefix
returns-in_err-write_value-in-Printed-clause-prefix g c =
    let told = ap (λ e. event_values (event_of e)) (sym c.in-Printed.is) ∙ c.steps-went.ensures.printed in
    taken_prefix (limits_of c.args.machine.now) (tables_of c.args.machine.now.rows.program.now) c.steps-went.result.made (state_of c.args.machine.now) c.args.most (value_line (held_of c.in-Printed.value)) _ _
    c.steps-went.ensures.most (tells_value (limits_of c.args.machine.now) (tables_of c.args.machine.now.rows.program.now) c.steps-went.result.made (state_of c.args.machine.now) (held_of c.in-Printed.value) told) c.write_value.ensures.prefix

pub returns-in-Went-clause-taken : goal.returns-in-Went-clause-taken
returns-in-Went-clause-taken g c =
    tells_nothing (limits_of c.args.machine.now) (tables_of c.args.machine.now.rows.program.now) c.steps-went.result.made (state_of c.args.machine.now)
    (ap (λ e. event_values (event_of e)) (sym c.in-Went.is) ∙ c.steps-went.ensures.printed) _

pub returns-in-Went-clause-prefix : goal.returns-in-Went-clause-prefix
returns-in-Went-clause-prefix g c =
    let told = ap (λ e. event_values (event_of e)) (sym c.in-Went.is) ∙ c.steps-went.ensures.printed in
    let limits = limits_of c.args.machine.now in
    let tables = tables_of c.args.machine.now.rows.program.now in
    taken_prefix limits tables c.steps-went.result.made (state_of c.args.machine.now) c.args.most (printed_lines limits tables c.steps-went.result.made (state_of c.args.machine.now)) _ _
    c.steps-went.ensures.most refl (prefix_whole _ _ _ (tells_nothing limits tables c.steps-went.result.made (state_of c.args.machine.now) told _))

pub returns-in-Stopped-clause-taken : goal.returns-in-Stopped-clause-taken
returns-in-Stopped-clause-taken g c =
    tells_nothing (limits_of c.args.machine.now) (tables_of c.args.machine.now.rows.program.now) c.steps-went.result.made (state_of c.args.machine.now)
    (ap (λ e. event_values (event_of e)) (sym c.in-Stopped.is) ∙ c.steps-went.ensures.printed) _

pub returns-in-Stopped-clause-prefix : goal.returns-in-Stopped-clause-prefix
returns-in-Stopped-clause-prefix g c =
    let told = ap (λ e. event_values (event_of e)) (sym c.in-Stopped.is) ∙ c.steps-went.ensures.printed in
    let limits = limits_of c.args.machine.now in
    let tables = tables_of c.args.machine.now.rows.program.now in
    taken_prefix limits tables c.steps-went.result.made (state_of c.args.machine.now) c.args.most (printed_lines limits tables c.steps-went.result.made (state_of c.args.machine.now)) _ _
    c.steps-went.ensures.most refl (prefix_whole _ _ _ (tells_nothing limits tables c.steps-went.result.made (state_of c.args.machine.now) told _))
