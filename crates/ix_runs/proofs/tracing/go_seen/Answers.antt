use Rattle.std.proofs.Common.{◌≡◌, ℕ, List, ap, sym, ◌∙◌, subst}
use Rattle.ix_core.specs.Machine.{Event, event_values, step_event}
use Rattle.ix_core.specs.Tables.{tables_of}
use Rattle.ix_core.specs.Traces.{accessed, next_access}
use Rattle.ix_machine_state.specs.Rows.{held_of}
use Rattle.ix_machine.specs.Events.{event_of}
use Rattle.ix_machine.specs.State.{state_of, limits_of}
use Rattle.ix_outside.specs.Outside.{TookPrefix}
use Rattle.ix_runs.specs.Texts.{seen_lines}
use Rattle.ix_runs.proofs.Parts.{prefix_of_more, prefix_behind}
use Rattle.ix_runs.proofs.Seen.{printed_seen, step_lines, value_seen}
use Rattle.ix_runs.proofs.tracing.go_seen.Goals as goal

pub returns-in_err-write_access-clause-prefix : goal.returns-in_err-write_access-clause-prefix
returns-in_err-write_access-clause-prefix g c =
    let state = state_of c.args.machine.now in
    let behind : List ℕ = seen_lines c.args.lines.now (printed_seen (event_values (step_event (limits_of c.args.machine.now) (tables_of c.args.machine.now.rows.program.now) state))) in
    subst (λ (t : List ℕ). TookPrefix t (g.K.Sink.taken c.args.out.now) (g.K.Sink.taken c.write_access.new.out))
    (sym (step_lines c.args.lines.now (limits_of c.args.machine.now) (tables_of c.args.machine.now.rows.program.now) state c.requires.goes))
    (prefix_of_more (seen_lines c.args.lines.now (accessed (next_access state))) behind (g.K.Sink.taken c.args.out.now) (g.K.Sink.taken c.write_access.new.out) c.write_access.ensures.prefix)

pub returns-in-Printed-clause-prefix : goal.returns-in-Printed-clause-prefix
returns-in-Printed-clause-prefix g c =
    let state = state_of c.args.machine.now in
    let lines = λ (e : Event). seen_lines c.args.lines.now (printed_seen (event_values e)) in
    let event : Event = step_event (limits_of c.args.machine.now) (tables_of c.args.machine.now.rows.program.now) state in
    let told : lines event ≡ _ = ap lines (sym c.step.ensures.event ∙ ap event_of c.in-Printed.is) ∙ value_seen c.args.lines.now (held_of c.in-Printed.value) in
    subst (λ (t : List ℕ). TookPrefix t (g.K.Sink.taken c.args.out.now) (g.K.Sink.taken c.write_value.new.out))
    (sym (step_lines c.args.lines.now (limits_of c.args.machine.now) (tables_of c.args.machine.now.rows.program.now) state c.requires.goes))
    (prefix_behind (seen_lines c.args.lines.now (accessed (next_access state))) (lines event) (g.K.Sink.taken c.args.out.now) (g.K.Sink.taken c.write_access.new.out) (g.K.Sink.taken c.write_value.new.out)
    c.in_ok-write_access.ensures.taken (subst (λ (t : List ℕ). TookPrefix t (g.K.Sink.taken c.write_access.new.out) (g.K.Sink.taken c.write_value.new.out)) (sym told) c.write_value.ensures.prefix))
