use Rattle.std.proofs.Common.{codes, length, rules, sym, ◌∙◌}
use Rattle.std.proofs.lemmas.Bool.{false≢true}
use Rattle.ix_cert.proofs.Ends.{end_ends}
use Rattle.ix_cert.proofs.Found.{err_memory}
use Rattle.ix_cert.proofs.Parts.{methods_as}
use Rattle.ix_cert.proofs.reading.labelling.Goals as goal

pub returns-in_err-profile-clause-each : goal.returns-in_err-profile-clause-each
returns-in_err-profile-clause-each c = λ profile labels t.
    let memory = c.in_err-profile.ensures.each profile t.0 t.1 in
    err_memory c.from_residual-in_err-profile.result c.in_err-profile.field-0.0 (λ read. Unit {0}) c.from_residual-in_err-profile.ensures.1 memory

pub returns-in_err-labels-clause-each : goal.returns-in_err-labels-clause-each
returns-in_err-labels-clause-each c = λ profile labels t.
    let program = c.args.program.now in
    let same = c.in_ok-profile.ensures.each profile t.0 t.1 in
    let text = methods_as c.in_ok-fields.fields (length program.fields) c.as_slice.result.now program.methods labels c.in_ok-profile.methods.now t.0 (codes "end\n") c.in_ok-fields.ensures c.as_slice.ensures same t.2 in
    let memory = c.in_err-labels.ensures.each labels (codes "end\n") text end_ends in
    search rules

pub returns-then-not-is_end-clause-each : goal.returns-then-not-is_end-clause-each
returns-then-not-is_end-clause-each c = λ profile labels t.
    let program = c.args.program.now in
    let same = c.in_ok-profile.ensures.each profile t.0 t.1 in
    let text = methods_as c.in_ok-fields.fields (length program.fields) c.as_slice.result.now program.methods labels c.in_ok-profile.methods.now t.0 (codes "end\n") c.in_ok-fields.ensures c.as_slice.ensures same t.2 in
    let all = c.in_ok-labels.ensures.each labels (codes "end\n") text end_ends in
    absurd (false≢true (sym c.if-not-is_end.true ∙ c.is_end.ensures.1 all))
