use Rattle.std.proofs.Common.{◌++◌, decimal, ap, sym, ◌∙◌}
use Rattle.ix_cert.specs.Lines.{ended}
use Rattle.ix_cert.proofs.Bytes.{cancel}
use Rattle.ix_cert.proofs.reading.behind_line.Goals as goal

pub returns-clause-each : goal.returns-clause-each
returns-clause-each c = λ rest e.
    let line = c.as_bytes.ensures.value ∙ c.in_ok-line.ensures in
    let found = c.in-Some.ensures.found ∙ ap (λ xs. xs ++ c.in-Some.rest.now) line in
    cancel (ended (c.args.word.now ++ decimal c.args.number)) c.in-Some.rest.now rest (sym found ∙ e)
