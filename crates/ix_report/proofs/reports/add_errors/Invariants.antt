use Rattle.std.proofs.Common.{◌≡◌, ◌++◌, take, string_bytes}
use Rattle.ix_report.specs.Reports as spec
use Rattle.ix_report.proofs.reports.add_errors.Given as goal

abbrev pub invariant-loop-error : goal.invariant-loop-error
invariant-loop-error l = string_bytes l.text ≡ string_bytes l.fn.text ++ spec.error_texts l.program l.file l.lines (take l.error-index l.errors)
