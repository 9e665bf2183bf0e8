use Rattle.std.proofs.Common.{◌≡◌, take, string_bytes}
use Rattle.ix_report.specs.Names as spec
use Rattle.ix_report.proofs.names.misnamed.Given as goal

abbrev pub invariant-loop-error : goal.invariant-loop-error
invariant-loop-error l = string_bytes l.text ≡ spec.error_lines l.file l.lines (take l.error-index l.error-items)
