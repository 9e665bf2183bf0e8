use Rattle.std.proofs.Common.{drop}
use Rattle.ix_report.specs.Reports.{start, have_one_line}
use Rattle.ix_report.proofs.EarlierStarts.{IsTelling}
use Rattle.ix_report.proofs.once.told.Given as goal

abbrev pub invariant-loop-error : goal.invariant-loop-error
invariant-loop-error l = IsTelling start (have_one_line l.program) l.errors l.told.items l.starts.earlier l.starts.last (drop l.error-index l.errors)
