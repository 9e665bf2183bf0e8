use Rattle.std.proofs.Common.{[], rules}
use Rattle.std.proofs.lemmas.List.{take_more}
use Rattle.ix_report.specs.Names.{error_line}
use Rattle.ix_report.proofs.MoreLines.{one_line_more}
use Rattle.ix_report.proofs.names.misnamed.Goals as goal

pub loop-error-preserved : goal.loop-error-preserved
loop-error-preserved c =
    one_line_more (error_line c.args.file.now c.args.lines.now) [] c.as_slice-error-items.result.now c.loop-error.error-index _ _ _ _ (take_more c.as_slice-error-items.result.now c.loop-error.error-index _ (search rules)) c.loop-error.invariant
    c.in_ok-error_line.ensures (search rules)
