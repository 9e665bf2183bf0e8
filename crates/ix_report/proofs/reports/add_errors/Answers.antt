use Rattle.std.proofs.Common.{rules, refl, string_bytes}
use Rattle.std.proofs.lemmas.List.{take_more}
use Rattle.ix_report.specs.Reports.{error_text}
use Rattle.ix_report.proofs.MoreLines.{one_line_more}
use Rattle.ix_report.proofs.reports.add_errors.Goals as goal

pub loop-error-preserved : goal.loop-error-preserved
loop-error-preserved c =
    one_line_more (error_text c.args.program.now c.args.file.now c.args.lines.now) (string_bytes c.args.text.now) c.args.errors.now c.loop-error.error-index _ _ _ _ (take_more c.args.errors.now c.loop-error.error-index _ (search rules)) c.loop-error.invariant refl
    c.in_ok-add_error.ensures
