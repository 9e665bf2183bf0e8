use Rattle.std.proofs.Common.{◌≡◌, ◌-◌, ◌∙◌, ap, length, take, drop, arith}
use Rattle.std.specs.List.{list_any}
use Rattle.std.proofs.lemmas.List.{take_all, length-drop}
use Rattle.ix_report.specs.Names.{start, have_one_line}
use Rattle.ix_report.proofs.EarlierStarts.{rest_suffices}
use Rattle.ix_report.proofs.OtherLines.{name_lines_apart}
use Rattle.ix_report.proofs.names.once.was_told.Goals as goal

pub returns : goal.returns
returns c =
    let told = c.args.told.now in
    let rest : take (length told - c.args.starts.earlier) (drop c.args.starts.earlier told) ≡ drop c.args.starts.earlier told =
    take_all (length told - c.args.starts.earlier) (drop c.args.starts.earlier told) (omega (arith, length-drop c.args.starts.earlier told)) in
    c.is_among-2.ensures ∙ ap (list_any (have_one_line c.args.error.now)) rest ∙ rest_suffices start have_one_line name_lines_apart c.args.error.now told c.args.starts.earlier c.args.starts.last c.requires.before c.if-error-starts.false
