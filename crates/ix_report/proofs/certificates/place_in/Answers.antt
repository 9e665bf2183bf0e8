use Rattle.std.proofs.Common.{rules, ◌≤◌, ◌∙◌, ap, arith}
use Rattle.ix_text.specs.Lines.{place}
use Rattle.ix_report.proofs.PlacesPast.{place_past}
use Rattle.ix_report.proofs.certificates.place_in.Goals as goal

pub returns-else-at-end : goal.returns-else-at-end
returns-else-at-end c =
    let behind : c.args.end ≤ c.args.at = search rules in
    c.place-else-at-end.ensures ∙ ap (place c.args.lines.now) c.requires ∙ place_past c.args.lines.now c.args.at (omega (arith, behind, c.requires))
