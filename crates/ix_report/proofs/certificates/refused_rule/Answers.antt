use Rattle.std.proofs.Common.{◌∙◌}
use Rattle.std.proofs.lemmas.Result.{IfOk-weaker}
use Rattle.ix_report.proofs.certificates.refused_rule.Goals as goal

pub returns : goal.returns
returns c =
    let place = c.place_in-line.ensures in
    let why = c.key-why.ensures in
    IfOk-weaker c.format.result _ _ (λ text is. is ∙ simp (place, why)) c.format.ensures.ok
