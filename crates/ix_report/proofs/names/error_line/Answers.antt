use Rattle.std.proofs.Common.{◌∙◌, append_assoc}
use Rattle.std.proofs.lemmas.Result.{IfOk-weaker}
use Rattle.ix_report.proofs.names.error_line.Goals as goal

pub returns : goal.returns
returns c =
    let place = c.place-line.ensures in
    let key = c.key-key.ensures in
    IfOk-weaker c.format.result _ _ (λ text is. is ∙ simp (append_assoc, place, key)) c.format.ensures.ok
