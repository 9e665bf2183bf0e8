use Rattle.std.proofs.Common.{◌++◌, ap, sym, ◌∙◌, string_bytes}
use Rattle.std.proofs.lemmas.Result.{on_ok_weaker}
use Rattle.ix_report.specs.Outcomes as spec
use Rattle.ix_report.proofs.outcomes.add_ended.Goals as goal

pub returns-in-ArrayOf : goal.returns-in-ArrayOf
returns-in-ArrayOf c = on_ok_weaker c.write-in-ArrayOf.result (λ is. is ∙ ap (λ of. string_bytes c.args.text.now ++ spec.ended c.args.program.now of) (sym c.in-ArrayOf.is)) c.write-in-ArrayOf.ensures.bytes
