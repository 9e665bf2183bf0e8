use Rattle.std.proofs.Common.{◌∙◌, sym, ap, Ok}
use Rattle.std.proofs.lemmas.Result.{IfOk-weaker}
use Rattle.ix_plain.specs.Program as spec
use Rattle.ix_source.proofs.SafeSources.{source_kept}
use Rattle.ix_source.proofs.Anchored.{entered, safe_machine}
use Rattle.ix_source.proofs.lowering.lower_kept.Goals as goal

pub returns-clause-kept : goal.returns-clause-kept
returns-clause-kept c = λ fine accepts same.
    IfOk-weaker c.lower.result _ _ (λ program made. source_kept c.args.unit.now program fine accepts (ap (λ n. spec.program n c.args.unit.now.classes) (sym same) ∙ made)) c.lower.ensures.program

pub returns-clause-entered : goal.returns-clause-entered
returns-clause-entered c = λ fine accepts same.
    IfOk-weaker c.lower.result _ _ (λ program made. entered c.args.unit.now program fine accepts (ap (λ n. spec.program n c.args.unit.now.classes) (sym same) ∙ made)) c.lower.ensures.program

pub returns-clause-safe_machine : goal.returns-clause-safe_machine
returns-clause-safe_machine c = λ fine accepts same.
    IfOk-weaker c.lower.result _ _ (λ program made. safe_machine c.args.unit.now program fine accepts (ap (λ n. spec.program n c.args.unit.now.classes) (sym same) ∙ made)) c.lower.ensures.program
