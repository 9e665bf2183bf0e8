use Rattle.std.proofs.lemmas.Result.{IfOk-weaker}
use Rattle.ix_check.proofs.ListedErrors.{listed_within}
use Rattle.ix_check.proofs.whole.check_program.Goals as goal

pub returns-clause-within : goal.returns-clause-within
returns-clause-within c = λ end places. IfOk-weaker c.check_with.result _ _ (λ errors list. listed_within end c.args.program.now c.args.profile errors.items places list) c.check_with.ensures.errors
