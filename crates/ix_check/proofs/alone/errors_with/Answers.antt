use Rattle.std.proofs.lemmas.Result.{IfOk-weaker}
use Rattle.ix_check.specs.MethodErrors.{IsErrorOf}
use Rattle.ix_check.proofs.Listed.{derived_list}
use Rattle.ix_check.proofs.alone.errors_with.Goals as goal

pub returns : goal.returns
returns g c = record {
  errors = IfOk-weaker c.list_errors.result _ _ (λ errors list. derived_list (IsErrorOf c.args.program.now c.args.profile c.args.method) c.in_ok-found.found.items errors.items c.in_ok-found.ensures.errors list) c.list_errors.ensures;
}
