use Rattle.ix_check.specs.MethodErrors.{IsErrorOf}
use Rattle.ix_check.proofs.Methods.{only_added}
use Rattle.ix_check.proofs.program.ranked_errors.Goals as goal

pub returns : goal.returns
returns g c = record { errors = only_added (IsErrorOf c.args.program.now c.args.profile c.args.number) _ _ c.new-out.ensures.items c.in_ok-push_method_errors.ensures.errors }
