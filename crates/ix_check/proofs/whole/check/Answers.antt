use Rattle.std.proofs.lemmas.Result.{IfOk-weaker}
use Rattle.ix_check.specs.MethodErrors.{IsError}
use Rattle.ix_check.proofs.Listed.{derived_list, none_safe}
use Rattle.ix_check.proofs.whole.check.Goals as goal

pub returns-clause-errors : goal.returns-clause-errors
returns-clause-errors g c =
    IfOk-weaker c.list_errors.result _ _ (λ errors list. derived_list (IsError c.args.program.now c.args.profile) c.in_ok-found.found.items errors.items c.in_ok-found.ensures.errors list) c.list_errors.ensures

pub returns-clause-safe : goal.returns-clause-safe
returns-clause-safe g c =
    IfOk-weaker c.list_errors.result _ _
    (λ errors list empty. none_safe c.soundness.ensures.sound c.args.program.now c.args.profile c.in_ok-found.found.items errors.items c.requires.formed c.requires.can c.in_ok-found.ensures.none list empty)
    c.list_errors.ensures
