use Rattle.std.proofs.lemmas.Result.{IfOk-weaker}
use Rattle.ix_core.specs.Tables.{method_at}
use Rattle.ix_check.specs.MethodErrors.{IsErrorOf}
use Rattle.ix_errors.proofs.Lists.{same_list}
use Rattle.ix_check.specs.Signatures.{signatures, ErrorsOf}
use Rattle.ix_check.proofs.alone.method_errors.Goals as goal

pub returns-clause-alone : goal.returns-clause-alone
returns-clause-alone c =
    let program = c.args.program.now in
    let both = c.judged_alone.ensures.alone program c.requires.formed c.args.profile c.args.method in
    IfOk-weaker c.errors_with.result _ _
    (λ errors list. same_list (IsErrorOf program c.args.profile c.args.method) (ErrorsOf (signatures program) (method_at program c.args.method) c.args.method c.args.profile)
    (λ error rank of. (both error rank).0 of) (λ error rank of. (both error rank).1 of) errors.items list)
    c.errors_with.ensures.errors
