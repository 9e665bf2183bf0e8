use Rattle.std.proofs.lemmas.Result.{IfOk-weaker}
use Rattle.std.proofs.Common.{length}
use Rattle.ix_check.specs.Parts.{IsErrorOfPart}
use Rattle.ix_check.proofs.TwoParts.{listed_part}
use Rattle.ix_check.proofs.parts.list_of_part.Goals as goal

pub returns : goal.returns
returns g c = record {
  errors = IfOk-weaker c.list_errors.result _ _
      (λ errors list. listed_part (IsErrorOfPart c.args.before c.args.place c.args.program.now c.args.profile (length c.args.program.now.methods)) c.in_ok-found.found.items errors.items c.in_ok-found.ensures.errors list)
      c.list_errors.ensures;
}
