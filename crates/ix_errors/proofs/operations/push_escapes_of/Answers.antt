use Rattle.ix_errors.proofs.Refused.{ok_adds}
use Rattle.ix_sign.specs.RuleErrors.{OpEscapes, escapes_by}
use Rattle.ix_errors.specs.Escapes.{errors_at}
use Rattle.ix_errors.proofs.EscapeErrors.{op_escapes}
use Rattle.ix_errors.proofs.operations.push_escapes_of.Goals as goal

pub returns-then-within : goal.returns-then-within
returns-then-within c =
    let method = c.args.within.now in
    let done = c.args.done.now in
    record {
      errors = ok_adds (OpEscapes method done) c.args.out.now.items c.push_of_op.new.out.items (errors_at (escapes_by done done.kind)) c.push_of_op.result c.push_of_op.ensures
          (op_escapes method c.if-within.true done);
    }
