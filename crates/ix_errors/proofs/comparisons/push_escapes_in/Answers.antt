use Rattle.ix_errors.proofs.Refused.{ok_adds}
use Rattle.ix_sign.specs.RuleErrors.{TestEscapes, escapes_in}
use Rattle.ix_errors.specs.Escapes.{errors_at}
use Rattle.ix_errors.proofs.EscapeErrors.{test_escapes}
use Rattle.ix_errors.proofs.comparisons.push_escapes_in.Goals as goal

pub returns-then-within : goal.returns-then-within
returns-then-within c =
    let method = c.args.within.now in
    let test = c.args.test.now in
    record {
      errors = ok_adds (TestEscapes method test) c.args.out.now.items c.push_of_test.new.out.items (errors_at (escapes_in test)) c.push_of_test.result c.push_of_test.ensures
          (test_escapes method c.if-within.true test);
    }
