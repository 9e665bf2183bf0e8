use Rattle.std.proofs.Common.{◌≡◌, ◌++◌, sym, subst}
use Rattle.std.proofs.lemmas.Result.{on_ok_weaker}
use Rattle.ix_facts.specs.MethodLandmarks.{operation_numbers}
use Rattle.ix_landmarks.proofs.numbers.push_operation.Goals as goal

pub returns-in-Const : goal.returns-in-Const
returns-in-Const c =
    on_ok_weaker c.push_literal.result
    (subst (λ k. c.push_literal.new.out.items ≡ c.args.out.now.items ++ operation_numbers c.args.program.now k) (sym c.in-Const.is))
    (c.push_literal.ensures c.in-Const.field-0 c.args.program.now)
