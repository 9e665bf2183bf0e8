use Rattle.std.proofs.Common.{ap, sym, ◌++◌, ◌∙◌, append-nil, slice_get, unwrap_or, arith}
use Rattle.std.proofs.lemmas.Option.{slice_get_past}
use Rattle.ix_core.specs.Tables.{no_method}
use Rattle.ix_facts.specs.MethodLandmarks.{declared_numbers}
use Rattle.ix_landmarks.proofs.numbers.push_called.Goals as goal

pub returns-in-None : goal.returns-in-None
returns-in-None c =
    let none = slice_get_past c.as_slice.result.now c.args.call.now.method (omega (arith, c.in-None.ensures.lookup)) in
    sym (ap (λ o. c.args.out.now.items ++ declared_numbers (unwrap_or o no_method)) (ap (λ xs. slice_get xs c.args.call.now.method) (sym c.as_slice.ensures) ∙ none) ∙ append-nil c.args.out.now.items)
