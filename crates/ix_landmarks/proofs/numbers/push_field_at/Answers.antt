use Rattle.std.proofs.Common.{ap, sym, ◌++◌, ◌∙◌, append-nil, slice_get, unwrap_or, arith}
use Rattle.std.proofs.lemmas.Option.{slice_get_past}
use Rattle.ix_core.specs.Tables.{no_field}
use Rattle.ix_facts.specs.MethodLandmarks.{field_numbers}
use Rattle.ix_landmarks.proofs.numbers.push_field_at.Goals as goal

pub returns-in-None : goal.returns-in-None
returns-in-None c =
    let none = slice_get_past c.as_slice.result.now c.args.number (omega (arith, c.in-None.ensures.lookup)) in
    sym (ap (λ o. c.args.out.now.items ++ field_numbers (unwrap_or o no_field)) (ap (λ xs. slice_get xs c.args.number) (sym c.as_slice.ensures) ∙ none) ∙ append-nil c.args.out.now.items)
