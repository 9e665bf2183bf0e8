use Rattle.std.proofs.Common.{◌≡◌, ◌++◌, drop}
use Rattle.ix_facts.specs.MethodLandmarks.{fields_numbers}
use Rattle.ix_landmarks.proofs.numbers.push_fields.Given as goal

abbrev pub invariant-loop-number : goal.invariant-loop-number
invariant-loop-number l = l.out.items ++ fields_numbers l.program (drop l.number-index l.fields) ≡ l.fn.out.items ++ fields_numbers l.program l.fields
