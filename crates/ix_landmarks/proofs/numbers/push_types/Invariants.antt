use Rattle.std.proofs.Common.{◌≡◌, ◌++◌, drop}
use Rattle.ix_facts.specs.MethodLandmarks.{types_numbers}
use Rattle.ix_landmarks.proofs.numbers.push_types.Given as goal

abbrev pub invariant-loop-ty : goal.invariant-loop-ty
invariant-loop-ty l = l.out.items ++ types_numbers (drop l.ty-index l.types) ≡ l.fn.out.items ++ types_numbers l.types
