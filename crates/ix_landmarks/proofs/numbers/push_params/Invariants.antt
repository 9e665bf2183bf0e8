use Rattle.std.proofs.Common.{◌≡◌, ◌++◌, drop}
use Rattle.ix_facts.specs.MethodLandmarks.{variables_numbers}
use Rattle.ix_landmarks.proofs.numbers.push_params.Given as goal

abbrev pub invariant-loop-param : goal.invariant-loop-param
invariant-loop-param l = l.out.items ++ variables_numbers (drop l.param-index l.params) ≡ l.fn.out.items ++ variables_numbers l.params
