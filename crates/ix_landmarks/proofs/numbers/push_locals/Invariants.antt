use Rattle.std.proofs.Common.{◌≡◌, ◌++◌, drop}
use Rattle.ix_facts.specs.MethodLandmarks.{variables_numbers, locals_of}
use Rattle.ix_landmarks.proofs.numbers.push_locals.Given as goal

abbrev pub invariant-loop-local : goal.invariant-loop-local
invariant-loop-local l = l.out.items ++ variables_numbers (locals_of (drop l.local-index l.locals)) ≡ l.fn.out.items ++ variables_numbers (locals_of l.locals)
