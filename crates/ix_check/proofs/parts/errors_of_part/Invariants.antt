use Rattle.ix_errors.specs.Exactly.{AreExactly}
use Rattle.ix_check.specs.Parts.{IsErrorOfPart}
use Rattle.ix_check.proofs.parts.errors_of_part.Given as goal

abbrev pub invariant-loop-number : goal.invariant-loop-number
invariant-loop-number g l = AreExactly (IsErrorOfPart l.before l.place l.program l.profile l.number) l.out.items
