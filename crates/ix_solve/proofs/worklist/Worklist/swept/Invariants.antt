use Rattle.std.proofs.Common.{◌≡◌}
use Rattle.ix_solve.proofs.worklist.Worklist.swept.Given as goal

abbrev pub invariant-loop-part : goal.invariant-loop-part
invariant-loop-part l = l.self ≡ l.fn.self
