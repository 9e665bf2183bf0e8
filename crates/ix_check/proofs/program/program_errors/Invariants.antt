use Rattle.std.proofs.Common.{◌≡◌, ◌+◌, ◌≤◌, []}
use Rattle.ix_errors.specs.Exactly.{AreExactly}
use Rattle.ix_check.specs.MethodErrors.{IsErrorBelow, HaveNone, nodes_below}
use Rattle.ix_check.specs.Visits.{VisitsOfFirst}
use Rattle.ix_check.proofs.program.program_errors.Given as goal

abbrev pub invariant-loop-number : goal.invariant-loop-number
invariant-loop-number g l = AreExactly (IsErrorBelow l.program l.profile l.number) l.out.items
    × (l.out.items ≡ [] → HaveNone l.program l.profile l.number)
    × (l.fn.steps + nodes_below l.program l.number ≤ l.steps)
    × VisitsOfFirst l.program l.profile l.number l.fn.steps l.steps
