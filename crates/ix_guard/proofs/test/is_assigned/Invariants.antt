use Rattle.std.proofs.Common.{◌≡◌, drop}
use Rattle.std.specs.List.{list_any}
use Rattle.ix_guard.specs.Tests as spec
use Rattle.ix_guard.proofs.test.is_assigned.Given as goal

abbrev pub invariant-loop-other : goal.invariant-loop-other
invariant-loop-other l = list_any (spec.same_variable l.meaning) l.assigned ≡ list_any (spec.same_variable l.meaning) (drop l.other-index l.assigned)
