use Rattle.std.proofs.Common.{◌≡◌, drop}
use Rattle.ix_plain.specs.Scope.{is_among}
use Rattle.ix_lower_expressions.proofs.scope.is_assigned.Given as goal

abbrev pub invariant-loop-other : goal.invariant-loop-other
invariant-loop-other l = is_among l.slot (drop l.other-index l.scope.assigned.now) ≡ is_among l.slot l.scope.assigned.now
