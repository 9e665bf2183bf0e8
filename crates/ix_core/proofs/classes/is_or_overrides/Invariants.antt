use Rattle.std.proofs.Common.{◌≡◌}
use Rattle.ix_core.specs.Tables.{is_among, overridden, way_up, method_at}
use Rattle.ix_core.proofs.classes.is_or_overrides.Given as goal

abbrev pub invariant-loop-left : goal.invariant-loop-left
invariant-loop-left l = is_among (way_up (λ below. (method_at l.program below).overrides) l.left l.at) l.named ≡ is_among (overridden l.program l.method) l.named

abbrev pub decreases-loop-left : goal.decreases-loop-left
decreases-loop-left l = l.left
