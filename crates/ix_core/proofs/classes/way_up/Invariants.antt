use Rattle.std.proofs.Common.{◌≡◌, ◌++◌}
use Rattle.ix_core.specs.Tables.{ancestors, way_up, class_at}
use Rattle.ix_core.proofs.classes.way_up.Given as goal

abbrev pub invariant-loop-left : goal.invariant-loop-left
invariant-loop-left l = l.classes.items ++ way_up (λ below. (class_at l.program below).parent) l.left l.above ≡ ancestors l.program l.class

abbrev pub decreases-loop-left : goal.decreases-loop-left
decreases-loop-left l = l.left
