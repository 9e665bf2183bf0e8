use Rattle.std.proofs.Common.{◌≡◌}
use Rattle.std.specs.Prelude.{unwrap_or, flat_map}
use Rattle.ix_core.specs.Tables.{is_among, overridden, first_where, way_up, class_at, found_method}
use Rattle.ix_core.proofs.classes.found.Given as goal

abbrev pub invariant-loop-left : goal.invariant-loop-left
invariant-loop-left l =
    unwrap_or (first_where (λ method. is_among (overridden l.program method) l.named) (flat_map (λ above. (class_at l.program above).methods) (way_up (λ below. (class_at l.program below).parent) l.left l.above))) l.named
    ≡ found_method l.program l.class l.named

abbrev pub decreases-loop-left : goal.decreases-loop-left
decreases-loop-left l = l.left
