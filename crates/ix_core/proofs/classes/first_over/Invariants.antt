use Rattle.std.proofs.Common.{◌≡◌, drop}
use Rattle.ix_core.specs.Tables.{is_among, overridden, first_where}
use Rattle.ix_core.proofs.classes.first_over.Given as goal

abbrev pub invariant-loop-method : goal.invariant-loop-method
invariant-loop-method l = first_where (λ method. is_among (overridden l.program method) l.named) (drop l.method-index l.methods) ≡ first_where (λ method. is_among (overridden l.program method) l.named) l.methods
